-- What a poll does: which of the things that the socket has told is handled next.
use Rattle.std.specs.Prelude.{◌≡◌, ◌==◌, ℕ, ◌+◌, min, Bool, true, false, not, ◌&&◌, ◌||◌, Option, Some, None, Result, Ok, Err, List, [], ◌∷◌, nat_lt, ◌⊎◌}
use Rattle.dcsctp_api.specs.declared.errors.SocketFault.{SocketFault}
use Rattle.dcsctp_api.specs.declared.errors.SocketFault.TheVariants.{OutOfMemory, Failed}
use Rattle.dcsctp_api.specs.Calls.{UserView, stream_shown}
use Rattle.dcsctp_api.specs.types.queues.Messages.{message_content}
use Rattle.dcsctp_api.specs.types.declared.message.Message.{Message}
use Rattle.dcsctp_api.specs.Messages.{TakesNextMessage}
use Rattle.dcsctp_channel_calls.specs.declared.channel.HeldStream.{HeldStream}
use Rattle.dcsctp_channel_calls.specs.View.{ChannelNotice, LayerView, ChannelsView, view_with_events, ReportedEvent, packet_out, ready_below}
use Rattle.dcsctp_channel_calls.specs.Calls.{RunsOut, on_layer}
use Rattle.dcsctp_channel_calls.specs.Events.{HandlesEventUnlessEnded}
use Rattle.dcsctp_channel_calls.specs.Arrivals.{HandlesMessage}
use Rattle.dcsctp_channel_calls.specs.Late.{may_reset, patience_ends, DoesLate, NothingIsLate}

-- ---- one thing after another

abbrev pub is_first_due : List ReportedEvent → ChannelsView → Bool
is_first_due [] view = false
is_first_due (first ∷ rest) view = not (nat_lt view.layer.taken first.after) || ready_below view.below == 0

-- The messages before the first event were taken, or none is left.
abbrev pub event_is_due : ChannelsView → Bool
event_is_due view = is_first_due view.layer.told view

-- Nothing is told, and no message is ready.
pub record HasNothingToReport (view : ChannelsView) : Type 0 where
  pub no_event : event_is_due view ≡ false
  pub no_message : ready_below view.below ≡ 0

-- one more message was taken
abbrev pub one_more_taken : UserView → LayerView → ChannelsView
one_more_taken below layer = record { below = below; layer = record layer { taken = layer.taken + 1 } }

-- The message that became ready first is taken, and handled.
pub record HandlesReady (old new : ChannelsView) : Type 0 where
  pub taken : Message
  pub below : UserView
  pub takes : TakesNextMessage old.below (Some taken) below
  pub handles : HandlesMessage (message_content taken) (one_more_taken below old.layer) new

-- An event of the socket comes first, once the messages before it were taken; then a message; then what was put off.
pub data HandlesNext (old new : ChannelsView) : Type 0 where
  an_event : (first : ReportedEvent) (rest : List ReportedEvent) → event_is_due old ≡ true → old.layer.told ≡ first ∷ rest → HandlesEventUnlessEnded old.layer.over first.event (on_layer (λ layer. record layer { told = rest }) old) new → HandlesNext old new
  a_message : event_is_due old ≡ false → HandlesReady old new → HandlesNext old new
  put_off : HasNothingToReport old → old.layer.over ≡ false → DoesLate old new → HandlesNext old new

pub record NothingToDo (view : ChannelsView) : Type 0 where
  pub quiet : HasNothingToReport view
  pub late : (view.layer.over ≡ true) ⊎ NothingIsLate view

-- ---- what is taken

abbrev pub TakesNextNotice : List (List ℕ) → LayerView → ChannelNotice → LayerView → Type 0
TakesNextNotice (packet ∷ rest) old notice new = (notice ≡ packet_out packet) × (new ≡ record old { packets = rest })
TakesNextNotice [] old notice new = (rest : List ChannelNotice) × (old.notices ≡ notice ∷ rest) × (new ≡ record old { notices = rest })

-- Packets come first.
abbrev pub TakesNotice : LayerView → ChannelNotice → LayerView → Type 0
TakesNotice old notice new = TakesNextNotice old.packets old notice new

pub record NothingToTake (layer : LayerView) : Type 0 where
  pub no_packet : layer.packets ≡ []
  pub no_notice : layer.notices ≡ []

-- One thing after another is handled, until there is something to take, or nothing to do.
pub data PollsInTurn (result : Option ChannelNotice) (new : ChannelsView) : ChannelsView → Type 0 where
  takes : (old : ChannelsView) (notice : ChannelNotice) → result ≡ Some notice → TakesNotice (view_with_events old).layer notice new.layer → new.below ≡ (view_with_events old).below → PollsInTurn result new old
  goes_on : (old between : ChannelsView) → NothingToTake (view_with_events old).layer → HandlesNext (view_with_events old) between → PollsInTurn result new between → PollsInTurn result new old
  idle : (old : ChannelsView) → result ≡ None → NothingToTake (view_with_events old).layer → NothingToDo (view_with_events old) → new ≡ view_with_events old → PollsInTurn result new old

abbrev pub PollsAs : ChannelsView → Option ChannelNotice → ChannelsView → Type 0
PollsAs old result new = PollsInTurn result new old

-- Where an allocation has failed, what is left can be taken.
abbrev pub PollsFailed : ChannelsView → Result (Option ChannelNotice) SocketFault → ChannelsView → Type 0
PollsFailed old (Ok None) new = ⊥
PollsFailed old (Ok (Some notice)) new = TakesNotice old.layer notice new.layer × (new.below ≡ old.below)
PollsFailed old (Err Failed) new = (new ≡ old) × NothingToTake old.layer
PollsFailed old (Err OutOfMemory) new = ⊥

abbrev pub PollsRunning : ChannelsView → Result (Option ChannelNotice) SocketFault → ChannelsView → Type 0
PollsRunning old (Ok result) new = PollsAs old result new × (new.layer.failed ≡ false)
PollsRunning old (Err OutOfMemory) new = RunsOut old new
PollsRunning old (Err Failed) new = ⊥

abbrev pub PollsOrFails : Bool → ChannelsView → Result (Option ChannelNotice) SocketFault → ChannelsView → Type 0
PollsOrFails true old result new = PollsFailed old result new
PollsOrFails false old result new = PollsRunning old result new

abbrev pub PollsChannels : ChannelsView → Result (Option ChannelNotice) SocketFault → ChannelsView → Type 0
PollsChannels old result new = PollsOrFails old.layer.failed old result new

-- ---- the next deadline

abbrev pub sooner_if_ending : Bool → ℕ → ℕ → ℕ
sooner_if_ending true ends due = min ends due
sooner_if_ending false ends due = due

-- that of the socket, or the end of the patience of a reset that waits for acknowledgements alone, whichever is first
abbrev pub deadline_with : UserView → List (ℕ × HeldStream) → ℕ → ℕ
deadline_with below [] due = due
deadline_with below (entry ∷ entries) due =
    deadline_with below entries (sooner_if_ending (may_reset entry.1.stream && (stream_shown below entry.0).amount == 0) (patience_ends entry.1) due)
