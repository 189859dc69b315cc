-- A run of two ends with channels, and the run of two sockets that it is.
use Rattle.std.specs.List.{AllByRecursion}
use Rattle.std.specs.Prelude.{◌≡◌, ℕ, false, List, [], ◌∷◌, ◌++◌}
use Rattle.dcsctp_delivery_directions.specs.sending.Places.{HasEntry}
use Rattle.dcsctp_spec_runs.specs.Sockets.{PerformedAct, Both, of_side, of_other, SocketRun, turns_after, endpoint_after, packets_shown, acts_of}
use Rattle.dcsctp_theorem_sockets.specs.Agreement.{AreUsable, AreFresh, recorded_past}
use Rattle.dcsctp_delivery_sockets.specs.sockets.Delivery.{AreInMemory}
use Rattle.dcsctp_delivery_sockets.specs.sockets.Ordered.{AllowsOrder, HasOneTag, read_under}
use Rattle.dcsctp_delivery_sockets.specs.sockets.ShownDelivery.{AllowsDelivery}
use Rattle.dcsctp_delivery_sockets.specs.sockets.UserMessages.{sendings_of_turns, read_of}
use Rattle.dcsctp_channel_calls.specs.api.types.declared.options.Options.{Options}
use Rattle.dcsctp_channel_calls.specs.api.types.declared.schedule.Side.{Side}
use Rattle.dcsctp_channel_calls.specs.api.types.Schedule.{AreHonest}
use Rattle.dcsctp_channel_calls.specs.api.spec.endpoint.CallTurns.{Transition}
use Rattle.dcsctp_channel_calls.specs.api.spec.endpoint.Endpoint.{fresh_endpoint}
use Rattle.dcsctp_channel_calls.specs.api.spec.endpoint.Event.{packets_of_events}
use Rattle.dcsctp_channel_calls.specs.View.{ChannelsView}
use Rattle.dcsctp_channel_calls.specs.Polls.{PollsAs}
use Rattle.dcsctp_channel_laws.specs.Names.{ChannelsCall, handles_input, IsCallMade}
use Rattle.dcsctp_channel_runs.specs.Acts.{EndAct, calls, polls, MadeAct, with_end, acts_of_ends, notices_of, packets_given, AllInMemory}
use Rattle.dcsctp_channel_runs.specs.Opened.{so_far, HearsOther, AreReadInOrder}
use Rattle.dcsctp_channel_runs.specs.Prefixes.{AlwaysKnowsStream, AreReadWhole, AreReadByRules}
use Rattle.dcsctp_channel_runs.specs.HandedOn.{HandsOn}
use Rattle.dcsctp_delivery_sockets.specs.associations.InOrder.{Interleaves}

-- ---- runs

-- A packet that is handed in is one of these.
abbrev pub HandsInOne : List (List ℕ) → ChannelsCall → Type 0
HandsInOne packets (handles_input packet) = HasEntry packet packets
HandsInOne packets call = Unit {0}

-- what an act does at its end, where polls of the other end gave these packets
abbrev pub MakesAct : List (List ℕ) → EndAct → ChannelsView → ChannelsView → Type 0
MakesAct packets (calls call) old new = HandsInOne packets call × IsCallMade call old new
MakesAct packets (polls notice) old new = PollsAs old notice new

-- what both ends are after these acts, newest first
abbrev pub views_after : Both ChannelsView → List MadeAct → Both ChannelsView
views_after starts [] = starts
views_after starts (made ∷ earlier) = with_end made.side made.after (views_after starts earlier)

-- the packets that polls of the other end have given
abbrev pub packets_from_other : Side → List MadeAct → List (List ℕ)
packets_from_other side run = packets_given (notices_of (of_other side (acts_of_ends run)))

-- A run of two ends with channels: each of these acts, newest first, was made on what those before it left. Each packet that is
-- handed in was given by a poll of the other end: so packets may be lost, repeated, delayed and reordered. All calls answered.
abbrev pub ChannelsRun : Both ChannelsView → List MadeAct → Type 0
ChannelsRun starts [] = Unit {0}
ChannelsRun starts (made ∷ earlier) =
    MakesAct (packets_from_other made.side earlier) made.act (of_side made.side (views_after starts earlier)) made.after
    × ChannelsRun starts earlier

-- A new end: its socket was just made, and nothing is told, taken, or opened.
pub record IsNewEnd (options : Options) (view : ChannelsView) : Type 0 where
  pub endpoint : view.below.endpoint ≡ fresh_endpoint options
  pub events : view.below.events ≡ []
  pub packets : view.layer.packets ≡ []
  pub notices : view.layer.notices ≡ []
  pub waiting : view.layer.waiting ≡ []
  pub streams : view.layer.streams ≡ []
  pub names : view.layer.names ≡ []

abbrev pub AreNewEnds : Both Options → Both ChannelsView → Type 0
AreNewEnds options starts = (side : Side) → IsNewEnd (of_side side options) (of_side side starts)

-- ---- the run of sockets

-- What an end shows of its socket: its endpoint is what these turns leave, and all packets that they sent were given by polls, or
-- wait for them.
pub record ShowsTurns (options : Options) (turns : List Transition) (acts : List EndAct) (view : ChannelsView) : Type 0 where
  pub endpoint : view.below.endpoint ≡ endpoint_after options turns
  pub packets : packets_given (notices_of acts) ++ (view.layer.packets ++ packets_of_events view.below.events) ≡ packets_shown options turns

-- What order asks of the direction to this side, beside what delivery asks: what the sockets ask, that no message was sent unordered, and
-- that all was read in the association with this own tag.
pub record KeepsOrder (options : Both Options) (turns : Both (List Transition)) (side : Side) : Type 0 where
  pub tag : ℕ
  pub allows : AllowsOrder (of_other side options) (of_other side turns) tag
  pub ordered : AllByRecursion (λ sending. sending.options.unordered ≡ false) (sendings_of_turns (fresh_endpoint (of_other side options)) (of_other side turns))
  pub whole : read_under tag (of_side side options) (of_side side turns) ≡ read_of (fresh_endpoint (of_side side options)) (of_side side turns)

-- What order by channel asks of the direction to this side: the same, but that any message may be sent unordered.
pub record KeepsOrderOfStreams (options : Both Options) (turns : Both (List Transition)) (side : Side) : Type 0 where
  pub tag : ℕ
  pub allows : AllowsOrder (of_other side options) (of_other side turns) tag
  pub whole : read_under tag (of_side side options) (of_side side turns) ≡ read_of (fresh_endpoint (of_side side options)) (of_side side turns)

-- What it asks that nothing is missing in the direction to this side, beside what delivery asks: the other side had one own tag, messages
-- interleave, and all was read in the association with this own tag.
pub record KeepsWhole (options : Both Options) (turns : Both (List Transition)) (side : Side) : Type 0 where
  pub tag : ℕ
  pub one_tag : HasOneTag (recorded_past (of_other side turns))
  pub interleaves : Interleaves (recorded_past (of_other side turns)) tag
  pub whole : read_under tag (of_side side options) (of_side side turns) ≡ read_of (fresh_endpoint (of_side side options)) (of_side side turns)

-- The run is one of two sockets, by honest acts. What is read on the stream of an open channel is handed on. What each end tells its
-- user of the peer is what the other user did, if no tag was drawn twice, each tag serves one association or two of which one takes the
-- other's place, and not too much was sent. Each channel carries what is sent on it once, and in order if order is kept both ways. On an
-- ordered channel what is sent on it is read in order, whatever other channels do. If it is reliable, too, and messages interleave, that is
-- a prefix of what is sent on it.
pub record IsSocketRun (options : Both Options) (starts : Both ChannelsView) (run : List MadeAct) : Type 0 where
  pub steps : List PerformedAct
  pub sockets : SocketRun options steps
  pub in_memory : AreInMemory (acts_of steps)
  pub honest : AreHonest (acts_of steps)
  pub shows : (side : Side) → ShowsTurns (of_side side options) (of_side side (turns_after steps)) (of_side side (acts_of_ends run)) (of_side side (views_after starts run))
  pub hands_on : (side : Side)
      → HandsOn (AlwaysKnowsStream (of_side side options) (of_side side (turns_after steps))) (of_side side (views_after starts run)).layer (read_of (fresh_endpoint (of_side side options)) (of_side side (turns_after steps)))
      (notices_of (of_side side (acts_of_ends run)) ++ (of_side side (views_after starts run)).layer.notices)
  pub hears : AreFresh (turns_after steps) → AllowsDelivery options steps → (side : Side)
      → HearsOther (of_side side (so_far run (views_after starts run))) (of_other side (so_far run (views_after starts run)))
  pub in_order : AreFresh (turns_after steps) → AllowsDelivery options steps → ((side : Side) → KeepsOrder options (turns_after steps) side) → (side : Side)
      → AreReadInOrder (of_side side (so_far run (views_after starts run))) (of_other side (so_far run (views_after starts run)))
  pub by_rules : AreFresh (turns_after steps) → AllowsDelivery options steps → (side : Side) → KeepsOrderOfStreams options (turns_after steps) side
      → AreReadByRules (of_side side (so_far run (views_after starts run))) (of_other side (so_far run (views_after starts run)))
  pub whole : AreFresh (turns_after steps) → AllowsDelivery options steps → (side : Side) → KeepsWhole options (turns_after steps) side
      → AreReadWhole (AlwaysKnowsStream (of_side side options) (of_side side (turns_after steps))) (of_side side (so_far run (views_after starts run))) (of_other side (so_far run (views_after starts run)))

-- Each run of two new ends with channels is such a run.
abbrev pub ChannelsRunSockets : Type 0
ChannelsRunSockets =
    (options : Both Options) (starts : Both ChannelsView) (run : List MadeAct) → AreUsable options → AreNewEnds options starts → AllInMemory run → ChannelsRun starts run → IsSocketRun options starts run
