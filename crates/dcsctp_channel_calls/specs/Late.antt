-- What was put off: resets until all that was sent has left (RFC 8831, section 6.7), ACKs and OPENs until there is room.
use Rattle.std.specs.Prelude.{◌≡◌, ◌==◌, ◌<◌, ℕ, ◌+◌, ◌^◌, min, Bool, true, false, not, ◌&&◌, ◌||◌, Option, Some, None, Result, Ok, Err, List, [], ◌∷◌, nat_lt}
use Rattle.dcsctp_api.specs.Calls.{UserView, stream_shown}
use Rattle.dcsctp_channel_messages.specs.channel_spec.declared.types.Role.{Role}
use Rattle.dcsctp_channel_messages.specs.channel_spec.Slots.{SlotInput, all_is_sent, cannot_reset}
use Rattle.std.specs.Duration.{max_nanos}
use Rattle.std.specs.List.{All}
use Rattle.dcsctp_api.specs.declared.errors.ResetStreamsError.{ResetStreamsError}
use Rattle.dcsctp_api.specs.Resets.{ResetsOwn}
use Rattle.dcsctp_channel_messages.specs.channel_spec.declared.types.OwnReset.{OwnReset}
use Rattle.dcsctp_channel_messages.specs.channel_spec.declared.types.OwnReset.TheVariants.{NotAsked, Asked, Performed, GivenUp}
use Rattle.dcsctp_channel_messages.specs.channel_spec.declared.types.StreamUse.{StreamUse}
use Rattle.dcsctp_channel_calls.specs.declared.channel.HeldStream.{HeldStream}
use Rattle.dcsctp_channel_calls.specs.View.{WaitingChannel, LayerView, ChannelsView, held_stream_numbered, row_taken, unacknowledged_below}
use Rattle.dcsctp_channel_calls.specs.Opening.{may_begin, BeginsWaiting}
use Rattle.dcsctp_channel_calls.specs.Arrivals.{ack_is_due, SendsAck}

-- ---- resets

abbrev pub not_asked : OwnReset → Bool
not_asked NotAsked = true
not_asked Asked = false
not_asked Performed = false
not_asked GivenUp = false

-- a reset may be asked for once all is sent
abbrev pub may_reset : StreamUse → Bool
may_reset stream = stream.closing && not stream.awaits_answer && not_asked stream.own

-- in nanoseconds, a second
abbrev pub patience : ℕ
patience = 1000000000

-- until when a reset waits for acknowledgements
abbrev pub patience_ends : HeldStream → ℕ
patience_ends held = min (held.closing_since + patience) max_nanos

abbrev pub is_acknowledged : Option ℕ → Bool → Bool
is_acknowledged None is_late = false
is_acknowledged (Some count) is_late = count == 0 || is_late

-- All that was sent on the stream has left, and is acknowledged, or time is up.
abbrev pub is_all_sent : ChannelsView → ℕ → HeldStream → Bool
is_all_sent view number held =
    (stream_shown view.below number).amount == 0 && is_acknowledged (unacknowledged_below view.below) (not (nat_lt view.layer.moment (patience_ends held)))

abbrev pub reset_is_due : ChannelsView → ℕ → HeldStream → Bool
reset_is_due view number held = may_reset held.stream && is_all_sent view number held

-- The own stream is reset; or the socket resets none, and the channel is over.
abbrev pub reset_input : Result (Unit {0}) ResetStreamsError → SlotInput
reset_input (Ok done) = all_is_sent
reset_input (Err error) = cannot_reset

pub record ResetsStream (number : ℕ) (held : HeldStream) (old new : ChannelsView) : Type 0 where
  pub fits : number < 2 ^ 16
  pub answer : Result (Unit {0}) ResetStreamsError
  pub below : UserView
  pub resets : ResetsOwn (number ∷ []) old.below (Ok answer) below
  pub is : new ≡ record { below = below; layer = row_taken number held.delivery (reset_input answer) old.layer }

-- ---- what is done of it

abbrev pub is_role_known : Option Role → Bool
is_role_known None = false
is_role_known (Some role) = true

abbrev pub is_some_waiting : List WaitingChannel → Bool
is_some_waiting [] = false
is_some_waiting (waits ∷ rest) = true

abbrev pub may_begin_now : LayerView → Bool
may_begin_now layer = may_begin layer && is_role_known layer.role && is_some_waiting layer.waiting

pub record NoResetIsDue (view : ChannelsView) : Type 0 where
  pub none : All (λ (entry : ℕ × HeldStream). reset_is_due view entry.0 entry.1 ≡ false) view.layer.streams

pub record NoAckIsDue (view : ChannelsView) : Type 0 where
  pub none : All (λ (entry : ℕ × HeldStream). ack_is_due view entry.1 ≡ false) view.layer.streams

-- A reset that was put off, then an ACK, then the channels that wait.
pub data DoesLate (old new : ChannelsView) : Type 0 where
  a_reset : (number : ℕ) (held : HeldStream) → held_stream_numbered old.layer number ≡ Some held → reset_is_due old number held ≡ true → ResetsStream number held old new → DoesLate old new
  an_ack : (number : ℕ) (held : HeldStream) → NoResetIsDue old → held_stream_numbered old.layer number ≡ Some held → ack_is_due old held ≡ true → SendsAck number held old new → DoesLate old new
  waiting_begin : NoResetIsDue old → NoAckIsDue old → may_begin_now old.layer ≡ true → BeginsWaiting old new → DoesLate old new

-- Nothing was put off that can be done now.
pub record NothingIsLate (view : ChannelsView) : Type 0 where
  pub no_reset : NoResetIsDue view
  pub no_ack : NoAckIsDue view
  pub none_begins : may_begin_now view.layer ≡ false
