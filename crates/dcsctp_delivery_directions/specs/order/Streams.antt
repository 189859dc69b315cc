-- The streams of a direction that their user never resets, and on which no message may be abandoned:
-- what is read of the ordered messages of each is a prefix of what was queued on it, whatever happens
-- on other streams (RFC 9260, section 6.6; RFC 6525; RFC 3758).
use Rattle.std.specs.Prelude.{◌≡◌, ◌<◌, ◌≤◌, ◌^◌, ℕ, Bool, true, false, Some, List, length}
use Rattle.dcsctp_spec_lemmas.specs.types.declared.options.Options.{Options}
use Rattle.dcsctp_spec_lemmas.specs.types.queues.Messages.{MessageContent}
use Rattle.dcsctp_spec_lemmas.specs.types.queues.SendStreams.{Stream}
use Rattle.dcsctp_delivery_directions.specs.sending.Places.{at_place}
use Rattle.dcsctp_delivery_directions.specs.sending.Log.{Message, Piece, Slot, History}
use Rattle.dcsctp_delivery_directions.specs.sending.Losing.{AreUnlimitedOn, IsKept}
use Rattle.dcsctp_delivery_directions.specs.sending.Numbers.{IsCurrent}
use Rattle.dcsctp_delivery_directions.specs.directions.Directions.{Direction, DirectionRun, AreDelivered, assigned_count}
use Rattle.dcsctp_delivery_directions.specs.order.Delivered.{AreDeliveredInOrder}
use Rattle.dcsctp_delivery_directions.specs.order.Queue.{ComeInOrder, LeaveNoGap}

-- Each message that was queued on it was sent, or waits.
abbrev pub NoneLostOn : ℕ → List Message → List Slot → List Stream → Type 0
NoneLostOn id queued log streams = (place : ℕ) (message : Message) → at_place place queued ≡ Some message → message.stream ≡ id → IsKept log streams place

-- Each piece that was sent on it came after its last reset.
abbrev pub CurrentOn : ℕ → History → Type 0
CurrentOn id history = (n : ℕ) (f : Piece) → at_place n history.log ≡ Some (Some f) → f.message.stream ≡ id → f.is_interleaved ≡ true → IsCurrent history f

-- What was read is in order. And of each of these streams on which no message may be abandoned, none is left out before another.
pub record AreDeliveredByStream (keeps : ℕ → Bool) (queued : List Message) (read : List MessageContent) : Type 0 where
  pub ordered : AreDeliveredInOrder queued read
  pub no_gap : (id : ℕ) → keeps id ≡ true → AreUnlimitedOn id queued → LeaveNoGap queued id ordered.delivered.places

-- With interleaving it is so of the streams that the sender keeps: it began with all that was queued on them, and never resets
-- them. Messages of other streams may be abandoned, and those may be reset.
abbrev pub StreamsDeliverWithoutGaps : Type 0
StreamsDeliverWithoutGaps =
    (options : Options) (first size : ℕ) (direction : Direction) → DirectionRun options first size direction
    → first < 2 ^ 32 → assigned_count direction < 2 ^ 31 → length direction.queued < 2 ^ 64 → direction.queues.queue.is_interleaved ≡ true
    → direction.beginning.from_zero ≡ true → AreDeliveredByStream direction.beginning.keeps direction.queued direction.read

-- What was read was queued, none twice. Of each of these streams it comes in order, and none is left out before another.
pub record AreDeliveredOnStreams (these : ℕ → Bool) (queued : List Message) (read : List MessageContent) : Type 0 where
  pub delivered : AreDelivered queued read
  pub in_order : (id : ℕ) → these id ≡ true → ComeInOrder queued id delivered.places
  pub no_gap : (id : ℕ) → these id ≡ true → LeaveNoGap queued id delivered.places

-- The sender keeps the stream, and no message on it may be abandoned.
pub record IsKeptReliable (direction : Direction) (id : ℕ) : Type 0 where
  pub keeps : direction.beginning.keeps id ≡ true
  pub unlimited : AreUnlimitedOn id direction.queued

-- Without interleaving it is so of each of these streams if they are so, whatever others are reset, and whatever messages of others
-- are abandoned. A FORWARD-TSN passes TSNs of these only once they were received: SACKs say what their receiver has reached.
abbrev pub PlainStreamsDeliverWithoutGaps : Type 0
PlainStreamsDeliverWithoutGaps =
    (these : ℕ → Bool) (options : Options) (first size : ℕ) (direction : Direction) → DirectionRun options first size direction
    → first < 2 ^ 32 → assigned_count direction < 2 ^ 31 → length direction.queued < 2 ^ 64 → size ≤ 2 ^ 63 → direction.queues.queue.is_interleaved ≡ false → direction.beginning.from_zero ≡ true
    → ((id : ℕ) → these id ≡ true → IsKeptReliable direction id) → AreDeliveredOnStreams these direction.queued direction.read
