-- Each reset of a stream that a receiver has performed was asked for by its peer's user (RFC 6525, sections 5.1.2 and
-- 5.2.2), and separates what was queued before from what was queued since.
use Rattle.std.specs.Prelude.{◌≡◌, ◌<◌, ◌≤◌, ◌&&◌, ◌^◌, ℕ, Bool, true, List, length, nat_le}
use Rattle.dcsctp_spec.specs.types.declared.options.Options.{Options}
use Rattle.dcsctp_spec.specs.types.queues.Messages.{MessageContent}
use Rattle.dcsctp_spec.specs.queues.Reassembly.{names_stream}
use Rattle.dcsctp_delivery_directions.specs.sending.Places.{HasEntry}
use Rattle.dcsctp_delivery_directions.specs.sending.Log.{Message}
use Rattle.dcsctp_delivery_directions.specs.directions.Directions.{Beginning, PerformedReset, Direction, DirectionRun, assigned_count}
use Rattle.dcsctp_delivery_directions.specs.order.Queue.{Separates, LeaveNoGapBefore, HaveAllBefore}
use Rattle.dcsctp_delivery_directions.specs.order.Delivered.{AreDeliveredInOrder}

-- What is known of the resets that a user asks for: by stream and count of queued messages, whether one is asked for there, and
-- whether nothing of the stream waited then. Did the sender begin with all that was queued, and is the receive window of 2^63 bytes
-- or less?
pub record AskedResets : Type 0 where
  pub whole : Bool
  pub sized : Bool
  pub asks : ℕ → ℕ → Bool
  pub fulls : ℕ → ℕ → Bool

-- The reset was asked for when so many messages were queued. Of the messages of the stream the first ones, up to this index, were
-- queued before, and none of the others. They leave no gap, if the sender began with all that was queued; and they are all of its epoch, if
-- nothing of the stream waited then.
pub record IsAskedCut (resets : AskedResets) (queued : List Message) (id index : ℕ) (places : List ℕ) : Type 0 where
  pub place : ℕ
  pub asked : resets.asks id place ≡ true
  pub before : place ≤ length queued
  pub separates : Separates queued id index place places
  pub no_gap : resets.whole ≡ true → LeaveNoGapBefore resets.sized (resets.asks id) queued id place places
  pub all : resets.whole ≡ true → resets.fulls id place ≡ true → index ≤ length places → HaveAllBefore (resets.asks id) queued id (record { index = index; place = place; is_whole = true }) places

-- What was read is in order, and it is so of each reset that was performed, on each stream that it names. What was read since leaves
-- no gap either.
pub record AreCutAsAsked (whole sized : Bool) (asks fulls : ℕ → ℕ → Bool) (performed : List PerformedReset) (queued : List Message) (read : List MessageContent) : Type 0 where
  pub ordered : AreDeliveredInOrder queued read
  pub cut : (id : ℕ) (reset : PerformedReset) → HasEntry reset performed → names_stream reset.streams id ≡ true → IsAskedCut (record { whole = whole; sized = sized; asks = asks; fulls = fulls }) queued id reset.index ordered.delivered.places
  pub no_gap : whole ≡ true → (id : ℕ) → LeaveNoGapBefore sized (asks id) queued id (length queued) ordered.delivered.places

-- when nothing of a stream waits as its reset is asked for, if the receive window is of 2^63 bytes or less
abbrev pub known_fulls : ℕ → Beginning → ℕ → ℕ → Bool
known_fulls size beginning id count = beginning.empties id count && nat_le size (2 ^ 63)

-- With interleaving it is so where the sender began with number 0 on each stream, if fewer than 2^31 TSNs were assigned.
abbrev pub DirectionsCutAsAsked : Type 0
DirectionsCutAsAsked =
    (options : Options) (first size : ℕ) (direction : Direction) → DirectionRun options first size direction → first < 2 ^ 32 → assigned_count direction < 2 ^ 31 → length direction.queued < 2 ^ 64
    → direction.queues.queue.is_interleaved ≡ true → direction.beginning.from_zero ≡ true → AreCutAsAsked direction.beginning.has_all (nat_le size (2 ^ 63)) direction.beginning.asks (known_fulls size direction.beginning) direction.performed direction.queued direction.read
