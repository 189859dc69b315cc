-- What was read in an association no longer waits to be sent, so that no later association sends it
-- again.
use Rattle.std.specs.Prelude.{◌≡◌, ◌<◌, ◌^◌, ℕ, false, Some, List, length}
use Rattle.dcsctp_spec.specs.types.declared.options.Options.{Options}
use Rattle.dcsctp_delivery_directions.specs.sending.Places.{HasEntry, at_place}
use Rattle.dcsctp_delivery_directions.specs.sending.Log.{Message}
use Rattle.dcsctp_delivery_directions.specs.directions.Directions.{Direction, DirectionRun, assigned_count, AreDelivered}
use Rattle.dcsctp_delivery_directions.specs.sending.Marking.{WaitsNoLonger}

-- The message of this place isn't marked as spent.
pub record IsUnspent (queued : List Message) (place : ℕ) : Type 0 where
  pub message : Message
  pub at : at_place place queued ≡ Some message
  pub fresh : message.is_spent ≡ false

-- Each message that was read was queued, none was read twice, none waits to be sent again, and none was marked as spent.
pub record AreDeliveredForGood (direction : Direction) : Type 0 where
  pub delivered : AreDelivered direction.queued direction.read
  pub waits_no_longer : (place : ℕ) → HasEntry place delivered.places → WaitsNoLonger place direction.queues.queue.streams
  pub fresh : (place : ℕ) → HasEntry place delivered.places → IsUnspent direction.queued place

-- This holds for every run in which fewer than 2^31 TSNs were assigned.
abbrev pub DirectionsDeliverForGood : Type 0
DirectionsDeliverForGood =
    (options : Options) (first size : ℕ) (direction : Direction) → DirectionRun options first size direction → first < 2 ^ 32 → assigned_count direction < 2 ^ 31 → length direction.queued < 2 ^ 64 → AreDeliveredForGood direction
