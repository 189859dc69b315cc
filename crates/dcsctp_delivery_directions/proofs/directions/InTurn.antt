-- With interleaving requests to reset streams end in turn.
use Rattle.std.proofs.Common.{◌≡◌, true, ap}
use Rattle.std.specs.Prelude.{Bool, ◌||◌}
use Rattle.dcsctp_delivery_directions.specs.directions.Directions.{Direction, is_in_turn}

pub turns_of : (direction : Direction) → direction.queues.queue.is_interleaved ≡ true → is_in_turn direction ≡ true
turns_of direction is = ap (λ (b : Bool). b || direction.beginning.in_turn) is
