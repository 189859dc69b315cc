-- Steps of a direction in which the receiver resets no stream.
use Rattle.dcsctp_delivery_directions.specs.directions.Directions.{Direction, DirectionStep, performs, performs_earlier, resets}

-- The receiver performs no reset. So with interleaving the sender doesn't number messages from 0 again either. It may ask for
-- resets, which may be deferred or refused.
abbrev pub ResetsNothing : (old direction : Direction) → DirectionStep old direction → Type 0
ResetsNothing old _ (performs newest earlier new asks unknown reached own leaves) = ⊥
ResetsNothing old _ (resets streams new unmixed some leaves) = ⊥
ResetsNothing old _ (performs_earlier newest earlier new asks unknown reached own leaves) = ⊥
ResetsNothing old _ step = Unit {0}
