-- Acknowledgements are true: a sender knows no TSN as acknowledged that its receiver hasn't reached
-- (RFC 9260, section 6.2.1).
use Rattle.std.specs.Prelude.{◌<◌, ◌≤◌, ◌+◌, ◌-◌, ◌%◌, ◌^◌, ℕ, length}
use Rattle.dcsctp_spec.specs.types.declared.options.Options.{Options}
use Rattle.dcsctp_delivery_directions.specs.directions.Directions.{Direction, DirectionRun, assigned_count}

-- This holds for every run in which fewer than 2^31 TSNs were assigned.
abbrev pub AcknowledgementsAreTrue : Type 0
AcknowledgementsAreTrue =
    (options : Options) (first size : ℕ) (direction : Direction) → DirectionRun options first size direction → first < 2 ^ 32 → assigned_count direction < 2 ^ 31 → length direction.queued < 2 ^ 64
    → (first + (2 ^ 32 - 1)) % 2 ^ 32 + direction.acknowledged ≤ direction.tracker.cumulative
