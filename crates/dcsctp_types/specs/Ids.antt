-- The numbers of the identifiers.
use Rattle.std.specs.Prelude.{ℕ, List, map}
use Rattle.dcsctp_types.specs.declared.ids.LifecycleId.{LifecycleId}
use Rattle.dcsctp_types.specs.declared.ids.StreamId.{StreamId}

-- the number of a message's name; it is not 0
abbrev pub lifecycle_number : LifecycleId → ℕ
lifecycle_number id = id.value

-- the numbers of some streams, in their order
abbrev pub stream_numbers : List StreamId → List ℕ
stream_numbers ids = map (λ id. id.0) ids
