use Rattle.std.proofs.Common.{◌≡◌, map, drop}
use Rattle.std.specs.List.{list_all}
use Rattle.dcsctp_types.specs.SnapshotItems.{outstanding_part}
use Rattle.dcsctp_types.specs.Snapshot.{has_bytes_or_is_abandoned}
use Rattle.dcsctp_types.proofs.validity.have_bytes_or_are_abandoned.Given as goal

-- what is left says what all say
abbrev pub invariant-loop-sent : goal.invariant-loop-sent
invariant-loop-sent l =
    list_all has_bytes_or_is_abandoned (map outstanding_part (drop l.sent-index l.outstanding))
    ≡ list_all has_bytes_or_is_abandoned (map outstanding_part l.outstanding)
