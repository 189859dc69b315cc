use Rattle.std.proofs.Common.{◌≡◌, ◌||◌, map, drop}
use Rattle.std.specs.List.{list_any}
use Rattle.dcsctp_types.specs.StreamTables.{marks}
use Rattle.dcsctp_types.specs.Snapshot.{names_twice}
use Rattle.dcsctp_types.proofs.validity.has_repeat.Given as goal

-- A remaining stream occurs twice or was seen already, exactly if one of all occurs twice.
abbrev pub invariant-loop-stream : goal.invariant-loop-stream
invariant-loop-stream g l =
    (list_any (marks l.seen) (map g.T.Listed.id_of (drop l.stream-index l.streams)) || names_twice (map g.T.Listed.id_of (drop l.stream-index l.streams)))
    ≡ names_twice (map g.T.Listed.id_of l.streams)
