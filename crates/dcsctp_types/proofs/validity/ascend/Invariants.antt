use Rattle.std.proofs.Common.{◌≡◌, map, drop}
use Rattle.dcsctp_types.proofs.SnapshotLemmas.{ascends_from}
use Rattle.dcsctp_types.proofs.validity.ascend.Given as goal

-- what is left ascends from here if all ascend
abbrev pub invariant-loop-stream : goal.invariant-loop-stream
invariant-loop-stream g l =
    ascends_from l.least (map g.T.Listed.id_of (drop l.stream-index l.streams)) ≡ ascends_from 0 (map g.T.Listed.id_of l.streams)
