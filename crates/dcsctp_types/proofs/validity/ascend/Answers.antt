use Rattle.std.proofs.Common.{sym, ◌∙◌, map}
use Rattle.std.proofs.lemmas.List.{at_drop_all}
use Rattle.dcsctp_types.proofs.SnapshotLemmas.{ascends_from, ascending_names_none_twice}
use Rattle.dcsctp_types.proofs.validity.ascend.Goals as goal

-- Nothing is left, so all ascend.
pub returns : goal.returns
returns g c =
    ascending_names_none_twice (map g.T.Listed.id_of c.args.streams.now)
    (sym c.loop-stream.invariant
    ∙ at_drop_all (λ left. ascends_from c.loop-stream.least (map g.T.Listed.id_of left)) c.args.streams.now c.loop-stream.stream-index
    c.loop-stream-test.false)
