use Rattle.std.proofs.Common.{◌≡◌, ◌++◌, ◌∷◌, [], map}
use Rattle.std.proofs.lemmas.Result.{err_from_is_err_and}
use Rattle.std.proofs.lemmas.List.{map_push}
use Rattle.dcsctp_snapshot_bytes.specs.Fields.{leading_elements}
use Rattle.dcsctp_snapshot_bytes.proofs.Lists.{goes_on, ends, is_done}
use Rattle.dcsctp_snapshot_bytes.proofs.element.read_elements.Goals as goal

pub returns-in_err-read : goal.returns-in_err-read
returns-in_err-read g c =
    let p = err_from_is_err_and c.from_residual.result c.from_residual.ensures.1 in
    rw (p.1, p.2) (ends g.T.Element.part_at c.in_err-read.field-0.0 (map g.T.Element.part_of c.loop.elements.items) c.args.count c.loop.counter c.loop.reader.rest.now (leading_elements g.T.Element.part_at c.args.count c.args.reader.now.rest.now) c.loop-test.true c.in_err-read.ensures c.loop.invariant)

pub loop-preserved : goal.loop-preserved
loop-preserved g c =
    let x = c.in_ok-read.field-0 in
    let e : map g.T.Element.part_of c.push.new.self.items ≡ map g.T.Element.part_of c.loop.elements.items ++ g.T.Element.part_of x ∷ [] = rw c.in_ok-push.ensures.items (map_push _ c.loop.elements.items x) in
    rw e (goes_on g.T.Element.part_at (map g.T.Element.part_of c.loop.elements.items) c.args.count c.loop.counter c.loop.reader.rest.now (g.T.Element.part_of x) c.read.new.reader.rest.now (leading_elements g.T.Element.part_at c.args.count c.args.reader.now.rest.now) c.loop-test.true c.in_ok-read.ensures c.loop.invariant)

pub returns : goal.returns
returns g c = is_done g.T.Element.part_at (map g.T.Element.part_of c.loop.elements.items) c.args.count c.loop.counter c.loop.reader.rest.now (leading_elements g.T.Element.part_at c.args.count c.args.reader.now.rest.now) c.loop-test.false c.loop.invariant
