use Rattle.std.proofs.Common.{◌≡◌, ◌-◌, map}
use Rattle.dcsctp_snapshot_bytes.specs.Fields.{leading_elements}
use Rattle.dcsctp_snapshot_bytes.proofs.Lists.{with_front}
use Rattle.dcsctp_snapshot_bytes.proofs.element.read_elements.Given as goal

abbrev pub invariant-loop : goal.invariant-loop
invariant-loop g l =
    with_front (map g.T.Element.part_of l.elements.items) (leading_elements g.T.Element.part_at (l.count - l.counter) l.reader.rest.now)
    ≡ leading_elements g.T.Element.part_at l.count l.fn.reader.rest.now
