use Rattle.std.proofs.Common.{◌≡◌, ◌++◌, map, take}
use Rattle.std.specs.List.{flat_map, AllByRecursion}
use Rattle.dcsctp_snapshot_bytes.proofs.element.write_elements.Given as goal

abbrev pub invariant-loop-element : goal.invariant-loop-element
invariant-loop-element g l = record {
  bytes : l.out.items ≡ l.fn.out.items ++ flat_map g.T.Element.bytes_of (map g.T.Element.part_of (take l.element-index l.elements));
  fits : AllByRecursion g.T.Element.fits (map g.T.Element.part_of (take l.element-index l.elements));
}
