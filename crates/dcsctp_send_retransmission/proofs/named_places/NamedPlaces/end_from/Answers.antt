use Rattle.std.proofs.Common.{◌<◌, length, get_or, arith}
use Rattle.std.proofs.lemmas.Option.{slice_get-get_or}
use Rattle.dcsctp_send_retransmission.specs.declared.named_places.Row.{Row}
use Rattle.dcsctp_send_retransmission.proofs.named_places.NamedPlaces.end_from.Goals as goal

pub returns-then-saturating_sub-place-clause-named : goal.returns-then-saturating_sub-place-clause-named
returns-then-saturating_sub-place-clause-named c k from to =
    let none : Row = record { start = 0; end = 0 } in
    let all = c.as_slice-rows.ensures.value in
    let some : c.args.row < length c.args.self.now.rows.items = rw all at c.if-rows-row.false in
    let starts = rw all at c.saturating_sub.ensures in
    let ends = rw all at c.saturating_sub-then-saturating_sub-place.ensures in
    let fits = rw all at c.if-rows-row.element_fits2.fits in
    let test = c.if-saturating_sub-place.true in
    let most = c.max.ensures in
    record {
      index = c.args.row;
      row = get_or c.args.self.now.rows.items c.args.row none;
      at = slice_get-get_or c.args.self.now.rows.items c.args.row none some;
      from = omega arith;
      to = omega arith;
      fits = omega arith;
    }
