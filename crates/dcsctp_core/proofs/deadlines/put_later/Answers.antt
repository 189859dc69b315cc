use Rattle.std.proofs.Common.{◌+◌, arith, ap, subst, sym, ◌∙◌, take}
use Rattle.dcsctp_core.specs.declared.deadlines.Entry.{Entry}
use Rattle.dcsctp_core.specs.Listing.{entries_with_one, IsAbsent, IsListing}
use Rattle.dcsctp_core.proofs.PlaceLemmas.{put_there}
use Rattle.dcsctp_core.proofs.RelistLemmas.{below-absent}
use Rattle.dcsctp_core.proofs.deadlines.put_later.Goals as goal

pub returns-clause-placed : goal.returns-clause-placed
returns-clause-placed c =
    let new : Entry = record { moment = c.args.moment; kind = c.args.kind } in
    let same = c.make_room-place.ensures.others in
    put_there new c.make_room-place.new.entries c.make_room-place.result (c.args.count + 1) (omega (arith, c.make_room-place.ensures.place))
    (omega (arith, c.make_room-place.ensures.all, c.requires.count))
    (subst IsListing (sym same) c.requires.listing) (subst (IsAbsent c.args.kind) (sym same) (below-absent c.args.kind (take c.args.count c.args.entries.now) c.requires.below))
    c.make_room-place.ensures.front c.make_room-place.ensures.back
    ∙ ap (entries_with_one new) same
