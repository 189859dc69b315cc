use Rattle.std.proofs.Common.{◌+◌, None, Some, arith, ap, subst, sym, ◌∙◌, take}
use Rattle.dcsctp_core.specs.Listing.{entries_with_one, rank, AllBelow, IsAbsent, IsListing}
use Rattle.dcsctp_core.proofs.ListingLemmas.{listing-placed}
use Rattle.dcsctp_core.proofs.RelistLemmas.{below-absent, below_added}
use Rattle.dcsctp_core.proofs.SevenLemmas.{room}
use Rattle.dcsctp_core.proofs.deadlines.Deadlines.add.Goals as goal

pub put_later-requires-clause-count : goal.put_later-requires-clause-count
put_later-requires-clause-count c =
    let within = c.self.invariant in
    let absent = subst (IsAbsent c.args.kind) (sym c.self.view_is) (below-absent c.args.kind c.args.self.now c.requires) in
    omega (arith, room c.args.kind c.self.inside.entries c.self.inside.count within.0 within.1 within.2 absent)

pub invariant_of-self : goal.invariant_of-self
invariant_of-self c =
    let within = c.self.invariant in
    let xs = take c.self.inside.count c.self.inside.entries in
    let absent = subst (IsAbsent c.args.kind) (sym c.self.view_is) (below-absent c.args.kind c.args.self.now c.requires) in (
      room c.args.kind c.self.inside.entries c.self.inside.count within.0 within.1 within.2 absent,
      c.put_later.ensures.all,
      subst IsListing (sym c.put_later.ensures.placed) (listing-placed _ xs absent within.2),
    )

pub returns-in-Some-clause-below : goal.returns-in-Some-clause-below
returns-in-Some-clause-below c =
    subst (AllBelow (rank c.args.kind + 1)) (sym (c.put_later.ensures.placed ∙ ap (entries_with_one _) c.self.view_is)) (below_added c.args.kind (Some c.in-Some.moment) c.args.self.now c.requires)

pub returns-in_default-clause-below : goal.returns-in_default-clause-below
returns-in_default-clause-below c = below_added c.args.kind None c.args.self.now c.requires
