use Rattle.std.proofs.Common.{◌≡◌, ◌+◌, ◌-◌, arith, refl, sym, subst, ◌∙◌, drop, take, length-set}
use Rattle.dcsctp_core.specs.Listing.{BeginsAfter}
use Rattle.dcsctp_core.proofs.GapLemmas.{gap_to_front}
use Rattle.dcsctp_core.proofs.PlaceLemmas.{begins_later, begins_nowhere, ends_by, front_same, last_gap}
use Rattle.dcsctp_core.proofs.deadlines.make_room.Goals as goal

pub loop-place-init : goal.loop-place-init
loop-place-init c = (
  c.told-entries,
  omega arith,
  last_gap c.args.entries.now (c.args.count + 1) c.args.count (omega (arith, c.told-entries, c.requires.count)) refl,
  refl,
  begins_nowhere _ c.args.entries.now (c.args.count + 1) (c.args.count + 1) (omega arith) (omega (arith, c.told-entries, c.requires.count)),
)

pub returns-then-not-is_earlier-clause-front : goal.returns-then-not-is_earlier-clause-front
returns-then-not-is_earlier-clause-front c =
    let so_far = c.loop-place.invariant in
    ends_by c.args.new.now c.loop-place.entries c.args.entries.now c.args.count (c.loop-place.place - 1) c.loop-place.place c.index-entries-place.result (let some = c.loop-place-test.true in omega arith) so_far.1
    (omega (arith, so_far.0, c.requires.count)) (omega (arith, c.told-entries, c.requires.count)) so_far.3 c.requires.below (sym c.is_earlier.ensures ∙ c.if-not-is_earlier.true)

pub loop-place-preserved : goal.loop-place-preserved
loop-place-preserved c =
    let so_far = c.loop-place.invariant in
    let back : (c.loop-place.place - 1) + 1 ≡ c.loop-place.place = let some = c.loop-place-test.true in omega arith in (
      length-set c.loop-place.entries c.loop-place.place _ ∙ so_far.0,
      omega (arith, so_far.1),
      gap_to_front c.loop-place.entries c.loop-place.place (c.args.count + 1) _ c.loop-place-test.true (omega (arith, so_far.1)) (omega (arith, so_far.0, c.requires.count)) ∙ so_far.2,
      front_same c.loop-place.entries c.args.entries.now c.loop-place.place _ c.loop-place-test.true so_far.3,
      begins_later c.args.new.now c.loop-place.entries _ c.loop-place.place (c.loop-place.place - 1) (c.args.count + 1) _ c.index-entries-place.result back (omega (arith, so_far.1))
          (omega (arith, so_far.0, so_far.1, c.requires.count)) (omega (arith, so_far.0, c.requires.count)) (sym c.is_earlier.ensures ∙ c.if-not-is_earlier.false),
    )

pub returns-clause-back : goal.returns-clause-back
returns-clause-back c =
    let first : c.loop-place.place + 1 ≡ 1 = let none = c.loop-place-test.false in omega arith in
    subst (λ place. BeginsAfter c.args.new.now (drop place (take (c.args.count + 1) c.loop-place.entries))) first c.loop-place.invariant.4
