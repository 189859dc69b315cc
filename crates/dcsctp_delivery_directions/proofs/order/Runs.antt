-- Runs lie apart.
use Rattle.std.proofs.Common.{◌≡◌, ◌==◌, ℕ, zero, suc, Bool, true, false, ◌<◌, ◌≤◌, ◌+◌, ◌-◌, List, [], ◌∷◌, ◌++◌, length, take, drop, refl, sym, ◌∙◌, ap, arith, subst, inl, inr}
use Rattle.std.specs.Prelude.{◌&&◌, not, nat_le, nat_lt, None, Some, slice_get, is_some, if◌then◌else◌}
use Rattle.std.proofs.lemmas.Bool.{eqb-true}
use Rattle.std.proofs.lemmas.Bool.Decides.{nat_tests, eqb_tells, leb_tells}
use Rattle.std.proofs.lemmas.List.{length-append}
use Rattle.dcsctp_spec_lemmas.specs.spec.queues.Runs.{RunModel, PartModel, Assembly, part_dropped, part_kept, message_whole, entry_before, holds, is_held_before, IsRunPlace, StartsBehind, follows, precedes, single_run, chained_run, run_with_part, is_whole, following, run_before, run_behind, merged_run, chosen, back_start, with_part, without_runs, whole_run, AddsPart}
use Rattle.dcsctp_delivery_directions.proofs.receiving.Joining.{both}
use Rattle.dcsctp_delivery_directions.specs.order.Runs.{place_after, is_continued, NoneContinues, LieApart}

-- ---- one run

-- what follows on a run goes by where that ends, and its message
continued_so : (a b next : RunModel) → place_after a ≡ place_after b → a.number ≡ b.number → a.has_end ≡ b.has_end → is_continued b next ≡ false → is_continued a next ≡ false
continued_so a b next place number end is =
    ap (λ (k : ℕ). (next.first == k) && (a.number == next.number) && not a.has_end && not next.has_beginning) place
    ∙ ap (λ (k : ℕ). (next.first == place_after b) && (k == next.number) && not a.has_end && not next.has_beginning) number
    ∙ ap (λ (e : Bool). (next.first == place_after b) && (b.number == next.number) && not e && not next.has_beginning) end ∙ is

none_so : (a b : RunModel) (runs : List RunModel) → place_after a ≡ place_after b → a.number ≡ b.number → a.has_end ≡ b.has_end → NoneContinues b runs → NoneContinues a runs
none_so a b [] place number end none = tt
none_so a b (next ∷ runs) place number end none = continued_so a b next place number end none

-- a run that begins alike continues the same
begun_so : (run a b : RunModel) → a.first ≡ b.first → a.number ≡ b.number → a.has_beginning ≡ b.has_beginning → is_continued run b ≡ false → is_continued run a ≡ false
begun_so run a b first number beginning is =
    ap (λ (k : ℕ). (k == place_after run) && (run.number == a.number) && not run.has_end && not a.has_beginning) first
    ∙ ap (λ (k : ℕ). (b.first == place_after run) && (run.number == k) && not run.has_end && not a.has_beginning) number
    ∙ ap (λ (e : Bool). (b.first == place_after run) && (run.number == b.number) && not run.has_end && not e) beginning ∙ is

-- one that lies further on doesn't
far_on : (run next : RunModel) → place_after run < next.first → is_continued run next ≡ false
far_on run next less = elim (eqb_tells next.first (place_after run)) [
  | inl e ↦ absurd (let same : next.first ≡ place_after run = e.1 in omega (arith, same, less))
  | inr e ↦ rw e.0 refl
]

-- ---- a part and its neighbours

pub record Precedes (part : PartModel) (run : RunModel) : Type 0 where
  pub place : run.first ≡ part.place + 1
  pub number : run.number ≡ part.number
  pub end : part.is_end ≡ false
  pub beginning : run.has_beginning ≡ false

not_true : (b : Bool) → not b ≡ true → b ≡ false
not_true true e = absurd (cc)
not_true false e = refl

pub precedes_so : (part : PartModel) (run : RunModel) → precedes part run ≡ true → Precedes part run
precedes_so part run e =
    let (rest, beginning) = both (((run.first - part.place) == 1) && (run.number == part.number) && not part.is_end) (not run.has_beginning) e in
    let (rest', end) = both (((run.first - part.place) == 1) && (run.number == part.number)) (not part.is_end) rest in
    let (next, same) = both ((run.first - part.place) == 1) (run.number == part.number) rest' in
    record {
      place = (let one : run.first - part.place ≡ 1 = eqb-true (run.first - part.place) 1 next in omega (arith, one));
      number = eqb-true run.number part.number same;
      end = not_true part.is_end end;
      beginning = not_true run.has_beginning beginning;
    }

-- one that doesn't isn't continued by the run
not_precedes : (part : PartModel) (run : RunModel) → part.place < run.first → precedes part run ≡ false → is_continued (single_run part) run ≡ false
not_precedes part run less e = go (run.first == part.place + 1) refl
  where
    swapped : (a b : Bool) → a ≡ b → (b && not part.is_end && not run.has_beginning) ≡ false → (a && not part.is_end && not run.has_beginning) ≡ false
    swapped a b same is = ap (λ (c : Bool). c && not part.is_end && not run.has_beginning) same ∙ is

    same_test : (m n : ℕ) → (m == n) ≡ (n == m)
    same_test m n = elim (eqb_tells m n) [
      | inl t ↦ t.0 ∙ sym (elim (eqb_tells n m) [ inl u ↦ u.0 | inr u ↦ absurd (u.1 (sym t.1)) ])
      | inr t ↦ t.0 ∙ sym (elim (eqb_tells n m) [ inl u ↦ absurd (t.1 (sym u.1)) | inr u ↦ u.0 ])
    ]

    go : (b : Bool) → (run.first == part.place + 1) ≡ b → (b && (part.number == run.number) && not part.is_end && not run.has_beginning) ≡ false
    go false is = refl
    go true is =
        let at : run.first ≡ part.place + 1 = eqb-true run.first (part.place + 1) is in
        let one : ((run.first - part.place) == 1) ≡ true = elim (eqb_tells (run.first - part.place) 1) [ inl t ↦ t.0 | inr t ↦ absurd (t.1 (omega (arith, at))) ] in
        let rest : ((run.number == part.number) && not part.is_end && not run.has_beginning) ≡ false = ap (λ (b : Bool). b && (run.number == part.number) && not part.is_end && not run.has_beginning) (sym one) ∙ e in
        swapped (part.number == run.number) (run.number == part.number) (same_test part.number run.number) rest

pub record Follows (run : RunModel) (part : PartModel) : Type 0 where
  pub place : part.place ≡ place_after run
  pub number : run.number ≡ part.number
  pub end : run.has_end ≡ false
  pub beginning : part.is_beginning ≡ false

-- the run begins before a part that it doesn't hold
clear_of : (run : RunModel) (place : ℕ) → run.first ≤ place → holds run place ≡ false → place_after run ≤ place
clear_of run place low e = elim (leb_tells (place_after run) place) [
  | inl t ↦ t.1
  | inr t ↦
      absurd
      (let less : place < place_after run = t.1 in
      let a : nat_le run.first place ≡ true = elim (leb_tells run.first place) [ inl u ↦ u.0 | inr u ↦ absurd (let up : place < run.first = u.1 in omega (arith, up, low)) ] in
      let b : nat_lt (place - run.first) (length run.payloads) ≡ true = grind (arith, nat_tests, less, low) in
      let clash : true ≡ false = sym (ap (λ (x : Bool). x && nat_lt (place - run.first) (length run.payloads)) a ∙ b) ∙ e in
      cc)
]

pub follows_so : (run : RunModel) (part : PartModel) → run.first ≤ part.place → follows run part ≡ true → Follows run part
follows_so run part low e =
    let (rest, beginning) = both (((part.place - run.first) == length run.payloads) && (run.number == part.number) && not run.has_end) (not part.is_beginning) e in
    let (rest', end) = both (((part.place - run.first) == length run.payloads) && (run.number == part.number)) (not run.has_end) rest in
    let (next, same) = both ((part.place - run.first) == length run.payloads) (run.number == part.number) rest' in
    record {
      place = (let one : part.place - run.first ≡ length run.payloads = eqb-true (part.place - run.first) (length run.payloads) next in omega (arith, one, low));
      number = eqb-true run.number part.number same;
      end = not_true run.has_end end;
      beginning = not_true part.is_beginning beginning;
    }

not_follows : (run : RunModel) (part : PartModel) (next : RunModel) → run.first ≤ part.place → next.first ≡ part.place → next.number ≡ part.number → next.has_beginning ≡ part.is_beginning → follows run part ≡ false → is_continued run next ≡ false
not_follows run part next low first number beginning e =
    ap (λ (x : Bool). x && (run.number == next.number) && not run.has_end && not next.has_beginning) tests
    ∙ ap (λ (k : ℕ). ((part.place - run.first) == length run.payloads) && (run.number == k) && not run.has_end && not next.has_beginning) number
    ∙ ap (λ (x : Bool). ((part.place - run.first) == length run.payloads) && (run.number == part.number) && not run.has_end && not x) beginning ∙ e
  where
    tests : (next.first == place_after run) ≡ ((part.place - run.first) == length run.payloads)
    tests = elim (eqb_tells next.first (place_after run)) [
      | inl t ↦ t.0 ∙ sym (elim (eqb_tells (part.place - run.first) (length run.payloads)) [ inl u ↦ u.0 | inr u ↦ absurd (u.1 (let is : next.first ≡ place_after run = t.1 in omega (arith, is, first))) ])
      | inr t ↦ t.0 ∙ sym (elim (eqb_tells (part.place - run.first) (length run.payloads)) [ inl u ↦ absurd (t.1 (let is : part.place - run.first ≡ length run.payloads = u.1 in omega (arith, is, first, low))) | inr u ↦ u.0 ])
    ]

lie_from : (from low : ℕ) (runs : List RunModel) → low ≤ from → LieApart from runs → LieApart low runs
lie_from from low [] less lie = tt
lie_from from low (r ∷ runs) less lie = ((let first = lie.0 in omega (arith, first, less)), lie.1, lie.2, lie.3, lie.4)

-- ---- a part before the first run

pub joined_after : (a b : RunModel) → place_after (chained_run a b) ≡ a.first + length a.payloads + length b.payloads
joined_after a b = (let sizes = length-append a.payloads b.payloads in omega (arith, sizes))

part_first : (from : ℕ) (part : PartModel) (runs : List RunModel) (low : ℕ) → from ≤ part.place → StartsBehind part.place (slice_get runs 0) → LieApart low runs → is_whole (run_with_part None part (run_behind part 0 runs)) ≡ false
    → LieApart from (with_part false (is_some (run_behind part 0 runs)) 0 part runs)
part_first from part [] low up behind lie whole = (up, omega arith, whole, tt, tt)
part_first from part (c ∷ cs) low up behind lie whole = go (precedes part c) refl whole
  where
    go : (b : Bool) → precedes part c ≡ b → is_whole (run_with_part None part (if b then Some c else None)) ≡ false → LieApart from (with_part false (is_some (if b then Some c else None)) 0 part (c ∷ cs))
    go true e w =
        let is = precedes_so part c e in
        let next = is.place in
        let after : place_after (chained_run (single_run part) c) ≡ place_after c = joined_after (single_run part) c ∙ omega (arith, next) in
        let some = lie.1 in (
          up,
          (let sizes = length-append (single_run part).payloads c.payloads in omega (arith, sizes, some)),
          w,
          none_so (chained_run (single_run part) c) c cs after (sym is.number) refl lie.3,
          subst (λ (k : ℕ). LieApart k cs) (sym after) lie.4,
        )
    go false e w = (up, omega arith, w, not_precedes part c behind e, (omega (arith, behind), lie.1, lie.2, lie.3, lie.4))

-- ---- a part that is kept

-- what begins these continues no more than what began those
abbrev BeginsAlike : List RunModel → List RunModel → Type 0
BeginsAlike old new = (run : RunModel) → NoneContinues run old → NoneContinues run new

on_true : (c : Bool) (k : ℕ) (part : PartModel) (r : RunModel) (runs : List RunModel) → drop (back_start c (suc (suc k))) (r ∷ runs) ≡ drop (back_start c (suc k)) runs → with_part true c (suc (suc k)) part (r ∷ runs) ≡ r ∷ with_part true c (suc k) part runs
on_true c k part r runs back =
    let here : suc (suc k) - 1 ≡ suc k = omega arith in
    let there : suc k - 1 ≡ k = omega arith in
    let run : RunModel = run_with_part (chosen true (entry_before (suc k) runs)) part (chosen c (slice_get runs (suc k))) in
    ap (λ (l : List RunModel). take (suc (suc k) - 1) (r ∷ runs) ++ run ∷ l) back
    ∙ ap (λ (n : ℕ). take n (r ∷ runs) ++ run ∷ drop (back_start c (suc k)) runs) here ∙ ap (λ (n : ℕ). r ∷ (take n runs ++ run ∷ drop (back_start c (suc k)) runs)) (sym there)

pub with_part_on : (b c : Bool) (k : ℕ) (part : PartModel) (r : RunModel) (runs : List RunModel) → with_part b c (suc (suc k)) part (r ∷ runs) ≡ r ∷ with_part b c (suc k) part runs
with_part_on false false k part r runs = refl
with_part_on false true k part r runs = refl
with_part_on true false k part r runs = on_true false k part r runs refl
with_part_on true true k part r runs = on_true true k part r runs refl

pub with_part_one : (c : Bool) (part : PartModel) (r : RunModel) (runs : List RunModel) → with_part false c 1 part (r ∷ runs) ≡ r ∷ with_part false c 0 part runs
with_part_one false part r runs = refl
with_part_one true part r runs = refl

-- a part after the first run
part_second : (from : ℕ) (part : PartModel) (b : RunModel) (rest : List RunModel) → b.first ≤ part.place → holds b part.place ≡ false → StartsBehind part.place (slice_get rest 0) → LieApart from (b ∷ rest)
    → is_whole (run_with_part (following (Some b) part) part (run_behind part 0 rest)) ≡ false
    → LieApart from (with_part (is_some (following (Some b) part)) (is_some (run_behind part 0 rest)) 1 part (b ∷ rest)) × BeginsAlike (b ∷ rest) (with_part (is_some (following (Some b) part)) (is_some (run_behind part 0 rest)) 1 part (b ∷ rest))
part_second from part b rest low clear behind lie whole = go (follows b part) refl whole
  where
    up : place_after b ≤ part.place
    up = clear_of b part.place low clear

    with_next : (rest : List RunModel) → NoneContinues b rest → LieApart (place_after b) rest → StartsBehind part.place (slice_get rest 0) → Follows b part → is_whole (run_with_part (Some b) part (run_behind part 0 rest)) ≡ false
        → LieApart from (with_part true (is_some (run_behind part 0 rest)) 1 part (b ∷ rest)) × ((run : RunModel) → NoneContinues run (b ∷ rest) → NoneContinues run (with_part true (is_some (run_behind part 0 rest)) 1 part (b ∷ rest)))
    with_next [] none lie' behind' is w = (
      (lie.0, (let sizes = length-append b.payloads (single_run part).payloads in let some = lie.1 in omega (arith, sizes, some)), w, tt, tt),
      λ run n. begun_so run (chained_run b (single_run part)) b refl refl refl n,
    )
    with_next (c ∷ cs) none lie' behind' is w = inner (precedes part c) refl w
      where
        at : part.place ≡ place_after b
        at = is.place

        inner : (t : Bool) → precedes part c ≡ t → is_whole (run_with_part (Some b) part (if t then Some c else None)) ≡ false
            → LieApart from (with_part true (is_some (if t then Some c else None)) 1 part (b ∷ c ∷ cs)) × ((run : RunModel) → NoneContinues run (b ∷ c ∷ cs) → NoneContinues run (with_part true (is_some (if t then Some c else None)) 1 part (b ∷ c ∷ cs)))
        inner true e w' =
            let has = precedes_so part c e in
            let next = has.place in
            let sizes = length-append (single_run part).payloads c.payloads in
            let after : place_after (chained_run b (chained_run (single_run part) c)) ≡ place_after c = joined_after b (chained_run (single_run part) c) ∙ omega (arith, sizes, next, at) in (
              (
                lie.0,
                (let more = length-append b.payloads (chained_run (single_run part) c).payloads in let some = lie.1 in omega (arith, more, some)),
                w',
                none_so (chained_run b (chained_run (single_run part) c)) c cs after (is.number ∙ sym has.number) refl lie'.3,
                subst (λ (k : ℕ). LieApart k cs) (sym after) lie'.4,
              ),
              λ run n. begun_so run (chained_run b (chained_run (single_run part) c)) b refl refl refl n,
            )
        inner false e w' =
            let after : place_after (chained_run b (single_run part)) ≡ place_after (single_run part) = joined_after b (single_run part) ∙ omega (arith, at) in
            let first = lie'.0 in (
              (
                lie.0,
                (let sizes = length-append b.payloads (single_run part).payloads in let some = lie.1 in omega (arith, sizes, some)),
                w',
                continued_so (chained_run b (single_run part)) (single_run part) c after is.number refl (not_precedes part c behind' e),
                ((omega (arith, after, behind')), lie'.1, lie'.2, lie'.3, lie'.4),
              ),
              λ run n. begun_so run (chained_run b (single_run part)) b refl refl refl n,
            )

    apart : follows b part ≡ false → (rest : List RunModel) → LieApart (place_after b) rest → StartsBehind part.place (slice_get rest 0) → is_whole (run_with_part None part (run_behind part 0 rest)) ≡ false
        → LieApart from (with_part false (is_some (run_behind part 0 rest)) 1 part (b ∷ rest)) × ((run : RunModel) → NoneContinues run (b ∷ rest) → NoneContinues run (with_part false (is_some (run_behind part 0 rest)) 1 part (b ∷ rest)))
    apart e rest lie' behind' w =
        subst (λ (l : List RunModel). LieApart from l × ((run : RunModel) → NoneContinues run (b ∷ rest) → NoneContinues run l)) (sym (with_part_one (is_some (run_behind part 0 rest)) part b rest))
        ((lie.0, lie.1, lie.2, ends rest, part_first (place_after b) part rest (place_after b) up behind' lie' w), λ run n. n)
      where
        ends : (rest : List RunModel) → NoneContinues b (with_part false (is_some (run_behind part 0 rest)) 0 part rest)
        ends [] = not_follows b part (single_run part) low refl refl refl e
        ends (c ∷ cs) = by_next (precedes part c)
          where
            by_next : (t : Bool) → NoneContinues b (with_part false (is_some (if t then Some c else None)) 0 part (c ∷ cs))
            by_next true = not_follows b part (chained_run (single_run part) c) low refl refl refl e
            by_next false = not_follows b part (single_run part) low refl refl refl e

    go : (t : Bool) → follows b part ≡ t → is_whole (run_with_part (if t then Some b else None) part (run_behind part 0 rest)) ≡ false
        → LieApart from (with_part (is_some (if t then Some b else None)) (is_some (run_behind part 0 rest)) 1 part (b ∷ rest))
        × ((run : RunModel) → NoneContinues run (b ∷ rest) → NoneContinues run (with_part (is_some (if t then Some b else None)) (is_some (run_behind part 0 rest)) 1 part (b ∷ rest)))
    go true e w = with_next rest lie.3 lie.4 behind (follows_so b part low e) w
    go false e w = apart e rest lie.4 behind w

part_kept_apart : (k from : ℕ) (part : PartModel) (runs : List RunModel) → LieApart from runs → IsRunPlace (suc k) part.place runs → is_held_before (suc k) runs part.place ≡ false → is_whole (merged_run (suc k) runs part) ≡ false
    → LieApart from (with_part (is_some (run_before (suc k) runs part)) (is_some (run_behind part (suc k) runs)) (suc k) part runs)
    × BeginsAlike runs (with_part (is_some (run_before (suc k) runs part)) (is_some (run_behind part (suc k) runs)) (suc k) part runs)
part_kept_apart k from part [] lie place clear whole = absurd (let within = place.within in omega (arith, within))
part_kept_apart zero from part (b ∷ rest) lie place clear whole = part_second from part b rest place.before clear place.behind lie whole
part_kept_apart (suc k) from part (r ∷ rest) lie place clear whole =
    let within = place.within in
    let rest_kept = part_kept_apart k (place_after r) part rest lie.4 (record { within = omega (arith, within); before = place.before; behind = place.behind }) clear whole in
    subst (λ (l : List RunModel). LieApart from l × BeginsAlike (r ∷ rest) l) (sym (with_part_on (is_some (run_before (suc k) rest part)) (is_some (run_behind part (suc k) rest)) k part r rest))
    (together _ rest_kept.0 rest_kept.1)
  where
    together : (new : List RunModel) → LieApart (place_after r) new → BeginsAlike rest new → LieApart from (r ∷ new) × BeginsAlike (r ∷ rest) (r ∷ new)
    together new lie' alike = ((lie.0, lie.1, lie.2, alike r lie.3, lie'), λ run n. n)

-- ---- a part that makes its message whole

without_true : (c : Bool) (k : ℕ) (r : RunModel) (runs : List RunModel) → drop (back_start c (suc (suc k))) (r ∷ runs) ≡ drop (back_start c (suc k)) runs → without_runs true c (suc (suc k)) (r ∷ runs) ≡ r ∷ without_runs true c (suc k) runs
without_true c k r runs back =
    let here : suc (suc k) - 1 ≡ suc k = omega arith in
    let there : suc k - 1 ≡ k = omega arith in
    ap (λ (l : List RunModel). take (suc (suc k) - 1) (r ∷ runs) ++ l) back
    ∙ ap (λ (n : ℕ). take n (r ∷ runs) ++ drop (back_start c (suc k)) runs) here ∙ ap (λ (n : ℕ). r ∷ (take n runs ++ drop (back_start c (suc k)) runs)) (sym there)

pub without_on : (b c : Bool) (k : ℕ) (r : RunModel) (runs : List RunModel) → without_runs b c (suc (suc k)) (r ∷ runs) ≡ r ∷ without_runs b c (suc k) runs
without_on false false k r runs = refl
without_on false true k r runs = refl
without_on true false k r runs = without_true false k r runs refl
without_on true true k r runs = without_true true k r runs refl

pub without_one : (c : Bool) (r : RunModel) (runs : List RunModel) → (without_runs true c 1 (r ∷ runs) ≡ drop (back_start c 0) runs) × (without_runs false c 1 (r ∷ runs) ≡ r ∷ drop (back_start c 0) runs)
without_one false r runs = (refl, refl)
without_one true r runs = (refl, refl)

none_far : (run : RunModel) (low : ℕ) (runs : List RunModel) → place_after run < low → LieApart low runs → NoneContinues run runs
none_far run low [] less lie = tt
none_far run low (next ∷ runs) less lie = far_on run next (let first = lie.0 in omega (arith, first, less))

without_first : (c : Bool) (place low : ℕ) (runs : List RunModel) → StartsBehind place (slice_get runs 0) → LieApart low runs → LieApart (place + 1) (drop (back_start c 0) runs)
without_first false place low [] behind lie = tt
without_first true place low [] behind lie = tt
without_first false place low (c ∷ cs) behind lie = (omega (arith, behind), lie.1, lie.2, lie.3, lie.4)
without_first true place low (c ∷ cs) behind lie = lie_from (place_after c) (place + 1) cs (omega (arith, behind)) lie.4

-- what begins these, where it ends before those, continues no more than them
abbrev BeginsLater : List RunModel → List RunModel → Type 0
BeginsLater old new = (run : RunModel) → LieApart (place_after run) old → NoneContinues run old → NoneContinues run new

part_whole_apart : (b c : Bool) (k from place : ℕ) (runs : List RunModel) → LieApart from runs → IsRunPlace (suc k) place runs → is_held_before (suc k) runs place ≡ false
    → LieApart from (without_runs b c (suc k) runs) × BeginsLater runs (without_runs b c (suc k) runs)
part_whole_apart b c k from place [] lie at clear = absurd (let within = at.within in omega (arith, within))
part_whole_apart true c zero from place (r ∷ rest) lie at clear =
    let up : place_after r ≤ place = clear_of r place at.before clear in
    let left : LieApart (place + 1) (drop (back_start c 0) rest) = without_first c place (place_after r) rest at.behind lie.4 in
    let first = lie.0 in
    let some = lie.1 in
    subst (λ (l : List RunModel). LieApart from l × BeginsLater (r ∷ rest) l) (sym (without_one c r rest).0) (
      lie_from (place + 1) from (drop (back_start c 0) rest) (omega (arith, first, some, up)) left,
      λ run before none. none_far run (place + 1) (drop (back_start c 0) rest) (let low = before.0 in omega (arith, low, some, up)) left,
    )
part_whole_apart false c zero from place (r ∷ rest) lie at clear =
    let up : place_after r ≤ place = clear_of r place at.before clear in
    let left : LieApart (place + 1) (drop (back_start c 0) rest) = without_first c place (place_after r) rest at.behind lie.4 in
    subst (λ (l : List RunModel). LieApart from l × BeginsLater (r ∷ rest) l) (sym (without_one c r rest).1) (
      (lie.0, lie.1, lie.2, none_far r (place + 1) (drop (back_start c 0) rest) (omega (arith, up)) left, lie_from (place + 1) (place_after r) (drop (back_start c 0) rest) (omega (arith, up)) left),
      λ run before none. none,
    )
part_whole_apart b c (suc k) from place (r ∷ rest) lie at clear =
    let within = at.within in
    let left = part_whole_apart b c k (place_after r) place rest lie.4 (record { within = omega (arith, within); before = at.before; behind = at.behind }) clear in
    subst (λ (l : List RunModel). LieApart from l × BeginsLater (r ∷ rest) l) (sym (without_on b c k r rest)) (together (without_runs b c (suc k) rest) left.0 left.1)
  where
    together : (new : List RunModel) → LieApart (place_after r) new → BeginsLater rest new → LieApart from (r ∷ new) × BeginsLater (r ∷ rest) (r ∷ new)
    together new lie' later = ((lie.0, lie.1, lie.2, later r lie.4 lie.3, lie'), λ run before n. n)

-- ---- a part

pub parts_lie_apart : (part : PartModel) (old new : List RunModel) (outcome : Assembly) → AddsPart part old outcome new → LieApart 0 old → LieApart 0 new
parts_lie_apart part old new part_dropped adds lie = subst (λ (l : List RunModel). LieApart 0 l) (sym adds.adds.1) lie
parts_lie_apart part old new part_kept adds lie = go adds.at adds.place adds.adds
  where
    go : (at : ℕ) → IsRunPlace at part.place old → (is_held_before at old part.place ≡ false) × (is_whole (merged_run at old part) ≡ false) × (new ≡ with_part (is_some (run_before at old part)) (is_some (run_behind part at old)) at part old) → LieApart 0 new
    go zero place does = subst (λ (l : List RunModel). LieApart 0 l) (sym does.2) (part_first 0 part old 0 (omega arith) place.behind lie does.1)
    go (suc k) place does = subst (λ (l : List RunModel). LieApart 0 l) (sym does.2) (part_kept_apart k 0 part old lie place does.0 does.1).0
parts_lie_apart part old new (message_whole message) adds lie = go adds.at adds.place adds.adds
  where
    left : (c : Bool) → StartsBehind part.place (slice_get old 0) → LieApart 0 (without_runs false c 0 old)
    left c behind = lie_from (part.place + 1) 0 (drop (back_start c 0) old) (omega arith) (without_first c part.place 0 old behind lie)

    go : (at : ℕ) → IsRunPlace at part.place old
        → (is_held_before at old part.place ≡ false) × (is_whole (merged_run at old part) ≡ true) × (message ≡ whole_run (merged_run at old part)) × (new ≡ without_runs (is_some (run_before at old part)) (is_some (run_behind part at old)) at old) → LieApart 0 new
    go zero place does = subst (λ (l : List RunModel). LieApart 0 l) (sym does.3) (left (is_some (run_behind part 0 old)) place.behind)
    go (suc k) place does =
        subst (λ (l : List RunModel). LieApart 0 l) (sym does.3) (part_whole_apart (is_some (run_before (suc k) old part)) (is_some (run_behind part (suc k) old)) k 0 part.place old lie place does.0).0
