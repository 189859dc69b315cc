-- Lemmas on the index of the parts of unordered messages of DATA.
use Rattle.std.proofs.Common.{Ordering, ◌≡◌, ◌==◌, ◌&&◌, ◌||◌, not, cond, ◌+◌, ◌-◌, ◌%◌, ◌/◌, ◌^◌, ◌<◌, ℕ, zero, suc, Bool, true, false, Option, Some, None, List, [], ◌∷◌, ◌++◌, map, take, drop, if◌then◌else◌, arith, refl, sym, ◌∙◌, ap, subst}
use Rattle.std.specs.Prelude.{is_some, slice_get}
use Rattle.std.specs.Option.{option_map}
use Rattle.std.specs.List.{AllByRecursion, filter}
use Rattle.std.specs.List.Sorted.{IsStrictlySortedBy}
use Rattle.std.specs.Ordering.{nat_cmp, is_eq}
use Rattle.std.specs.declared.cmp.Ordering.TheVariants.{Less, Equal, Greater}
use Rattle.std.specs.Map.{keys_of, lookup}
use Rattle.std.specs.BTreeMap.{is_at}
use Rattle.std.specs.BTreeSet.{BTreeSet, contains, UpdatesBy}
use Rattle.std.proofs.lemmas.Bool.Decides.{nat_tests}
use Rattle.std.proofs.lemmas.List.{take-append-drop}
use Rattle.std.proofs.lemmas.List.Folds.{list_any-append}
use Rattle.std.proofs.lemmas.List.Sums.{sum_by-cons}
use Rattle.dcsctp_api.specs.spec.queues.Incoming.{is_named, parts_left}
use Rattle.dcsctp_receive_ordered_map.specs.Entries.{Ascends, count_up_to}
use Rattle.dcsctp_api.specs.spec.queues.Runs.{RunModel, PartModel, WholeModel, AddsPart, run_used, runs_used, part_kept, message_whole, entry_before, is_held_before, run_with_part, follows, precedes, following, preceding, with_part, without_runs}
use Rattle.dcsctp_receive_reassembly.specs.declared.joins.Joins.{Joins}
use Rattle.dcsctp_receive_reassembly.specs.declared.runs.Run.{Run}
use Rattle.dcsctp_receive_reassembly.specs.Joins.{FindsJoins}
use Rattle.dcsctp_receive_reassembly.specs.Held.{capped_u128}
use Rattle.dcsctp_receive_reassembly.specs.Runs.{run_model, lent_used, Frees, IsRunBeginning}
use Rattle.dcsctp_receive_reassembly.specs.Unordered.{IsIndexed, BeginsAtTsn, begin_of, has_run_from, index_place, is_place_of}
use Rattle.dcsctp_receive_reassembly.proofs.AddedLemmas.{EachOf, added_to_each, taken_each, left_each, both_each}
use Rattle.dcsctp_receive_reassembly.proofs.RunMapLemmas.{absent, lookup_shows}

-- ---- places in the index

-- places of one stream that agree are of one TSN
same_tsn : (id id' first first' : ℕ) → first < 2 ^ 64 → first' < 2 ^ 64 → index_place id first ≡ index_place id' first' → first ≡ first'
same_tsn id id' first first' within within' same = omega (arith, within, within', same)

pub apart : (id id' first first' : ℕ) → first < 2 ^ 64 → first' < 2 ^ 64 → first < first' → (index_place id first == index_place id' first') ≡ false
apart id id' first first' within within' less = go (index_place id first == index_place id' first') refl
  where
    go : (test : Bool) → (index_place id first == index_place id' first') ≡ test → test ≡ false
    go false is = refl
    go true is =
        let places : index_place id first ≡ index_place id' first' = grind (arith, nat_tests, is) in
        let same : first ≡ first' = same_tsn id id' first first' within within' places in
        absurd (omega (arith, same, less))

turned : (m n : ℕ) → (m == n) ≡ (n == m)
turned m n = grind (arith, nat_tests)

same_from : (m n : ℕ) → (m == n) ≡ true → m ≡ n
same_from m n is = grind (arith, nat_tests)

-- ---- what a set has once a number is taken out or put in

at_number : (number other : ℕ) → is_at (nat_cmp number) other ≡ (number == other)
at_number number other = go (nat_cmp number other) refl
  where
    go : (o : Ordering) → nat_cmp number other ≡ o → is_at (nat_cmp number) other ≡ (number == other)
    go Less is = ap is_eq is ∙ grind (arith, nat_tests)
    go Equal is = ap is_eq is ∙ grind (arith, nat_tests)
    go Greater is = ap is_eq is ∙ grind (arith, nat_tests)

cond_false : (test held : Bool) → cond test false held ≡ (not test && held)
cond_false true held = refl
cond_false false held = refl

cond_true : (test held : Bool) → cond test true held ≡ (test || held)
cond_true true held = refl
cond_true false held = refl

pub contains_without : (number : ℕ) (old new : BTreeSet ℕ) → UpdatesBy nat_cmp (nat_cmp number) old new false → (other : ℕ) → contains nat_cmp new other ≡ (not (number == other) && contains nat_cmp old other)
contains_without number old new updates other =
    updates.0 other ∙ ap (λ test. cond test false (contains nat_cmp old other)) (at_number number other) ∙ cond_false (number == other) (contains nat_cmp old other)

pub contains_with : (number : ℕ) (old new : BTreeSet ℕ) → UpdatesBy nat_cmp (nat_cmp number) old new true → (other : ℕ) → contains nat_cmp new other ≡ ((number == other) || contains nat_cmp old other)
contains_with number old new updates other =
    updates.0 other ∙ ap (λ test. cond test true (contains nat_cmp old other)) (at_number number other) ∙ cond_true (number == other) (contains nat_cmp old other)

-- ---- runs in order

-- Each run begins before those after it.
abbrev pub AreAscending : List RunModel → Type 0
AreAscending [] = Unit {0}
AreAscending (run ∷ runs) = AllByRecursion (λ other. run.first < other.first) runs × AreAscending runs

later : (first : ℕ) (es : List (ℕ × Run)) → AllByRecursion (λ key. nat_cmp first key ≡ Less) (keys_of es) → AllByRecursion (λ other. first < other.first) (map run_model es)
later first [] all = tt
later first (e ∷ es) all = ((grind (arith, nat_tests, all.0)), later first es all.1)

pub models_ascend : (es : List (ℕ × Run)) → Ascends es → AreAscending (map run_model es)
unfolding IsStrictlySortedBy
models_ascend [] ascends = tt
models_ascend (e ∷ es) ascends = (later e.0 es ascends.0, models_ascend es ascends.1)

later_at : (first i : ℕ) (run : RunModel) (runs : List RunModel) → AllByRecursion (λ other. first < other.first) runs → slice_get runs i ≡ Some run → first < run.first
later_at first i run [] all is = absurd (cc)
later_at first zero run (other ∷ runs) all is = let same : other ≡ run = cc in subst (λ (it : RunModel). first < it.first) same all.0
later_at first (suc i) run (other ∷ runs) all is = later_at first i run runs all.1 is

pub within_at : (i : ℕ) (run : RunModel) (runs : List RunModel) → AllByRecursion BeginsAtTsn runs → slice_get runs i ≡ Some run → run.first < 2 ^ 64
within_at i run [] all is = absurd (cc)
within_at zero run (other ∷ runs) all is = let same : other ≡ run = cc in subst (λ (it : RunModel). it.first < 2 ^ 64) same all.0
within_at (suc i) run (other ∷ runs) all is = within_at i run runs all.1 is

-- no later run begins at the place of an earlier one
not_later : (run : RunModel) (runs : List RunModel) → run.first < 2 ^ 64 → AllByRecursion BeginsAtTsn runs → AllByRecursion (λ other. run.first < other.first) runs → has_run_from (begin_of run) runs ≡ false
not_later run [] within all beyond = refl
not_later run (other ∷ runs) within all beyond =
    let here : (begin_of other == begin_of run) ≡ false = turned (begin_of other) (begin_of run) ∙ apart run.number other.number run.first other.first within all.0 beyond.0 in
    ap (λ test. test || has_run_from (begin_of run) runs) here ∙ not_later run runs within all.1 beyond.1

-- ---- a run that is taken out

-- one place is that of the first run
first_out : (place : ℕ) (run : RunModel) (runs : List RunModel) → run.first < 2 ^ 64 → AllByRecursion BeginsAtTsn runs → AllByRecursion (λ other. run.first < other.first) runs → has_run_from place runs ≡ (not (begin_of run == place) && has_run_from place (run ∷ runs))
first_out place run runs within all beyond = go (begin_of run == place) refl
  where
    go : (test : Bool) → (begin_of run == place) ≡ test → has_run_from place runs ≡ (not test && (test || has_run_from place runs))
    go true is = subst (λ (it : ℕ). has_run_from it runs ≡ false) (same_from (begin_of run) place is) (not_later run runs within all beyond)
    go false is = refl

skip_first : (a b c d : Bool) → (b ≡ true → a ≡ false) → d ≡ (not b && c) → a || d ≡ (not b && (a || c))
skip_first true true c d never rest = absurd (let no : true ≡ false = never refl in cc)
skip_first true false c d never rest = refl
skip_first false b c d never rest = rest

pub run_out : (place i : ℕ) (run : RunModel) (runs : List RunModel) → AreAscending runs → AllByRecursion BeginsAtTsn runs → slice_get runs i ≡ Some run → has_run_from place (take i runs ++ drop (suc i) runs) ≡ (not (begin_of run == place) && has_run_from place runs)
run_out place i run [] ascends all is = absurd (cc)
run_out place zero run (first ∷ runs) ascends all is =
    let same : first ≡ run = cc in
    subst (λ (it : RunModel). has_run_from place runs ≡ (not (begin_of it == place) && has_run_from place (first ∷ runs))) same (first_out place first runs all.0 all.1 ascends.0)
run_out place (suc i) run (first ∷ runs) ascends all is =
    skip_first (begin_of first == place) (begin_of run == place) (has_run_from place runs) (has_run_from place (take i runs ++ drop (suc i) runs)) other (run_out place i run runs ascends.1 all.1 is)
  where
    other : (begin_of run == place) ≡ true → (begin_of first == place) ≡ false
    other at =
        subst (λ (it : ℕ). (begin_of first == it) ≡ false) (same_from (begin_of run) place at)
        (apart first.number run.number first.first run.first all.0 (within_at i run runs all.1 is) (later_at first.first i run runs ascends.0 is))

-- ---- a run that is put in, or in the place of another

swapped : (a b c : Bool) → a || (b || c) ≡ b || (a || c)
swapped true true c = refl
swapped true false c = refl
swapped false true c = refl
swapped false false c = refl

pub run_in : (place i : ℕ) (run : RunModel) (runs rest : List RunModel) → has_run_from place (take i runs ++ run ∷ rest) ≡ ((begin_of run == place) || has_run_from place (take i runs ++ rest))
run_in place i run runs rest =
    list_any-append (λ it. begin_of it == place) (take i runs) (run ∷ rest)
    ∙ swapped (has_run_from place (take i runs)) (begin_of run == place) (has_run_from place rest)
    ∙ ap (λ others. (begin_of run == place) || others) (sym (list_any-append (λ it. begin_of it == place) (take i runs) rest))

instead : (place i : ℕ) (run front : RunModel) (runs rest : List RunModel) → slice_get runs i ≡ Some front → begin_of run ≡ begin_of front → has_run_from place (take i runs ++ run ∷ rest) ≡ has_run_from place (take (suc i) runs ++ rest)
instead place i run front [] rest is same = absurd (cc)
instead place zero run front (first ∷ runs) rest is same =
    let it : first ≡ front = cc in
    ap (λ (at : ℕ). (at == place) || has_run_from place rest) (same ∙ ap begin_of (sym it))
instead place (suc i) run front (first ∷ runs) rest is same =
    ap (λ others. (begin_of first == place) || others) (instead place i run front runs rest is same)

-- ---- the runs that a part joins

-- The run that the part follows on, if there is one, is before it, and is of its message.
abbrev IsFirst : Option ℕ → ℕ → PartModel → List RunModel → Type 0
IsFirst None at part runs = Unit {0}
IsFirst (Some first) at part runs = (front : RunModel) × (entry_before at runs ≡ Some front) × (front.first ≡ first) × (front.number ≡ part.number)

-- The run that follows on the part, if there is one, is behind it, and is of its message.
abbrev IsNext : Option ℕ → ℕ → PartModel → List RunModel → Type 0
IsNext None at part runs = Unit {0}
IsNext (Some next) at part runs = (back : RunModel) × (slice_get runs at ≡ Some back) × (back.first ≡ next) × (back.number ≡ part.number) × (part.place < back.first)

first_where : (at : ℕ) (part : PartModel) (runs : List RunModel) (o : Option RunModel) → entry_before at runs ≡ o → IsFirst (option_map (λ run. run.first) (following o part)) at part runs
first_where at part runs None is = tt
first_where at part runs (Some run) is = go (follows run part) refl
  where
    go : (joins : Bool) → follows run part ≡ joins → IsFirst (option_map (λ run. run.first) (if joins then Some run else None)) at part runs
    go true joins = (run, is, refl, grind (arith, nat_tests, joins))
    go false joins = tt

next_where : (at : ℕ) (part : PartModel) (runs : List RunModel) (o : Option RunModel) → slice_get runs at ≡ o → IsNext (option_map (λ run. run.first) (preceding part o)) at part runs
next_where at part runs None is = tt
next_where at part runs (Some run) is = go (precedes part run) refl
  where
    go : (joins : Bool) → precedes part run ≡ joins → IsNext (option_map (λ run. run.first) (if joins then Some run else None)) at part runs
    go true joins = (run, is, refl, grind (arith, nat_tests, joins), grind (arith, nat_tests, joins))
    go false joins = tt

is_first : (at : ℕ) (part : PartModel) (runs : List RunModel) (joins : Joins) → FindsJoins at part runs joins → IsFirst joins.first at part runs
is_first at part runs joins finds = subst (λ (o : Option ℕ). IsFirst o at part runs) (sym finds.first) (first_where at part runs (entry_before at runs) refl)

is_next : (at : ℕ) (part : PartModel) (runs : List RunModel) (joins : Joins) → FindsJoins at part runs joins → IsNext joins.next at part runs
is_next at part runs joins finds = subst (λ (o : Option ℕ). IsNext o at part runs) (sym finds.next) (next_where at part runs (slice_get runs at) refl)

-- the place of a run in the index is that which the part's message has
place_same : (place id first : ℕ) (run : RunModel) → run.first ≡ first → run.number ≡ id → (begin_of run == place) ≡ (index_place id first == place)
place_same place id first run is number = ap (λ (it : ℕ). index_place run.number it == place) is ∙ ap (λ (it : ℕ). index_place it first == place) number

less : (i : ℕ) → i ≡ suc i - 1
less i = omega arith

module _ (place : ℕ) (part : PartModel) (runs : List RunModel) (ascends : AreAscending runs) (all : AllByRecursion BeginsAtTsn runs) where
  -- the run behind is taken out
  next_out : (at next : ℕ) → IsNext (Some next) at part runs → has_run_from place (take at runs ++ drop (suc at) runs) ≡ (not (index_place part.number next == place) && has_run_from place runs)
  next_out at next is =
      run_out place at is.0 runs ascends all is.1
      ∙ ap (λ test. not test && has_run_from place runs) (place_same place part.number next is.0 is.2 is.3)

  -- a part that follows on a run
  kept_before : (at first : ℕ) (next : Option ℕ) → IsFirst (Some first) at part runs → IsNext next at part runs → has_run_from place (with_part true (is_some next) at part runs) ≡ (not (is_place_of part.number next place) && has_run_from place runs)
  kept_before zero first next is is' = absurd (let none : None ≡ Some is.0 = is.1 in cc)
  kept_before (suc i) first None is is' =
      ap (λ (o : Option RunModel). has_run_from place (take (suc i - 1) runs ++ run_with_part o part None ∷ drop (suc i) runs)) is.1
      ∙ ap (λ (k : ℕ). has_run_from place (take k runs ++ run_with_part (Some is.0) part None ∷ drop (suc i) runs)) (sym (less i))
      ∙ instead place i (run_with_part (Some is.0) part None) is.0 runs (drop (suc i) runs) is.1 refl
      ∙ ap (has_run_from place) (take-append-drop (suc i) runs)
  kept_before (suc i) first (Some next) is is' =
      ap (λ (o : Option RunModel). has_run_from place (take (suc i - 1) runs ++ run_with_part o part (slice_get runs (suc i)) ∷ drop (suc (suc i)) runs)) is.1
      ∙ ap (λ (o : Option RunModel). has_run_from place (take (suc i - 1) runs ++ run_with_part (Some is.0) part o ∷ drop (suc (suc i)) runs)) is'.1
      ∙ ap (λ (k : ℕ). has_run_from place (take k runs ++ run_with_part (Some is.0) part (Some is'.0) ∷ drop (suc (suc i)) runs)) (sym (less i))
      ∙ instead place i (run_with_part (Some is.0) part (Some is'.0)) is.0 runs (drop (suc (suc i)) runs) is.1 refl
      ∙ next_out (suc i) next is'

  both_tests : (a b c : Bool) → (b ≡ true → a ≡ false) → a || (not b && c) ≡ (not b && (a || c))
  both_tests true true c never = absurd (let no : true ≡ false = never refl in cc)
  both_tests true false c never = refl
  both_tests false b c never = refl

  -- a part that begins a run
  kept_beginning : (at : ℕ) (next : Option ℕ) → part.place < 2 ^ 64 → IsNext next at part runs → has_run_from place (with_part false (is_some next) at part runs) ≡ (not (is_place_of part.number next place) && ((index_place part.number part.place == place) || has_run_from place runs))
  kept_beginning at None within is =
      run_in place at (run_with_part None part None) runs (drop at runs)
      ∙ ap (λ rest. (index_place part.number part.place == place) || has_run_from place rest) (take-append-drop at runs)
  kept_beginning at (Some next) within is =
      ap (λ (o : Option RunModel). has_run_from place (take at runs ++ run_with_part None part o ∷ drop (suc at) runs)) is.1
      ∙ run_in place at (run_with_part None part (Some is.0)) runs (drop (suc at) runs)
      ∙ ap (λ test. (index_place part.number part.place == place) || test) (next_out at next is)
      ∙ both_tests (index_place part.number part.place == place) (index_place part.number next == place) (has_run_from place runs) other
    where
      other : (index_place part.number next == place) ≡ true → (index_place part.number part.place == place) ≡ false
      other at_it =
          subst (λ (it : ℕ). (index_place part.number part.place == it) ≡ false) (same_from (index_place part.number next) place at_it)
          (subst (λ (it : ℕ). (index_place part.number part.place == index_place part.number it) ≡ false) is.2
          (apart part.number part.number part.place is.0.first within (within_at at is.0 runs all is.1) is.4))

  out_twice : (n f b rest : Bool) → n || rest ≡ (not f && b) → f || rest ≡ (not n && b) → rest ≡ (not n && (not f && b))
  out_twice true true b rest is is' = absurd (cc)
  out_twice true false b rest is is' = is'
  out_twice false true b rest is is' = is
  out_twice false false b rest is is' = is

  drop_at : (i : ℕ) (run : RunModel) (those : List RunModel) → slice_get those i ≡ Some run → drop i those ≡ run ∷ drop (suc i) those
  drop_at i run [] is = absurd (cc)
  drop_at zero run (first ∷ those) is = let same : first ≡ run = cc in ap (λ it. it ∷ those) same
  drop_at (suc i) run (first ∷ those) is = drop_at i run those is

  -- the runs that a message was joined from are taken out
  taken_out : (at : ℕ) (first next : Option ℕ) → IsFirst first at part runs → IsNext next at part runs → has_run_from place (without_runs (is_some first) (is_some next) at runs) ≡ (not (is_place_of part.number next place) && (not (is_place_of part.number first place) && has_run_from place runs))
  taken_out at None None is is' = ap (has_run_from place) (take-append-drop at runs)
  taken_out at None (Some next) is is' = next_out at next is'
  taken_out zero (Some first) next is is' = absurd (let none : None ≡ Some is.0 = is.1 in cc)
  taken_out (suc i) (Some first) None is is' =
      ap (λ (k : ℕ). has_run_from place (take k runs ++ drop (suc i) runs)) (sym (less i))
      ∙ run_out place i is.0 runs ascends all is.1
      ∙ ap (λ test. not test && has_run_from place runs) (place_same place part.number first is.0 is.2 is.3)
  taken_out (suc i) (Some first) (Some next) is is' =
      ap (λ (k : ℕ). has_run_from place (take k runs ++ drop (suc (suc i)) runs)) (sym (less i))
      ∙ out_twice (index_place part.number next == place) (index_place part.number first == place) (has_run_from place runs) (has_run_from place (take i runs ++ drop (suc (suc i)) runs)) first_gone next_gone
    where
      first_gone : (index_place part.number next == place) || has_run_from place (take i runs ++ drop (suc (suc i)) runs) ≡ (not (index_place part.number first == place) && has_run_from place runs)
      first_gone =
          ap (λ test. test || has_run_from place (take i runs ++ drop (suc (suc i)) runs)) (sym (place_same place part.number next is'.0 is'.2 is'.3))
          ∙ sym (run_in place i is'.0 runs (drop (suc (suc i)) runs))
          ∙ ap (λ rest. has_run_from place (take i runs ++ rest)) (sym (drop_at (suc i) is'.0 runs is'.1))
          ∙ run_out place i is.0 runs ascends all is.1
          ∙ ap (λ test. not test && has_run_from place runs) (place_same place part.number first is.0 is.2 is.3)

      next_gone : (index_place part.number first == place) || has_run_from place (take i runs ++ drop (suc (suc i)) runs) ≡ (not (index_place part.number next == place) && has_run_from place runs)
      next_gone =
          ap (λ test. test || has_run_from place (take i runs ++ drop (suc (suc i)) runs)) (sym (place_same place part.number first is.0 is.2 is.3))
          ∙ sym (run_in place i is.0 runs (drop (suc (suc i)) runs))
          ∙ instead place i is.0 is.0 runs (drop (suc (suc i)) runs) is.1 refl
          ∙ next_out (suc i) next is'

-- no run begins at the place of a part that isn't there yet
elsewhere : (id place : ℕ) (e : ℕ × Run) → place < 2 ^ 64 → BeginsAtTsn (run_model e) → is_at (nat_cmp place) e.0 ≡ false → (begin_of (run_model e) == index_place id place) ≡ false
elsewhere id place e within within' other = go (begin_of (run_model e) == index_place id place) refl
  where
    go : (test : Bool) → (begin_of (run_model e) == index_place id place) ≡ test → test ≡ false
    go false at = refl
    go true at =
        let same : e.0 ≡ place = same_tsn e.1.number id e.0 place within' within (same_from (begin_of (run_model e)) (index_place id place) at) in
        let found : (place == e.0) ≡ true = grind (arith, nat_tests, same) in
        sym found ∙ sym (at_number place e.0) ∙ other

not_there : (id place : ℕ) (es : List (ℕ × Run)) → place < 2 ^ 64 → AllByRecursion BeginsAtTsn (map run_model es) → lookup (is_at (nat_cmp place)) es ≡ None → has_run_from (index_place id place) (map run_model es) ≡ false
not_there id place [] within all none = refl
not_there id place (e ∷ es) within all none = go (is_at (nat_cmp place) e.0) refl none (not_there id place es within all.1)
  where
    go : (test : Bool) → is_at (nat_cmp place) e.0 ≡ test → cond test (Some e.1) (lookup (is_at (nat_cmp place)) es) ≡ None → (lookup (is_at (nat_cmp place)) es ≡ None → has_run_from (index_place id place) (map run_model es) ≡ false) → has_run_from (index_place id place) (map run_model (e ∷ es)) ≡ false
    go true is none rest = absurd (cc)
    go false is none rest = ap (λ test. test || has_run_from (index_place id place) (map run_model es)) (elsewhere id place e within all.0 is) ∙ rest none

pub absent_place : (id place : ℕ) (es : List (ℕ × Run)) → place < 2 ^ 64 → Ascends es → AllByRecursion BeginsAtTsn (map run_model es) → is_held_before (count_up_to place es) (map run_model es) place ≡ false → has_run_from (index_place id place) (map run_model es) ≡ false
absent_place id place es within ascends all free = not_there id place es within all (absent place es ascends free)

-- ---- the index then

pub is_kept_before : (at : ℕ) (part : PartModel) (runs : List RunModel) (joins : Joins) → AreAscending runs → AllByRecursion BeginsAtTsn runs → FindsJoins at part runs joins → is_some joins.first ≡ true → (place : ℕ) → has_run_from place (with_part (is_some joins.first) (is_some joins.next) at part runs) ≡ (not (is_place_of part.number joins.next place) && has_run_from place runs)
is_kept_before at part runs joins ascends all finds some place = go joins.first some (is_first at part runs joins finds)
  where
    go : (first : Option ℕ) → is_some first ≡ true → IsFirst first at part runs → has_run_from place (with_part (is_some first) (is_some joins.next) at part runs) ≡ (not (is_place_of part.number joins.next place) && has_run_from place runs)
    go None some is = absurd (cc)
    go (Some first) some is = kept_before place part runs ascends all at first joins.next is (is_next at part runs joins finds)

pub is_kept_beginning : (at : ℕ) (part : PartModel) (runs : List RunModel) (joins : Joins) → part.place < 2 ^ 64 → AreAscending runs → AllByRecursion BeginsAtTsn runs → FindsJoins at part runs joins → joins.first ≡ None → (place : ℕ) → has_run_from place (with_part (is_some joins.first) (is_some joins.next) at part runs) ≡ (not (is_place_of part.number joins.next place) && ((index_place part.number part.place == place) || has_run_from place runs))
is_kept_beginning at part runs joins within ascends all finds none place =
    ap (λ (first : Option ℕ). has_run_from place (with_part (is_some first) (is_some joins.next) at part runs)) none
    ∙ kept_beginning place part runs ascends all at joins.next within (is_next at part runs joins finds)

pub is_taken_out : (at : ℕ) (part : PartModel) (runs : List RunModel) (joins : Joins) → AreAscending runs → AllByRecursion BeginsAtTsn runs → FindsJoins at part runs joins → (place : ℕ) → has_run_from place (without_runs (is_some joins.first) (is_some joins.next) at runs) ≡ (not (is_place_of part.number joins.next place) && (not (is_place_of part.number joins.first place) && has_run_from place runs))
is_taken_out at part runs joins ascends all finds place =
    taken_out place part runs ascends all at joins.first joins.next (is_first at part runs joins finds) (is_next at part runs joins finds)

merged_within : (part : PartModel) → part.place < 2 ^ 64 → (front back : Option RunModel) → EachOf BeginsAtTsn front → BeginsAtTsn (run_with_part front part back)
merged_within part place None None is = place
merged_within part place None (Some back) is = place
merged_within part place (Some front) None is = is
merged_within part place (Some front) (Some back) is = is

-- a part is kept with a run before it
pub kept_index : (at : ℕ) (part : PartModel) (old new : List RunModel) (joins : Joins) (firsts after : BTreeSet ℕ) → part.place < 2 ^ 64 → AreAscending old → IsIndexed firsts old → FindsJoins at part old joins → AddsPart part old part_kept new → new ≡ with_part (is_some joins.first) (is_some joins.next) at part old → is_some joins.first ≡ true → ((place : ℕ) → contains nat_cmp after place ≡ (not (is_place_of part.number joins.next place) && contains nat_cmp firsts place)) → IsIndexed after new
kept_index at part old new joins firsts after place ascends indexed finds adds kept some forgets =
    record {
      each = λ it.
          forgets it
          ∙ ap (λ had. not (is_place_of part.number joins.next it) && had) (indexed.each it)
          ∙ sym (is_kept_before at part old joins ascends indexed.within finds some it)
          ∙ ap (has_run_from it) (sym kept);
      within = added_to_each BeginsAtTsn part old new part_kept (merged_within part place) indexed.within adds;
    }

-- a part is kept that begins a run
pub begun_index : (at number : ℕ) (part : PartModel) (old new : List RunModel) (joins : Joins) (firsts between after : BTreeSet ℕ) → part.place < 2 ^ 64 → AreAscending old → IsIndexed firsts old → FindsJoins at part old joins → AddsPart part old part_kept new → new ≡ with_part (is_some joins.first) (is_some joins.next) at part old → joins.first ≡ None → number ≡ index_place part.number part.place → UpdatesBy nat_cmp (nat_cmp number) firsts between true → ((place : ℕ) → contains nat_cmp after place ≡ (not (is_place_of part.number joins.next place) && contains nat_cmp between place)) → IsIndexed after new
begun_index at number part old new joins firsts between after place ascends indexed finds adds kept none is updates forgets =
    record {
      each = λ it.
          forgets it
          ∙ ap (λ had. not (is_place_of part.number joins.next it) && had)
          (contains_with number firsts between updates it ∙ ap (λ (number : ℕ). (number == it) || contains nat_cmp firsts it) is ∙ ap (λ had. (index_place part.number part.place == it) || had) (indexed.each it))
          ∙ sym (is_kept_beginning at part old joins place ascends indexed.within finds none it)
          ∙ ap (has_run_from it) (sym kept);
      within = added_to_each BeginsAtTsn part old new part_kept (merged_within part place) indexed.within adds;
    }

back_again : (at had : Bool) → (at ≡ true → had ≡ false) → (not at && (at || had)) ≡ had
back_again true had never = sym (never refl)
back_again false had never = refl

-- its place in the index is taken back
pub left_index : (number : ℕ) (old : List RunModel) (firsts between after : BTreeSet ℕ) → IsIndexed firsts old → has_run_from number old ≡ false → UpdatesBy nat_cmp (nat_cmp number) firsts between true → UpdatesBy nat_cmp (nat_cmp number) between after false → IsIndexed after old
left_index number old firsts between after indexed free puts takes =
    record {
      each = λ it.
          contains_without number between after takes it
          ∙ ap (λ had. not (number == it) && had) (contains_with number firsts between puts it ∙ ap (λ had. (number == it) || had) (indexed.each it))
          ∙ back_again (number == it) (has_run_from it old) (λ same. ap (λ (place : ℕ). has_run_from place old) (sym (same_from number it same)) ∙ free);
      within = indexed.within;
    }

-- the runs are taken out that a message was joined from
pub taken_index : (at : ℕ) (part : PartModel) (old new : List RunModel) (joins : Joins) (whole : WholeModel) (firsts between after : BTreeSet ℕ) → AreAscending old → IsIndexed firsts old → FindsJoins at part old joins → part.place < 2 ^ 64 → AddsPart part old (message_whole whole) new → new ≡ without_runs (is_some joins.first) (is_some joins.next) at old → ((place : ℕ) → contains nat_cmp between place ≡ (not (is_place_of part.number joins.first place) && contains nat_cmp firsts place)) → ((place : ℕ) → contains nat_cmp after place ≡ (not (is_place_of part.number joins.next place) && contains nat_cmp between place)) → IsIndexed after new
taken_index at part old new joins whole firsts between after ascends indexed finds place adds left first next =
    record {
      each = λ it.
          next it
          ∙ ap (λ had. not (is_place_of part.number joins.next it) && had) (first it ∙ ap (λ had. not (is_place_of part.number joins.first it) && had) (indexed.each it))
          ∙ sym (is_taken_out at part old joins ascends indexed.within finds it)
          ∙ ap (has_run_from it) (sym left);
      within = added_to_each BeginsAtTsn part old new (message_whole whole) (merged_within part place) indexed.within adds;
    }

-- ---- runs that are dropped

-- a place that the index has is that of a run
pub found_run : (place : ℕ) (runs : List RunModel) → has_run_from place runs ≡ true → (i : ℕ) × (run : RunModel) × (slice_get runs i ≡ Some run) × (begin_of run ≡ place)
found_run place [] is = absurd (cc)
found_run place (run ∷ runs) is = go (begin_of run == place) refl is (found_run place runs)
  where
    go : (test : Bool) → (begin_of run == place) ≡ test → (test || has_run_from place runs) ≡ true → (has_run_from place runs ≡ true → (i : ℕ) × (other : RunModel) × (slice_get runs i ≡ Some other) × (begin_of other ≡ place)) → (i : ℕ) × (other : RunModel) × (slice_get (run ∷ runs) i ≡ Some other) × (begin_of other ≡ place)
    go true at is rest = (zero, run, refl, same_from (begin_of run) place at)
    go false at is rest =
        let found = rest is in
        (suc found.0, found.1, found.2, found.3)

-- the TSN and the stream of a place
pub tsn_of : (place : ℕ) (run : RunModel) → run.first < 2 ^ 64 → begin_of run ≡ place → place % 2 ^ 64 ≡ run.first
tsn_of place run within begins = omega (arith, within, begins)

pub stream_of : (place : ℕ) (run : RunModel) → begin_of run ≡ place → place / 2 ^ 64 ≡ run.number
stream_of place run begins = omega (arith, begins)

-- The run that has a place in the index, and where it is.
pub record FoundRun (place : ℕ) (es : List (ℕ × Run)) : Type 0 where
  pub i : ℕ
  pub run : RunModel
  pub is : slice_get (map run_model es) i ≡ Some run
  pub begins : begin_of run ≡ place
  pub at : IsRunBeginning (place % 2 ^ 64) (slice_get (map run_model es) i)

pub found_in : (place : ℕ) (es : List (ℕ × Run)) (firsts : BTreeSet ℕ) → IsIndexed firsts (map run_model es) → contains nat_cmp firsts place ≡ true → FoundRun place es
found_in place es firsts indexed there =
    let found = found_run place (map run_model es) (sym (indexed.each place) ∙ there) in
    record {
      i = found.0;
      run = found.1;
      is = found.2;
      begins = found.3;
      at = subst (λ (o : Option RunModel). IsRunBeginning (place % 2 ^ 64) o) (sym found.2) (sym (tsn_of place found.1 (within_at found.0 found.1 (map run_model es) indexed.within found.2) found.3));
    }

-- what it uses
pub found_used : (overhead place : ℕ) (run' : Run) (es : List (ℕ × Run)) (found : FoundRun place es) → Ascends es → lookup (is_at (nat_cmp (place % 2 ^ 64))) es ≡ Some run' → run_used overhead (run_model (0, run')) ≡ run_used overhead found.run
found_used overhead place run' es found ascends is =
    ap (lent_used overhead) (sym (lookup_shows (place % 2 ^ 64) found.i run' es ascends found.at is) ∙ found.is)

pub not_kept : (id number : ℕ) → id ≡ number → not (id == number) ≡ false
not_kept id number same = let is : (id == number) ≡ true = grind (arith, nat_tests) in ap not is

pub dropped_index : (i place : ℕ) (run : RunModel) (old new : List RunModel) (firsts after : BTreeSet ℕ) → AreAscending old → IsIndexed firsts old → slice_get old i ≡ Some run → begin_of run ≡ place → new ≡ take i old ++ drop (suc i) old → UpdatesBy nat_cmp (nat_cmp place) firsts after false → IsIndexed after new
dropped_index i place run old new firsts after ascends indexed is begins left updates =
    record {
      each = λ it.
          contains_without place firsts after updates it
          ∙ ap (λ had. not (place == it) && had) (indexed.each it)
          ∙ ap (λ (at : ℕ). not (at == it) && has_run_from it old) (sym begins)
          ∙ sym (run_out it i run old ascends indexed.within is)
          ∙ ap (has_run_from it) (sym left);
      within = subst (AllByRecursion BeginsAtTsn) (sym left) (both_each BeginsAtTsn (take i old) (drop (suc i) old) (taken_each BeginsAtTsn i old indexed.within) (left_each BeginsAtTsn (suc i) old indexed.within));
    }

-- one that isn't kept anyway
pub filter_out : (keeps : RunModel → Bool) (i : ℕ) (run : RunModel) (runs : List RunModel) → slice_get runs i ≡ Some run → keeps run ≡ false → filter keeps (take i runs ++ drop (suc i) runs) ≡ filter keeps runs
filter_out keeps i run [] is not_it = absurd (cc)
filter_out keeps zero run (first ∷ runs) is not_it =
    let same : first ≡ run = cc in
    sym (ap (λ (test : Bool). if test then first ∷ filter keeps runs else filter keeps runs) (ap keeps same ∙ not_it))
filter_out keeps (suc i) run (first ∷ runs) is not_it =
    ap (λ rest. if keeps first then first ∷ rest else rest) (filter_out keeps i run runs is not_it)

or_right : (a b : Bool) → (a || b) ≡ false → b ≡ false
or_right true b is = absurd (cc)
or_right false b is = is

-- no run of the stream is left
pub none_left : (id : ℕ) (runs : List RunModel) → ((place : ℕ) → place / 2 ^ 64 ≡ id → has_run_from place runs ≡ false) → filter (λ run. not (id == run.number)) runs ≡ runs
none_left id [] none = refl
none_left id (run ∷ runs) none = go (id == run.number) refl (none_left id runs (λ place at. or_right (begin_of run == place) (has_run_from place runs) (none place at)))
  where
    go : (test : Bool) → (id == run.number) ≡ test → filter (λ run. not (id == run.number)) runs ≡ runs → (if not test then run ∷ filter (λ run. not (id == run.number)) runs else filter (λ run. not (id == run.number)) runs) ≡ run ∷ runs
    go true at rest =
        let here : (begin_of run == begin_of run) ≡ true = grind (arith, nat_tests) in
        let stream : begin_of run / 2 ^ 64 ≡ id = stream_of (begin_of run) run refl ∙ sym (same_from id run.number at) in
        let no : (begin_of run == begin_of run) || has_run_from (begin_of run) runs ≡ false = none (begin_of run) stream in
        absurd (let never : true ≡ false = sym (ap (λ (test : Bool). test || has_run_from (begin_of run) runs) here) ∙ no in cc)
    go false at rest = ap (λ kept. run ∷ kept) rest

-- the parts that are left once one stream is reset, and then the others
pub left_more : (id : ℕ) (resets : List ℕ) (runs : List RunModel) → parts_left resets (filter (λ run. not (id == run.number)) runs) ≡ parts_left (id ∷ resets) runs
left_more id resets [] = refl
left_more id resets (run ∷ runs) = go (id == run.number) refl (left_more id resets runs)
  where
    go : (test : Bool) → (id == run.number) ≡ test → parts_left resets (filter (λ run. not (id == run.number)) runs) ≡ parts_left (id ∷ resets) runs → parts_left resets (if not test then run ∷ filter (λ run. not (id == run.number)) runs else filter (λ run. not (id == run.number)) runs) ≡ (if not (test || is_named resets run.number) then run ∷ parts_left (id ∷ resets) runs else parts_left (id ∷ resets) runs)
    go true at rest = rest
    go false at rest = ap (λ left. if not (is_named resets run.number) then run ∷ left else left) rest

pub left_all : (runs : List RunModel) → parts_left [] runs ≡ runs
left_all [] = refl
left_all (run ∷ runs) = ap (λ left. run ∷ left) (left_all runs)

module _ (overhead : ℕ) where
  pub used_out : (i : ℕ) (run : RunModel) (runs : List RunModel) → slice_get runs i ≡ Some run → runs_used overhead (take i runs ++ drop (suc i) runs) + run_used overhead run ≡ runs_used overhead runs
  used_out i run [] is = absurd (cc)
  used_out zero run (first ∷ runs) is =
      let same : run_used overhead first ≡ run_used overhead run = ap (lent_used overhead) is in
      omega (arith, same, sum_by-cons (run_used overhead) first runs)
  used_out (suc i) run (first ∷ runs) is =
      omega (arith, used_out i run runs is, sum_by-cons (run_used overhead) first (take i runs ++ drop (suc i) runs), sum_by-cons (run_used overhead) first runs)

  -- one more is dropped
  pub frees_more : (dropped used total freed : ℕ) (initial old new : List RunModel) → Frees overhead initial dropped old → runs_used overhead new + freed ≡ runs_used overhead old → used ≡ capped_u128 freed → total ≡ capped_u128 (dropped + used) → Frees overhead initial total new
  frees_more dropped used total freed initial old new before less is sum = (omega (arith, before.0, less), omega (arith, before.0, before.1, less, is, sum))

  pub frees_then : (dropped used total : ℕ) (initial old new : List RunModel) → Frees overhead initial dropped old → Frees overhead old used new → total ≡ capped_u128 (dropped + used) → Frees overhead initial total new
  frees_then dropped used total initial old new before more sum = (omega (arith, before.0, more.0), omega (arith, before.0, before.1, more.0, more.1, sum))

  pub frees_none : (runs : List RunModel) → Frees overhead runs 0 runs
  frees_none runs = (omega arith, omega arith)
