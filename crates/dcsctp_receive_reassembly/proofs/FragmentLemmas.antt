-- Runs that begin among the places of their messages.
use Rattle.std.proofs.Common.{◌≡◌, ◌+◌, ◌*◌, ◌-◌, ◌/◌, ◌^◌, ◌<◌, ◌≤◌, ℕ, Bool, true, false, Option, Some, None, List, [], ◌∷◌, map, if◌then◌else◌, arith, refl, sym, ◌∙◌, ap, subst}
use Rattle.std.specs.Prelude.{nat_le, not, Result, Ok, Err, IfOk, OnErr}
use Rattle.std.specs.List.{AllByRecursion, filter}
use Rattle.std.specs.List.Sorted.{IsStrictlySortedBy}
use Rattle.std.specs.Map.{keys_of}
use Rattle.std.specs.Ordering.{nat_cmp}
use Rattle.std.specs.declared.cmp.Ordering.TheVariants.{Less}
use Rattle.std.proofs.lemmas.Bool.Decides.{nat_tests}
use Rattle.std.specs.declared.alloc.AllocError.{AllocError}
use Rattle.dcsctp_receive_ordered_map.specs.Entries.{Ascends}
use Rattle.dcsctp_api.specs.spec.queues.IncomingStreams.{runs_up_to, runs_behind}
use Rattle.dcsctp_api.specs.spec.queues.Numbers.{fragment_place}
use Rattle.dcsctp_api.specs.spec.queues.Runs.{RunModel, PartModel, AddsPart, behind_place, run_with_part}
use Rattle.dcsctp_receive_reassembly.specs.declared.runs.Run.{Run}
use Rattle.dcsctp_receive_reassembly.specs.declared.runs.Assembled.{Assembled as Outcome}
use Rattle.dcsctp_receive_reassembly.specs.Runs.{run_model, assembled_of, up_to_place, IsInPlace, AreInPlace}
use Rattle.dcsctp_receive_reassembly.proofs.AddedLemmas.{EachOf, added_to_each}

-- ---- a part that is added

merged_in_place : (part : PartModel) → part.place / 2 ^ 64 ≡ part.number → (front back : Option RunModel) → EachOf IsInPlace front → IsInPlace (run_with_part front part back)
merged_in_place part place None None is = place
merged_in_place part place None (Some back) is = place
merged_in_place part place (Some front) None is = is
merged_in_place part place (Some front) (Some back) is = is

pub added_or_kept : (part : PartModel) (old new : List RunModel) (result : Result Outcome AllocError) → part.place / 2 ^ 64 ≡ part.number → AreInPlace old → IfOk result (λ outcome. AddsPart part old (assembled_of outcome) new) → OnErr result (new ≡ old) → AreInPlace new
added_or_kept part old new (Ok outcome) place are ok err =
    added_to_each IsInPlace part old new (assembled_of outcome) (merged_in_place part place) are ok
added_or_kept part old new (Err error) place are ok err = subst AreInPlace (sym err) are

-- ---- messages that are dropped

module _ (number : ℕ) where
  -- the last place of the message
  abbrev last : ℕ
  last = fragment_place number (2 ^ 64 - 1)

  -- A run begins up to the last place of the message where its own message is up to that.
  same_test : (first other : ℕ) → first / 2 ^ 64 ≡ other → nat_le first last ≡ nat_le other number
  same_test first other is = go (nat_le first last) refl (nat_le other number) refl
    where
      go : (a : Bool) → nat_le first last ≡ a → (b : Bool) → nat_le other number ≡ b → a ≡ b
      go true _ true _ = refl
      go false _ false _ = refl
      go true at false not_it =
          let within : first ≤ number * 2 ^ 64 + (2 ^ 64 - 1) = grind (arith, nat_tests, at) in
          let less : number < other = grind (arith, nat_tests, not_it) in
          absurd (omega (arith, within, less, is))
      go false not_it true at =
          let beyond : number * 2 ^ 64 + (2 ^ 64 - 1) < first = grind (arith, nat_tests, not_it) in
          let within : other ≤ number = grind (arith, nat_tests, at) in
          absurd (omega (arith, within, beyond, is))

  -- Where the first key is beyond it, nothing is dropped.
  none_dropped : (es : List (ℕ × Run)) → AllByRecursion (λ key. last < key) (keys_of es) → AreInPlace (map run_model es) → (runs_behind number (map run_model es) ≡ map run_model es) × (runs_up_to number (map run_model es) ≡ [])
  none_dropped [] all are = (refl, refl)
  none_dropped (e ∷ es) all are =
      let rest = none_dropped es all.1 are.1 in
      let beyond : last < e.0 = all.0 in
      let not_it : nat_le e.0 last ≡ false = grind (arith, nat_tests, beyond) in
      let test : nat_le e.1.number number ≡ false = sym (same_test e.0 e.1.number are.0) ∙ not_it in (
        ap (λ (is : Bool). if not is then run_model e ∷ runs_behind number (map run_model es) else runs_behind number (map run_model es)) test ∙ ap (λ (runs : List RunModel). run_model e ∷ runs) rest.0,
        ap (λ (is : Bool). if is then run_model e ∷ runs_up_to number (map run_model es) else runs_up_to number (map run_model es)) test ∙ rest.1,
      )

  beyond_all : (key : ℕ) (es : List (ℕ × Run)) → last < key → AllByRecursion (λ other. nat_cmp key other ≡ Less) (keys_of es) → AllByRecursion (λ other. last < other) (keys_of es)
  beyond_all key [] beyond all = tt
  beyond_all key (e ∷ es) beyond all = ((let less : key < e.0 = grind (arith, nat_tests, all.0) in omega (arith, less, beyond)), beyond_all key es beyond all.1)

  -- the runs in front up to the last place of the message are those of the messages up to it
  pub front_dropped : (es : List (ℕ × Run)) → Ascends es → AreInPlace (map run_model es) → (behind_place last (map run_model es) ≡ runs_behind number (map run_model es)) × (up_to_place last (map run_model es) ≡ runs_up_to number (map run_model es))
  unfolding IsStrictlySortedBy
  front_dropped [] ascends are = (refl, refl)
  front_dropped (e ∷ es) ascends are = go (nat_le e.0 last) refl (front_dropped es ascends.1 are.1)
    where
      go : (is : Bool) → nat_le e.0 last ≡ is → (behind_place last (map run_model es) ≡ runs_behind number (map run_model es)) × (up_to_place last (map run_model es) ≡ runs_up_to number (map run_model es))
          → ((if is then behind_place last (map run_model es) else run_model e ∷ map run_model es) ≡ runs_behind number (map run_model (e ∷ es))) × ((if is then run_model e ∷ up_to_place last (map run_model es) else []) ≡ runs_up_to number (map run_model (e ∷ es)))
      go true is rest =
          let test : nat_le e.1.number number ≡ true = sym (same_test e.0 e.1.number are.0) ∙ is in (
            rest.0 ∙ sym (ap (λ (it : Bool). if not it then run_model e ∷ runs_behind number (map run_model es) else runs_behind number (map run_model es)) test),
            ap (λ (runs : List RunModel). run_model e ∷ runs) rest.1 ∙ sym (ap (λ (it : Bool). if it then run_model e ∷ runs_up_to number (map run_model es) else runs_up_to number (map run_model es)) test),
          )
      go false is rest =
          let beyond : last < e.0 = grind (arith, nat_tests, is) in
          let none = none_dropped (e ∷ es) (beyond, beyond_all e.0 es beyond ascends.0) are in
          (sym none.0, sym none.1)

-- what is left is in place
pub filtered_in_place : (test : RunModel → Bool) (runs : List RunModel) → AreInPlace runs → AreInPlace (filter test runs)
filtered_in_place test [] are = tt
filtered_in_place test (run ∷ runs) are = go (test run) (filtered_in_place test runs are.1)
  where
    go : (passes : Bool) → AreInPlace (filter test runs) → AreInPlace (if passes then run ∷ filter test runs else filter test runs)
    go true rest = (are.0, rest)
    go false rest = rest
