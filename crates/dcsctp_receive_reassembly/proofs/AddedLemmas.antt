-- What is true of each run stays true of each when a part is added.
use Rattle.std.proofs.Common.{ℕ, zero, suc, Bool, true, false, Option, Some, None, List, [], ◌∷◌, ◌++◌, take, drop, sym, subst}
use Rattle.std.specs.Prelude.{is_some, slice_get}
use Rattle.std.specs.List.{AllByRecursion}
use Rattle.dcsctp_api.specs.spec.queues.Runs.{RunModel, PartModel, Assembly, part_dropped, part_kept, message_whole, AddsPart, AssemblesPart, entry_before, chosen, front_end, back_start, run_with_part, run_before, run_behind, with_part, without_runs}

module _ (Is : RunModel → Type 0) where
  pub taken_each : (k : ℕ) (runs : List RunModel) → AllByRecursion Is runs → AllByRecursion Is (take k runs)
  taken_each zero runs are = tt
  taken_each (suc k) [] are = tt
  taken_each (suc k) (run ∷ runs) are = (are.0, taken_each k runs are.1)

  pub left_each : (k : ℕ) (runs : List RunModel) → AllByRecursion Is runs → AllByRecursion Is (drop k runs)
  left_each zero runs are = are
  left_each (suc k) [] are = tt
  left_each (suc k) (run ∷ runs) are = left_each k runs are.1

  pub both_each : (runs others : List RunModel) → AllByRecursion Is runs → AllByRecursion Is others → AllByRecursion Is (runs ++ others)
  both_each [] others are are' = are'
  both_each (run ∷ runs) others are are' = (are.0, both_each runs others are.1 are')

  -- it is true of the run, if there is one
  abbrev pub EachOf : Option RunModel → Type 0
  EachOf None = Unit {0}
  EachOf (Some run) = Is run

  pub got_each : (k : ℕ) (runs : List RunModel) → AllByRecursion Is runs → EachOf (slice_get runs k)
  got_each zero [] are = tt
  got_each (suc k) [] are = tt
  got_each zero (run ∷ runs) are = are.0
  got_each (suc k) (run ∷ runs) are = got_each k runs are.1

  before_each : (joins : Bool) (at : ℕ) (runs : List RunModel) → AllByRecursion Is runs → EachOf (chosen joins (entry_before at runs))
  before_each false at runs are = tt
  before_each true zero runs are = tt
  before_each true (suc at) runs are = got_each at runs are

  pub added_to_each : (part : PartModel) (old new : List RunModel) (outcome : Assembly) → ((front back : Option RunModel) → EachOf front → Is (run_with_part front part back)) → AllByRecursion Is old → AddsPart part old outcome new → AllByRecursion Is new
  added_to_each part old new outcome merges are adds = go outcome adds.adds
    where
      at : ℕ
      at = adds.at

      kept : (joins joins' : Bool) → AllByRecursion Is (with_part joins joins' at part old)
      kept joins joins' =
          both_each (take (front_end joins at) old) (run_with_part (chosen joins (entry_before at old)) part (chosen joins' (slice_get old at)) ∷ drop (back_start joins' at) old)
          (taken_each (front_end joins at) old are)
          (merges (chosen joins (entry_before at old)) (chosen joins' (slice_get old at)) (before_each joins at old are), left_each (back_start joins' at) old are)

      left : (joins joins' : Bool) → AllByRecursion Is (without_runs joins joins' at old)
      left joins joins' =
          both_each (take (front_end joins at) old) (drop (back_start joins' at) old) (taken_each (front_end joins at) old are) (left_each (back_start joins' at) old are)

      go : (outcome : Assembly) → AssemblesPart at part old outcome new → AllByRecursion Is new
      go part_dropped is = subst (AllByRecursion Is) (sym is.1) are
      go part_kept is = subst (AllByRecursion Is) (sym is.2) (kept (is_some (run_before at old part)) (is_some (run_behind part at old)))
      go (message_whole whole) is = subst (AllByRecursion Is) (sym is.3) (left (is_some (run_before at old part)) (is_some (run_behind part at old)))
