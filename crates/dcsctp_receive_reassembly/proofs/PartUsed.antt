-- How much of the receive window the runs use with a part more.
use Rattle.std.proofs.Common.{◌≡◌, ℕ, zero, suc, ◌+◌, ◌-◌, ◌≤◌, Bool, true, false, List, [], ◌∷◌, ◌++◌, length, length-append, take, drop, Option, Some, None, if◌then◌else◌, arith, refl, sym, ◌∙◌, ap}
use Rattle.std.specs.Prelude.{slice_get, is_some}
use Rattle.std.proofs.lemmas.List.Sums.{sum_by-append, sum_by-cons, sum_by-take-drop}
use Rattle.dcsctp_api.specs.spec.queues.Runs.{Assembly, part_dropped, part_kept, message_whole, entry_before, joined_bytes, RunModel, PartModel, AddsPart, AssemblesPart, run_with_part, run_before, run_behind, following, preceding, follows, precedes, front_end, back_start, chosen, with_part, without_runs}
use Rattle.dcsctp_api.specs.spec.queues.Runs.{part_used, payloads_used, run_used, runs_used}
use Rattle.dcsctp_receive_reassembly.specs.Runs.{lent_used}
use Rattle.dcsctp_receive_reassembly.specs.Held.{capped_u128}

module _ (overhead : ℕ) where
  used_single : (payload : List ℕ) → payloads_used overhead (payload ∷ []) ≡ part_used overhead payload
  used_single payload = omega (arith, sum_by-cons (part_used overhead) payload [])

  used_appended : (front back : List (List ℕ)) → payloads_used overhead (front ++ back) ≡ payloads_used overhead front + payloads_used overhead back
  used_appended front back = sum_by-append (part_used overhead) front back

  used_merged : (front : Option RunModel) (part : PartModel) (back : Option RunModel) → run_used overhead (run_with_part front part back) ≡ lent_used overhead front + part_used overhead part.payload + lent_used overhead back
  used_merged None part None = omega (arith, used_single part.payload)
  used_merged (Some front) part None = omega (arith, used_single part.payload, used_appended front.payloads (part.payload ∷ []))
  used_merged None part (Some back) = omega (arith, used_single part.payload, used_appended (part.payload ∷ []) back.payloads)
  used_merged (Some front) part (Some back) =
      omega (arith, used_single part.payload, used_appended (part.payload ∷ []) back.payloads, used_appended front.payloads ((part.payload ∷ []) ++ back.payloads))

  used_taken : (at : ℕ) (runs : List RunModel) (run : RunModel) → slice_get runs at ≡ Some run → runs_used overhead (take (suc at) runs) ≡ runs_used overhead (take at runs) + run_used overhead run
  used_taken at [] run is = absurd (cc)
  used_taken zero (first ∷ runs) run is =
      let same : run_used overhead first ≡ run_used overhead run = ap (lent_used overhead) is in
      omega (arith, same, sum_by-cons (run_used overhead) first [])
  used_taken (suc at) (first ∷ runs) run is =
      omega (arith, used_taken at runs run is, sum_by-cons (run_used overhead) first (take (suc at) runs), sum_by-cons (run_used overhead) first (take at runs))

  used_dropped : (at : ℕ) (runs : List RunModel) (run : RunModel) → slice_get runs at ≡ Some run → runs_used overhead (drop at runs) ≡ run_used overhead run + runs_used overhead (drop (suc at) runs)
  used_dropped at [] run is = absurd (cc)
  used_dropped zero (first ∷ runs) run is =
      let same : run_used overhead first ≡ run_used overhead run = ap (lent_used overhead) is in
      omega (arith, same, sum_by-cons (run_used overhead) first runs)
  used_dropped (suc at) (first ∷ runs) run is = used_dropped at runs run is

  -- the runs that stay in front, and the run that joins after them
  in_front : (at : ℕ) (runs : List RunModel) (o : Option RunModel) (part : PartModel) → slice_get runs at ≡ o → runs_used overhead (take (suc at) runs) ≡ runs_used overhead (take (front_end (is_some (following o part)) (suc at)) runs) + lent_used overhead (following o part)
  in_front at runs None part is = omega arith
  in_front at runs (Some run) part is = go (follows run part)
    where
      go : (joins : Bool) → runs_used overhead (take (suc at) runs) ≡ runs_used overhead (take (front_end (is_some (if joins then Some run else None)) (suc at)) runs) + lent_used overhead (if joins then Some run else None)
      go true =
          let less : suc at - 1 ≡ at = omega arith in
          used_taken at runs run is ∙ ap (λ count. runs_used overhead (take count runs) + run_used overhead run) (sym less)
      go false = omega arith

  used_in_front : (at : ℕ) (runs : List RunModel) (part : PartModel) → runs_used overhead (take at runs) ≡ runs_used overhead (take (front_end (is_some (run_before at runs part)) at) runs) + lent_used overhead (run_before at runs part)
  used_in_front zero runs part = omega arith
  used_in_front (suc at) runs part = in_front at runs (slice_get runs at) part refl

  -- the runs that stay after it, and the run that joins in front of them
  behind : (at : ℕ) (runs : List RunModel) (o : Option RunModel) (part : PartModel) → slice_get runs at ≡ o → runs_used overhead (drop at runs) ≡ lent_used overhead (preceding part o) + runs_used overhead (drop (back_start (is_some (preceding part o)) at) runs)
  behind at runs None part is = omega arith
  behind at runs (Some run) part is = go (precedes part run)
    where
      go : (joins : Bool) → runs_used overhead (drop at runs) ≡ lent_used overhead (if joins then Some run else None) + runs_used overhead (drop (back_start (is_some (if joins then Some run else None)) at) runs)
      go true = used_dropped at runs run is
      go false = omega arith

  used_behind : (at : ℕ) (runs : List RunModel) (part : PartModel) → runs_used overhead (drop at runs) ≡ lent_used overhead (run_behind part at runs) + runs_used overhead (drop (back_start (is_some (run_behind part at runs)) at) runs)
  used_behind at runs part = behind at runs (slice_get runs at) part refl

  -- the runs that join are those that the definition names
  chosen_following : (o : Option RunModel) (part : PartModel) → chosen (is_some (following o part)) o ≡ following o part
  chosen_following None part = refl
  chosen_following (Some run) part = go (follows run part)
    where
      go : (joins : Bool) → chosen (is_some (if joins then Some run else None)) (Some run) ≡ (if joins then Some run else None)
      go true = refl
      go false = refl

  chosen_preceding : (o : Option RunModel) (part : PartModel) → chosen (is_some (preceding part o)) o ≡ preceding part o
  chosen_preceding None part = refl
  chosen_preceding (Some run) part = go (precedes part run)
    where
      go : (joins : Bool) → chosen (is_some (if joins then Some run else None)) (Some run) ≡ (if joins then Some run else None)
      go true = refl
      go false = refl

  used_with_part : (at : ℕ) (runs : List RunModel) (part : PartModel) → runs_used overhead (with_part (is_some (run_before at runs part)) (is_some (run_behind part at runs)) at part runs) ≡ runs_used overhead runs + part_used overhead part.payload
  used_with_part at runs part =
      let run : RunModel = run_with_part (chosen (is_some (run_before at runs part)) (entry_before at runs)) part (chosen (is_some (run_behind part at runs)) (slice_get runs at)) in
      let same : run_used overhead (run_with_part (chosen (is_some (run_before at runs part)) (entry_before at runs)) part (chosen (is_some (run_behind part at runs)) (slice_get runs at))) ≡ run_used overhead (run_with_part (run_before at runs part) part (run_behind part at runs)) =
      ap (λ front. run_used overhead (run_with_part front part (chosen (is_some (run_behind part at runs)) (slice_get runs at)))) (chosen_following (entry_before at runs) part) ∙ ap (λ back. run_used overhead (run_with_part (run_before at runs part) part back)) (chosen_preceding (slice_get runs at) part) in
      omega (
        arith,
        same,
        used_merged (run_before at runs part) part (run_behind part at runs),
        used_in_front at runs part,
        used_behind at runs part,
        sum_by-take-drop (run_used overhead) runs at,
        sum_by-append (run_used overhead) (take (front_end (is_some (run_before at runs part)) at) runs) (run ∷ drop (back_start (is_some (run_behind part at runs)) at) runs),
        sum_by-cons (run_used overhead) run (drop (back_start (is_some (run_behind part at runs)) at) runs),
      )

  used_without : (at : ℕ) (runs : List RunModel) (part : PartModel)
      → runs_used overhead (without_runs (is_some (run_before at runs part)) (is_some (run_behind part at runs)) at runs)
      + (lent_used overhead (run_before at runs part) + lent_used overhead (run_behind part at runs)) ≡ runs_used overhead runs
  used_without at runs part =
      omega (
        arith,
        used_in_front at runs part,
        used_behind at runs part,
        sum_by-take-drop (run_used overhead) runs at,
        sum_by-append (run_used overhead) (take (front_end (is_some (run_before at runs part)) at) runs) (drop (back_start (is_some (run_behind part at runs)) at) runs),
      )

  -- What the runs used that a message was joined from isn't in use any longer.
  pub whole_frees : (at used : ℕ) (part : PartModel) (old new : List RunModel) (before behind : Option RunModel) (joins_before joins_behind : Bool)
      → before ≡ run_before at old part → behind ≡ run_behind part at old → joins_before ≡ is_some before → joins_behind ≡ is_some behind
      → used ≡ capped_u128 (lent_used overhead before + lent_used overhead behind) → new ≡ without_runs joins_before joins_behind at old
      → (runs_used overhead new ≤ runs_used overhead old) × (used ≡ capped_u128 (runs_used overhead old - runs_used overhead new))
  whole_frees at used part old new before behind joins_before joins_behind before_is behind_is joins joins' is left =
      let left_is : new ≡ without_runs (is_some (run_before at old part)) (is_some (run_behind part at old)) at old =
      left
      ∙ ap (λ joins. without_runs joins joins_behind at old) (joins ∙ ap is_some before_is)
      ∙ ap (λ joins. without_runs (is_some (run_before at old part)) joins at old) (joins' ∙ ap is_some behind_is) in (
        omega (arith, ap (runs_used overhead) left_is, used_without at old part),
        omega (arith, is, ap (lent_used overhead) before_is, ap (lent_used overhead) behind_is, ap (runs_used overhead) left_is, used_without at old part),
      )

joined_bytes_used : (payloads : List (List ℕ)) → length (joined_bytes payloads) ≡ payloads_used 0 payloads
joined_bytes_used [] = refl
joined_bytes_used (payload ∷ payloads) =
    omega (arith, length-append payload (joined_bytes payloads), joined_bytes_used payloads, sum_by-cons (part_used 0) payload payloads)

module _ (overhead : ℕ) where
  bytes_within_payloads : (payloads : List (List ℕ)) → payloads_used 0 payloads ≤ payloads_used overhead payloads
  bytes_within_payloads [] = omega arith
  bytes_within_payloads (payload ∷ payloads) =
      omega (arith, bytes_within_payloads payloads, sum_by-cons (part_used 0) payload payloads, sum_by-cons (part_used overhead) payload payloads)

  bytes_within : (run : Option RunModel) → lent_used 0 run ≤ lent_used overhead run
  bytes_within None = omega arith
  bytes_within (Some run) = bytes_within_payloads run.payloads

  -- What the runs use then that a part was added to, by what became of it.
  abbrev pub PartCounted : PartModel → List RunModel → Assembly → List RunModel → Type 0
  PartCounted part old part_dropped new = runs_used overhead new ≡ runs_used overhead old
  PartCounted part old part_kept new = runs_used overhead new ≡ runs_used overhead old + part_used overhead part.payload
  PartCounted part old (message_whole whole) new = runs_used overhead new + length whole.payload ≤ runs_used overhead old + length part.payload

  counted_at : (at : ℕ) (part : PartModel) (old : List RunModel) (outcome : Assembly) (new : List RunModel) → AssemblesPart at part old outcome new → PartCounted part old outcome new
  counted_at at part old part_dropped new adds = ap (runs_used overhead) adds.1
  counted_at at part old part_kept new adds = ap (runs_used overhead) adds.2 ∙ used_with_part overhead at old part
  counted_at at part old (message_whole whole) new adds =
      let left : runs_used overhead new ≡ runs_used overhead (without_runs (is_some (run_before at old part)) (is_some (run_behind part at old)) at old) = ap (runs_used overhead) adds.3 in
      let bytes : length whole.payload ≡ run_used 0 (run_with_part (run_before at old part) part (run_behind part at old)) =
      ap (λ w. length w.payload) adds.2 ∙ joined_bytes_used (run_with_part (run_before at old part) part (run_behind part at old)).payloads in
      omega (
        arith,
        left,
        bytes,
        used_merged 0 (run_before at old part) part (run_behind part at old),
        bytes_within (run_before at old part),
        bytes_within (run_behind part at old),
        used_without overhead at old part,
      )

  pub part_counted : (part : PartModel) (old : List RunModel) (outcome : Assembly) (new : List RunModel) → AddsPart part old outcome new → PartCounted part old outcome new
  part_counted part old outcome new adds = counted_at adds.at part old outcome new adds.adds
