-- Lemmas on runs of parts.
use Rattle.std.proofs.Common.{◌≡◌, ◌==◌, ℕ, ◌-◌, Bool, true, false, not, ◌&&◌, if◌then◌else◌, List, length, Option, None, Some, arith, refl, sym, ◌∙◌, ap, subst}
use Rattle.std.specs.Prelude.{slice_get, is_some}
use Rattle.std.specs.Option.{option_map}
use Rattle.std.proofs.lemmas.Bool.{and_left, and_right, not_from_true}
use Rattle.std.proofs.lemmas.List.{take-append-drop}
use Rattle.std.proofs.lemmas.Bool.Decides.{nat_tests}
use Rattle.dcsctp_api.specs.spec.queues.Runs.{part_dropped, part_kept, message_whole, entry_before, RunModel, PartModel, IsRunPlace, is_held_before, AddsPart, is_whole, whole_run, run_with_part, with_part, without_runs, follows, precedes, following, preceding, run_before, run_behind}
use Rattle.dcsctp_receive_reassembly.specs.declared.runs.Whole.{Whole}
use Rattle.dcsctp_receive_reassembly.specs.Runs.{BeginsIf, whole_of}

-- a beginning follows on nothing, and nothing follows on an end
not_following : (o : Option RunModel) (part : PartModel) → part.is_beginning ≡ true → following o part ≡ None
not_following None part begins = refl
not_following (Some run) part begins =
    let apart : follows run part ≡ false = and_right ((((part.place - run.first) == length run.payloads) && (run.number == part.number)) && not run.has_end) (not part.is_beginning) (not_from_true part.is_beginning begins) in
    ap (λ test. if test then Some run else None) apart

pub run_before_none : (at : ℕ) (runs : List RunModel) (part : PartModel) → part.is_beginning ≡ true → run_before at runs part ≡ None
run_before_none at runs part begins = not_following (entry_before at runs) part begins

not_preceding : (part : PartModel) (o : Option RunModel) → part.is_end ≡ true → preceding part o ≡ None
not_preceding part None ends = refl
not_preceding part (Some run) ends =
    let apart : precedes part run ≡ false = and_left ((((run.first - part.place) == 1) && (run.number == part.number)) && not part.is_end) (not run.has_beginning) (and_right (((run.first - part.place) == 1) && (run.number == part.number)) (not part.is_end) (not_from_true part.is_end ends)) in
    ap (λ test. if test then Some run else None) apart

pub run_behind_none : (at : ℕ) (runs : List RunModel) (part : PartModel) → part.is_end ≡ true → run_behind part at runs ≡ None
run_behind_none at runs part ends = not_preceding part (slice_get runs at) ends

-- a part that makes its message whole
pub AddsPart-whole : (at : ℕ) (part : PartModel) (old new : List RunModel) (before behind : Option RunModel) (joins_before joins_behind : Bool) (whole : Whole) → IsRunPlace at part.place old → is_held_before at old part.place ≡ false → before ≡ run_before at old part → behind ≡ run_behind part at old → joins_before ≡ is_some before → joins_behind ≡ is_some behind → is_whole (run_with_part before part behind) ≡ true → whole_of whole ≡ whole_run (run_with_part before part behind) → new ≡ without_runs joins_before joins_behind at old → AddsPart part old (message_whole (whole_of whole)) new
AddsPart-whole at part old new before behind joins_before joins_behind whole place new_here before_is behind_is joins joins' is_it bytes left =
    record {
      at = at;
      place = place;
      adds = (
        new_here,
        ap (λ run. is_whole (run_with_part run part (run_behind part at old))) (sym before_is) ∙ ap (λ run. is_whole (run_with_part before part run)) (sym behind_is) ∙ is_it,
        bytes ∙ ap (λ run. whole_run (run_with_part run part behind)) before_is ∙ ap (λ run. whole_run (run_with_part (run_before at old part) part run)) behind_is,
        left ∙ ap (λ joins. without_runs joins joins_behind at old) (joins ∙ ap is_some before_is) ∙ ap (λ joins. without_runs (is_some (run_before at old part)) joins at old) (joins' ∙ ap is_some behind_is),
      );
      alone = λ begins ends.
          let first : before ≡ None = before_is ∙ run_before_none at old part begins in
          let second : behind ≡ None = behind_is ∙ run_behind_none at old part ends in (
            left ∙ ap (λ joins. without_runs joins joins_behind at old) (joins ∙ ap is_some first) ∙ ap (λ joins. without_runs false joins at old) (joins' ∙ ap is_some second) ∙ take-append-drop at old,
            bytes ∙ ap (λ run. whole_run (run_with_part run part behind)) first ∙ ap (λ run. whole_run (run_with_part None part run)) second,
          );
    }

-- a part that is there already
pub AddsPart-dropped : (at : ℕ) (part : PartModel) (old : List RunModel) → IsRunPlace at part.place old → is_held_before at old part.place ≡ true → AddsPart part old part_dropped old
AddsPart-dropped at part old place held = record { at = at; place = place; adds = (held, refl); alone = λ begins ends. refl }

-- a part that is kept
pub AddsPart-kept : (at : ℕ) (part : PartModel) (old new : List RunModel) (before behind : Option RunModel) (joins_before joins_behind : Bool) → IsRunPlace at part.place old → is_held_before at old part.place ≡ false → before ≡ run_before at old part → behind ≡ run_behind part at old → joins_before ≡ is_some before → joins_behind ≡ is_some behind → is_whole (run_with_part before part behind) ≡ false → new ≡ with_part joins_before joins_behind at part old → AddsPart part old part_kept new
AddsPart-kept at part old new before behind joins_before joins_behind place new_here before_is behind_is joins joins' not_it kept =
    record {
      at = at;
      place = place;
      adds = (
        new_here,
        ap (λ run. is_whole (run_with_part run part (run_behind part at old))) (sym before_is) ∙ ap (λ run. is_whole (run_with_part before part run)) (sym behind_is) ∙ not_it,
        kept ∙ ap (λ joins. with_part joins joins_behind at part old) (joins ∙ ap is_some before_is) ∙ ap (λ joins. with_part (is_some (run_before at old part)) joins at part old) (joins' ∙ ap is_some behind_is),
      );
      alone = λ begins ends. go begins ends (before_is ∙ run_before_none at old part begins) (behind_is ∙ run_behind_none at old part ends);
    }
  where
    go : part.is_beginning ≡ true → part.is_end ≡ true → before ≡ None → behind ≡ None → ⊥
    go begins ends first second =
        let alone : is_whole (run_with_part None part None) ≡ false = ap (λ run. is_whole (run_with_part run part None)) (sym first) ∙ ap (λ run. is_whole (run_with_part before part run)) (sym second) ∙ not_it in
        let whole : is_whole (run_with_part None part None) ≡ true = ap (λ test. test && part.is_end) begins ∙ ends in
        absurd (cc)

-- ---- where the runs begin that join a part

pub begins_before : (o : Option RunModel) (part : PartModel) (before : Option RunModel) (first : Option ℕ) → first ≡ option_map (λ run. run.first) before → before ≡ following o part → BeginsIf first o
begins_before None part before first is from = subst (λ f. BeginsIf f None) (sym (is ∙ ap (λ b. option_map (λ run. run.first) b) from)) tt
begins_before (Some run) part before first is from = go (follows run part) refl
  where
    go : (test : Bool) → follows run part ≡ test → BeginsIf first (Some run)
    go true joins = subst (λ f. BeginsIf f (Some run)) (sym (is ∙ ap (λ b. option_map (λ run. run.first) b) (from ∙ ap (λ t. if t then Some run else None) joins))) refl
    go false apart = subst (λ f. BeginsIf f (Some run)) (sym (is ∙ ap (λ b. option_map (λ run. run.first) b) (from ∙ ap (λ t. if t then Some run else None) apart))) tt

pub begins_behind : (o : Option RunModel) (part : PartModel) (behind : Option RunModel) (next : Option ℕ) → next ≡ option_map (λ run. run.first) behind → behind ≡ preceding part o → BeginsIf next o
begins_behind None part behind next is from = subst (λ f. BeginsIf f None) (sym (is ∙ ap (λ b. option_map (λ run. run.first) b) from)) tt
begins_behind (Some run) part behind next is from = go (precedes part run) refl
  where
    go : (test : Bool) → precedes part run ≡ test → BeginsIf next (Some run)
    go true joins = subst (λ f. BeginsIf f (Some run)) (sym (is ∙ ap (λ b. option_map (λ run. run.first) b) (from ∙ ap (λ t. if t then Some run else None) joins))) refl
    go false apart = subst (λ f. BeginsIf f (Some run)) (sym (is ∙ ap (λ b. option_map (λ run. run.first) b) (from ∙ ap (λ t. if t then Some run else None) apart))) tt

pub joins_where : (o : Option RunModel) (first : Option ℕ) → first ≡ option_map (λ run. run.first) o → is_some first ≡ is_some o
joins_where None first is = ap is_some is
joins_where (Some run) first is = ap is_some is

-- ---- the number of a message

number_same : (front : RunModel) (part : PartModel) → follows front part ≡ true → front.number ≡ part.number
number_same front part is =
    grind (arith, nat_tests, is)

number-merged : (front : Option RunModel) (part : PartModel) (behind : Option RunModel) → (run_with_part (following front part) part behind).number ≡ part.number
number-merged None part None = refl
number-merged None part (Some back) = refl
number-merged (Some front) part behind = go (follows front part) refl behind
  where
    go : (test : Bool) → follows front part ≡ test → (behind : Option RunModel) → (run_with_part (if test then Some front else None) part behind).number ≡ part.number
    go true is None = number_same front part is
    go true is (Some back) = number_same front part is
    go false is None = refl
    go false is (Some back) = refl

pub IsOfMessage-whole : (at : ℕ) (part : PartModel) (old : List RunModel) (before behind : Option RunModel) (whole : Whole) → before ≡ run_before at old part → whole_of whole ≡ whole_run (run_with_part before part behind) → whole.number ≡ part.number
IsOfMessage-whole at part old before behind whole is bytes =
    ap (λ w. w.number) bytes ∙ ap (λ run. (run_with_part run part behind).number) is ∙ number-merged (entry_before at old) part behind
