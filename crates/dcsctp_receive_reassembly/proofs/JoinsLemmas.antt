-- Lemmas on a part and the runs that it joins.
use Rattle.std.proofs.Common.{◌≡◌, ℕ, zero, suc, Bool, true, false, ◌&&◌, if◌then◌else◌, List, map, Option, None, Some, refl, sym, ◌∙◌, ap, subst}
use Rattle.std.specs.Prelude.{slice_get, is_some}
use Rattle.std.specs.Option.{option_map}
use Rattle.std.specs.Ordering.{nat_cmp}
use Rattle.std.specs.BTreeMap.{is_at}
use Rattle.std.specs.Map.{lookup}
use Rattle.std.proofs.lemmas.List.{append-nil, take-append-drop}
use Rattle.dcsctp_receive_ordered_map.specs.Entries.{Ascends}
use Rattle.dcsctp_api.specs.spec.queues.Runs.{part_kept, message_whole, entry_before, chosen, RunModel, PartModel, IsRunPlace, is_held_before, AddsPart, is_whole, whole_run, run_with_part, with_part, without_runs, follows, precedes, following, preceding, run_before, run_behind}
use Rattle.dcsctp_receive_reassembly.specs.declared.joins.Joins.{Joins}
use Rattle.dcsctp_receive_reassembly.specs.declared.runs.Run.{Run}
use Rattle.dcsctp_receive_reassembly.specs.declared.runs.Whole.{Whole}
use Rattle.dcsctp_receive_reassembly.specs.Joins.{FindsJoins}
use Rattle.dcsctp_receive_reassembly.specs.Runs.{BeginsIf, IsRunBeginning, run_model, whole_of}
use Rattle.dcsctp_receive_reassembly.proofs.RunsLemmas.{AddsPart-kept, AddsPart-whole, begins_before, begins_behind, joins_where, run_before_none, run_behind_none}
use Rattle.dcsctp_receive_reassembly.proofs.RunMapLemmas.{looked_up, lookup_shows}

-- a run that is named is looked up
pub named_run : (first : Option ℕ) (place at : ℕ) (es : List (ℕ × Run)) (o : Option Run) → Ascends es → first ≡ Some place → o ≡ lookup (is_at (nat_cmp place)) es → BeginsIf first (slice_get (map run_model es) at) → option_map (λ (run : Run). run_model (place, run)) o ≡ chosen (is_some first) (slice_get (map run_model es) at)
named_run first place at es o ascends names looked begins = go o looked
  where
    here : IsRunBeginning place (slice_get (map run_model es) at)
    here = subst (λ (it : Option ℕ). BeginsIf it (slice_get (map run_model es) at)) names begins

    none_found : (o : Option Run) → o ≡ lookup (is_at (nat_cmp place)) es → is_some o ≡ false → ⊥
    none_found o looked none =
        let some : is_some o ≡ true = ap (λ (it : Option Run). is_some it) looked ∙ looked_up place at es ascends here in
        let no : true ≡ false = sym some ∙ none in
        cc

    go : (o : Option Run) → o ≡ lookup (is_at (nat_cmp place)) es → option_map (λ (run : Run). run_model (place, run)) o ≡ chosen (is_some first) (slice_get (map run_model es) at)
    go None looked = absurd (none_found None looked refl)
    go (Some run) looked =
        sym (lookup_shows place at run es ascends here (sym looked))
        ∙ ap (λ (it : Option ℕ). chosen (is_some it) (slice_get (map run_model es) at)) (sym names)

pub no_run : (first : Option ℕ) (o : Option RunModel) → first ≡ None → None ≡ chosen (is_some first) o
no_run first o none = ap (λ (it : Option ℕ). chosen (is_some it) o) (sym none)

chosen_following : (o : Option RunModel) (part : PartModel) → chosen (is_some (following o part)) o ≡ following o part
chosen_following None part = refl
chosen_following (Some run) part = go (follows run part)
  where
    go : (joins : Bool) → chosen (is_some (if joins then Some run else None)) (Some run) ≡ (if joins then Some run else None)
    go true = refl
    go false = refl

chosen_preceding : (o : Option RunModel) (part : PartModel) → chosen (is_some (preceding part o)) o ≡ preceding part o
chosen_preceding None part = refl
chosen_preceding (Some run) part = go (precedes part run)
  where
    go : (joins : Bool) → chosen (is_some (if joins then Some run else None)) (Some run) ≡ (if joins then Some run else None)
    go true = refl
    go false = refl

module _ (part : PartModel) (old : List RunModel) (joins : Joins) where
  pub before_begins : (at : ℕ) → FindsJoins at part old joins → BeginsIf joins.first (entry_before at old)
  before_begins at finds = begins_before (entry_before at old) part (run_before at old part) joins.first finds.first refl

  pub behind_begins : (at : ℕ) → FindsJoins at part old joins → BeginsIf joins.next (slice_get old at)
  behind_begins at finds = begins_behind (slice_get old at) part (run_behind part at old) joins.next finds.next refl

  -- the runs that are looked up are those that the part joins
  pub before_lent : (at : ℕ) (lent : Option RunModel) → FindsJoins at part old joins → ((k : ℕ) → BeginsIf joins.first (slice_get old k) → lent ≡ chosen (is_some joins.first) (slice_get old k)) → lent ≡ run_before at old part
  before_lent zero lent finds looks =
      looks zero (subst (λ (it : Option ℕ). BeginsIf it (slice_get old zero)) (sym finds.first) tt)
      ∙ ap (λ (it : Option ℕ). chosen (is_some it) (slice_get old zero)) finds.first
  before_lent (suc i) lent finds looks =
      looks i (before_begins (suc i) finds)
      ∙ ap (λ (joined : Bool). chosen joined (slice_get old i)) (joins_where (run_before (suc i) old part) joins.first finds.first)
      ∙ chosen_following (slice_get old i) part

  pub behind_lent : (at : ℕ) (lent : Option RunModel) → FindsJoins at part old joins → ((k : ℕ) → BeginsIf joins.next (slice_get old k) → lent ≡ chosen (is_some joins.next) (slice_get old k)) → lent ≡ run_behind part at old
  behind_lent at lent finds looks =
      looks at (behind_begins at finds)
      ∙ ap (λ (joined : Bool). chosen joined (slice_get old at)) (joins_where (run_behind part at old) joins.next finds.next)
      ∙ chosen_preceding (slice_get old at) part

  pub adds_kept : (at : ℕ) (new : List RunModel) (joins_before joins_behind : Bool) → IsRunPlace at part.place old → FindsJoins at part old joins → joins.is_whole ≡ false → is_some joins.first ≡ joins_before → is_some joins.next ≡ joins_behind → new ≡ with_part joins_before joins_behind at part old → AddsPart part old part_kept new
  adds_kept at new joins_before joins_behind place finds not_it first next kept =
      AddsPart-kept at part old new (run_before at old part) (run_behind part at old) joins_before joins_behind place finds.absent refl refl
      (sym first ∙ joins_where (run_before at old part) joins.first finds.first) (sym next ∙ joins_where (run_behind part at old) joins.next finds.next)
      (sym finds.whole ∙ not_it) kept

  pub adds_whole : (at : ℕ) (new : List RunModel) (before behind : Option RunModel) (whole : Whole) → IsRunPlace at part.place old → FindsJoins at part old joins → joins.is_whole ≡ true → before ≡ run_before at old part → behind ≡ run_behind part at old → whole_of whole ≡ whole_run (run_with_part before part behind) → new ≡ without_runs (is_some joins.first) (is_some joins.next) at old → AddsPart part old (message_whole (whole_of whole)) new
  adds_whole at new before behind whole place finds it before_is behind_is bytes left =
      AddsPart-whole at part old new before behind (is_some joins.first) (is_some joins.next) whole place finds.absent before_is behind_is
      (joins_where (run_before at old part) joins.first finds.first ∙ ap is_some (sym before_is)) (joins_where (run_behind part at old) joins.next finds.next ∙ ap is_some (sym behind_is))
      (ap (λ (o : Option RunModel). is_whole (run_with_part o part behind)) before_is ∙ ap (λ (o : Option RunModel). is_whole (run_with_part (run_before at old part) part o)) behind_is ∙ sym finds.whole ∙ it) bytes left

-- a message of one part
pub adds_alone : (at : ℕ) (part : PartModel) (old : List RunModel) (whole : Whole) → IsRunPlace at part.place old → is_held_before at old part.place ≡ false → part.is_beginning ≡ true → part.is_end ≡ true → whole_of whole ≡ record { number = part.number; ppid = part.ppid; payload = part.payload } → AddsPart part old (message_whole (whole_of whole)) old
adds_alone at part old whole place free begins ends is =
    AddsPart-whole at part old old None None false false whole place free (sym (run_before_none at old part begins)) (sym (run_behind_none at old part ends)) refl refl
    (ap (λ (test : Bool). test && part.is_end) begins ∙ ends)
    (is ∙ ap (λ (bytes : List ℕ). record { number = part.number; ppid = part.ppid; payload = bytes }) (sym (append-nil part.payload))) (sym (take-append-drop at old))
