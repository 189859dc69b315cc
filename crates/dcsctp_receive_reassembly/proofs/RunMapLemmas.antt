-- Lemmas on the runs of a map, by their positions.
use Rattle.std.proofs.Common.{◌≡◌, ℕ, zero, suc, ◌+◌, ◌-◌, ◌<◌, ◌≤◌, true, false, List, [], ◌∷◌, ◌++◌, if◌then◌else◌, length, map, take, drop, Option, None, Some, ◌⊎◌, inl, inr, arith, refl, sym, ◌∙◌, ap, subst}
use Rattle.std.specs.Prelude.{slice_get, IsSome, nat_le}
use Rattle.std.specs.Option.{option_map}
use Rattle.std.specs.Ordering.{nat_cmp, is_eq}
use Rattle.std.specs.BTreeMap.{BTreeMap, get, is_at, WritesThrough, UpdatesBy}
use Rattle.std.specs.Option.{option_copied_mut}
use denote.Ref.{MutBor}
use Rattle.std.specs.VecDeque.{deque_capacity}
use Rattle.std.proofs.Common.{Vec, Global}
use Rattle.std.specs.Map.{lookup, set_value, remove_entry}
use Rattle.std.proofs.lemmas.List.{map-append, take-map, drop-map, length-map}
use Rattle.std.proofs.lemmas.Bool.Decides.{nat_tests}
use Rattle.dcsctp_receive_ordered_map.specs.Entries.{Ascends, count_up_to, HasKey, Splits}
use Rattle.dcsctp_api.specs.spec.queues.Runs.{entry_before, RunModel, PartModel, holds, holds_some, is_held_before, single_run, run_with_part, with_part, without_runs, IsRunPlace, StartsUpTo, StartsBehind}
use Rattle.dcsctp_receive_ordered_map.proofs.EntryLemmas.{remove_at, set_at, lookup_at, find_key, lookup_split, get-map, entry_before-map, count_places, key_from_some, cmp_less, cmp_greater, get_behind_put, put_over_next, put_again, get_before_taken, link_next, ordered_at}
use Rattle.dcsctp_receive_reassembly.specs.declared.runs.Run.{Run}
use Rattle.dcsctp_receive_reassembly.specs.Runs.{run_model, IsRunBeginning, HasRoomInRun, HasRoomForRun, CanLink, CanLinkRuns}

pub found : (first i : ℕ) (es : List (ℕ × Run)) → IsRunBeginning first (slice_get (map run_model es) i) → (value : Run) × (slice_get es i ≡ Some (first, value))
found first i [] begins = absurd begins
found first zero (e ∷ es) begins = (e.1, ap (λ key. Some (key, e.1)) begins)
found first (suc i) (e ∷ es) begins = found first i es begins

-- a run that is taken out
pub removed_run : (first i : ℕ) (es : List (ℕ × Run)) → Ascends es → IsRunBeginning first (slice_get (map run_model es) i) → map run_model (remove_entry (is_at (nat_cmp first)) es) ≡ take i (map run_model es) ++ drop (suc i) (map run_model es)
removed_run first i es ascends begins =
    let there = found first i es begins in
    ap (λ all. map run_model all) (remove_at i first there.0 es ascends there.1) ∙ simp (map-append, take-map, drop-map)

-- a run that is written
pub written_run : (first i : ℕ) (w : Run) (es : List (ℕ × Run)) → Ascends es → IsRunBeginning first (slice_get (map run_model es) i) → map run_model (set_value (is_at (nat_cmp first)) es w) ≡ take i (map run_model es) ++ run_model (first, w) ∷ drop (suc i) (map run_model es)
written_run first i w es ascends begins =
    let there = found first i es begins in
    ap (λ all. map run_model all) (set_at i first there.0 w es ascends there.1) ∙ simp (map-append, take-map, drop-map)

-- a run that is looked up
pub looked_up : (first i : ℕ) (es : List (ℕ × Run)) → Ascends es → IsRunBeginning first (slice_get (map run_model es) i) → IsSome (lookup (is_at (nat_cmp first)) es)
looked_up first i es ascends begins =
    let there = found first i es begins in
    subst (λ o. IsSome o) (sym (lookup_at i first there.0 es ascends there.1)) refl

pub lookup_shows : (first i : ℕ) (run : Run) (es : List (ℕ × Run)) → Ascends es → IsRunBeginning first (slice_get (map run_model es) i) → lookup (is_at (nat_cmp first)) es ≡ Some run → slice_get (map run_model es) i ≡ Some (run_model (first, run))
lookup_shows first i run es ascends begins is =
    let there = found first i es begins in
    let same : Some there.0 ≡ Some run = sym (lookup_at i first there.0 es ascends there.1) ∙ is in
    get-map run_model i es ∙ ap (λ o. option_map run_model o) there.1 ∙ ap (λ o. option_map (λ (r : Run). run_model (first, r)) o) same

-- a run that is put
pub put_run : (at place : ℕ) (run : Run) (es new : List (ℕ × Run)) → new ≡ take at es ++ (place, run) ∷ drop at es → map run_model new ≡ take at (map run_model es) ++ run_model (place, run) ∷ drop at (map run_model es)
put_run at place run es new is = ap (λ all. map run_model all) is ∙ simp (map-append, take-map, drop-map)

-- a place that no run holds is no run's first
holds_first : (place : ℕ) (run : Run) → holds (run_model (place, run)) place ≡ true
holds_first place run = grind (arith, nat_tests)

pub absent : (place : ℕ) (es : List (ℕ × Run)) → Ascends es → is_held_before (count_up_to place es) (map run_model es) place ≡ false → lookup (is_at (nat_cmp place)) es ≡ None
absent place es ascends free = go (find_key place es ascends)
  where
    go : HasKey place es ⊎ Splits (count_up_to place es) place es → lookup (is_at (nat_cmp place)) es ≡ None
    go (inr splits) = lookup_split (count_up_to place es) place es splits
    go (inl key) =
        let run : entry_before (count_up_to place es) (map run_model es) ≡ Some (run_model (place, key.value)) =
        ap (λ at. entry_before at (map run_model es)) key.count ∙ get-map run_model key.index es ∙ ap (λ o. option_map run_model o) key.is in
        let held : is_held_before (count_up_to place es) (map run_model es) place ≡ true = ap (λ o. holds_some o place) run ∙ holds_first place key.value in
        absurd (cc)

-- how many runs begin up to a place is seen of the models
pub count_same : (place : ℕ) (es fs : List (ℕ × Run)) → map run_model es ≡ map run_model fs → count_up_to place es ≡ count_up_to place fs
count_same place es fs same = sym (count_models place es) ∙ ap (λ runs. counted place runs) same ∙ count_models place fs
  where
    counted : ℕ → List RunModel → ℕ
    counted place [] = 0
    counted place (run ∷ runs) = if nat_le run.first place then suc (counted place runs) else 0

    count_models : (place : ℕ) (es : List (ℕ × Run)) → counted place (map run_model es) ≡ count_up_to place es
    count_models place [] = refl
    count_models place (e ∷ es) = ap (λ n. if nat_le e.0 place then suc n else 0) (count_models place es)

-- the place of a part among the runs
starts_up_to : (place : ℕ) (o : Option (ℕ × Run)) → ((e : ℕ × Run) → o ≡ Some e → e.0 ≤ place) → StartsUpTo place (option_map run_model o)
starts_up_to place None up = tt
starts_up_to place (Some e) up = up e refl

starts_behind : (place : ℕ) (o : Option (ℕ × Run)) → ((e : ℕ × Run) → o ≡ Some e → place < e.0) → StartsBehind place (option_map run_model o)
starts_behind place None behind = tt
starts_behind place (Some e) behind = behind e refl

pub placed : (place : ℕ) (es : List (ℕ × Run)) → Ascends es → IsRunPlace (count_up_to place es) place (map run_model es)
placed place es ascends =
    let places = count_places place es ascends in
    record {
      within = omega (arith, places.within, length-map es run_model);
      before = subst (λ o. StartsUpTo place o) (sym (entry_before-map run_model (count_up_to place es) es)) (starts_up_to place (entry_before (count_up_to place es) es) places.before);
      behind = subst (λ o. StartsBehind place o) (sym (get-map run_model (count_up_to place es) es)) (starts_behind place (slice_get es (count_up_to place es)) places.behind);
    }

-- ---- the run before a place

less : (i : ℕ) → i ≡ suc i - 1
less i = omega arith

pub lent_some : (lent : Option (MutBor Run)) → IsSome (option_copied_mut lent) → IsSome lent
lent_some None is = is
lent_some (Some run) is = is

pub before_some : (at first : ℕ) (runs : BTreeMap ℕ Run) (lent : Option (MutBor Run)) → Ascends runs.entries → IsRunBeginning first (entry_before at (map run_model runs.entries)) → option_copied_mut lent ≡ get nat_cmp runs first → IsSome lent
before_some zero first runs lent ascends begins lends = absurd begins
before_some (suc i) first runs lent ascends begins lends = lent_some lent (subst (λ o. IsSome o) (sym lends) (looked_up first i runs.entries ascends begins))

pub written_before : (at first : ℕ) (part : PartModel) (old new : BTreeMap ℕ Run) (before after : Run) → Ascends old.entries → IsRunBeginning first (entry_before at (map run_model old.entries)) → get nat_cmp old first ≡ Some before → WritesThrough nat_cmp (nat_cmp first) old after new → run_model (first, after) ≡ run_with_part (Some (run_model (first, before))) part None → map run_model new.entries ≡ with_part true false at part (map run_model old.entries)
written_before zero first part old new before after ascends begins is writes made = absurd begins
written_before (suc i) first part old new before after ascends begins is writes made =
    ap (λ all. map run_model all) writes.0
    ∙ written_run first i after old.entries ascends begins
    ∙ ap (λ run. take i (map run_model old.entries) ++ run ∷ drop (suc i) (map run_model old.entries)) (made ∙ ap (λ o. run_with_part o part None) (sym (lookup_shows first i before old.entries ascends begins is)))
    ∙ ap (λ place. take place (map run_model old.entries) ++ run_with_part (slice_get (map run_model old.entries) i) part None ∷ drop (suc i) (map run_model old.entries)) (less i)

-- a run that is written and reads as before leaves the models
pub written_same : (first : ℕ) (old new : BTreeMap ℕ Run) (before after : Run) → Ascends old.entries → get nat_cmp old first ≡ Some before → WritesThrough nat_cmp (nat_cmp first) old after new → run_model (first, after) ≡ run_model (first, before) → map run_model new.entries ≡ map run_model old.entries
written_same first old new before after ascends is writes same =
    let key = key_from_some first before old.entries ascends is in
    let split : map run_model (take key.0 old.entries ++ (first, after) ∷ drop (suc key.0) old.entries) ≡ take key.0 (map run_model old.entries) ++ run_model (first, after) ∷ drop (suc key.0) (map run_model old.entries) = simp (map-append, take-map, drop-map) in
    ap (λ all. map run_model all) (writes.0 ∙ set_at key.0 first before after old.entries ascends key.1)
    ∙ split
    ∙ ap (λ run. take key.0 (map run_model old.entries) ++ run ∷ drop (suc key.0) (map run_model old.entries)) same
    ∙ put_back key.0 (run_model (first, before)) (map run_model old.entries) (get-map run_model key.0 old.entries ∙ ap (λ o. option_map run_model o) key.1)
  where
    put_back : (i : ℕ) (run : RunModel) (runs : List RunModel) → slice_get runs i ≡ Some run → take i runs ++ run ∷ drop (suc i) runs ≡ runs
    put_back i run [] is = absurd (cc)
    put_back zero run (first ∷ runs) is = let same : first ≡ run = cc in ap (λ r. r ∷ runs) (sym same)
    put_back (suc i) run (first ∷ runs) is = ap (λ rest. first ∷ rest) (put_back i run runs is)

pub written_found : (first : ℕ) (old new : BTreeMap ℕ Run) (after : Run) → IsSome (get nat_cmp old first) → WritesThrough nat_cmp (nat_cmp first) old after new → get nat_cmp new first ≡ Some after
written_found first old new after there writes = (writes.3 there).1

-- ---- a part that goes between or before runs

cmp_below : (k j : ℕ) → k < j → is_at (nat_cmp k) j ≡ false
cmp_below k j less = ap is_eq (cmp_less k j less)

cmp_above : (k j : ℕ) → j < k → is_at (nat_cmp k) j ≡ false
cmp_above k j more = ap is_eq (cmp_greater k j more)

get_here : (at : ℕ) (run : RunModel) (runs rest : List RunModel) → at ≤ length runs → slice_get (take at runs ++ run ∷ rest) at ≡ Some run
get_here zero run runs rest within = refl
get_here (suc at) run [] rest within = absurd (omega arith)
get_here (suc at) run (first ∷ runs) rest within = get_here at run runs rest (omega arith)

within_some : (first at : ℕ) (runs : List RunModel) → IsRunBeginning first (slice_get runs at) → at < length runs
within_some first at [] begins = absurd begins
within_some first zero (run ∷ runs) begins = omega arith
within_some first (suc at) (run ∷ runs) begins = omega (arith, within_some first at runs begins)

-- the next run begins after the place
pub next_behind : (place next : ℕ) (es : List (ℕ × Run)) → Ascends es → IsRunBeginning next (slice_get (map run_model es) (count_up_to place es)) → place < next
next_behind place next es ascends begins =
    let there = found next (count_up_to place es) es begins in
    (count_places place es ascends).behind (next, there.0) there.1

-- The part was put in front of the next run, whose place is this.
pub record FrontOf (at next : ℕ) (part : PartModel) (runs : List RunModel) (es : List (ℕ × Run)) : Type 0 where
  pub begins : IsRunBeginning next (slice_get runs at)
  pub put : map run_model es ≡ with_part false false at part runs
  pub ascends : Ascends es

pub front_of : (next : ℕ) (part : PartModel) (es fs gs : List (ℕ × Run)) → IsRunBeginning next (slice_get (map run_model es) (count_up_to part.place es)) → map run_model fs ≡ map run_model es → map run_model gs ≡ with_part false false (count_up_to part.place fs) part (map run_model fs) → Ascends gs → FrontOf (count_up_to part.place es) next part (map run_model es) gs
front_of next part es fs gs begins same put ascends =
    record {
      begins = begins;
      put = put ∙ ap (λ at. with_part false false at part (map run_model fs)) (count_same part.place fs es same) ∙ ap (λ all. with_part false false (count_up_to part.place es) part all) same;
      ascends = ascends;
    }

pub next_begins : (at next : ℕ) (part : PartModel) (runs : List RunModel) (es : List (ℕ × Run)) → FrontOf at next part runs es → IsRunBeginning next (slice_get (map run_model es) (suc at))
next_begins at next part runs es front =
    subst (λ o. IsRunBeginning next o) (sym (ap (λ all. slice_get all (suc at)) front.put ∙ get_behind_put at (single_run part) runs (omega (arith, within_some next at runs front.begins)))) front.begins

-- the next run is taken out
pub next_left : (at next : ℕ) (part : PartModel) (runs : List RunModel) (es fs : List (ℕ × Run)) → FrontOf at next part runs es → fs ≡ remove_entry (is_at (nat_cmp next)) es → map run_model fs ≡ take at runs ++ single_run part ∷ drop (suc at) runs
next_left at next part runs es fs front left =
    ap (λ all. map run_model all) left
    ∙ removed_run next (suc at) es front.ascends (next_begins at next part runs es front)
    ∙ ap (λ all. take (suc at) all ++ drop (suc (suc at)) all) front.put
    ∙ put_over_next at (single_run part) runs (omega (arith, within_some next at runs front.begins))

pub part_begins : (at next : ℕ) (part : PartModel) (runs : List RunModel) (es fs : List (ℕ × Run)) → FrontOf at next part runs es → fs ≡ remove_entry (is_at (nat_cmp next)) es → IsRunBeginning part.place (slice_get (map run_model fs) at)
part_begins at next part runs es fs front left =
    subst (λ o. IsRunBeginning part.place o) (sym (ap (λ all. slice_get all at) (next_left at next part runs es fs front left) ∙ get_here at (single_run part) runs (drop (suc at) runs) (omega (arith, within_some next at runs front.begins)))) refl

-- the run of the part alone
pub part_shown : (at next : ℕ) (part : PartModel) (single : Run) (runs : List RunModel) (es fs : List (ℕ × Run)) → FrontOf at next part runs es → fs ≡ remove_entry (is_at (nat_cmp next)) es → Ascends fs → lookup (is_at (nat_cmp part.place)) fs ≡ Some single → run_model (part.place, single) ≡ single_run part
part_shown at next part single runs es fs front left ascends is =
    let shown : Some (run_model (part.place, single)) ≡ Some (single_run part) = sym (lookup_shows part.place at single fs ascends (part_begins at next part runs es fs front left) is) ∙ ap (λ all. slice_get all at) (next_left at next part runs es fs front left) ∙ get_here at (single_run part) runs (drop (suc at) runs) (omega (arith, within_some next at runs front.begins)) in
    cc

-- it takes the next one over
pub kept_behind : (at next : ℕ) (part : PartModel) (behind after : Run) (runs : List RunModel) (es : List (ℕ × Run)) (old new : BTreeMap ℕ Run) → FrontOf at next part runs es → lookup (is_at (nat_cmp next)) es ≡ Some behind → old.entries ≡ remove_entry (is_at (nat_cmp next)) es → Ascends old.entries → WritesThrough nat_cmp (nat_cmp part.place) old after new → run_model (part.place, after) ≡ run_with_part None part (Some (run_model (next, behind))) → map run_model new.entries ≡ with_part false true at part runs
kept_behind at next part behind after runs es old new front is left ascends writes made =
    let next_is : Some (run_model (next, behind)) ≡ slice_get runs at = sym (lookup_shows next (suc at) behind es front.ascends (next_begins at next part runs es front) is) ∙ ap (λ all. slice_get all (suc at)) front.put ∙ get_behind_put at (single_run part) runs (omega (arith, within_some next at runs front.begins)) in
    ap (λ all. map run_model all) writes.0
    ∙ written_run part.place at after old.entries ascends (part_begins at next part runs es old.entries front left)
    ∙ ap (λ all. take at all ++ run_model (part.place, after) ∷ drop (suc at) all) (next_left at next part runs es old.entries front left)
    ∙ put_again at (single_run part) (run_model (part.place, after)) runs (drop (suc at) runs) (omega (arith, within_some next at runs front.begins))
    ∙ ap (λ run. take at runs ++ run ∷ drop (suc at) runs) (made ∙ ap (λ o. run_with_part None part o) next_is)

-- The next run, after the one at `first`, was taken out.
pub record NextTaken (at first next : ℕ) (runs : List RunModel) (es fs : List (ℕ × Run)) : Type 0 where
  pub before : IsRunBeginning first (entry_before at runs)
  pub behind : IsRunBeginning next (slice_get runs at)
  pub shows : map run_model es ≡ runs
  pub ascends : Ascends es
  pub left : fs ≡ remove_entry (is_at (nat_cmp next)) es
  pub ascends' : Ascends fs

taken_models : (at first next : ℕ) (runs : List RunModel) (es fs : List (ℕ × Run)) → NextTaken at first next runs es fs → map run_model fs ≡ take at runs ++ drop (suc at) runs
taken_models at first next runs es fs taken =
    ap (λ all. map run_model all) taken.left
    ∙ removed_run next at es taken.ascends (subst (λ all. IsRunBeginning next (slice_get all at)) (sym taken.shows) taken.behind)
    ∙ ap (λ all. take at all ++ drop (suc at) all) taken.shows

taken_before : (at first next : ℕ) (runs : List RunModel) (es fs : List (ℕ × Run)) → NextTaken at first next runs es fs → entry_before at (map run_model fs) ≡ entry_before at runs
taken_before zero first next runs es fs taken = refl
taken_before (suc i) first next runs es fs taken =
    ap (λ all. slice_get all i) (taken_models (suc i) first next runs es fs taken)
    ∙ get_before_taken i runs (within_some next (suc i) runs taken.behind)

pub first_looked_up : (at first next : ℕ) (runs : List RunModel) (es fs : List (ℕ × Run)) → NextTaken at first next runs es fs → IsSome (lookup (is_at (nat_cmp first)) fs)
first_looked_up zero first next runs es fs taken = absurd taken.before
first_looked_up (suc i) first next runs es fs taken =
    looked_up first i fs taken.ascends' (subst (λ o. IsRunBeginning first o) (sym (taken_before (suc i) first next runs es fs taken)) taken.before)

pub kept_between : (at first next : ℕ) (part : PartModel) (before behind after : Run) (runs : List RunModel) (es : List (ℕ × Run)) (old new : BTreeMap ℕ Run) → NextTaken at first next runs es old.entries → lookup (is_at (nat_cmp next)) es ≡ Some behind → get nat_cmp old first ≡ Some before → WritesThrough nat_cmp (nat_cmp first) old after new → run_model (first, after) ≡ run_with_part (Some (run_model (first, before))) part (Some (run_model (next, behind))) → map run_model new.entries ≡ with_part true true at part runs
kept_between zero first next part before behind after runs es old new taken is is' writes made = absurd taken.before
kept_between (suc i) first next part before behind after runs es old new taken is is' writes made =
    let here : IsRunBeginning first (slice_get (map run_model old.entries) i) = subst (λ o. IsRunBeginning first o) (sym (taken_before (suc i) first next runs es old.entries taken)) taken.before in
    let first_is : Some (run_model (first, before)) ≡ slice_get runs i = sym (lookup_shows first i before old.entries taken.ascends' here is') ∙ taken_before (suc i) first next runs es old.entries taken in
    let next_is : Some (run_model (next, behind)) ≡ slice_get runs (suc i) = sym (lookup_shows next (suc i) behind es taken.ascends (subst (λ all. IsRunBeginning next (slice_get all (suc i))) (sym taken.shows) taken.behind) is) ∙ ap (λ all. slice_get all (suc i)) taken.shows in
    ap (λ all. map run_model all) writes.0
    ∙ written_run first i after old.entries taken.ascends' here
    ∙ ap (λ all. take i all ++ run_model (first, after) ∷ drop (suc i) all) (taken_models (suc i) first next runs es old.entries taken)
    ∙ link_next i (run_model (first, after)) runs (within_some next (suc i) runs taken.behind)
    ∙ ap (λ run. take i runs ++ run ∷ drop (suc (suc i)) runs) (made ∙ ap (λ o. run_with_part o part (Some (run_model (next, behind)))) first_is ∙ ap (λ o. run_with_part (slice_get runs i) part o) next_is)
    ∙ ap (λ place. take place runs ++ run_with_part (slice_get runs i) part (slice_get runs (suc i)) ∷ drop (suc (suc i)) runs) (less i)

-- two runs that read alike have as many parts
as_long : (first : ℕ) (run other : Run) (es fs : List (ℕ × Run)) → Ascends es → Ascends fs → map run_model fs ≡ map run_model es → lookup (is_at (nat_cmp first)) es ≡ Some run → lookup (is_at (nat_cmp first)) fs ≡ Some other → length run.others.items ≡ length other.others.items
as_long first run other es fs ascends ascends' same is is' =
    let key = key_from_some first run es ascends is in
    let here : slice_get (map run_model es) key.0 ≡ Some (run_model (first, run)) = get-map run_model key.0 es ∙ ap (λ o. option_map run_model o) key.1 in
    let begins : IsRunBeginning first (slice_get (map run_model fs) key.0) = subst (λ o. IsRunBeginning first o) (sym here ∙ ap (λ all. slice_get all key.0) (sym same)) refl in
    let models : Some (run_model (first, run)) ≡ Some (run_model (first, other)) = sym here ∙ ap (λ all. slice_get all key.0) (sym same) ∙ lookup_shows first key.0 other fs ascends' begins is' in
    let lengths : suc (length (map (λ (payload : Vec ℕ Global). payload.items) run.others.items)) ≡ suc (length (map (λ (payload : Vec ℕ Global). payload.items) other.others.items)) = ap (λ o. parts_of o) models in
    omega (arith, lengths, length-map run.others.items (λ (payload : Vec ℕ Global). payload.items), length-map other.others.items (λ (payload : Vec ℕ Global). payload.items))
  where
    parts_of : Option RunModel → ℕ
    parts_of None = 0
    parts_of (Some run) = length run.payloads

room_in : (count : ℕ) (o : Option Run) (run : Run) → HasRoomInRun count o → o ≡ Some run → length run.others.items + count ≤ deque_capacity run.others
room_in count o run room is = subst (λ o. HasRoomInRun count o) is room

-- there is room in the longer of two runs, the one in front or the one after it
pub room_in_front : (first next : ℕ) (front back : Run) (old new : BTreeMap ℕ Run) → Ascends old.entries → Ascends new.entries → map run_model new.entries ≡ map run_model old.entries → get nat_cmp old first ≡ Some front → get nat_cmp old next ≡ Some back → length back.others.items ≤ length front.others.items → HasRoomForRun first (length back.others.items + 2) new → CanLinkRuns first next new
room_in_front first next front back old new ascends ascends' same is is' shorter room = λ front' back' there there'.
    let fronts = as_long first front front' old.entries new.entries ascends ascends' same is there in
    let backs = as_long next back back' old.entries new.entries ascends ascends' same is' there' in
    let here = room_in (length back.others.items + 2) (get nat_cmp new first) front' room there in
    (λ (fits : length back'.others.items ≤ length front'.others.items). omega (arith, fronts, backs, here), λ (more : length front'.others.items < length back'.others.items). absurd (omega (arith, fronts, backs, shorter, more)))

pub room_in_back : (first next : ℕ) (front back : Run) (old new : BTreeMap ℕ Run) → Ascends old.entries → Ascends new.entries → map run_model new.entries ≡ map run_model old.entries → get nat_cmp old first ≡ Some front → get nat_cmp old next ≡ Some back → length front.others.items < length back.others.items → HasRoomForRun next (length front.others.items + 2) new → CanLinkRuns first next new
room_in_back first next front back old new ascends ascends' same is is' shorter room = λ front' back' there there'.
    let fronts = as_long first front front' old.entries new.entries ascends ascends' same is there in
    let backs = as_long next back back' old.entries new.entries ascends ascends' same is' there' in
    let here = room_in (length front.others.items + 2) (get nat_cmp new next) back' room there' in
    (λ (fits : length back'.others.items ≤ length front'.others.items). absurd (omega (arith, fronts, backs, shorter, fits)), λ (more : length front'.others.items < length back'.others.items). omega (arith, fronts, backs, here))

-- ---- runs that are taken out

take_pair : (i : ℕ) (runs : List RunModel) → take i (take (suc i) runs ++ drop (suc (suc i)) runs) ++ drop (suc i) (take (suc i) runs ++ drop (suc (suc i)) runs) ≡ take i runs ++ drop (suc (suc i)) runs
take_pair i [] = refl
take_pair zero (run ∷ runs) = refl
take_pair (suc i) (run ∷ runs) = ap (λ rest. run ∷ rest) (take_pair i runs)

pub taken_both : (at first next : ℕ) (runs : List RunModel) (es fs gs : List (ℕ × Run)) → NextTaken at first next runs es fs → gs ≡ remove_entry (is_at (nat_cmp first)) fs → map run_model gs ≡ without_runs true true at runs
taken_both zero first next runs es fs gs taken left = absurd taken.before
taken_both (suc i) first next runs es fs gs taken left =
    ap (λ all. map run_model all) left
    ∙ removed_run first i fs taken.ascends' (subst (λ o. IsRunBeginning first o) (sym (taken_before (suc i) first next runs es fs taken)) taken.before)
    ∙ ap (λ all. take i all ++ drop (suc i) all) (taken_models (suc i) first next runs es fs taken)
    ∙ take_pair i runs
    ∙ ap (λ place. take place runs ++ drop (suc (suc i)) runs) (less i)

pub taken_first : (at first : ℕ) (es fs : List (ℕ × Run)) → Ascends es → IsRunBeginning first (entry_before at (map run_model es)) → fs ≡ remove_entry (is_at (nat_cmp first)) es → map run_model fs ≡ without_runs true false at (map run_model es)
taken_first zero first es fs ascends begins left = absurd begins
taken_first (suc i) first es fs ascends begins left =
    ap (λ all. map run_model all) left ∙ removed_run first i es ascends begins
    ∙ ap (λ place. take place (map run_model es) ++ drop (suc i) (map run_model es)) (less i)

pub taken_next : (at next : ℕ) (es fs : List (ℕ × Run)) → Ascends es → IsRunBeginning next (slice_get (map run_model es) at) → fs ≡ remove_entry (is_at (nat_cmp next)) es → map run_model fs ≡ without_runs false true at (map run_model es)
taken_next at next es fs ascends begins left = ap (λ all. map run_model all) left ∙ removed_run next at es ascends begins

-- the run at a key has room still once another key was put
pub room_left : (count place next : ℕ) (old new : BTreeMap ℕ Run) (run : Run) → place < next → HasRoomForRun next count old → ((other : ℕ) → is_at (nat_cmp place) other ≡ false → get nat_cmp new other ≡ get nat_cmp old other) → get nat_cmp new next ≡ Some run → length run.others.items + count ≤ deque_capacity run.others
room_left count place next old new run less room others is =
    room_in count (get nat_cmp old next) run room (sym (others next (cmp_below place next less)) ∙ is)

pub before_looked_up : (at first : ℕ) (es : List (ℕ × Run)) → Ascends es → IsRunBeginning first (entry_before at (map run_model es)) → IsSome (lookup (is_at (nat_cmp first)) es)
before_looked_up zero first es ascends begins = absurd begins
before_looked_up (suc i) first es ascends begins = looked_up first i es ascends begins

-- the places of the runs on both sides differ
pub sides_apart : (place at first next : ℕ) (es : List (ℕ × Run)) → Ascends es → at ≡ count_up_to place es → IsRunBeginning first (entry_before at (map run_model es)) → IsRunBeginning next (slice_get (map run_model es) at) → first < next
sides_apart place zero first next es ascends is before behind = absurd before
sides_apart place (suc i) first next es ascends is before behind =
    let front = found first i es before in
    let back = found next (suc i) es behind in
    ordered_at es ascends i (first, front.0) (next, back.0) front.1 back.1

-- the two runs can be linked still once the next one was taken out
pub links_after : (first next : ℕ) (old new : BTreeMap ℕ Run) (front back : Run) → first < next → CanLinkRuns first next old → UpdatesBy nat_cmp (nat_cmp next) old new None → get nat_cmp old next ≡ Some back → get nat_cmp new first ≡ Some front → CanLink front back
links_after first next old new front back less room updates is is' =
    room front back (sym (updates.2 first (cmp_above next first less)) ∙ is') is
