-- Lemmas on ranges of numbers as the entries of a map, by their positions.
use Rattle.std.proofs.Common.{◌≡◌, ℕ, zero, suc, ◌+◌, ◌<◌, ◌≤◌, true, false, Bool, cond, List, [], ◌∷◌, ◌++◌, length, map, take, drop, Option, None, Some, ◌⊎◌, inl, inr, arith, refl, sym, ◌∙◌, ap, subst}
use Rattle.std.specs.Prelude.{slice_get}
use Rattle.std.specs.Option.{option_map}
use Rattle.std.specs.Map.{lookup, remove_entry, set_value}
use Rattle.std.specs.Ordering.{nat_cmp}
use Rattle.std.specs.BTreeMap.{insert_entry, is_at}
use Rattle.std.proofs.lemmas.List.{take-map, drop-map, map-append}
use Rattle.dcsctp_receive_ordered_map.specs.Entries.{Ascends, count_up_to, Splits, HasKey}
use Rattle.dcsctp_spec_lemmas.specs.spec.queues.Runs.{entry_before}
use Rattle.dcsctp_receive_ordered_map.proofs.EntryLemmas.{count_within, behind_count, count_places, next_from_some, next_from_none, insert_at, set_at, remove_at, find_key, get-map, entry_before-map}
use Rattle.dcsctp_spec_lemmas.specs.types.declared.tracking.TsnRange.{TsnRange}
use Rattle.dcsctp_receive_tracker.specs.Received.{range_of, Removes, Joins, AddsToRanges}
use Rattle.dcsctp_spec_lemmas.specs.spec.queues.Ranges.{IsBeyond, is_number_covered}
use Rattle.dcsctp_receive_tracker.proofs.ReceivedLemmas.{end_of, drop-at, IsBeyond-drop, IsBeyond-rest, IsBeyond-later, end_of-before, is_number_covered-below, is_number_covered-neither, is_number_covered-at, Adds-alone, Adds-earlier, Adds-later, Adds-between}
use Rattle.dcsctp_receive_tracker.proofs.NeighborLemmas.{entry_of}

-- ---- one entry written, and the next one taken out

get_behind : {X : Type 0} (i : ℕ) (e : X) (xs ys : List X) → i ≤ length xs → slice_get (take i xs ++ e ∷ ys) (suc i) ≡ slice_get ys 0
get_behind zero e xs ys within = refl
get_behind (suc i) e [] ys within = absurd (omega arith)
get_behind (suc i) e (x ∷ xs) ys within = get_behind i e xs ys (omega arith)

take_behind : {X : Type 0} (i : ℕ) (e : X) (xs ys : List X) → i ≤ length xs → take (suc i) (take i xs ++ e ∷ ys) ++ drop (suc (suc i)) (take i xs ++ e ∷ ys) ≡ take i xs ++ e ∷ drop 1 ys
take_behind zero e xs ys within = refl
take_behind (suc i) e [] ys within = absurd (omega arith)
take_behind (suc i) e (x ∷ xs) ys within = ap (λ rest. x ∷ rest) (take_behind i e xs ys (omega arith))

-- ---- a range that is written

-- a range is written, and the entry of the one after the number removed
pub joins_behind : (written : ℕ → List (ℕ × ℕ)) (number : ℕ) (behind : Option TsnRange) (next : TsnRange) (mid new : List (ℕ × ℕ)) → behind ≡ Some next → mid ≡ written next.last → Ascends mid → new ≡ remove_entry (is_at (nat_cmp next.first)) mid → Joins written number behind new
joins_behind written number behind next mid new is wrote sorted removed =
    subst (λ (b : Option TsnRange). Joins written number b new) (sym is)
    (subst (λ (es : List (ℕ × ℕ)). Removes next.first es new) wrote (λ i last at. removed ∙ remove_at i next.first last mid sorted at))

-- a value that is set at a key that isn't there
pub set_nothing : (key last : ℕ) (es : List (ℕ × ℕ)) → lookup (is_at (nat_cmp key)) es ≡ None → es ≡ set_value (is_at (nat_cmp key)) es last
set_nothing key last [] none = refl
set_nothing key last (e ∷ es) none = go (is_at (nat_cmp key) e.0) none (λ none. set_nothing key last es none)
  where
    go : (b : Bool) → cond b (Some e.1) (lookup (is_at (nat_cmp key)) es) ≡ None → (lookup (is_at (nat_cmp key)) es ≡ None → es ≡ set_value (is_at (nat_cmp key)) es last) → e ∷ es ≡ cond b ((e.0, last) ∷ es) (e ∷ set_value (is_at (nat_cmp key)) es last)
    go true some rest = absurd (cc)
    go false none rest = ap (λ (fs : List (ℕ × ℕ)). e ∷ fs) (rest none)

-- the entries where a range was written at a place
abbrev joined : ℕ → ℕ → ℕ → ℕ → Option TsnRange → List (ℕ × ℕ) → List (ℕ × ℕ)
joined i j first number None es = take i es ++ (first, number) ∷ drop j es
joined i j first number (Some next) es = take i es ++ (first, next.last) ∷ drop (suc j) es

joined_at : (i j first number : ℕ) (written : ℕ → List (ℕ × ℕ)) (behind : Option TsnRange) (es new : List (ℕ × ℕ)) → i ≤ length es → ((last : ℕ) → written last ≡ take i es ++ (first, last) ∷ drop j es) → ((next : TsnRange) → behind ≡ Some next → slice_get es j ≡ Some (next.first, next.last)) → Joins written number behind new → new ≡ joined i j first number behind es
joined_at i j first number written None es new within writes is joins = joins ∙ writes number
joined_at i j first number written (Some next) es new within writes is joins =
    let rest : drop j es ≡ (next.first, next.last) ∷ drop (suc j) es = drop-at j es (next.first, next.last) (is next refl) in
    let found : slice_get (written next.last) (suc i) ≡ Some (next.first, next.last) =
    ap (λ (fs : List (ℕ × ℕ)). slice_get fs (suc i)) (writes next.last)
    ∙ get_behind i (first, next.last) es (drop j es) within
    ∙ ap (λ (fs : List (ℕ × ℕ)). slice_get fs 0) rest in
    joins (suc i) next.last found
    ∙ ap (λ (fs : List (ℕ × ℕ)). take (suc i) fs ++ drop (suc (suc i)) fs) (writes next.last)
    ∙ take_behind i (first, next.last) es (drop j es) within
    ∙ ap (λ (fs : List (ℕ × ℕ)). take i es ++ (first, next.last) ∷ drop 1 fs) rest

ranges_at : (i j : ℕ) (e : ℕ × ℕ) (es : List (ℕ × ℕ)) → map range_of (take i es ++ e ∷ drop j es) ≡ take i (map range_of es) ++ range_of e ∷ drop j (map range_of es)
ranges_at i j e es =
    map-append range_of (take i es) (e ∷ drop j es)
    ∙ ap (λ (front : List TsnRange). front ++ range_of e ∷ map range_of (drop j es)) (sym (take-map range_of i es))
    ∙ ap (λ (back : List TsnRange). take i (map range_of es) ++ range_of e ∷ back) (sym (drop-map range_of j es))

-- ---- entries as ranges

range_at : (i : ℕ) (e : ℕ × ℕ) (es : List (ℕ × ℕ)) → slice_get es i ≡ Some e → slice_get (map range_of es) i ≡ Some (range_of e)
range_at i e es is = get-map range_of i es ∙ ap (λ (found : Option (ℕ × ℕ)). option_map range_of found) is

get_drop : {X : Type 0} (at : ℕ) (es : List X) → slice_get (drop at es) 0 ≡ slice_get es at
get_drop zero es = refl
get_drop (suc at) [] = refl
get_drop (suc at) (e ∷ es) = get_drop at es

same_length : (es : List (ℕ × ℕ)) → length (map range_of es) ≡ length es
same_length [] = refl
same_length (e ∷ es) = ap suc (same_length es)

module _ (from number : ℕ) (es : List (ℕ × ℕ)) (sorted : Ascends es) (ordered : IsBeyond from (map range_of es)) where
  -- the entries that begin at the number or before it
  abbrev at : ℕ
  at = count_up_to number es

  abbrev ranges : List TsnRange
  ranges = map range_of es

  -- an entry's numbers ascend
  filled : (i : ℕ) (e : ℕ × ℕ) → slice_get es i ≡ Some e → e.0 ≤ e.1
  filled i e is = (IsBeyond-rest from i ranges (range_of e) (drop (suc i) ranges) ordered (drop-at i ranges (range_of e) (range_at i e es is))).1

  -- the first range after the number
  first_behind : (range : TsnRange) → slice_get (drop at ranges) 0 ≡ Some range → slice_get es at ≡ Some (range.first, range.last)
  first_behind range is = entry_of (slice_get es at) range (sym (get-map range_of at es) ∙ (sym (get_drop at ranges) ∙ is))

  -- the ranges before the number end before it
  ends_before : (gap : ℕ) → from + gap < number → ((e : ℕ × ℕ) → entry_before at es ≡ Some e → e.1 + gap < number) → end_of from (take at ranges) + gap < number
  ends_before gap start ends =
      end_of-before from at gap number ranges (omega (arith, count_within number es, same_length es)) start
      (λ range is. ends (range.first, range.last) (entry_of (entry_before at es) range (sym (entry_before-map range_of at es) ∙ is)))

  -- the number is in no range
  pub is_in-none : from < number → ((e : ℕ × ℕ) → entry_before at es ≡ Some e → e.1 < number) → is_number_covered number ranges ≡ false
  is_in-none start ends =
      let past : end_of from (take at ranges) + 0 < number = ends_before 0 (omega arith) (λ e is. let last : e.1 < number = ends e is in omega arith) in
      is_number_covered-neither number from at ranges ordered (omega arith)
      (is_number_covered-below number (end_of from (take at ranges)) (drop at ranges) (IsBeyond-drop at from ranges ordered)
      (λ range is. behind_count number es sorted at (range.first, range.last) (omega arith) (first_behind range is)))

  inside_at : (i : ℕ) (e : ℕ × ℕ) → entry_before i es ≡ Some e → e.0 ≤ number → number ≤ e.1 → is_number_covered number ranges ≡ true
  inside_at zero e is above below = absurd (cc)
  inside_at (suc i) e is above below =
      is_number_covered-at number i ranges (range_of e) (drop (suc i) ranges) (drop-at i ranges (range_of e) (range_at i e es is)) above below

  -- the number is in the range before it
  pub is_in-before : (e : ℕ × ℕ) → entry_before at es ≡ Some e → number ≤ e.1 → is_number_covered number ranges ≡ true
  is_in-before e is below = inside_at at e is ((count_places number es sorted).before e is) below

  -- no range begins right after the number
  apart : lookup (is_at (nat_cmp (number + 1))) es ≡ None → IsBeyond number (drop at ranges)
  apart none =
      IsBeyond-later (end_of from (take at ranges)) number (drop at ranges) (IsBeyond-drop at from ranges ordered)
      (λ range is. next_from_none number es sorted none (range.first, range.last) (first_behind range is))

  -- one does
  next_at : (next : TsnRange) → Some next ≡ option_map (λ last. range_of (number + 1, last)) (lookup (is_at (nat_cmp (number + 1))) es) → (next.first ≡ number + 1) × (slice_get es at ≡ Some (next.first, next.last))
  next_at next is = go (lookup (is_at (nat_cmp (number + 1))) es) refl is
    where
      go : (found : Option ℕ) → lookup (is_at (nat_cmp (number + 1))) es ≡ found → Some next ≡ option_map (λ last. range_of (number + 1, last)) found → (next.first ≡ number + 1) × (slice_get es at ≡ Some (next.first, next.last))
      go None none is = absurd (cc)
      go (Some last) some is =
          let same : range_of (number + 1, last) ≡ next = cc in
          (sym (ap (λ (r : TsnRange). r.first) same), next_from_some number last es sorted some ∙ ap (λ (r : TsnRange). Some (r.first, r.last)) same)

  found_at : (place : ℕ) (next : TsnRange) → slice_get es place ≡ Some (next.first, next.last) → (other : TsnRange) → Some next ≡ Some other → slice_get es place ≡ Some (other.first, other.last)
  found_at place next is other same =
      let same' : next ≡ other = cc in
      is ∙ ap (λ (r : TsnRange). Some (r.first, r.last)) same'

  none_at : None ≡ option_map (λ last. range_of (number + 1, last)) (lookup (is_at (nat_cmp (number + 1))) es) → lookup (is_at (nat_cmp (number + 1))) es ≡ None
  none_at is = go (lookup (is_at (nat_cmp (number + 1))) es) is
    where
      go : (found : Option ℕ) → None ≡ option_map (λ last. range_of (number + 1, last)) found → found ≡ None
      go None is = refl
      go (Some last) is = absurd (cc)

  -- ---- the number is added

  -- no entry begins at a number that is in no range
  splits : ((e : ℕ × ℕ) → entry_before at es ≡ Some e → e.1 + 1 < number) → Splits at number es
  splits ends = go (find_key number es sorted)
    where
      go : HasKey number es ⊎ Splits at number es → Splits at number es
      go (inr s) = s
      go (inl h) =
          let low : number ≤ h.value = filled h.index (number, h.value) h.is in
          let high : h.value + 1 < number = ends (number, h.value) (ap (λ (i : ℕ). entry_before i es) h.count ∙ h.is) in
          absurd (omega arith)

  -- it touches no range before it
  pub alone_adds : (behind : Option TsnRange) (new : List (ℕ × ℕ)) → from + 1 < number → ((e : ℕ × ℕ) → entry_before at es ≡ Some e → e.1 + 1 < number) → behind ≡ option_map (λ last. range_of (number + 1, last)) (lookup (is_at (nat_cmp (number + 1))) es) → Joins (insert_entry nat_cmp es number) number behind new → AddsToRanges from number ranges (map range_of new)
  alone_adds behind new start ends is joins = go behind is joins
    where
      inserts : (last : ℕ) → insert_entry nat_cmp es number last ≡ take at es ++ (number, last) ∷ drop at es
      inserts last = insert_at at number last es (splits ends)

      past : end_of from (take at ranges) + 1 < number
      past = ends_before 1 start ends

      go : (behind : Option TsnRange) → behind ≡ option_map (λ last. range_of (number + 1, last)) (lookup (is_at (nat_cmp (number + 1))) es) → Joins (insert_entry nat_cmp es number) number behind new → AddsToRanges from number ranges (map range_of new)
      go None is joins =
          let entries : new ≡ take at es ++ (number, number) ∷ drop at es = joined_at at at number number (insert_entry nat_cmp es number) None es new (count_within number es) inserts (λ next never. absurd (cc)) joins in
          subst (λ (all : List TsnRange). AddsToRanges from number ranges all) (sym (ap (λ (fs : List (ℕ × ℕ)). map range_of fs) entries ∙ ranges_at at at (number, number) es))
          (Adds-alone from number at ranges ordered past (apart (none_at is)))
      go (Some next) is joins =
          let found = next_at next is in
          let entries : new ≡ take at es ++ (number, next.last) ∷ drop (suc at) es = joined_at at at number number (insert_entry nat_cmp es number) (Some next) es new (count_within number es) inserts (found_at at next found.1) joins in
          subst (λ (all : List TsnRange). AddsToRanges from number ranges all) (sym (ap (λ (fs : List (ℕ × ℕ)). map range_of fs) entries ∙ ranges_at at (suc at) (number, next.last) es))
          (Adds-earlier from number at ranges next (drop (suc at) ranges) ordered past (drop-at at ranges next (range_at at (next.first, next.last) es found.1)) (sym found.0))

  -- it touches the range before it
  pub touching_adds : (range : TsnRange) (behind : Option TsnRange) (new : List (ℕ × ℕ)) → entry_before at es ≡ Some (range.first, range.last) → range.last + 1 ≡ number → behind ≡ option_map (λ last. range_of (number + 1, last)) (lookup (is_at (nat_cmp (number + 1))) es) → Joins (set_value (is_at (nat_cmp range.first)) es) number behind new → AddsToRanges from number ranges (map range_of new)
  touching_adds range behind new before touching is joins = at_place at refl before
    where
      at_place : (place : ℕ) → at ≡ place → entry_before place es ≡ Some (range.first, range.last) → AddsToRanges from number ranges (map range_of new)
      at_place zero same here = absurd (cc)
      at_place (suc i) same here = go behind is joins
        where
          writes : (last : ℕ) → set_value (is_at (nat_cmp range.first)) es last ≡ take i es ++ (range.first, last) ∷ drop (suc i) es
          writes last = set_at i range.first range.last last es sorted here

          within : i ≤ length es
          within = omega (arith, count_within number es, same)

          first : drop i ranges ≡ range ∷ drop (suc i) ranges
          first = drop-at i ranges range (range_at i (range.first, range.last) es here)

          go : (behind : Option TsnRange) → behind ≡ option_map (λ last. range_of (number + 1, last)) (lookup (is_at (nat_cmp (number + 1))) es) → Joins (set_value (is_at (nat_cmp range.first)) es) number behind new → AddsToRanges from number ranges (map range_of new)
          go None is joins =
              let entries : new ≡ take i es ++ (range.first, number) ∷ drop (suc i) es = joined_at i (suc i) range.first number (set_value (is_at (nat_cmp range.first)) es) None es new within writes (λ next never. absurd (cc)) joins in
              subst (λ (all : List TsnRange). AddsToRanges from number ranges all) (sym (ap (λ (fs : List (ℕ × ℕ)). map range_of fs) entries ∙ ranges_at i (suc i) (range.first, number) es))
              (Adds-later from number i ranges range (drop (suc i) ranges) ordered first touching (subst (λ (p : ℕ). IsBeyond number (drop p ranges)) same (apart (none_at is))))
          go (Some next) is joins =
              let found = next_at next is in
              let there : slice_get es (suc i) ≡ Some (next.first, next.last) = subst (λ (p : ℕ). slice_get es p ≡ Some (next.first, next.last)) same found.1 in
              let entries : new ≡ take i es ++ (range.first, next.last) ∷ drop (suc (suc i)) es = joined_at i (suc i) range.first number (set_value (is_at (nat_cmp range.first)) es) (Some next) es new within writes (found_at (suc i) next there) joins in
              subst (λ (all : List TsnRange). AddsToRanges from number ranges all) (sym (ap (λ (fs : List (ℕ × ℕ)). map range_of fs) entries ∙ ranges_at i (suc (suc i)) (range.first, next.last) es))
              (Adds-between from number i ranges range next (drop (suc (suc i)) ranges) ordered
              (first ∙ ap (λ (rest : List TsnRange). range ∷ rest) (drop-at (suc i) ranges next (range_at (suc i) (next.first, next.last) es there)))
              touching (sym found.0))
