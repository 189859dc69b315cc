-- Lemmas on the ranges around a number, as the entries of a map from first numbers to last ones.
use Rattle.std.proofs.Common.{◌≡◌, ℕ, zero, suc, ◌+◌, ◌-◌, ◌<◌, ◌≤◌, false, List, [], ◌∷◌, ◌++◌, length, take, Option, None, Some, arith, refl, sym, ◌∙◌, ap, subst, length-append, Bor}
use Rattle.std.specs.Prelude.{slice_get, IfSome}
use Rattle.std.specs.List.{All}
use Rattle.std.specs.Option.{option_map}
use Rattle.std.specs.Map.{keys_of, lookup}
use Rattle.std.specs.Map.Iter.{TakesLast, deref_pair}
use Rattle.std.specs.Ordering.{nat_cmp, is_lt}
use Rattle.std.specs.BTreeMap.{is_at}
use Rattle.dcsctp_receive_ordered_map.specs.Entries.{Ascends, count_up_to, Splits}
use Rattle.dcsctp_spec_lemmas.specs.spec.queues.Runs.{entry_before}
use Rattle.dcsctp_receive_ordered_map.proofs.EntryLemmas.{count_within, before_count, behind_count, count_places, place_is_count, count_at_index, lookup_at, lookup_split, next_from_some, last_is_before, last_of_take}
use Rattle.dcsctp_spec_lemmas.specs.types.declared.tracking.TsnRange.{TsnRange}
use Rattle.dcsctp_receive_tracker.specs.Received.{range_of}

-- ---- the entries around a key

-- no entry has the next key
none_behind : (k : ℕ) (es : List (ℕ × ℕ)) → Ascends es → ((e : ℕ × ℕ) → entry_before (count_up_to (k + 1) es) es ≡ Some e → e.0 ≤ k) → (count_up_to (k + 1) es ≡ count_up_to k es) × (lookup (is_at (nat_cmp (k + 1))) es ≡ None)
none_behind k es sorted low = (same, lookup_split (count_up_to (k + 1) es) (k + 1) es splits)
  where
    above : (j : ℕ) (f : ℕ × ℕ) → count_up_to (k + 1) es ≤ j → slice_get es j ≡ Some f → k + 1 < f.0
    above j f many is = behind_count (k + 1) es sorted j f many is

    same : count_up_to (k + 1) es ≡ count_up_to k es
    same = place_is_count (count_up_to (k + 1) es) k es sorted (record {
      within = count_within (k + 1) es;
      before = low;
      behind = λ e is. let high : k + 1 < e.0 = above (count_up_to (k + 1) es) e (omega arith) is in omega arith;
    })

    splits : Splits (count_up_to (k + 1) es) (k + 1) es
    splits = record {
      within = count_within (k + 1) es;
      before = λ j f few is. let few' : f.0 ≤ k = before_count k es j f (subst (λ (at : ℕ). j < at) same few) is in omega arith;
      behind = above;
    }

-- an entry has the next key
one_at : (k at : ℕ) (e : ℕ × ℕ) (es : List (ℕ × ℕ)) → Ascends es → entry_before at es ≡ Some e → k < e.0 → e.0 ≤ k + 1 → (count_up_to (k + 1) es ≡ suc (count_up_to k es)) × (lookup (is_at (nat_cmp (k + 1))) es ≡ Some e.1)
one_at k zero e es sorted is above few = absurd (cc)
one_at k (suc i) e es sorted is above few =
    let key : e.0 ≡ k + 1 = omega arith in
    let here : slice_get es i ≡ Some (k + 1, e.1) = is ∙ ap (λ q. Some (q, e.1)) key in
    let found : lookup (is_at (nat_cmp (k + 1))) es ≡ Some e.1 = lookup_at i (k + 1) e.1 es sorted here in
    (count_at_index (count_up_to k es) (k + 1) e.1 es sorted (next_from_some k e.1 es sorted found), found)

one_behind : (k : ℕ) (e : ℕ × ℕ) (es : List (ℕ × ℕ)) → Ascends es → entry_before (count_up_to (k + 1) es) es ≡ Some e → k < e.0 → (count_up_to (k + 1) es ≡ suc (count_up_to k es)) × (lookup (is_at (nat_cmp (k + 1))) es ≡ Some e.1)
one_behind k e es sorted is above = one_at k (count_up_to (k + 1) es) e es sorted is above ((count_places (k + 1) es sorted).before e is)

-- what `next_back` leaves of the entries up to a position
front_of_take : {X : Type 0} (at : ℕ) (es t : List X) (e : X) → suc at ≤ length es → t ++ e ∷ [] ≡ take (suc at) es → t ≡ take at es
front_of_take at [] t e within is = absurd (omega arith)
front_of_take zero (x ∷ es) [] e within is = refl
front_of_take zero (x ∷ es) (y ∷ t) e within is = absurd (omega (arith, ap length is, length-append t (e ∷ [])))
front_of_take (suc at) (x ∷ []) t e within is = absurd (omega arith)
front_of_take (suc at) (x ∷ (y ∷ es)) [] e within is = absurd (cc)
front_of_take (suc at) (x ∷ (y ∷ es)) (z ∷ t) e within is =
    let same : z ≡ x = cc in
    let rest : t ++ e ∷ [] ≡ take (suc at) (y ∷ es) = cc in
    ap (λ first. first ∷ t) same ∙ ap (λ tail. x ∷ tail) (front_of_take at (y ∷ es) t e (omega arith) rest)

-- `next_back` of the entries up to a position leaves those before the last of them
left_by : {A X : Type 0} (shows : A → X) (at : ℕ) (es s t : List X) (r : Option A) → suc at ≤ length es → s ≡ take (suc at) es → TakesLast shows s r t → t ≡ take at es
left_by shows at [] s t r within is taken = absurd (omega arith)
left_by shows at (e ∷ es) s t None within is taken = absurd (cc)
left_by shows at (e ∷ es) s t (Some x) within is taken = front_of_take at (e ∷ es) t (shows x) within (sym taken ∙ is)

-- ---- the range of an entry that was found

range_shown : (r : Option (Bor ℕ × Bor ℕ)) (found : Option (ℕ × ℕ)) (range : Option TsnRange) → range ≡ option_map (λ e. range_of (deref_pair e)) r → option_map deref_pair r ≡ found → range ≡ option_map range_of found
range_shown None found range is shown = is ∙ ap (λ (f : Option (ℕ × ℕ)). option_map range_of f) shown
range_shown (Some x) found range is shown = is ∙ ap (λ (f : Option (ℕ × ℕ)). option_map range_of f) shown

pub entry_of : (found : Option (ℕ × ℕ)) (range : TsnRange) → option_map range_of found ≡ Some range → found ≡ Some (range.first, range.last)
entry_of None range is = absurd (cc)
entry_of (Some e) range is =
    let same : range_of e ≡ range = cc in
    ap (λ (r : TsnRange). Some (r.first, r.last)) same

-- where the range of an entry ends
pub last_of : (before : Option TsnRange) (found : Option (ℕ × ℕ)) (e : ℕ × ℕ) (range : TsnRange) → before ≡ option_map range_of found → found ≡ Some e → before ≡ Some range → e.1 ≡ range.last
last_of before found e range shown is given =
    let same : Some (range_of e) ≡ Some range = sym (shown ∙ ap (λ (f : Option (ℕ × ℕ)). option_map range_of f) is) ∙ given in
    let same' : range_of e ≡ range = cc in
    ap (λ (r : TsnRange). r.last) same'

module _ (k : ℕ) (es s t : List (ℕ × ℕ)) (r : Option (Bor ℕ × Bor ℕ)) (range : TsnRange) (sorted : Ascends es) (up_to : s ≡ take (count_up_to (k + 1) es) es) (taken : TakesLast deref_pair s r t) (shown : Some range ≡ option_map (λ e. range_of (deref_pair e)) r) where
  -- what `next_back` gives of the entries up to the next key
  nearest : entry_before (count_up_to (k + 1) es) es ≡ Some (range.first, range.last)
  nearest =
      entry_of (entry_before (count_up_to (k + 1) es) es) range
      (sym (range_shown r (entry_before (count_up_to (k + 1) es) es) (Some range) shown
      (last_of_take deref_pair (count_up_to (k + 1) es) es s r t (count_within (k + 1) es) up_to taken)))

  none_next : range.first ≤ k → (count_up_to (k + 1) es ≡ count_up_to k es) × (lookup (is_at (nat_cmp (k + 1))) es ≡ None)
  none_next low =
      none_behind k es sorted
      (λ e is.
      let found : Some (range.first, range.last) ≡ Some e = sym nearest ∙ is in
      let same : (range.first, range.last) ≡ e = cc in
      subst (λ (f : ℕ × ℕ). f.0 ≤ k) same low)

  -- its key is no greater than k
  pub nearest_before : range.first ≤ k → Some range ≡ option_map range_of (entry_before (count_up_to k es) es)
  nearest_before low =
      ap (λ (found : Option (ℕ × ℕ)). option_map range_of found) (sym nearest)
      ∙ ap (λ (at : ℕ). option_map range_of (entry_before at es)) (none_next low).0

  pub nothing_behind : range.first ≤ k → None ≡ option_map (λ last. range_of (k + 1, last)) (lookup (is_at (nat_cmp (k + 1))) es)
  nothing_behind low = ap (λ (found : Option ℕ). option_map (λ last. range_of (k + 1, last)) found) (sym (none_next low).1)

  -- it is the next key, and the second `next_back` gives the entry before
  pub second_before : (t' : List (ℕ × ℕ)) (r' : Option (Bor ℕ × Bor ℕ)) (before : Option TsnRange) → k < range.first → TakesLast deref_pair t r' t' → before ≡ option_map (λ e. range_of (deref_pair e)) r' → before ≡ option_map range_of (entry_before (count_up_to k es) es)
  second_before t' r' before above taken' shown' =
      let same : count_up_to (k + 1) es ≡ suc (count_up_to k es) = (one_behind k (range.first, range.last) es sorted nearest above).0 in
      let front : t ≡ take (count_up_to k es) es =
      left_by deref_pair (count_up_to k es) es s t r (omega (arith, count_within (k + 1) es, same)) (up_to ∙ ap (λ (at : ℕ). take at es) same) taken in
      range_shown r' (entry_before (count_up_to k es) es) before shown'
      (last_of_take deref_pair (count_up_to k es) es t r' t' (count_within k es) front taken')

-- what `last_key_value` lends, where its key is no greater than k
pub last_before : (k : ℕ) (es : List (ℕ × ℕ)) (r : Option (Bor ℕ × Bor ℕ)) (range : TsnRange) → Some range ≡ option_map (λ e. range_of (deref_pair e)) r → IfSome r (λ p. slice_get es (length es - 1) ≡ Some (p.0.now, p.1.now)) → IfSome r (λ p. All (λ q. is_lt (nat_cmp p.0.now q) ≡ false) (keys_of es)) → range.first ≤ k → Some range ≡ option_map range_of (entry_before (count_up_to k es) es)
last_before k es None range shown last all low = absurd (cc)
last_before k es (Some x) range shown last all low =
    let same : range ≡ range_of (deref_pair x) = cc in
    let low' : x.0.now ≤ k = subst (λ (q : TsnRange). q.first ≤ k) same low in
    shown ∙ ap (λ (found : Option (ℕ × ℕ)). option_map range_of found) (last_is_before k (deref_pair x) es last all low')
