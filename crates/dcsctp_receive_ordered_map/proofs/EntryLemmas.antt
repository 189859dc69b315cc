-- Lemmas on the entries of a map whose keys are numbers, by their positions in the order of keys.
use Rattle.std.proofs.Common.{◌≡◌, ℕ, zero, suc, ◌+◌, ◌-◌, ◌<◌, ◌≤◌, Bool, true, false, not, ◌&&◌, cond, if◌then◌else◌, List, [], ◌∷◌, ◌++◌, length, map, take, drop, Option, None, Some, ◌⊎◌, inl, inr, arith, refl, sym, ◌∙◌, ap, subst, length-append}
use Rattle.std.specs.Prelude.{slice_get, nat_le}
use Rattle.std.specs.Option.{option_map}
use Rattle.std.proofs.lemmas.Bool.Decides.{nat_tests}
use Rattle.std.specs.Cmp.{nat_cmp_is}
use Rattle.std.specs.Ordering.{nat_cmp, is_eq, is_lt, match_ordering}
use Rattle.std.specs.declared.cmp.Ordering.TheVariants.{Less, Equal, Greater}
use Rattle.std.specs.declared.ops.Bound.TheVariants.{Included, Excluded, Unbounded}
use Rattle.std.specs.List.{All, AllByRecursion}
use Rattle.std.proofs.lemmas.Map.Keys.{ge_from_not_lt}
use Rattle.std.specs.List.Sorted.{IsStrictlySortedBy}
use Rattle.std.specs.Map.{keys_of, lookup, set_value, remove_entry}
use Rattle.std.specs.Map.Iter.{TakesFirst, TakesLast}
use Rattle.std.specs.BTreeMap.{insert_entry, is_at}
use Rattle.std.specs.BTreeMap.Range.{entries_between}
use Rattle.dcsctp_receive_ordered_map.specs.Entries.{Ascends, count_up_to, Splits, Places, HasKey}
use Rattle.dcsctp_spec.specs.queues.Runs.{entry_before}

pub cmp_less : (k j : ℕ) → k < j → nat_cmp k j ≡ Less
cmp_less k j h = sym (nat_cmp_is k j Less h)

pub cmp_equal : (k j : ℕ) → k ≡ j → nat_cmp k j ≡ Equal
cmp_equal k j h = sym (nat_cmp_is k j Equal h)

pub cmp_greater : (k j : ℕ) → j < k → nat_cmp k j ≡ Greater
cmp_greater k j h = sym (nat_cmp_is k j Greater h)

less_from_cmp : (k j : ℕ) → nat_cmp k j ≡ Less → k < j
less_from_cmp k j h = grind (arith, nat_tests)

le_or_gt : (j k : ℕ) → (j ≤ k) ⊎ (k < j)
le_or_gt j k = go (nat_le j k) refl
  where
    go : (b : Bool) → nat_le j k ≡ b → (j ≤ k) ⊎ (k < j)
    go true is = inl (grind (arith, nat_tests))
    go false is = inr (grind (arith, nat_tests))

-- ---- keys that ascend

head_below : {X : Type 0} (k : ℕ) (es : List (ℕ × X)) (j : ℕ) (f : ℕ × X) → AllByRecursion (λ y. nat_cmp k y ≡ Less) (keys_of es) → slice_get es j ≡ Some f → k < f.0
head_below k [] j f all is = absurd (cc)
head_below k (e ∷ es) zero f all is =
    let same : e ≡ f = cc in
    subst (λ (g : ℕ × _). k < g.0) same (less_from_cmp k e.0 all.0)
head_below k (e ∷ es) (suc j) f all is = head_below k es j f all.1 is

-- the first key is smaller than the others
pub first_below : {X : Type 0} (e : ℕ × X) (es : List (ℕ × X)) → Ascends (e ∷ es) → (j : ℕ) (f : ℕ × X) → slice_get es j ≡ Some f → e.0 < f.0
unfolding IsStrictlySortedBy
first_below e es sorted j f is = head_below e.0 es j f sorted.0 is

pub rest_ascends : {X : Type 0} (e : ℕ × X) (es : List (ℕ × X)) → Ascends (e ∷ es) → Ascends es
unfolding IsStrictlySortedBy
rest_ascends e es sorted = sorted.1

-- there is an entry at each position within
pub entry_within : {X : Type 0} (es : List X) (j : ℕ) → j < length es → (e : X) × (slice_get es j ≡ Some e)
entry_within [] j within = absurd (omega arith)
entry_within (e ∷ es) zero within = (e, refl)
entry_within (e ∷ es) (suc j) within = entry_within es j (omega arith)

-- earlier keys are smaller
pub ordered_at : {X : Type 0} (es : List (ℕ × X)) → Ascends es → (i : ℕ) (e f : ℕ × X) → slice_get es i ≡ Some e → slice_get es (suc i) ≡ Some f → e.0 < f.0
ordered_at [] sorted i e f is is' = absurd (cc)
ordered_at (g ∷ es) sorted zero e f is is' =
    let same : g ≡ e = cc in
    subst (λ (h : ℕ × _). h.0 < f.0) same (first_below g es sorted zero f is')
ordered_at (g ∷ es) sorted (suc i) e f is is' = ordered_at es (rest_ascends g es sorted) i e f is is'

-- ---- a new key

splits_rest : {X : Type 0} (at k : ℕ) (e : ℕ × X) (es : List (ℕ × X)) → Splits (suc at) k (e ∷ es) → Splits at k es
splits_rest at k e es s = record {
  within = omega (arith, s.within);
  before = λ j f few is. s.before (suc j) f (omega arith) is;
  behind = λ j f many is. s.behind (suc j) f (omega arith) is;
}

pub insert_at : {X : Type 0} (at k : ℕ) (v : X) (es : List (ℕ × X)) → Splits at k es → insert_entry nat_cmp es k v ≡ take at es ++ (k, v) ∷ drop at es
insert_at zero k v [] s = refl
insert_at (suc at) k v [] s = absurd (omega (arith, s.within))
insert_at zero k v (e ∷ es) s =
    ap (λ r. match_ordering r ((k, v) ∷ e ∷ es) ((e.0, v) ∷ es) (e ∷ insert_entry nat_cmp es k v)) (cmp_less k e.0 (s.behind zero e (omega arith) refl))
insert_at (suc at) k v (e ∷ es) s =
    ap (λ r. match_ordering r ((k, v) ∷ e ∷ es) ((e.0, v) ∷ es) (e ∷ insert_entry nat_cmp es k v)) (cmp_greater k e.0 (s.before zero e (omega arith) refl))
    ∙ ap (λ rest. e ∷ rest) (insert_at at k v es (splits_rest at k e es s))

-- ---- a key that is there

pub remove_at : {X : Type 0} (i k : ℕ) (v : X) (es : List (ℕ × X)) → Ascends es → slice_get es i ≡ Some (k, v) → remove_entry (is_at (nat_cmp k)) es ≡ take i es ++ drop (suc i) es
remove_at i k v [] sorted is = absurd (cc)
remove_at zero k v (e ∷ es) sorted is =
    let same : e ≡ (k, v) = cc in
    ap (λ r. cond (is_eq r) es (e ∷ remove_entry (is_at (nat_cmp k)) es)) (cmp_equal k e.0 (sym (ap (λ (f : ℕ × _). f.0) same)))
remove_at (suc i) k v (e ∷ es) sorted is =
    ap (λ r. cond (is_eq r) es (e ∷ remove_entry (is_at (nat_cmp k)) es)) (cmp_greater k e.0 (first_below e es sorted i (k, v) is))
    ∙ ap (λ rest. e ∷ rest) (remove_at i k v es (rest_ascends e es sorted) is)

pub set_at : {X : Type 0} (i k : ℕ) (v w : X) (es : List (ℕ × X)) → Ascends es → slice_get es i ≡ Some (k, v) → set_value (is_at (nat_cmp k)) es w ≡ take i es ++ (k, w) ∷ drop (suc i) es
set_at i k v w [] sorted is = absurd (cc)
set_at zero k v w (e ∷ es) sorted is =
    let same : e ≡ (k, v) = cc in
    ap (λ r. cond (is_eq r) ((e.0, w) ∷ es) (e ∷ set_value (is_at (nat_cmp k)) es w)) (cmp_equal k e.0 (sym (ap (λ (f : ℕ × _). f.0) same)))
    ∙ ap (λ (f : ℕ × _). (f.0, w) ∷ es) same
set_at (suc i) k v w (e ∷ es) sorted is =
    ap (λ r. cond (is_eq r) ((e.0, w) ∷ es) (e ∷ set_value (is_at (nat_cmp k)) es w)) (cmp_greater k e.0 (first_below e es sorted i (k, v) is))
    ∙ ap (λ rest. e ∷ rest) (set_at i k v w es (rest_ascends e es sorted) is)

-- `insert` at a key that is there writes its value
pub overwrite_at : {X : Type 0} (i k : ℕ) (v w : X) (es : List (ℕ × X)) → Ascends es → slice_get es i ≡ Some (k, v) → insert_entry nat_cmp es k w ≡ take i es ++ (k, w) ∷ drop (suc i) es
overwrite_at i k v w [] sorted is = absurd (cc)
overwrite_at zero k v w (e ∷ es) sorted is =
    let same : e ≡ (k, v) = cc in
    ap (λ r. match_ordering r ((k, w) ∷ e ∷ es) ((e.0, w) ∷ es) (e ∷ insert_entry nat_cmp es k w)) (cmp_equal k e.0 (sym (ap (λ (f : ℕ × _). f.0) same)))
    ∙ ap (λ (f : ℕ × _). (f.0, w) ∷ es) same
overwrite_at (suc i) k v w (e ∷ es) sorted is =
    ap (λ r. match_ordering r ((k, w) ∷ e ∷ es) ((e.0, w) ∷ es) (e ∷ insert_entry nat_cmp es k w)) (cmp_greater k e.0 (first_below e es sorted i (k, v) is))
    ∙ ap (λ rest. e ∷ rest) (overwrite_at i k v w es (rest_ascends e es sorted) is)

pub lookup_at : {X : Type 0} (i k : ℕ) (v : X) (es : List (ℕ × X)) → Ascends es → slice_get es i ≡ Some (k, v) → lookup (is_at (nat_cmp k)) es ≡ Some v
lookup_at i k v [] sorted is = absurd (cc)
lookup_at zero k v (e ∷ es) sorted is =
    let same : e ≡ (k, v) = cc in
    ap (λ r. cond (is_eq r) (Some e.1) (lookup (is_at (nat_cmp k)) es)) (cmp_equal k e.0 (sym (ap (λ (f : ℕ × _). f.0) same)))
    ∙ ap (λ (f : ℕ × _). Some f.1) same
lookup_at (suc i) k v (e ∷ es) sorted is =
    ap (λ r. cond (is_eq r) (Some e.1) (lookup (is_at (nat_cmp k)) es)) (cmp_greater k e.0 (first_below e es sorted i (k, v) is))
    ∙ lookup_at i k v es (rest_ascends e es sorted) is

-- ---- where a key belongs

count_here : {X : Type 0} (k : ℕ) (e : ℕ × X) (es : List (ℕ × X)) → e.0 ≤ k → count_up_to k (e ∷ es) ≡ suc (count_up_to k es)
count_here k e es few =
    let test : nat_le e.0 k ≡ true = grind (arith, nat_tests) in
    ap (λ b. if b then suc (count_up_to k es) else 0) test

count_none : {X : Type 0} (k : ℕ) (e : ℕ × X) (es : List (ℕ × X)) → k < e.0 → count_up_to k (e ∷ es) ≡ 0
count_none k e es many =
    let test : nat_le e.0 k ≡ false = grind (arith, nat_tests) in
    ap (λ b. if b then suc (count_up_to k es) else 0) test

pub count_within : {X : Type 0} (k : ℕ) (es : List (ℕ × X)) → count_up_to k es ≤ length es
count_within k [] = omega arith
count_within k (e ∷ es) = go (le_or_gt e.0 k) (count_within k es)
  where
    go : (e.0 ≤ k) ⊎ (k < e.0) → count_up_to k es ≤ length es → count_up_to k (e ∷ es) ≤ length (e ∷ es)
    go (inl few) within = omega (arith, count_here k e es few)
    go (inr many) within = omega (arith, count_none k e es many)

pub before_count : {X : Type 0} (k : ℕ) (es : List (ℕ × X)) (j : ℕ) (f : ℕ × X) → j < count_up_to k es → slice_get es j ≡ Some f → f.0 ≤ k
before_count k [] j f few is = absurd (cc)
before_count k (e ∷ es) j f below is = go (λ i. before_count k es i f) (le_or_gt e.0 k) j below is
  where
    go : ((i : ℕ) → i < count_up_to k es → slice_get es i ≡ Some f → f.0 ≤ k) → (e.0 ≤ k) ⊎ (k < e.0) → (j : ℕ) → j < count_up_to k (e ∷ es) → slice_get (e ∷ es) j ≡ Some f → f.0 ≤ k
    go rest (inl few) zero below is =
        let same : e ≡ f = cc in
        subst (λ (g : ℕ × _). g.0 ≤ k) same few
    go rest (inl few) (suc j) below is = rest j (omega (arith, count_here k e es few)) is
    go rest (inr many) j below is = absurd (omega (arith, count_none k e es many))

pub behind_count : {X : Type 0} (k : ℕ) (es : List (ℕ × X)) → Ascends es → (j : ℕ) (f : ℕ × X) → count_up_to k es ≤ j → slice_get es j ≡ Some f → k < f.0
behind_count k [] sorted j f above is = absurd (cc)
behind_count k (e ∷ es) sorted j f above is = go (λ i. behind_count k es (rest_ascends e es sorted) i f) (le_or_gt e.0 k) j above is
  where
    go : ((i : ℕ) → count_up_to k es ≤ i → slice_get es i ≡ Some f → k < f.0) → (e.0 ≤ k) ⊎ (k < e.0) → (j : ℕ) → count_up_to k (e ∷ es) ≤ j → slice_get (e ∷ es) j ≡ Some f → k < f.0
    go rest (inl few) zero above is = absurd (omega (arith, count_here k e es few))
    go rest (inl few) (suc j) above is = rest j (omega (arith, count_here k e es few)) is
    go rest (inr many) zero above is =
        let same : e ≡ f = cc in
        subst (λ (g : ℕ × _). k < g.0) same many
    go rest (inr many) (suc j) above is =
        let below : e.0 < f.0 = first_below e es sorted j f is in
        omega arith

before_from : {X : Type 0} (k at : ℕ) (es : List (ℕ × X)) → at ≤ count_up_to k es → (e : ℕ × X) → entry_before at es ≡ Some e → e.0 ≤ k
before_from k zero es few e is = absurd (cc)
before_from k (suc at) es few e is = before_count k es at e (omega arith) is

-- the entry before has the greatest key up to k, and the next one the least beyond it
pub count_places : {X : Type 0} (k : ℕ) (es : List (ℕ × X)) → Ascends es → Places (count_up_to k es) k es
count_places k es sorted = record {
  within = count_within k es;
  before = before_from k (count_up_to k es) es (omega arith);
  behind = λ e is. behind_count k es sorted (count_up_to k es) e (omega arith) is;
}

-- no other position has both
pub place_is_count : {X : Type 0} (at k : ℕ) (es : List (ℕ × X)) → Ascends es → Places at k es → at ≡ count_up_to k es
place_is_count zero k es sorted p = go (le_or_gt (count_up_to k es) 0)
  where
    go : (count_up_to k es ≤ 0) ⊎ (0 < count_up_to k es) → 0 ≡ count_up_to k es
    go (inl few) = omega arith
    go (inr many) =
        let here = entry_within es 0 (omega (arith, count_within k es)) in
        let low : here.0.0 ≤ k = before_count k es 0 here.0 many here.1 in
        let high : k < here.0.0 = p.behind here.0 here.1 in
        absurd (omega arith)
place_is_count (suc at) k es sorted p = go (le_or_gt (count_up_to k es) at) (le_or_gt (count_up_to k es) (suc at))
  where
    go : (count_up_to k es ≤ at) ⊎ (at < count_up_to k es) → (count_up_to k es ≤ suc at) ⊎ (suc at < count_up_to k es) → suc at ≡ count_up_to k es
    go (inl few) other =
        let here = entry_within es at (omega (arith, p.within)) in
        let high : k < here.0.0 = behind_count k es sorted at here.0 few here.1 in
        let low : here.0.0 ≤ k = p.before here.0 here.1 in
        absurd (omega arith)
    go (inr many) (inl few) = omega arith
    go (inr many) (inr more) =
        let here = entry_within es (suc at) (omega (arith, count_within k es)) in
        let low : here.0.0 ≤ k = before_count k es (suc at) here.0 more here.1 in
        let high : k < here.0.0 = p.behind here.0 here.1 in
        absurd (omega arith)

key_from_place : {X : Type 0} (i k : ℕ) (v : X) (es : List (ℕ × X)) → Ascends es → slice_get es i ≡ Some (k, v) → count_up_to k es ≡ suc i
key_from_place i k v [] sorted is = absurd (cc)
key_from_place zero k v (e ∷ es) sorted is =
    let same : e ≡ (k, v) = cc in
    let key : e.0 ≡ k = ap (λ (f : ℕ × _). f.0) same in
    count_here k e es (omega arith) ∙ ap suc (none es (λ j f is'. subst (λ key. key < f.0) key (first_below e es sorted j f is')))
  where
    none : {X : Type 0} (fs : List (ℕ × X)) → ((j : ℕ) (f : ℕ × X) → slice_get fs j ≡ Some f → k < f.0) → count_up_to k fs ≡ 0
    none [] all = refl
    none (f ∷ fs) all = count_none k f fs (all zero f refl)
key_from_place (suc i) k v (e ∷ es) sorted is =
    let below : e.0 < k = first_below e es sorted i (k, v) is in
    count_here k e es (omega arith) ∙ ap suc (key_from_place i k v es (rest_ascends e es sorted) is)

-- how many keys are up to that of an entry
pub count_at_index : {X : Type 0} (i k : ℕ) (v : X) (es : List (ℕ × X)) → Ascends es → slice_get es i ≡ Some (k, v) → count_up_to k es ≡ suc i
count_at_index i k v es sorted is = key_from_place i k v es sorted is

splits_more : {X : Type 0} (at k : ℕ) (e : ℕ × X) (es : List (ℕ × X)) → e.0 < k → Splits at k es → Splits (suc at) k (e ∷ es)
splits_more at k e es low s = record {
  within = omega (arith, s.within);
  before = before;
  behind = behind;
}
  where
    before : (j : ℕ) (f : ℕ × _) → j < suc at → slice_get (e ∷ es) j ≡ Some f → f.0 < k
    before zero f few is =
        let same : e ≡ f = cc in
        subst (λ (g : ℕ × _). g.0 < k) same low
    before (suc j) f few is = s.before j f (omega arith) is

    behind : (j : ℕ) (f : ℕ × _) → suc at ≤ j → slice_get (e ∷ es) j ≡ Some f → k < f.0
    behind zero f many is = absurd (omega arith)
    behind (suc j) f many is = s.behind j f (omega arith) is

-- a key is there, or belongs between two
pub find_key : {X : Type 0} (k : ℕ) (es : List (ℕ × X)) → Ascends es → HasKey k es ⊎ Splits (count_up_to k es) k es
find_key k [] sorted = inr (record { within = omega arith; before = λ j f few is. absurd (cc); behind = λ j f many is. absurd (cc) })
find_key k (e ∷ es) sorted = go (find_key k es (rest_ascends e es sorted)) (le_or_gt e.0 k) (le_or_gt k e.0)
  where
    more : e.0 < k → HasKey k es ⊎ Splits (count_up_to k es) k es → HasKey k (e ∷ es) ⊎ Splits (count_up_to k (e ∷ es)) k (e ∷ es)
    more low (inl h) = inl (record { index = suc h.index; value = h.value; is = h.is; count = count_here k e es (omega arith) ∙ ap suc h.count })
    more low (inr s) = inr (subst (λ at. Splits at k (e ∷ es)) (sym (count_here k e es (omega arith))) (splits_more (count_up_to k es) k e es low s))

    go : HasKey k es ⊎ Splits (count_up_to k es) k es → (e.0 ≤ k) ⊎ (k < e.0) → (k ≤ e.0) ⊎ (e.0 < k) → HasKey k (e ∷ es) ⊎ Splits (count_up_to k (e ∷ es)) k (e ∷ es)
    go rest (inl few) (inl many) =
        let key : e.0 ≡ k = omega arith in
        let is : Some e ≡ Some (k, e.1) = ap (λ q. Some (q, e.1)) key in
        inl (record { index = zero; value = e.1; is = is; count = key_from_place zero k e.1 (e ∷ es) sorted is })
    go rest (inl few) (inr low) = more low rest
    go rest (inr many) other = inr (record {
      within = count_within k (e ∷ es);
      before = λ j f below is. absurd (omega (arith, count_none k e es many));
      behind = λ j f above is. behind_count k (e ∷ es) sorted j f above is;
    })

-- a key that a look-up misses belongs between two
pub split_from_none : {X : Type 0} (k : ℕ) (es : List (ℕ × X)) → Ascends es → lookup (is_at (nat_cmp k)) es ≡ None → Splits (count_up_to k es) k es
split_from_none k es sorted none = go (find_key k es sorted)
  where
    go : HasKey k es ⊎ Splits (count_up_to k es) k es → Splits (count_up_to k es) k es
    go (inl h) =
        let some : lookup (is_at (nat_cmp k)) es ≡ Some h.value = lookup_at h.index k h.value es sorted h.is in
        absurd (cc)
    go (inr s) = s

pub lookup_split : {X : Type 0} (at k : ℕ) (es : List (ℕ × X)) → Splits at k es → lookup (is_at (nat_cmp k)) es ≡ None
lookup_split at k [] s = refl
lookup_split zero k (e ∷ es) s =
    ap (λ r. cond (is_eq r) (Some e.1) (lookup (is_at (nat_cmp k)) es)) (cmp_less k e.0 (s.behind zero e (omega arith) refl))
    ∙ lookup_split zero k es (record { within = omega arith; before = λ j f few is. absurd (omega arith); behind = λ j f many is. s.behind (suc j) f (omega arith) is })
lookup_split (suc at) k (e ∷ es) s =
    ap (λ r. cond (is_eq r) (Some e.1) (lookup (is_at (nat_cmp k)) es)) (cmp_greater k e.0 (s.before zero e (omega arith) refl))
    ∙ lookup_split at k es (splits_rest at k e es s)

-- a key that a look-up finds is that of an entry
pub key_from_some : {X : Type 0} (k : ℕ) (v : X) (es : List (ℕ × X)) → Ascends es → lookup (is_at (nat_cmp k)) es ≡ Some v → (i : ℕ) × (slice_get es i ≡ Some (k, v)) × (count_up_to k es ≡ suc i)
key_from_some k v es sorted some = go (find_key k es sorted)
  where
    go : HasKey k es ⊎ Splits (count_up_to k es) k es → (i : ℕ) × (slice_get es i ≡ Some (k, v)) × (count_up_to k es ≡ suc i)
    go (inl h) =
        let found : lookup (is_at (nat_cmp k)) es ≡ Some h.value = lookup_at h.index k h.value es sorted h.is in
        let same : h.value ≡ v = cc in
        (h.index, h.is ∙ ap (λ w. Some (k, w)) same, h.count)
    go (inr s) =
        let none : lookup (is_at (nat_cmp k)) es ≡ None = lookup_split (count_up_to k es) k es s in
        absurd (cc)

next_at : {X : Type 0} (k i : ℕ) (v : X) (es : List (ℕ × X)) → Ascends es → slice_get es i ≡ Some (k + 1, v) → i ≤ length es → i ≡ count_up_to k es
next_at k zero v es sorted is within = place_is_count zero k es sorted (record {
  within = within;
  before = λ e none. absurd (cc);
  behind = λ e is'. let same : (k + 1, v) ≡ e = cc in subst (λ (f : ℕ × _). k < f.0) same (omega arith);
})
next_at k (suc i) v es sorted is within = place_is_count (suc i) k es sorted (record {
  within = within;
  before = λ e is'. let below : e.0 < k + 1 = ordered_at es sorted i e (k + 1, v) is' is in omega arith;
  behind = λ e is'. let same : (k + 1, v) ≡ e = cc in subst (λ (f : ℕ × _). k < f.0) same (omega arith);
})

-- The next entry has the key after k where a look-up finds that one, and else a greater one.
pub next_from_some : {X : Type 0} (k : ℕ) (v : X) (es : List (ℕ × X)) → Ascends es → lookup (is_at (nat_cmp (k + 1))) es ≡ Some v → slice_get es (count_up_to k es) ≡ Some (k + 1, v)
next_from_some k v es sorted some =
    let found = key_from_some (k + 1) v es sorted some in
    let same : found.0 ≡ count_up_to k es = next_at k found.0 v es sorted found.1 (omega (arith, found.2, count_within (k + 1) es)) in
    subst (λ (i : ℕ). slice_get es i ≡ Some (k + 1, v)) same found.1

pub next_from_none : {X : Type 0} (k : ℕ) (es : List (ℕ × X)) → Ascends es → lookup (is_at (nat_cmp (k + 1))) es ≡ None → (e : ℕ × X) → slice_get es (count_up_to k es) ≡ Some e → k + 1 < e.0
next_from_none k es sorted none e is = go (le_or_gt e.0 (k + 1))
  where
    go : (e.0 ≤ k + 1) ⊎ (k + 1 < e.0) → k + 1 < e.0
    go (inl few) =
        let high : k < e.0 = behind_count k es sorted (count_up_to k es) e (omega arith) is in
        let key : e.0 ≡ k + 1 = omega arith in
        let some : lookup (is_at (nat_cmp (k + 1))) es ≡ Some e.1 = lookup_at (count_up_to k es) (k + 1) e.1 es sorted (is ∙ ap (λ q. Some (q, e.1)) key) in
        absurd (cc)
    go (inr many) = many

-- ---- ranges

all_from : {X : Type 0} (k : ℕ) (es : List (ℕ × X)) → ((j : ℕ) (e : ℕ × X) → slice_get es j ≡ Some e → k < e.0) → entries_between nat_cmp Unbounded (Included k) es ≡ []
all_from k [] all = refl
all_from k (e ∷ es) all =
    ap (λ r. cond (true && not (is_lt r)) (e ∷ entries_between nat_cmp Unbounded (Included k) es) (entries_between nat_cmp Unbounded (Included k) es)) (cmp_less k e.0 (all zero e refl))
    ∙ all_from k es (λ j f is. all (suc j) f is)

all_kept : {X : Type 0} (k : ℕ) (es : List (ℕ × X)) → ((j : ℕ) (e : ℕ × X) → slice_get es j ≡ Some e → k < e.0) → entries_between nat_cmp (Excluded k) Unbounded es ≡ es
all_kept k [] all = refl
all_kept k (e ∷ es) all =
    ap (λ r. cond (is_lt r && true) (e ∷ entries_between nat_cmp (Excluded k) Unbounded es) (entries_between nat_cmp (Excluded k) Unbounded es)) (cmp_less k e.0 (all zero e refl))
    ∙ ap (λ rest. e ∷ rest) (all_kept k es (λ j f is. all (suc j) f is))

not_less : (k j : ℕ) → j ≤ k → is_lt (nat_cmp k j) ≡ false
not_less k j few = grind (arith, nat_tests)

-- what lies in `..=k`
pub range_up_to : {X : Type 0} (k : ℕ) (es : List (ℕ × X)) → Ascends es → entries_between nat_cmp Unbounded (Included k) es ≡ take (count_up_to k es) es
range_up_to k [] sorted = refl
range_up_to k (e ∷ es) sorted = go (le_or_gt e.0 k) (range_up_to k es (rest_ascends e es sorted))
  where
    go : (e.0 ≤ k) ⊎ (k < e.0) → entries_between nat_cmp Unbounded (Included k) es ≡ take (count_up_to k es) es → entries_between nat_cmp Unbounded (Included k) (e ∷ es) ≡ take (count_up_to k (e ∷ es)) (e ∷ es)
    go (inl few) rest =
        ap (λ b. cond (true && not b) (e ∷ entries_between nat_cmp Unbounded (Included k) es) (entries_between nat_cmp Unbounded (Included k) es)) (not_less k e.0 few)
        ∙ ap (λ (fs : List (ℕ × _)). e ∷ fs) rest
        ∙ ap (λ (n : ℕ). take n (e ∷ es)) (sym (count_here k e es few))
    go (inr many) rest =
        all_from k (e ∷ es) (λ j f is. behind_count k (e ∷ es) sorted j f (omega (arith, count_none k e es many)) is)
        ∙ ap (λ (n : ℕ). take n (e ∷ es)) (sym (count_none k e es many))

-- what lies in `(Excluded(k), Unbounded)`
pub range_behind : {X : Type 0} (k : ℕ) (es : List (ℕ × X)) → Ascends es → entries_between nat_cmp (Excluded k) Unbounded es ≡ drop (count_up_to k es) es
range_behind k [] sorted = refl
range_behind k (e ∷ es) sorted = go (le_or_gt e.0 k) (range_behind k es (rest_ascends e es sorted))
  where
    go : (e.0 ≤ k) ⊎ (k < e.0) → entries_between nat_cmp (Excluded k) Unbounded es ≡ drop (count_up_to k es) es → entries_between nat_cmp (Excluded k) Unbounded (e ∷ es) ≡ drop (count_up_to k (e ∷ es)) (e ∷ es)
    go (inl few) rest =
        ap (λ b. cond (b && true) (e ∷ entries_between nat_cmp (Excluded k) Unbounded es) (entries_between nat_cmp (Excluded k) Unbounded es)) (not_less k e.0 few)
        ∙ rest
        ∙ ap (λ (n : ℕ). drop n (e ∷ es)) (sym (count_here k e es few))
    go (inr many) rest =
        all_kept k (e ∷ es) (λ j f is. behind_count k (e ∷ es) sorted j f (omega (arith, count_none k e es many)) is)
        ∙ ap (λ (n : ℕ). drop n (e ∷ es)) (sym (count_none k e es many))

get_snoc : {X : Type 0} (t : List X) (x : X) → slice_get (t ++ x ∷ []) (length t) ≡ Some x
get_snoc [] x = refl
get_snoc (y ∷ t) x = get_snoc t x

get_take : {X : Type 0} (at : ℕ) (es : List X) → slice_get (take (suc at) es) at ≡ slice_get es at
get_take at [] = refl
get_take zero (e ∷ es) = refl
get_take (suc at) (e ∷ es) = get_take at es

length_take : {X : Type 0} (at : ℕ) (es : List X) → at ≤ length es → length (take at es) ≡ at
length_take zero es within = refl
length_take (suc at) [] within = absurd (omega arith)
length_take (suc at) (e ∷ es) within = ap suc (length_take at es (omega arith))

-- `next_back` of the entries up to a position gives the one before it
pub last_of_take : {A X : Type 0} (shows : A → X) (at : ℕ) (es s : List X) (r : Option A) (t : List X) → at ≤ length es → s ≡ take at es → TakesLast shows s r t → option_map shows r ≡ entry_before at es
last_of_take shows zero es s None t within is taken = refl
last_of_take shows (suc at) es s None t within is taken =
    absurd (omega (arith, length_take (suc at) es within, ap length is, ap length taken.0))
last_of_take shows zero es s (Some x) t within is taken =
    absurd (omega (arith, ap length is, ap length taken, length-append t (shows x ∷ [])))
last_of_take shows (suc at) es s (Some x) t within is taken =
    let size : length t ≡ at = omega (arith, length_take (suc at) es within, ap length is, ap length taken, length-append t (shows x ∷ [])) in
    sym (get_snoc t (shows x))
    ∙ ap (λ (i : ℕ). slice_get (t ++ shows x ∷ []) i) size
    ∙ ap (λ fs. slice_get fs at) (sym taken ∙ is)
    ∙ get_take at es

get_drop : {X : Type 0} (at : ℕ) (es : List X) → slice_get (drop at es) 0 ≡ slice_get es at
get_drop zero es = refl
get_drop (suc at) [] = refl
get_drop (suc at) (e ∷ es) = get_drop at es

-- `next` of the entries from a position on gives the one there
pub first_of_drop : {A X : Type 0} (shows : A → X) (at : ℕ) (es s : List X) (r : Option A) (t : List X) → s ≡ drop at es → TakesFirst shows s r t → option_map shows r ≡ slice_get es at
first_of_drop shows at es s None t is taken = ap (λ fs. slice_get fs 0) (sym taken.0 ∙ is) ∙ get_drop at es
first_of_drop shows at es s (Some x) t is taken = ap (λ fs. slice_get fs 0) (sym taken ∙ is) ∙ get_drop at es

-- ---- the last entry

-- Where the last key is no greater than k, all entries are up to it.
pub count_all : {X : Type 0} (k last : ℕ) (es : List (ℕ × X)) → All (λ q. is_lt (nat_cmp last q) ≡ false) (keys_of es) → last ≤ k → count_up_to k es ≡ length es
count_all k last [] all few = refl
count_all k last (e ∷ es) all few =
    let low : e.0 ≤ last = ge_from_not_lt last e.0 (all 0 0 (omega arith)) in
    count_here k e es (omega arith) ∙ ap suc (count_all k last es (λ j d within. all (suc j) d (omega arith)) few)

pub before_end : {X : Type 0} (es : List X) (e : X) → slice_get es (length es - 1) ≡ Some e → entry_before (length es) es ≡ Some e
before_end [] e is = absurd (cc)
before_end (f ∷ es) e is =
    let same : suc (length es) - 1 ≡ length es = omega arith in
    subst (λ (i : ℕ). slice_get (f ∷ es) i ≡ Some e) same is

-- what `last_key_value` lends, where its key is no greater than k
pub last_is_before : {X : Type 0} (k : ℕ) (e : ℕ × X) (es : List (ℕ × X)) → slice_get es (length es - 1) ≡ Some e → All (λ q. is_lt (nat_cmp e.0 q) ≡ false) (keys_of es) → e.0 ≤ k → Some e ≡ entry_before (count_up_to k es) es
last_is_before k e es is all few =
    sym (before_end es e is) ∙ ap (λ (at : ℕ). entry_before at es) (sym (count_all k e.0 es all few))

-- ---- the entries after a change

get_take_append : {X : Type 0} (at : ℕ) (es fs : List X) → at ≤ length es → slice_get (take at es ++ fs) at ≡ slice_get fs 0
get_take_append zero es fs within = refl
get_take_append (suc at) [] fs within = absurd (omega arith)
get_take_append (suc at) (e ∷ es) fs within = get_take_append at es fs (omega arith)

get_take_append_next : {X : Type 0} (at : ℕ) (es fs : List X) → at ≤ length es → slice_get (take at es ++ fs) (suc at) ≡ slice_get fs 1
get_take_append_next zero es fs within = refl
get_take_append_next (suc at) [] fs within = absurd (omega arith)
get_take_append_next (suc at) (e ∷ es) fs within = get_take_append_next at es fs (omega arith)

-- the entry that was put at a position, and the one that it pushed back
pub get_put : {X : Type 0} (at : ℕ) (e : X) (es : List X) → at ≤ length es → slice_get (take at es ++ e ∷ drop at es) at ≡ Some e
get_put at e es within = get_take_append at es (e ∷ drop at es) within

pub get_behind_put : {X : Type 0} (at : ℕ) (e : X) (es : List X) → at ≤ length es → slice_get (take at es ++ e ∷ drop at es) (suc at) ≡ slice_get es at
get_behind_put at e es within = get_take_append_next at es (e ∷ drop at es) within ∙ get_drop at es

-- an entry put at a position, and the next one taken out
pub put_over_next : {X : Type 0} (at : ℕ) (e : X) (es : List X) → at ≤ length es → take (suc at) (take at es ++ e ∷ drop at es) ++ drop (suc (suc at)) (take at es ++ e ∷ drop at es) ≡ take at es ++ e ∷ drop (suc at) es
put_over_next zero e [] within = refl
put_over_next zero e (f ∷ es) within = refl
put_over_next (suc at) e [] within = absurd (omega arith)
put_over_next (suc at) e (f ∷ es) within = ap (λ rest. f ∷ rest) (put_over_next at e es (omega arith))

-- an entry written again at its position
pub put_again : {X : Type 0} (at : ℕ) (e f : X) (es gs : List X) → at ≤ length es → take at (take at es ++ e ∷ gs) ++ f ∷ drop (suc at) (take at es ++ e ∷ gs) ≡ take at es ++ f ∷ gs
put_again zero e f es gs within = refl
put_again (suc at) e f [] gs within = absurd (omega arith)
put_again (suc at) e f (g ∷ es) gs within = ap (λ rest. g ∷ rest) (put_again at e f es gs (omega arith))

-- an entry taken out leaves those before it
pub get_before_taken : {X : Type 0} (i : ℕ) (es : List X) → suc i < length es → slice_get (take (suc i) es ++ drop (suc (suc i)) es) i ≡ slice_get es i
get_before_taken i [] within = absurd (omega arith)
get_before_taken zero (e ∷ es) within = refl
get_before_taken (suc i) (e ∷ es) within = get_before_taken i es (omega arith)

-- the next entry taken out, and then this one written
pub link_next : {X : Type 0} (i : ℕ) (f : X) (es : List X) → suc i < length es → take i (take (suc i) es ++ drop (suc (suc i)) es) ++ f ∷ drop (suc i) (take (suc i) es ++ drop (suc (suc i)) es) ≡ take i es ++ f ∷ drop (suc (suc i)) es
link_next i f [] within = absurd (omega arith)
link_next zero f (e ∷ es) within = refl
link_next (suc i) f (e ∷ es) within = ap (λ rest. e ∷ rest) (link_next i f es (omega arith))

-- an entry taken out, and then the one that was after it
pub take_both : {X : Type 0} (i : ℕ) (es : List X) → take i (take i es ++ drop (suc i) es) ++ drop (suc i) (take i es ++ drop (suc i) es) ≡ take i es ++ drop (suc (suc i)) es
take_both zero [] = refl
take_both (suc i) [] = refl
take_both zero (e ∷ []) = refl
take_both zero (e ∷ (f ∷ es)) = refl
take_both (suc i) (e ∷ es) = ap (λ rest. e ∷ rest) (take_both i es)

-- ---- what the entries represent

pub get-map : {X Y : Type 0} (f : X → Y) (at : ℕ) (es : List X) → slice_get (map f es) at ≡ option_map f (slice_get es at)
get-map f at [] = refl
get-map f zero (e ∷ es) = refl
get-map f (suc at) (e ∷ es) = get-map f at es

pub entry_before-map : {X Y : Type 0} (f : X → Y) (at : ℕ) (es : List X) → entry_before at (map f es) ≡ option_map f (entry_before at es)
entry_before-map f zero es = refl
entry_before-map f (suc at) es = get-map f at es

-- `insert` at a key that a look-up misses
pub insert_new : {X : Type 0} (k : ℕ) (v : X) (es : List (ℕ × X)) → Ascends es → lookup (is_at (nat_cmp k)) es ≡ None → insert_entry nat_cmp es k v ≡ take (count_up_to k es) es ++ (k, v) ∷ drop (count_up_to k es) es
insert_new k v es sorted none = insert_at (count_up_to k es) k v es (split_from_none k es sorted none)
