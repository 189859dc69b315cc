-- Entries by rising numbers: what is found once one was put or taken out.
use Rattle.std.proofs.Common.{◌≡◌, ◌<◌, ℕ, Bool, true, false, cond, Option, Some, None, List, [], ◌∷◌, refl, sym, ap, subst, ◌∙◌, Ordering, Less, Equal, Greater, arith}
use Rattle.std.specs.Cmp.{ranks}
use Rattle.std.specs.Ordering.{nat_cmp, is_eq, match_ordering, MatchOrdering}
use Rattle.dcsctp_channel_calls.specs.View.{entry_numbered, entry_put, without_entry}
use Rattle.dcsctp_channel_laws.specs.Lives.{ComesFirst, AreRising}

-- ---- the first entry

same_eq : (a b : ℕ) → a ≡ b → is_eq (nat_cmp a b) ≡ true
same_eq a b same = go (nat_cmp a b) (ranks a b)
  where
    go : (r : Ordering) → MatchOrdering r (a < b) (a ≡ b) (b < a) → is_eq r ≡ true
    go Less h = absurd (omega arith)
    go Equal h = refl
    go Greater h = absurd (omega arith)

apart_eq : (a b : ℕ) → (a ≡ b → ⊥) → is_eq (nat_cmp a b) ≡ false
apart_eq a b apart = go (nat_cmp a b) (ranks a b)
  where
    go : (r : Ordering) → MatchOrdering r (a < b) (a ≡ b) (b < a) → is_eq r ≡ false
    go Less h = refl
    go Equal h = absurd (apart h)
    go Greater h = refl

head_here : {A : Type 0} (q : ℕ) (e : ℕ × A) (es : List (ℕ × A)) → q ≡ e.0 → entry_numbered q (e ∷ es) ≡ Some e.1
head_here {A} q e es same = ap (λ (b : Bool). cond b (Some e.1) (entry_numbered q es)) (same_eq q e.0 same)

head_apart : {A : Type 0} (q : ℕ) (e : ℕ × A) (es : List (ℕ × A)) → (q ≡ e.0 → ⊥) → entry_numbered q (e ∷ es) ≡ entry_numbered q es
head_apart {A} q e es apart = ap (λ (b : Bool). cond b (Some e.1) (entry_numbered q es)) (apart_eq q e.0 apart)

-- ---- an entry is put

pub put_here : {A : Type 0} (k : ℕ) (v : A) (es : List (ℕ × A)) → entry_numbered k (entry_put k v es) ≡ Some v
put_here k v [] = head_here k (k, v) [] refl
put_here {A} k v (e ∷ es) = go (nat_cmp k e.0) (ranks k e.0) (put_here k v es)
  where
    go : (r : Ordering) → MatchOrdering r (k < e.0) (k ≡ e.0) (e.0 < k) → entry_numbered k (entry_put k v es) ≡ Some v → entry_numbered k (match_ordering r ((k, v) ∷ e ∷ es) ((e.0, v) ∷ es) (e ∷ entry_put k v es)) ≡ Some v
    go Less h rest = head_here k (k, v) (e ∷ es) refl
    go Equal h rest = head_here k (e.0, v) es h
    go Greater h rest = head_apart k e (entry_put k v es) (λ (same : k ≡ e.0). omega arith) ∙ rest

pub put_apart : {A : Type 0} (q k : ℕ) (v : A) (es : List (ℕ × A)) → (q ≡ k → ⊥) → entry_numbered q (entry_put k v es) ≡ entry_numbered q es
put_apart q k v [] apart = head_apart q (k, v) [] apart
put_apart {A} q k v (e ∷ es) apart = go (nat_cmp k e.0) (ranks k e.0) (put_apart q k v es apart)
  where
    go : (r : Ordering) → MatchOrdering r (k < e.0) (k ≡ e.0) (e.0 < k) → entry_numbered q (entry_put k v es) ≡ entry_numbered q es → entry_numbered q (match_ordering r ((k, v) ∷ e ∷ es) ((e.0, v) ∷ es) (e ∷ entry_put k v es)) ≡ entry_numbered q (e ∷ es)
    go Less h rest = head_apart q (k, v) (e ∷ es) apart
    go Equal h rest = head_apart q (e.0, v) es (λ (s : q ≡ e.0). apart (s ∙ sym h)) ∙ sym (head_apart q e es (λ (s : q ≡ e.0). apart (s ∙ sym h)))
    go Greater h rest = ap (λ (o : Option A). cond (is_eq (nat_cmp q e.0)) (Some e.1) o) rest

below_less : {A : Type 0} (m k : ℕ) (es : List (ℕ × A)) → m < k → ComesFirst k es → ComesFirst m es
below_less m k [] less below = tt
below_less m k (e ∷ es) less (first, rest) = (omega arith, below_less m k es less rest)

below_put : {A : Type 0} (m k : ℕ) (v : A) (es : List (ℕ × A)) → m < k → ComesFirst m es → ComesFirst m (entry_put k v es)
below_put m k v [] less below = (less, tt)
below_put {A} m k v (e ∷ es) less (first, rest) = go (nat_cmp k e.0) (below_put m k v es less rest)
  where
    go : (r : Ordering) → ComesFirst m (entry_put k v es) → ComesFirst m (match_ordering r ((k, v) ∷ e ∷ es) ((e.0, v) ∷ es) (e ∷ entry_put k v es))
    go Less more = (less, (first, rest))
    go Equal more = (first, rest)
    go Greater more = (first, more)

pub rising_put : {A : Type 0} (k : ℕ) (v : A) (es : List (ℕ × A)) → AreRising es → AreRising (entry_put k v es)
rising_put k v [] rising = (tt, tt)
rising_put {A} k v (e ∷ es) (below, rest) = go (nat_cmp k e.0) (ranks k e.0) (rising_put k v es rest)
  where
    go : (r : Ordering) → MatchOrdering r (k < e.0) (k ≡ e.0) (e.0 < k) → AreRising (entry_put k v es) → AreRising (match_ordering r ((k, v) ∷ e ∷ es) ((e.0, v) ∷ es) (e ∷ entry_put k v es))
    go Less h more = ((h, below_less k e.0 es h below), (below, rest))
    go Equal h more = (below, rest)
    go Greater h more = (below_put e.0 k v es h below, more)

-- ---- an entry is taken out

below_none : {A : Type 0} (q : ℕ) (es : List (ℕ × A)) → ComesFirst q es → entry_numbered q es ≡ None
below_none q [] below = refl
below_none q (e ∷ es) (first, rest) = head_apart q e es (λ (s : q ≡ e.0). omega arith) ∙ below_none q es rest

pub without_here : {A : Type 0} (k : ℕ) (es : List (ℕ × A)) → AreRising es → entry_numbered k (without_entry k es) ≡ None
without_here k [] rising = refl
without_here {A} k (e ∷ es) (below, rest) = go (nat_cmp k e.0) (ranks k e.0) (without_here k es rest)
  where
    go : (r : Ordering) → MatchOrdering r (k < e.0) (k ≡ e.0) (e.0 < k) → entry_numbered k (without_entry k es) ≡ None → entry_numbered k (cond (is_eq r) es (e ∷ without_entry k es)) ≡ None
    go Less h more = head_apart k e (without_entry k es) (λ (same : k ≡ e.0). omega arith) ∙ more
    go Equal h more = below_none k es (subst (λ (m : ℕ). ComesFirst m es) (sym h) below)
    go Greater h more = head_apart k e (without_entry k es) (λ (same : k ≡ e.0). omega arith) ∙ more

pub without_apart : {A : Type 0} (q k : ℕ) (es : List (ℕ × A)) → (q ≡ k → ⊥) → entry_numbered q (without_entry k es) ≡ entry_numbered q es
without_apart q k [] apart = refl
without_apart {A} q k (e ∷ es) apart = go (nat_cmp k e.0) (ranks k e.0) (without_apart q k es apart)
  where
    go : (r : Ordering) → MatchOrdering r (k < e.0) (k ≡ e.0) (e.0 < k) → entry_numbered q (without_entry k es) ≡ entry_numbered q es → entry_numbered q (cond (is_eq r) es (e ∷ without_entry k es)) ≡ entry_numbered q (e ∷ es)
    go Less h rest = ap (λ (o : Option A). cond (is_eq (nat_cmp q e.0)) (Some e.1) o) rest
    go Equal h rest = sym (head_apart q e es (λ (s : q ≡ e.0). apart (s ∙ sym h)))
    go Greater h rest = ap (λ (o : Option A). cond (is_eq (nat_cmp q e.0)) (Some e.1) o) rest

below_without : {A : Type 0} (m k : ℕ) (es : List (ℕ × A)) → ComesFirst m es → ComesFirst m (without_entry k es)
below_without m k [] below = tt
below_without {A} m k (e ∷ es) (first, rest) = go (is_eq (nat_cmp k e.0)) (below_without m k es rest)
  where
    go : (b : Bool) → ComesFirst m (without_entry k es) → ComesFirst m (cond b es (e ∷ without_entry k es))
    go true more = rest
    go false more = (first, more)

pub rising_without : {A : Type 0} (k : ℕ) (es : List (ℕ × A)) → AreRising es → AreRising (without_entry k es)
rising_without k [] rising = tt
rising_without {A} k (e ∷ es) (below, rest) = go (is_eq (nat_cmp k e.0)) (rising_without k es rest)
  where
    go : (b : Bool) → AreRising (without_entry k es) → AreRising (cond b es (e ∷ without_entry k es))
    go true more = rest
    go false more = (below_without e.0 k es below, more)
