-- Lists in which nothing comes twice.
use Rattle.std.proofs.Common.{◌≡◌, ℕ, List, [], ◌∷◌, ◌++◌, refl, sym, ap, subst, inl, inr}
use Rattle.std.specs.Prelude.{◌⊎◌}
use Rattle.std.proofs.lemmas.List.{append-nil}
use Rattle.dcsctp_delivery_directions.specs.sending.Places.{HasEntry}
use Rattle.dcsctp_delivery_directions.specs.receiving.Ready.{AreDistinct}

-- ---- lists of places

pub has_left : (p : ℕ) (xs ys : List ℕ) → HasEntry p xs → HasEntry p (xs ++ ys)
has_left p [] ys h = absurd h
has_left p (x ∷ xs) ys h = elim h [ inl e ↦ inl e | inr t ↦ inr (has_left p xs ys t) ]

pub has_right : (p : ℕ) (xs ys : List ℕ) → HasEntry p ys → HasEntry p (xs ++ ys)
has_right p [] ys h = h
has_right p (x ∷ xs) ys h = inr (has_right p xs ys h)

pub has_either : (p : ℕ) (xs ys : List ℕ) → HasEntry p (xs ++ ys) → HasEntry p xs ⊎ HasEntry p ys
has_either p [] ys h = inr h
has_either p (x ∷ xs) ys h =
    elim h [
      | inl e ↦ inl (inl e)
      | inr t ↦ elim (has_either p xs ys t) [ inl l ↦ inl (inr l) | inr r ↦ inr r ]
    ]

pub appended : (xs ys zs : List ℕ) → (xs ++ ys) ++ zs ≡ xs ++ (ys ++ zs)
appended [] ys zs = refl
appended (x ∷ xs) ys zs = ap (λ (l : List ℕ). x ∷ l) (appended xs ys zs)

-- one more, anywhere
pub distinct_with : (p : ℕ) (xs ys : List ℕ) → AreDistinct (xs ++ ys) → (HasEntry p (xs ++ ys) → ⊥) → AreDistinct (xs ++ (p ∷ ys))
distinct_with p [] ys distinct fresh = (fresh, distinct)
distinct_with p (x ∷ xs) ys distinct fresh = (
  λ h. elim (has_either x xs (p ∷ ys) h) [
    | inl l ↦ distinct.0 (has_left x xs ys l)
    | inr r ↦ elim r [
      | inl e ↦ fresh (inl (sym e))
      | inr t ↦ distinct.0 (has_right x xs ys t)
    ]
  ],
  distinct_with p xs ys distinct.1 (λ h. fresh (inr h)),
)

pub distinct_left : (xs ys : List ℕ) → AreDistinct (xs ++ ys) → AreDistinct xs
distinct_left [] ys distinct = tt
distinct_left (x ∷ xs) ys distinct = (λ h. distinct.0 (has_left x xs ys h), distinct_left xs ys distinct.1)

distinct_both : (xs ys : List ℕ) → AreDistinct xs → AreDistinct ys → ((p : ℕ) → HasEntry p xs → HasEntry p ys → ⊥) → AreDistinct (xs ++ ys)
distinct_both [] ys left right apart = right
distinct_both (x ∷ xs) ys left right apart = (
  λ h. elim (has_either x xs ys h) [ inl l ↦ left.0 l | inr r ↦ apart x (inl refl) r ],
  distinct_both xs ys left.1 right (λ p l r. apart p (inr l) r),
)

-- two lists that are each apart from a third
pub distinct_apart : (xs es ys : List ℕ) → AreDistinct (xs ++ es) → AreDistinct (xs ++ ys) → ((p : ℕ) → HasEntry p es → HasEntry p ys → ⊥) → AreDistinct ((xs ++ es) ++ ys)
distinct_apart [] es ys one two apart = distinct_both es ys one two apart
distinct_apart (x ∷ xs) es ys one two apart = (
  λ h. elim (has_either x (xs ++ es) ys h) [
    | inl l ↦ one.0 l
    | inr r ↦ two.0 (has_right x xs ys r)
  ],
  distinct_apart xs es ys one.1 two.1 apart,
)

pub distinct_front : (xs ys : List ℕ) → AreDistinct (xs ++ ys) → AreDistinct (xs ++ [])
distinct_front xs ys distinct = subst (λ (l : List ℕ). AreDistinct l) (sym (append-nil xs)) (distinct_left xs ys distinct)
