-- Places in lists, and tables.
use Rattle.std.proofs.Common.{◌≡◌, ◌≢◌, ℕ, ◌<◌, List, [], ◌∷◌, ◌++◌, length, refl, ◌∙◌, ap, arith, inl, inr}
use Rattle.std.specs.Prelude.{◌⊎◌, Some}
use Rattle.std.proofs.lemmas.Bool.{eq-eqb}
use Rattle.std.proofs.lemmas.Bool.Decides.{eqb_tells}
use Rattle.dcsctp_delivery_directions.specs.sending.Places.{at_place, table_with}

pub decide : (m n : ℕ) → (m ≡ n) ⊎ (m ≢ n)
decide m n = elim (eqb_tells m n) [ inl e ↦ inl e.1 | inr e ↦ inr e.1 ]

-- ---- tables

pub set_same : {A : Type 0} (n : ℕ) (v : A) (f : ℕ → A) → table_with n v f n ≡ v
set_same n v f = rw (eq-eqb n n refl) refl

pub set_other : {A : Type 0} (n m : ℕ) (v : A) (f : ℕ → A) → m ≢ n → table_with n v f m ≡ f m
set_other n m v f ne = elim (eqb_tells m n) [ inl e ↦ absurd (ne e.1) | inr e ↦ rw e.0 refl ]

-- ---- places

pub at_new : {A : Type 0} (x : A) (l : List A) → at_place (length l) (x ∷ l) ≡ Some x
at_new x l = rw (eq-eqb (length l) (length l) refl) refl

pub at_old : {A : Type 0} (n : ℕ) (x : A) (l : List A) → n < length l → at_place n (x ∷ l) ≡ at_place n l
at_old n x l below = elim (eqb_tells n (length l)) [ inl e ↦ (let is : n ≡ length l = e.1 in absurd (omega arith)) | inr e ↦ rw e.0 refl ]

pub at_cases : {A : Type 0} (n : ℕ) (x y : A) (l : List A) → at_place n (x ∷ l) ≡ Some y → ((n ≡ length l) × (x ≡ y)) ⊎ (at_place n l ≡ Some y)
at_cases n x y l at =
    elim (eqb_tells n (length l)) [
      | inl e ↦ (let is : Some x ≡ Some y = rw e.0 at at in inl (e.1, cc))
      | inr e ↦ (let is : at_place n l ≡ Some y = rw e.0 at at in inr is)
    ]

pub at_below : {A : Type 0} (n : ℕ) (y : A) (l : List A) → at_place n l ≡ Some y → n < length l
at_below n y [] at = absurd (cc)
at_below n y (x ∷ l) at = elim (at_cases n x y l at) [ inl e ↦ omega (arith, e.0) | inr e ↦ omega (arith, at_below n y l e) ]

pub at_some : {A : Type 0} (n : ℕ) (l : List A) → n < length l → (x : A) × (at_place n l ≡ Some x)
at_some n [] low = absurd (omega (arith, low))
at_some n (x ∷ l) low =
    elim (eqb_tells n (length l)) [
      | inl e ↦ (x, rw e.0 refl)
      | inr e ↦ (let differs = e.1 in let (y, at) = at_some n l (omega (arith, low, differs)) in (y, rw e.0 at))
    ]

pub at_stays : {A : Type 0} (n : ℕ) (x y : A) (l : List A) → at_place n l ≡ Some y → at_place n (x ∷ l) ≡ Some y
at_stays n x y l at = at_old n x l (at_below n y l at) ∙ at

-- an item is among the newer ones or the older ones
pub at_either : {A : Type 0} (newer older : List A) (n : ℕ) (x : A) → at_place n (newer ++ older) ≡ Some x → ((k : ℕ) × (at_place k newer ≡ Some x)) ⊎ (at_place n older ≡ Some x)
at_either [] older n x at = inr at
at_either (y ∷ newer) older n x at =
    elim (at_cases n y x (newer ++ older) at) [
      | inl e ↦ inl (length newer, at_new y newer ∙ ap Some e.1)
      | inr old ↦
          elim (at_either newer older n x old) [
            | inl e ↦ inl (e.0, at_stays e.0 y x newer e.1)
            | inr e ↦ inr e
          ]
    ]
