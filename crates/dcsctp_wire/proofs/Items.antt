-- Reading chunks, parameters or causes one after the other, as a loop does.
use Rattle.std.proofs.Common.{◌≡◌, ℕ, List, [], ◌∷◌, Option, Some, refl, sym, ap, subst, ◌∙◌}
use Rattle.dcsctp_wire.specs.Format.{Frame, leading_frame, BeginsWith, AreItems, IsReadAsItem}
use Rattle.dcsctp_wire.proofs.Frames.{frame_of_nothing, same_frame}

-- bytes and a value say one item
abbrev pub SaysOne : {Item : Type 0} → (Item → List ℕ → List ℕ → Type 0) → Type 0
SaysOne {Item} Says = (p q : Item) (bytes value : List ℕ) → Says p bytes value → Says q bytes value → p ≡ q

-- a function reads one item
pub one_is_read : {Item : Type 0} (read : ℕ → List ℕ → Option Item) → SaysOne (IsReadAsItem read)
one_is_read read p q bytes value a b = let same : Some p ≡ Some q = sym a ∙ b in cc same

module _ {Item : Type 0} (Says : Item → List ℕ → List ℕ → Type 0) where
  -- bytes begin with one item at most, and what follows it is unique
  pub same_item : SaysOne Says → (p q : Item) (rest after bytes : List ℕ) → BeginsWith Says p rest bytes → BeginsWith Says q after bytes → (p ≡ q) × (rest ≡ after)
  same_item one p q rest after bytes a b =
      let frames = same_frame bytes (record { value = a.value; rest = rest }) (record { value = b.value; rest = after }) a.framed b.framed in
      let same_value : a.value ≡ b.value = ap (λ (f : Frame). f.value) frames in
      (one p q bytes b.value (subst (Says p bytes) same_value a.read) b.read, ap (λ (f : Frame). f.rest) frames)

  -- an empty list of bytes has no item
  pub nothing_begins : (p : Item) (rest bytes : List ℕ) → BeginsWith Says p rest bytes → bytes ≡ [] → ⊥
  nothing_begins p rest bytes begins e =
      frame_of_nothing _ (subst (λ (b : List ℕ). leading_frame b ≡ Some (record { value = begins.value; rest = rest })) e begins.framed)

  -- the other items follow the first one
  pub others : SaysOne Says → (p : Item) (after bytes : List ℕ) → BeginsWith Says p after bytes → (ps : List Item) → AreItems Says ps bytes → (qs : List Item) × AreItems Says qs after
  others one p after bytes begins [] e = absurd (nothing_begins p after bytes begins e)
  others one p after bytes begins (q ∷ qs) h = (qs, subst (AreItems Says qs) (same_item one q p h.0 after bytes h.1 begins).1 h.2)

  -- where some bytes don't begin with an item, they are no list of items
  pub none_are : (bytes : List ℕ) → (bytes ≡ [] → ⊥) → ((p : Item) (rest : List ℕ) → BeginsWith Says p rest bytes → ⊥) → (ps : List Item) → AreItems Says ps bytes → ⊥
  none_are bytes some none [] e = some e
  none_are bytes some none (p ∷ ps) h = none p h.0 h.1

  -- bytes are one list of items
  pub same_items : SaysOne Says → (ps qs : List Item) (bytes : List ℕ) → AreItems Says ps bytes → AreItems Says qs bytes → ps ≡ qs
  same_items one [] [] bytes a b = refl
  same_items one [] (q ∷ qs) bytes a b = absurd (nothing_begins q b.0 bytes b.1 a)
  same_items one (p ∷ ps) [] bytes a b = absurd (nothing_begins p a.0 bytes a.1 b)
  same_items one (p ∷ ps) (q ∷ qs) bytes a b =
      let first = same_item one p q a.0 b.0 bytes a.1 b.1 in
      let behind : ps ≡ qs = same_items one ps qs b.0 (subst (AreItems Says ps) first.1 a.2) b.2 in
      cc (first.0, behind)
