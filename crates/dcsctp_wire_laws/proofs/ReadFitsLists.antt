-- What is read of bytes one after the other, as parameters and causes are, fits, and is spelled no longer than the bytes.
use Rattle.std.proofs.Common.{◌≡◌, ℕ, ◌+◌, ◌-◌, ◌<◌, ◌≤◌, ◌^◌, ltb, Option, Some, List, [], ◌∷◌, length, map, take, drop, arith, length-drop}
use Rattle.std.specs.Option.{IfSome}
use Rattle.std.specs.List.{AllByRecursion}
use Rattle.std.proofs.lemmas.Bool.{ltb-false}
use Rattle.std.proofs.lemmas.Option.{MatchOption-at_some}
use Rattle.std.proofs.lemmas.List.{length-take-le}
use Rattle.dcsctp_wire.specs.Content.{ParameterContent}
use Rattle.dcsctp_wire.specs.Fields.{u16_at}
use Rattle.dcsctp_wire.specs.Format.{padding_of, Frame, leading_frame, BeginsWith, AreItems, IsReadAsItem}
use Rattle.dcsctp_wire.specs.Spelling.{parameter_value, parameters_len}
use Rattle.dcsctp_wire.proofs.Lengths.{length-parameter_bytes}
use Rattle.dcsctp_wire_laws.proofs.ReadFitsNumbers.{picked, InBytes, front_in_bytes, behind_in_bytes, u16_fits}
use Rattle.dcsctp_wire_laws.proofs.ReadsBackItems.{len_of_more}

-- ---- frames

-- The value and the rest of a frame are bytes. It has its padding, if anything follows it.
pub record FrameFits (bytes value rest : List ℕ) : Type 0 where
  pub value_in_bytes : InBytes value
  pub rest_in_bytes : InBytes rest
  pub len_fits : 4 + length value < 2 ^ 16
  pub inside : 4 + length value ≤ length bytes
  pub behind : 1 ≤ length rest → 4 + length value + padding_of (4 + length value) + length rest ≤ length bytes

cut_fits : (bytes : List ℕ) (len : ℕ) → InBytes bytes → 4 ≤ len → len ≤ length bytes → len < 2 ^ 16 → FrameFits bytes (take (len - 4) (drop 4 bytes)) (drop (len + padding_of len) bytes)
cut_fits bytes len is header inside fits =
    let value : List ℕ = take (len - 4) (drop 4 bytes) in
    let value_len : length value ≡ len - 4 = length-take-le (len - 4) (drop 4 bytes) (omega (arith, length-drop 4 bytes)) in
    record {
      value_in_bytes = front_in_bytes (len - 4) (drop 4 bytes) (behind_in_bytes 4 bytes is);
      rest_in_bytes = behind_in_bytes (len + padding_of len) bytes is;
      len_fits = omega (arith, value_len);
      inside = omega (arith, value_len);
      behind = λ some. omega (arith, value_len, length-drop (len + padding_of len) bytes);
    }

read_frame_fits : (bytes : List ℕ) → InBytes bytes → IfSome (leading_frame bytes) (λ frame. FrameFits bytes frame.value frame.rest)
unfolding leading_frame
read_frame_fits bytes is =
    let len : ℕ = u16_at 2 bytes in
    picked (ltb (length bytes) 4) _ _ _ (λ _. tt) (λ _. picked (ltb len 4) _ _ _ (λ _. tt) (λ header. picked (ltb (length bytes) len) _ _ _ (λ _. tt)
    (λ inside. cut_fits bytes len is (ltb-false len 4 header) (ltb-false (length bytes) len inside) (u16_fits 2 bytes is))))

pub frame_fits : {Item : Type 0} (Says : Item → List ℕ → List ℕ → Type 0) (item : Item) (rest bytes : List ℕ) → InBytes bytes
    → (begins : BeginsWith Says item rest bytes) → FrameFits bytes begins.value rest
frame_fits Says item rest bytes is begins =
    MatchOption-at_some (Unit {0}) (λ (frame : Frame). FrameFits bytes frame.value frame.rest) (record { value = begins.value; rest = rest }) begins.framed (read_frame_fits bytes is)

-- ---- one item

-- An item fits, and what it is spelled as is no longer than the value that it was read from.
pub record FitsWithin {Item : Type 0} (Fits : Item → Type 0) (spelled : Item → ParameterContent) (value : List ℕ) (item : Item) : Type 0 where
  pub fits : Fits item
  pub within : length (parameter_value (spelled item)) ≤ length value

padded_within : (m n : ℕ) → m ≤ n → m + padding_of m ≤ n + padding_of n
padded_within m n le = omega arith

-- ---- items after one another

-- Items fit, and their length is within those bytes.
pub record FitAll {Item : Type 0} (Fits : Item → Type 0) (spelled : Item → ParameterContent) (bytes : List ℕ) (items : List Item) : Type 0 where
  pub all_fit : AllByRecursion Fits items
  pub len_within : parameters_len (map spelled items) ≤ length bytes

-- Whatever is read of a type or code, and of a value, fits.
abbrev pub ReadsWhatFits : {Item : Type 0} → (ℕ → List ℕ → Option Item) → (Item → Type 0) → (Item → ParameterContent) → Type 0
ReadsWhatFits {Item} read Fits spelled =
    (item : Item) (number : ℕ) (value : List ℕ) → number < 2 ^ 16 → InBytes value → read number value ≡ Some item → FitsWithin Fits spelled value item

module _ {Item : Type 0} (read : ℕ → List ℕ → Option Item) (Fits : Item → Type 0) (spelled : Item → ParameterContent) (what : ReadsWhatFits read Fits spelled) where
  item_fits : (item : Item) (rest bytes : List ℕ) → InBytes bytes → (begins : BeginsWith (IsReadAsItem read) item rest bytes) → FitsWithin Fits spelled begins.value item
  item_fits item rest bytes is begins =
      what item (u16_at 0 bytes) begins.value (u16_fits 0 bytes is) (frame_fits (IsReadAsItem read) item rest bytes is begins).value_in_bytes begins.read

  pub items_fit : (items : List Item) (bytes : List ℕ) → InBytes bytes → AreItems (IsReadAsItem read) items bytes → FitAll Fits spelled bytes items
  unfolding parameters_len
  items_fit [] bytes is h = record { all_fit = tt; len_within = omega arith }
  items_fit (item ∷ []) bytes is h =
      let frame = frame_fits (IsReadAsItem read) item h.0 bytes is h.1 in
      let first = item_fits item h.0 bytes is h.1 in
      record { all_fit = (first.fits, tt); len_within = omega (arith, frame.inside, first.within) }
  items_fit (item ∷ other ∷ others) bytes is h =
      let frame = frame_fits (IsReadAsItem read) item h.0 bytes is h.1 in
      let next = frame_fits (IsReadAsItem read) other h.2.0 h.0 frame.rest_in_bytes h.2.1 in
      let first = item_fits item h.0 bytes is h.1 in
      let behind = items_fit (other ∷ others) h.0 frame.rest_in_bytes h.2 in
      let left : 1 ≤ length h.0 = omega (arith, next.inside) in
      let padded = padded_within (4 + length (parameter_value (spelled item))) (4 + length h.1.value) (omega (arith, first.within)) in
      record {
        all_fit = (first.fits, behind.all_fit);
        len_within = omega (arith, frame.behind left, behind.len_within, padded, len_of_more (spelled item) (spelled other) (map spelled others), length-parameter_bytes (spelled item));
      }
