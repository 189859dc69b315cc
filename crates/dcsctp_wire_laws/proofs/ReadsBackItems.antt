-- What is written as parameters are reads back, where the padding of the last is left out.
use Rattle.std.proofs.Common.{◌≡◌, ℕ, ◌+◌, ◌^◌, ◌<◌, List, [], ◌∷◌, ◌++◌, length, map, take, drop, Option, Some, refl, sym, ap, subst, ◌∙◌, append_assoc, arith}
use Rattle.std.specs.Int.{w16, to_be_bytes}
use Rattle.std.specs.List.{fold, flat_map, AllByRecursion}
use Rattle.std.proofs.Math.Seq.{drop-nil, take-append-add}
use Rattle.std.proofs.lemmas.List.{append-nil, take_at, drop_at, length-replicate}
use Rattle.std.proofs.lemmas.Nat.{from_be_bytes-to_be_bytes_2}
use Rattle.dcsctp_wire.specs.Content.{ParameterContent}
use Rattle.dcsctp_wire.specs.Format.{padding_of, BeginsWith, AreItems, IsReadAsItem}
use Rattle.dcsctp_wire.specs.Spelling.{zeros, parameter_type, parameter_value, parameter_len, parameter_bytes, parameters_len}
use Rattle.dcsctp_wire.proofs.Lengths.{and_one_more, length-parameter_bytes}
use Rattle.dcsctp_wire_laws.proofs.ReadsBackFrames.{frame_behind}

-- An item that is written as a parameter is: its type or code fits, and with its value it is read as the item.
pub record IsReadBack {Item : Type 0} (read : ℕ → List ℕ → Option Item) (spelled : Item → ParameterContent) (item : Item) : Type 0 where
  pub type_fits : parameter_type (spelled item) < 2 ^ 16
  pub reads : parameter_len (spelled item) < 2 ^ 16 → read (parameter_type (spelled item)) (parameter_value (spelled item)) ≡ Some item

-- ---- one parameter

-- a parameter without its padding
abbrev unpadded : ParameterContent → List ℕ
unpadded parameter = to_be_bytes w16 (parameter_type parameter) ++ to_be_bytes w16 (parameter_len parameter) ++ parameter_value parameter

padding_behind : (parameter : ParameterContent) (more : List ℕ) → parameter_bytes parameter ++ more ≡ unpadded parameter ++ (zeros (padding_of (parameter_len parameter)) ++ more)
unfolding parameter_bytes
padding_behind parameter more = append_assoc (unpadded parameter) (zeros (padding_of (parameter_len parameter))) more

module _ {Item : Type 0} (read : ℕ → List ℕ → Option Item) (spelled : Item → ParameterContent) where
  begins : (item : Item) → IsReadBack read spelled item → parameter_len (spelled item) < 2 ^ 16 → (behind rest : List ℕ) → drop (padding_of (parameter_len (spelled item))) behind ≡ rest
      → BeginsWith (IsReadAsItem read) item rest (unpadded (spelled item) ++ behind)
  begins item fits short behind rest left =
      let parameter : ParameterContent = spelled item in
      record {
        value = parameter_value parameter;
        framed = frame_behind _ _ (parameter_len parameter) (parameter_value parameter) behind rest refl short left;
        read = ap (λ (n : ℕ). read n (parameter_value parameter)) (from_be_bytes-to_be_bytes_2 (parameter_type parameter) fits.type_fits) ∙ fits.reads short;
      }

  begins_padded : (item : Item) → IsReadBack read spelled item → parameter_len (spelled item) < 2 ^ 16 → (rest : List ℕ) → BeginsWith (IsReadAsItem read) item rest (parameter_bytes (spelled item) ++ rest)
  begins_padded item fits short rest =
      let padding : ℕ = padding_of (parameter_len (spelled item)) in
      subst (BeginsWith (IsReadAsItem read) item rest) (sym (padding_behind (spelled item) rest))
      (begins item fits short (zeros padding ++ rest) rest (drop_at (zeros padding) rest padding (length-replicate padding 0)))

-- ---- the length of parameters after one another

fold_from : (len : ℕ) (parameter : ParameterContent) (others : List ParameterContent)
    → fold and_one_more len (parameter ∷ others) ≡ len + padding_of len + fold and_one_more 0 (parameter ∷ others)
fold_from len parameter [] = omega arith
fold_from len parameter (other ∷ others) =
    omega (arith, fold_from (and_one_more len parameter) other others, fold_from (and_one_more 0 parameter) other others)

pub len_of_more : (parameter other : ParameterContent) (others : List ParameterContent)
    → parameters_len (parameter ∷ other ∷ others) ≡ length (parameter_bytes parameter) + parameters_len (other ∷ others)
unfolding parameters_len
len_of_more parameter other others =
    omega (arith, fold_from (and_one_more 0 parameter) other others, length-parameter_bytes parameter)

-- ---- parameters after one another

last_alone : (parameter : ParameterContent) → take (parameters_len (parameter ∷ [])) (flat_map parameter_bytes (parameter ∷ [])) ≡ unpadded parameter ++ []
unfolding parameters_len
last_alone parameter =
    let len_is : parameters_len (parameter ∷ []) ≡ parameter_len parameter = omega arith in
    ap (λ (n : ℕ). take n (parameter_bytes parameter ++ [])) len_is
    ∙ ap (take (parameter_len parameter)) (padding_behind parameter [])
    ∙ take_at (unpadded parameter) (zeros (padding_of (parameter_len parameter)) ++ []) (parameter_len parameter) (omega arith)
    ∙ sym (append-nil (unpadded parameter))

first_whole : (parameter other : ParameterContent) (others : List ParameterContent)
    → take (parameters_len (parameter ∷ other ∷ others)) (flat_map parameter_bytes (parameter ∷ other ∷ others))
    ≡ parameter_bytes parameter ++ take (parameters_len (other ∷ others)) (flat_map parameter_bytes (other ∷ others))
first_whole parameter other others =
    let all : List ℕ = flat_map parameter_bytes (parameter ∷ other ∷ others) in
    ap (λ (n : ℕ). take n all) (len_of_more parameter other others)
    ∙ take-append-add (parameter_bytes parameter) (flat_map parameter_bytes (other ∷ others)) (parameters_len (other ∷ others))

module _ {Item : Type 0} (read : ℕ → List ℕ → Option Item) (spelled : Item → ParameterContent) where
  pub items_read_back : (items : List Item) → AllByRecursion (IsReadBack read spelled) items → parameters_len (map spelled items) < 2 ^ 16
      → AreItems (IsReadAsItem read) items (take (parameters_len (map spelled items)) (flat_map parameter_bytes (map spelled items)))
  unfolding parameters_len
  items_read_back [] fits short = refl
  items_read_back (item ∷ []) fits short =
      let parameter : ParameterContent = spelled item in
      ([], subst (BeginsWith (IsReadAsItem read) item []) (sym (last_alone parameter)) (begins read spelled item fits.0 (omega arith) [] [] (drop-nil (padding_of (parameter_len parameter)))), refl)
  items_read_back (item ∷ other ∷ others) fits short =
      let parameter : ParameterContent = spelled item in
      let behind : List ParameterContent = map spelled others in
      let len : parameters_len (parameter ∷ spelled other ∷ behind) ≡ length (parameter_bytes parameter) + parameters_len (spelled other ∷ behind) = len_of_more parameter (spelled other) behind in
      let rest : List ℕ = take (parameters_len (spelled other ∷ behind)) (flat_map parameter_bytes (spelled other ∷ behind)) in
      (rest, subst (BeginsWith (IsReadAsItem read) item rest) (sym (first_whole parameter (spelled other) behind)) (begins_padded read spelled item fits.0 (omega (arith, length-parameter_bytes parameter)) rest), items_read_back (other ∷ others) fits.1 (omega arith))
