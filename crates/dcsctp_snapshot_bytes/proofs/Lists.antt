-- Writing and reading the elements of a list one after the other, as a loop does.
use Rattle.std.proofs.Common.{◌≡◌, ℕ, suc, ◌-◌, ◌+◌, ◌≤◌, ◌<◌, List, [], ◌∷◌, ◌++◌, map, take, get_or, length, Option, Some, None, refl, sym, ap, ◌∙◌, append_assoc, arith}
use Rattle.std.specs.List.{flat_map}
use Rattle.std.proofs.lemmas.List.{append-nil, map_more, flat_map_more}
use Rattle.dcsctp_snapshot_bytes.specs.declared.reader.ReadError.{ReadError}
use Rattle.dcsctp_snapshot_bytes.specs.declared.reader.ReadError.TheVariants.{Malformed, OutOfMemory}
use Rattle.dcsctp_snapshot_bytes.specs.Fields.{◌>>=◌, leading_elements}
use Rattle.dcsctp_snapshot_bytes.specs.Gives.{FailsReading}

-- one more element is written
pub written_more : {X A : Type 0} (part_of : X → A) (bytes_of : A → List ℕ) (front : List ℕ) (elements : List X) (i : ℕ) (d : X) → i < length elements
    → (front ++ flat_map bytes_of (map part_of (take i elements))) ++ bytes_of (part_of (get_or elements i d)) ≡ front ++ flat_map bytes_of (map part_of (take (i + 1) elements))
written_more part_of bytes_of front elements i d lt =
    flat_map_more bytes_of front (map part_of (take i elements)) (part_of (get_or elements i d))
    ∙ ap (λ (parts : List _). front ++ flat_map bytes_of parts) (sym (map_more part_of elements i d lt))

-- what was read before, and what is still read
abbrev pub with_front : {A : Type 0} → List A → Option (List A × List ℕ) → Option (List A × List ℕ)
with_front front read = read >>= λ x. Some (front ++ x.0, x.1)

regroup : {A : Type 0} (front : List A) (first : A) (read : Option (List A × List ℕ)) → with_front front (read >>= λ x. Some (first ∷ x.0, x.1)) ≡ with_front (front ++ first ∷ []) read
regroup {A} front first (Some x) = ap (λ (parts : List A). Some (parts, x.1)) (simp append_assoc)
regroup front first None = refl

pub goes_on : {A : Type 0} (part_at : List ℕ → Option (A × List ℕ)) (front : List A) (count i : ℕ) (bytes : List ℕ) (first : A) (after : List ℕ) (total : Option (List A × List ℕ)) → i < count → part_at bytes ≡ Some (first, after)
    → with_front front (leading_elements part_at (count - i) bytes) ≡ total → with_front (front ++ first ∷ []) (leading_elements part_at (count - (i + 1)) after) ≡ total
unfolding leading_elements
goes_on part_at front count i bytes first after total lt h so_far =
    let k : count - i ≡ suc (count - (i + 1)) = omega arith in
    let one : with_front front (leading_elements part_at (count - i) bytes) ≡ with_front (front ++ first ∷ []) (leading_elements part_at (count - (i + 1)) after) = rw (k, h) (regroup front first (leading_elements part_at (count - (i + 1)) after)) in
    sym one ∙ so_far

pub ends : {A : Type 0} (part_at : List ℕ → Option (A × List ℕ)) (error : ReadError) (front : List A) (count i : ℕ) (bytes : List ℕ) (total : Option (List A × List ℕ)) → i < count → FailsReading error (part_at bytes)
    → with_front front (leading_elements part_at (count - i) bytes) ≡ total → FailsReading error total
unfolding leading_elements
ends part_at OutOfMemory front count i bytes total lt h so_far = tt
ends part_at Malformed front count i bytes total lt h so_far =
    let k : count - i ≡ suc (count - (i + 1)) = omega arith in
    let one : with_front front (leading_elements part_at (count - i) bytes) ≡ None = rw (k, h) refl in
    sym so_far ∙ one

pub is_done : {A : Type 0} (part_at : List ℕ → Option (A × List ℕ)) (front : List A) (count i : ℕ) (bytes : List ℕ) (total : Option (List A × List ℕ)) → count ≤ i
    → with_front front (leading_elements part_at (count - i) bytes) ≡ total → total ≡ Some (front, bytes)
unfolding leading_elements
is_done {A} part_at front count i bytes total le so_far =
    let k : count - i ≡ 0 = omega arith in
    let one : with_front front (leading_elements part_at (count - i) bytes) ≡ Some (front, bytes) = rw k (ap (λ (parts : List A). Some (parts, bytes)) (append-nil front)) in
    sym so_far ∙ one
