use Rattle.std.proofs.Common.{arith, ◌≡◌, ℕ, zero, suc, ◌+◌, ◌<◌, ◌≤◌, List, [], ◌∷◌, ◌++◌, length, take, drop, slice_index_or, slice_set, ap, refl}
use Rattle.dcsctp_core.specs.types.Ids.{stream_numbers}
use Rattle.dcsctp_core.specs.types.declared.ids.StreamId.{StreamId}

-- One more number is written, and the rest of the buffer is one shorter.
pub written : (ids : List StreamId) (old : List ℕ) (i : ℕ) (none : StreamId) → i < length ids → length ids ≤ length old
    → slice_set (stream_numbers (take i ids) ++ drop i old) i (slice_index_or ids i none).0 ≡ stream_numbers (take (suc i) ids) ++ drop (suc i) old
written [] old i none short room = grind arith
written (id ∷ ids) [] i none short room = grind arith
written (id ∷ ids) (number ∷ old) zero none short room = refl
written (id ∷ ids) (number ∷ old) (suc i) none short room = ap (λ rest. id.0 ∷ rest) (written ids old i none (omega arith) (omega arith))

pub written_next : (ids : List StreamId) (old now : List ℕ) (i : ℕ) (none : StreamId) → now ≡ stream_numbers (take i ids) ++ drop i old
    → i < length ids → length ids ≤ length old
    → slice_set now i (slice_index_or ids i none).0 ≡ stream_numbers (take (i + 1) ids) ++ drop (i + 1) old
written_next ids old now i none is short room = let e : i + 1 ≡ suc i = omega arith in rw e (rw is (written ids old i none short room))
