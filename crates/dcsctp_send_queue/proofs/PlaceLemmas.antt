-- Places of streams by number, and streams that are put in.
use Rattle.std.proofs.Common.{◌≡◌, ℕ, zero, suc, below_more, ◌-◌, ◌+◌, ◌<◌, ◌≤◌, Option, Err, List, [], ◌∷◌, length, refl, sym, ap, ◌∙◌, arith}
use Rattle.std.specs.List.{insert, remove}
use Rattle.dcsctp_api.specs.types.declared.sending.Turn.{Turn}
use Rattle.dcsctp_api.specs.types.queues.SendStreams.{with_optional_turn, Stream, stream_at, turn_of, turns_of, IsBelow, IsAscending}
use Rattle.dcsctp_send_queue.specs.Ranking.{IsRanked, IsFound}
use Rattle.dcsctp_send_queue.proofs.StreamLemmas.{ascending_at, turns_of-split}

-- up to a stream of lesser number, all have lesser numbers
pub lesser_through : (streams : List Stream) (m id : ℕ) → IsAscending streams → m < length streams → (stream_at streams m).id < id → (k : ℕ) → k < m + 1 → (stream_at streams k).id < id
lesser_through streams m id ascending within less =
    below_more (λ k. (stream_at streams k).id < id) m (λ k lt. let e = ascending_at streams k m ascending lt within in omega (arith, e)) less

pub greater_by : (streams : List Stream) (m n k id : ℕ) → IsAscending streams → id ≤ (stream_at streams m).id → k ≡ m + n → k < length streams → id ≤ (stream_at streams k).id
greater_by streams m zero k id ascending le is within = let same : k ≡ m = omega arith in rw same le
greater_by streams m (suc n) k id ascending le is within = let e = ascending_at streams m k ascending (omega arith) within in omega (arith, e)

-- from a stream on of this number or a greater one, all have such numbers
pub greater_from : (streams : List Stream) (m id : ℕ) → IsAscending streams → id ≤ (stream_at streams m).id → (k : ℕ) → m ≤ k → k < length streams → id ≤ (stream_at streams k).id
greater_from streams m id ascending le k on within = greater_by streams m (k - m) k id ascending le (omega arith) within

pub above_by : (streams : List Stream) (m n k id : ℕ) → IsAscending streams → id < (stream_at streams m).id → k ≡ m + n → k < length streams → id < (stream_at streams k).id
above_by streams m zero k id ascending le is within = let same : k ≡ m = omega arith in rw same le
above_by streams m (suc n) k id ascending le is within = let e = ascending_at streams m k ascending (omega arith) within in omega (arith, e)

-- from a stream on of a greater number, all have greater ones
pub above_from : (streams : List Stream) (m id : ℕ) → IsAscending streams → id < (stream_at streams m).id → (k : ℕ) → m ≤ k → k < length streams → id < (stream_at streams k).id
above_from streams m id ascending le k on within = above_by streams m (k - m) k id ascending le (omega arith) within

pub IsBelow-insert : (id : ℕ) (streams : List Stream) (p : ℕ) (s : Stream) → IsBelow id streams → id < s.id → p ≤ length streams → IsBelow id (insert streams p s)
IsBelow-insert id [] zero s below lt le = (lt, tt)
IsBelow-insert id [] (suc p) s below lt le = absurd (omega arith)
IsBelow-insert id (x ∷ xs) zero s below lt le = (lt, below)
IsBelow-insert id (x ∷ xs) (suc p) s below lt le = (below.0, IsBelow-insert id xs p s below.1 lt (omega arith))

pub IsBelow-from : (id : ℕ) (streams : List Stream) → ((k : ℕ) → k < length streams → id < (stream_at streams k).id) → IsBelow id streams
IsBelow-from id [] h = tt
IsBelow-from id (x ∷ xs) h = (h zero (omega arith), IsBelow-from id xs (λ k lt. h (suc k) (omega arith)))

-- a stream may be put in where a search for its number ended
pub IsAscending-insert : (streams : List Stream) (p : ℕ) (s : Stream) → IsAscending streams → IsFound streams s.id (Err p) → IsAscending (insert streams p s)
IsAscending-insert [] zero s ascending found = (tt, tt)
IsAscending-insert [] (suc p) s ascending found = absurd (let b = found.0 in omega arith)
IsAscending-insert (x ∷ xs) zero s ascending found = (IsBelow-from s.id (x ∷ xs) (λ k lt. found.2 k (omega arith) lt), ascending)
IsAscending-insert (x ∷ xs) (suc p) s ascending found =
    let le : p ≤ length xs = let b = found.0 in omega arith in (
      IsBelow-insert x.id xs p s ascending.0 (found.1 zero (omega arith)) le,
      IsAscending-insert xs p s ascending.1 (le, (λ k lt. found.1 (suc k) (omega arith)), (λ k on lt. found.2 (suc k) (omega arith) (omega arith))),
    )

pub remove-insert : (streams : List Stream) (p : ℕ) (s : Stream) → p ≤ length streams → remove (insert streams p s) p ≡ streams
remove-insert [] zero s le = refl
remove-insert [] (suc p) s le = absurd (omega arith)
remove-insert (x ∷ xs) zero s le = refl
remove-insert (x ∷ xs) (suc p) s le = ap (λ ts. x ∷ ts) (remove-insert xs p s (omega arith))

pub stream_at-insert : (streams : List Stream) (p : ℕ) (s : Stream) → p ≤ length streams → stream_at (insert streams p s) p ≡ s
stream_at-insert [] zero s le = refl
stream_at-insert [] (suc p) s le = absurd (omega arith)
stream_at-insert (x ∷ xs) zero s le = refl
stream_at-insert (x ∷ xs) (suc p) s le = stream_at-insert xs p s (omega arith)

pub length-insert_at : (streams : List Stream) (p : ℕ) (s : Stream) → p ≤ length streams → length (insert streams p s) ≡ length streams + 1
length-insert_at [] zero s le = omega arith
length-insert_at [] (suc p) s le = absurd (omega arith)
length-insert_at (x ∷ xs) zero s le = omega arith
length-insert_at (x ∷ xs) (suc p) s le = let e = length-insert_at xs p s (omega arith) in omega (arith, e)

-- a stream that is put in, and its turn
pub ranked-insert : (streams : List Stream) (turns after : List Turn) (room more left p : ℕ) (s : Stream) (turn : Option Turn)
    → IsRanked streams turns room → IsFound streams s.id (Err p) → turn ≡ turn_of s
    → ((others : List Turn) → turns ≡ others → after ≡ with_optional_turn turn others)
    → length streams + 1 ≤ more → more ≤ left → IsRanked (insert streams p s) after left
ranked-insert streams turns after room more left p s turn ranked found is moved fits same =
    let len = length-insert_at streams p s found.0 in
    let ascending = IsAscending-insert streams p s ranked.ascending found in
    record {
      ascending = ascending;
      are = moved turns refl ∙ (ap (λ t. with_optional_turn t turns) is ∙ (ap (λ ts. with_optional_turn (turn_of s) ts) ranked.are
          ∙ sym (turns_of-split (insert streams p s) p ascending (let b = found.0 in omega (arith, len, b))
          ∙ (ap (λ x. with_optional_turn (turn_of x) (turns_of (remove (insert streams p s) p))) (stream_at-insert streams p s found.0)
          ∙ ap (λ xs. with_optional_turn (turn_of s) (turns_of xs)) (remove-insert streams p s found.0)))));
      has_room = omega (arith, len, fits, same);
    }
