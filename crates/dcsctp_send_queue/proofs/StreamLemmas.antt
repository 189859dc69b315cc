-- Streams by number, and their turns.
use Rattle.std.proofs.Common.{◌≡◌, ◌≢◌, ℕ, zero, suc, ◌+◌, ◌<◌, ◌≤◌, Bool, true, false, if◌then◌else◌, Option, None, Some, List, [], ◌∷◌, length, get_or, set, refl, sym, ap, ◌∙◌, arith}
use Rattle.std.specs.List.{remove}
use Rattle.dcsctp_api.specs.types.declared.sending.Turn.{Turn}
use Rattle.dcsctp_api.specs.types.queues.SendStreams.{comes_after, with_turn, with_optional_turn, Stream, stream_counted, stream_at, may_send_on, turn_of, turns_of, IsBelow, IsAscending}
use Rattle.dcsctp_send_queue.specs.Pausing.{standing_of}
use Rattle.dcsctp_send_queue.specs.Turns.{IsOrdered, HoldsTurns}
use Rattle.dcsctp_send_queue.specs.Ranking.{IsRanked}
use Rattle.dcsctp_send_queue.proofs.TurnLemmas.{IsOrdered-with_turn, with_turn-with_turn}

pub IsBelow-at : (id : ℕ) (streams : List Stream) (k : ℕ) → IsBelow id streams → k < length streams → id < (stream_at streams k).id
IsBelow-at id [] k below lt = absurd (omega arith)
IsBelow-at id (x ∷ xs) zero below lt = below.0
IsBelow-at id (x ∷ xs) (suc k) below lt = IsBelow-at id xs k below.1 (omega arith)

-- a later stream has a greater number
pub ascending_at : (streams : List Stream) (i j : ℕ) → IsAscending streams → i < j → j < length streams → (stream_at streams i).id < (stream_at streams j).id
ascending_at [] i j ascending lt within = absurd (omega arith)
ascending_at (x ∷ xs) zero zero ascending lt within = absurd (omega arith)
ascending_at (x ∷ xs) zero (suc j) ascending lt within = IsBelow-at x.id xs j ascending.0 (omega arith)
ascending_at (x ∷ xs) (suc i) zero ascending lt within = absurd (omega arith)
ascending_at (x ∷ xs) (suc i) (suc j) ascending lt within = ascending_at xs i j ascending.1 (omega arith) (omega arith)

turn_by-id : (b : Bool) (own t : Turn) → (if b then Some own else None) ≡ Some t → t ≡ own
turn_by-id false own t e = cc
turn_by-id true own t e = cc

-- a stream's turn bears its number
pub turn_of-id : (stream : Stream) (t : Turn) → turn_of stream ≡ Some t → t.stream_id.0 ≡ stream.id
turn_of-id stream t e =
    let own : Turn = record { priority = stream.priority; last_turn = stream.last_turn; stream_id = record { 0 = stream.id } } in
    ap (λ (x : Turn). x.stream_id.0) (turn_by-id (may_send_on stream.under_way stream.pause stream.messages) own t e)

pub swap_turns : (a b : Option Turn) (i j : ℕ) (turns : List Turn) → ((t : Turn) → a ≡ Some t → t.stream_id.0 ≡ i) → ((t : Turn) → b ≡ Some t → t.stream_id.0 ≡ j) → i ≢ j → with_optional_turn a (with_optional_turn b turns) ≡ with_optional_turn b (with_optional_turn a turns)
swap_turns None None i j turns ha hb apart = refl
swap_turns None (Some b) i j turns ha hb apart = refl
swap_turns (Some a) None i j turns ha hb apart = refl
swap_turns (Some a) (Some b) i j turns ha hb apart =
    with_turn-with_turn turns a b (λ e. apart (let p = ha a refl in let q = hb b refl in cc))

-- the turns are those of the others with that of the stream at a place
pub turns_of-split : (streams : List Stream) (p : ℕ) → IsAscending streams → p < length streams → turns_of streams ≡ with_optional_turn (turn_of (stream_at streams p)) (turns_of (remove streams p))
turns_of-split [] p ascending lt = absurd (omega arith)
turns_of-split (x ∷ xs) zero ascending lt = refl
turns_of-split (x ∷ xs) (suc p) ascending lt =
    let less = IsBelow-at x.id xs p ascending.0 (omega arith) in
    let ih = turns_of-split xs p ascending.1 (omega arith) in
    ap (λ ts. with_optional_turn (turn_of x) ts) ih
    ∙ swap_turns (turn_of x) (turn_of (stream_at xs p)) x.id (stream_at xs p).id (turns_of (remove xs p)) (turn_of-id x) (turn_of-id (stream_at xs p)) (omega arith)

pub IsOrdered-with_turns : (turn : Option Turn) (turns : List Turn) → IsOrdered turns → IsOrdered (with_optional_turn turn turns)
IsOrdered-with_turns None turns ordered = ordered
IsOrdered-with_turns (Some turn) turns ordered = IsOrdered-with_turn turns turn ordered

pub IsOrdered-turns_of : (streams : List Stream) → IsOrdered (turns_of streams)
IsOrdered-turns_of [] = tt
IsOrdered-turns_of (x ∷ xs) = IsOrdered-with_turns (turn_of x) (turns_of xs) (IsOrdered-turns_of xs)

pub length_at : (x t : Turn) (xs : List Turn) (b : Bool) → length (with_turn t xs) ≡ length xs + 1 → length (if b then x ∷ with_turn t xs else t ∷ x ∷ xs) ≡ length xs + 2
length_at x t xs true e = omega arith
length_at x t xs false e = omega arith

pub length-with_turn : (t : Turn) (turns : List Turn) → length (with_turn t turns) ≡ length turns + 1
length-with_turn t [] = omega arith
length-with_turn t (x ∷ xs) = let e = length_at x t xs (comes_after x t) (length-with_turn t xs) in omega (arith, e)

-- a turn that is alone is replaced
pub set_single : (turns others : List Turn) (before after : Turn) → turns ≡ with_turn before others → length turns ≡ 1 → set turns 0 after ≡ with_turn after others
set_single turns [] before after are one = rw are refl
set_single turns (x ∷ xs) before after are one =
    let more = length-with_turn before (x ∷ xs) in
    let same = ap length are in
    absurd (omega (arith, more, same, one))

pub length-with_turns : (turn : Option Turn) (turns : List Turn) → length (with_optional_turn turn turns) ≤ length turns + 1
length-with_turns None turns = omega arith
length-with_turns (Some turn) turns = let e = length-with_turn turn turns in omega (arith, e)

-- there are no more turns than streams
pub length-turns_of : (streams : List Stream) → length (turns_of streams) ≤ length streams
length-turns_of [] = omega arith
length-turns_of (x ∷ xs) = let e = length-with_turns (turn_of x) (turns_of xs) in let ih = length-turns_of xs in omega (arith, e, ih)

pub length_less : (streams : List Stream) (p : ℕ) → p < length streams → length (remove streams p) + 1 ≡ length streams
length_less [] p lt = absurd (omega arith)
length_less (x ∷ xs) zero lt = omega arith
length_less (x ∷ xs) (suc p) lt = let e = length_less xs p (omega arith) in omega (arith, e)

-- what a change of the turn at a place asks for
pub holds_at : (streams : List Stream) (turns : List Turn) (room p : ℕ) → IsRanked streams turns room → p < length streams → HoldsTurns turns (turn_of (stream_at streams p)) room
holds_at streams turns room p ranked lt =
    let fewer = length-turns_of (remove streams p) in
    let less = length_less streams p lt in
    let fits = ranked.has_room in
    record {
      others = turns_of (remove streams p);
      are = ranked.are ∙ turns_of-split streams p ranked.ascending lt;
      ordered = IsOrdered-turns_of (remove streams p);
      has_room = omega (arith, fewer, less, fits);
    }

pub IsBelow-set : (id : ℕ) (streams : List Stream) (p : ℕ) (s : Stream) → IsBelow id streams → p < length streams → s.id ≡ (stream_at streams p).id → IsBelow id (set streams p s)
IsBelow-set id [] p s below lt same = absurd (omega arith)
IsBelow-set id (x ∷ xs) zero s below lt same = let b = below.0 in (omega (arith, b, same), below.1)
IsBelow-set id (x ∷ xs) (suc p) s below lt same = (below.0, IsBelow-set id xs p s below.1 (omega arith) same)

pub IsAscending-set : (streams : List Stream) (p : ℕ) (s : Stream) → IsAscending streams → p < length streams → s.id ≡ (stream_at streams p).id → IsAscending (set streams p s)
IsAscending-set [] p s ascending lt same = absurd (omega arith)
IsAscending-set (x ∷ xs) zero s ascending lt same = rw same ascending
IsAscending-set (x ∷ xs) (suc p) s ascending lt same = (IsBelow-set x.id xs p s ascending.0 (omega arith) same, IsAscending-set xs p s ascending.1 (omega arith) same)

pub remove-set : (streams : List Stream) (p : ℕ) (s : Stream) → p < length streams → remove (set streams p s) p ≡ remove streams p
remove-set [] p s lt = absurd (omega arith)
remove-set (x ∷ xs) zero s lt = refl
remove-set (x ∷ xs) (suc p) s lt = ap (λ ts. x ∷ ts) (remove-set xs p s (omega arith))

pub stream_at-set : (streams : List Stream) (p : ℕ) (s : Stream) → p < length streams → stream_at (set streams p s) p ≡ s
stream_at-set [] p s lt = absurd (omega arith)
stream_at-set (x ∷ xs) zero s lt = refl
stream_at-set (x ∷ xs) (suc p) s lt = stream_at-set xs p s (omega arith)

pub length-set_at : (streams : List Stream) (p : ℕ) (s : Stream) → length (set streams p s) ≡ length streams
length-set_at [] p s = refl
length-set_at (x ∷ xs) zero s = refl
length-set_at (x ∷ xs) (suc p) s = let e = length-set_at xs p s in omega (arith, e)

-- the turns after one stream has changed
pub turns_of-set : (streams : List Stream) (p : ℕ) (s : Stream) → IsAscending streams → p < length streams → s.id ≡ (stream_at streams p).id → turns_of (set streams p s) ≡ with_optional_turn (turn_of s) (turns_of (remove streams p))
turns_of-set streams p s ascending lt same =
    let len = length-set_at streams p s in
    turns_of-split (set streams p s) p (IsAscending-set streams p s ascending lt same) (omega (arith, len))
    ∙ (ap (λ x. with_optional_turn (turn_of x) (turns_of (remove (set streams p s) p))) (stream_at-set streams p s lt)
    ∙ ap (λ xs. with_optional_turn (turn_of s) (turns_of xs)) (remove-set streams p s lt))

-- a change of one stream, and of its turn
pub ranked-set : (streams : List Stream) (turns after : List Turn) (room left p : ℕ) (s : Stream)
    → IsRanked streams turns room → p < length streams → s.id ≡ (stream_at streams p).id
    → ((others : List Turn) → turns ≡ with_optional_turn (turn_of (stream_at streams p)) others → after ≡ with_optional_turn (turn_of s) others)
    → room ≤ left → IsRanked (set streams p s) after left
ranked-set streams turns after room left p s ranked lt same moved fits =
    let len = length-set_at streams p s in
    let holds = ranked.has_room in
    record {
      ascending = IsAscending-set streams p s ranked.ascending lt same;
      are = moved (turns_of (remove streams p)) (ranked.are ∙ turns_of-split streams p ranked.ascending lt) ∙ sym (turns_of-set streams p s ranked.ascending lt same);
      has_room = omega (arith, len, holds, fits);
    }

-- a change of one stream that leaves its turn
pub ranked-set_same : (streams : List Stream) (turns : List Turn) (room p : ℕ) (s : Stream)
    → IsRanked streams turns room → p < length streams → s.id ≡ (stream_at streams p).id
    → turn_of s ≡ turn_of (stream_at streams p) → IsRanked (set streams p s) turns room
ranked-set_same streams turns room p s ranked lt same turn =
    ranked-set streams turns turns room room p s ranked lt same (λ others are. are ∙ ap (λ t. with_optional_turn t others) (sym turn)) (omega arith)

-- a stream that was read at a place
pub at_place : (streams : List Stream) (p : ℕ) (x : Stream) → p < length streams → x ≡ get_or streams p x → x ≡ stream_at streams p
at_place [] p x lt e = absurd (omega arith)
at_place (y ∷ ys) zero x lt e = e
at_place (y ∷ ys) (suc p) x lt e = at_place ys p x (omega arith) e

-- what a change of a turn asks for, at a stream that was read
pub holds_read : (streams : List Stream) (turns : List Turn) (room p : ℕ) (x : Stream) (before : Option Turn)
    → IsRanked streams turns room → p < length streams → x ≡ get_or streams p x → before ≡ turn_of x → HoldsTurns turns before room
holds_read streams turns room p x before ranked lt e is =
    let turn : before ≡ turn_of (stream_at streams p) = is ∙ ap (λ s. turn_of s) (at_place streams p x lt e) in
    rw turn (holds_at streams turns room p ranked lt)

-- what is left after a change of a stream that was read, and of its turn
pub ranked_read : (streams : List Stream) (turns others_turns : List Turn) (room left p : ℕ) (x s : Stream) (before after : Option Turn)
    → IsRanked streams turns room → p < length streams → x ≡ get_or streams p x → before ≡ turn_of x → after ≡ turn_of s → s.id ≡ x.id
    → ((others : List Turn) → turns ≡ with_optional_turn before others → others_turns ≡ with_optional_turn after others)
    → room ≤ left → IsRanked (set streams p s) others_turns left
ranked_read streams turns others_turns room left p x s before after ranked lt e is will same moved fits =
    let at = at_place streams p x lt e in
    ranked-set streams turns others_turns room left p s ranked lt (same ∙ ap (λ s. s.id) at)
    (λ others are. moved others (are ∙ ap (λ t. with_optional_turn t others) (ap (λ s. turn_of s) (sym at) ∙ sym is)) ∙ ap (λ t. with_optional_turn t others) will)
    fits

-- what is left after a change of a stream that was read, which keeps its turn
pub ranked_read_same : (streams : List Stream) (turns : List Turn) (room p : ℕ) (x s : Stream)
    → IsRanked streams turns room → p < length streams → x ≡ get_or streams p x → s.id ≡ x.id → turn_of s ≡ turn_of x → IsRanked (set streams p s) turns room
ranked_read_same streams turns room p x s ranked lt e same turn =
    let at = at_place streams p x lt e in
    ranked-set_same streams turns room p s ranked lt (same ∙ ap (λ s. s.id) at) (turn ∙ ap (λ s. turn_of s) at)

pub counted-id : (is_interleaved is_unordered : Bool) (s : Stream) → (stream_counted is_interleaved is_unordered s).id ≡ s.id
counted-id false false s = refl
counted-id false true s = refl
counted-id true false s = refl
counted-id true true s = refl

pub counted-turn : (is_interleaved is_unordered : Bool) (s : Stream) → turn_of (stream_counted is_interleaved is_unordered s) ≡ turn_of s
counted-turn false false s = refl
counted-turn false true s = refl
counted-turn true false s = refl
counted-turn true true s = refl

pub counted-standing : (is_interleaved is_unordered : Bool) (s : Stream) → standing_of (stream_counted is_interleaved is_unordered s) ≡ standing_of s
counted-standing false false s = refl
counted-standing false true s = refl
counted-standing true false s = refl
counted-standing true true s = refl

pub counted-messages : (is_interleaved is_unordered : Bool) (s : Stream) → (stream_counted is_interleaved is_unordered s).messages ≡ s.messages
counted-messages false false s = refl
counted-messages false true s = refl
counted-messages true false s = refl
counted-messages true true s = refl

pub counted-under_way : (is_interleaved is_unordered : Bool) (s : Stream) → (stream_counted is_interleaved is_unordered s).under_way ≡ s.under_way
counted-under_way false false s = refl
counted-under_way false true s = refl
counted-under_way true false s = refl
counted-under_way true true s = refl

-- the number of a stream that was read
pub id_read : (streams inside : List Stream) (m n : ℕ) (x : Stream) → inside ≡ streams → m < length streams → x ≡ get_or inside m x → n ≡ x.id → n ≡ (stream_at streams m).id
id_read streams inside m n x same lt e is =
    let f : x ≡ get_or streams m x = rw same at e in
    is ∙ ap (λ s. s.id) (at_place streams m x lt f)
