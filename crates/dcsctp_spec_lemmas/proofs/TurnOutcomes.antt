-- Which stream has its turn, if one has, and how many messages are left.
use Rattle.std.specs.Prelude.{if◌then◌else◌}
use Rattle.std.proofs.Common.{◌≡◌, ◌∙◌, ◌⊎◌, inl, inr, ℕ, zero, suc, ◌+◌, ◌-◌, ◌<◌, Bool, true, false, Option, None, Some, List, [], ◌∷◌, length, set, drop, refl, ap, arith}
use Rattle.std.proofs.lemmas.Bool.Decides.{nat_tests}
use Rattle.dcsctp_spec.specs.types.declared.sending.Pause.{Pause}
use Rattle.dcsctp_spec.specs.types.declared.sending.Turn.{Turn}
use Rattle.dcsctp_spec.specs.types.declared.sending.UnderWay.{UnderWay}
use Rattle.dcsctp_spec.specs.queues.SendQueue.{SendQueueState}
use Rattle.dcsctp_spec.specs.types.queues.SendStreams.{Waiting, Stream, comes_after, front_of, stream_at, may_send_on, turn_of, turns_of, without_front, IsNext}
use Rattle.dcsctp_spec.specs.queues.Sending.{without_rest}

pub by_test : {A : Type 0} → (test : Bool) → (test ≡ true → A) → (test ≡ false → A) → A
by_test true holds fails = holds refl
by_test false holds fails = fails refl

-- ---- whose turn it is

not_both_after : (a b : Turn) → comes_after a b ≡ true → comes_after b a ≡ false
not_both_after a b h = grind (arith, nat_tests)

itself_by : (t : Turn) (b : Bool) → comes_after t t ≡ b → b ≡ false
itself_by t true e = let f = not_both_after t t e in cc
itself_by t false e = refl

itself : (t : Turn) → comes_after t t ≡ false
itself t = itself_by t (comes_after t t) refl

-- What one comes after that doesn't come after a third doesn't either.
before_too : (z t y : Turn) → comes_after z t ≡ true → comes_after z y ≡ false → comes_after t y ≡ false
before_too z t y h g = grind (arith, nat_tests)

-- no stream has its turn
record NoneInTurn (streams : List Stream) : Type 0 where
  pub no_turns : turns_of streams ≡ []
  pub each : (k : ℕ) (t : Turn) → k < length streams → turn_of (stream_at streams k) ≡ Some t → ⊥

abbrev SomeInTurn : List Stream → Type 0
SomeInTurn streams = NoneInTurn streams ⊎ ((place : ℕ) × IsNext streams place)

each_turn : (x : Stream) (xs : List Stream) (P : Turn → Type 0) → ((t : Turn) → turn_of x ≡ Some t → P t)
    → ((k : ℕ) (t : Turn) → k < length xs → turn_of (stream_at xs k) ≡ Some t → P t)
    → (k : ℕ) (t : Turn) → k < length (x ∷ xs) → turn_of (stream_at (x ∷ xs) k) ≡ Some t → P t
each_turn x xs P here later zero t within is = here t is
each_turn x xs P here later (suc k) t within is = later k t (omega arith) is

-- one more stream in front
turn_in_front : (x : Stream) (xs : List Stream) (turn : Option Turn) → turn_of x ≡ turn → SomeInTurn xs → SomeInTurn (x ∷ xs)
turn_in_front x xs None is (inl nobody) =
    inl (record { no_turns = rw is nobody.no_turns; each = each_turn x xs (λ t. ⊥) (λ t here. cc) nobody.each })
turn_in_front x xs None is (inr (place, next)) =
    inr (suc place, record { turn = next.turn; within = let w = next.within in omega arith; is = next.is; first = each_turn x xs (λ t. comes_after next.turn t ≡ false) (λ t here. cc) next.first })
turn_in_front x xs (Some own) is (inl nobody) =
    inr (
      0,
      record {
        turn = own;
        within = omega arith;
        is = is;
        first = each_turn x xs (λ t. comes_after own t ≡ false) (λ t here. let same : own ≡ t = cc in rw (← same) (itself own)) (λ k t within at. absurd (nobody.each k t within at));
      },
    )
turn_in_front x xs (Some own) is (inr (place, next)) =
    by_test (comes_after next.turn own)
    (λ later. inr (
      0,
      record {
        turn = own;
        within = omega arith;
        is = is;
        first = each_turn x xs (λ t. comes_after own t ≡ false) (λ t here. let same : own ≡ t = cc in rw (← same) (itself own)) (λ k t within at. before_too next.turn own t later (next.first k t within at));
      },
    ))
    (λ sooner. inr (
      suc place,
      record {
        turn = next.turn;
        within = let w = next.within in omega arith;
        is = next.is;
        first = each_turn x xs (λ t. comes_after next.turn t ≡ false) (λ t here. let same : own ≡ t = cc in rw (← same) sooner) next.first;
      },
    ))

some_in_turn : (streams : List Stream) → SomeInTurn streams
some_in_turn [] = inl (record { no_turns = refl; each = λ k t within is. absurd (omega arith) })
some_in_turn (x ∷ xs) = turn_in_front x xs (turn_of x) refl (some_in_turn xs)

pub next_turn : (streams : List Stream) → (turns_of streams ≡ []) ⊎ ((place : ℕ) × IsNext streams place)
next_turn streams = go (some_in_turn streams)
  where
    go : SomeInTurn streams → (turns_of streams ≡ []) ⊎ ((place : ℕ) × IsNext streams place)
    go (inl nobody) = inl nobody.no_turns
    go (inr next) = inr next

turn_has : (under_way : Option UnderWay) (pause : Pause) (messages : List Waiting) (own t : Turn)
    → (if may_send_on under_way pause messages then Some own else None) ≡ Some t → (m : Waiting) × (front_of messages ≡ Some m)
turn_has under_way pause [] own t e = cc
turn_has under_way pause (m ∷ messages) own t e = (m, refl)

-- A stream with its turn has a message.
pub next_front : (streams : List Stream) (place : ℕ) → IsNext streams place → (m : Waiting) × (front_of (stream_at streams place).messages ≡ Some m)
next_front streams place next =
    let s = stream_at streams place in
    turn_has s.under_way s.pause s.messages (record { priority = s.priority; last_turn = s.last_turn; stream_id = record { 0 = s.id } }) next.turn next.is

-- ---- how many messages wait

abbrev pub count_messages : List Stream → ℕ
count_messages [] = 0
count_messages (stream ∷ streams) = length stream.messages + count_messages streams

fewer_by : (messages : List Waiting) (message : Waiting) → front_of messages ≡ Some message → length (drop 1 messages) + 1 ≡ length messages
fewer_by [] message e = cc
fewer_by (x ∷ xs) message e = omega arith

count_without : (streams : List Stream) (p : ℕ) (s : Stream) (message : Waiting) → p < length streams → front_of (stream_at streams p).messages ≡ Some message
    → s.messages ≡ drop 1 (stream_at streams p).messages → count_messages (set streams p s) + 1 ≡ count_messages streams
count_without [] p s message lt e is = absurd (omega arith)
count_without (x ∷ xs) zero s message lt e is = let f = fewer_by x.messages message e in let g = ap length is in omega (arith, f, g)
count_without (x ∷ xs) (suc p) s message lt e is = let ih = count_without xs p s message (omega arith) e is in omega (arith, ih)

count_same : (streams : List Stream) (p : ℕ) (s : Stream) → p < length streams → s.messages ≡ (stream_at streams p).messages → count_messages (set streams p s) ≡ count_messages streams
count_same [] p s lt is = absurd (omega arith)
count_same (x ∷ xs) zero s lt is = let g = ap length is in omega (arith, g)
count_same (x ∷ xs) (suc p) s lt is = let ih = count_same xs p s (omega arith) is in omega (arith, ih)

stream_at_set : (streams : List Stream) (p : ℕ) (s : Stream) → p < length streams → stream_at (set streams p s) p ≡ s
stream_at_set [] p s lt = absurd (omega arith)
stream_at_set (x ∷ xs) zero s lt = refl
stream_at_set (x ∷ xs) (suc p) s lt = stream_at_set xs p s (omega arith)

length_set : (streams : List Stream) (p : ℕ) (s : Stream) → length (set streams p s) ≡ length streams
length_set [] p s = refl
length_set (x ∷ xs) zero s = refl
length_set (x ∷ xs) (suc p) s = let e = length_set xs p s in omega (arith, e)

-- one fewer once a message is dropped
pub count_dropped : (queue : SendQueueState) (place sent : ℕ) (message : Waiting) → place < length queue.streams → front_of (stream_at queue.streams place).messages ≡ Some message
    → count_messages (without_rest place sent message queue).streams + 1 ≡ count_messages queue.streams
count_dropped queue place sent message lt front =
    let less : Stream = record (stream_at queue.streams place) { amount = (stream_at queue.streams place).amount - (length message.payload - sent) } in
    let at = stream_at_set queue.streams place less lt in
    let len = length_set queue.streams place less in
    let first = count_same queue.streams place less lt refl in
    let second = count_without (set queue.streams place less) place (without_front (stream_at (set queue.streams place less) place)) message (omega (arith, len)) (ap (λ s. front_of s.messages) at ∙ front) refl in
    omega (arith, first, second)
