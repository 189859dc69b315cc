-- Messages that wait, and streams by number.
use Rattle.std.proofs.Common.{◌≡◌, ℕ, zero, suc, ◌-◌, ◌+◌, ◌<◌, Bool, true, false, if◌then◌else◌, Option, None, Some, List, [], ◌∷◌, length, set, drop, refl, ap, ◌∙◌, arith}
use Rattle.dcsctp_api.specs.types.declared.sending.Pause.{Pause}
use Rattle.dcsctp_api.specs.types.declared.sending.Turn.{Turn}
use Rattle.dcsctp_api.specs.types.queues.SendStreams.{Waiting, Stream, front_of, without_front, stream_at, may_send_on, IsNext}
use Rattle.dcsctp_api.specs.spec.queues.SendQueue.{SendQueueState}
use Rattle.dcsctp_api.specs.spec.queues.Sending.{without_rest}
use Rattle.dcsctp_api.specs.types.declared.sending.UnderWay.{UnderWay}
use Rattle.dcsctp_send_queue.proofs.StreamLemmas.{stream_at-set, length-set_at}

-- how many messages the streams have together
abbrev pub count_messages : List Stream → ℕ
count_messages [] = 0
count_messages (stream ∷ streams) = length stream.messages + count_messages streams

fewer_by : (messages : List Waiting) (message : Waiting) → front_of messages ≡ Some message → length (drop 1 messages) + 1 ≡ length messages
fewer_by [] message e = cc
fewer_by (x ∷ xs) message e = omega arith

-- there are fewer once the oldest of a stream is gone
pub count-without : (streams : List Stream) (p : ℕ) (s : Stream) (message : Waiting) → p < length streams → front_of (stream_at streams p).messages ≡ Some message → s.messages ≡ drop 1 (stream_at streams p).messages → count_messages (set streams p s) + 1 ≡ count_messages streams
count-without [] p s message lt e is = absurd (omega arith)
count-without (x ∷ xs) zero s message lt e is = let f = fewer_by x.messages message e in let g = ap length is in omega (arith, f, g)
count-without (x ∷ xs) (suc p) s message lt e is = let ih = count-without xs p s message (omega arith) e is in omega (arith, ih)

turn_has : (u : Option UnderWay) (pause : Pause) (messages : List Waiting) → may_send_on u pause messages ≡ true → (m : Waiting) × (front_of messages ≡ Some m)
turn_has u pause [] e = cc
turn_has u pause (m ∷ messages) e = (m, refl)

has_turn_by : (b : Bool) (own t : Turn) → (if b then Some own else None) ≡ Some t → b ≡ true
has_turn_by true own t e = refl
has_turn_by false own t e = cc

-- a stream with a turn has a message
pub next_front : (streams : List Stream) (place : ℕ) → IsNext streams place → (m : Waiting) × (front_of (stream_at streams place).messages ≡ Some m)
next_front streams place next =
    let s = stream_at streams place in
    let own : Turn = record { priority = s.priority; last_turn = s.last_turn; stream_id = record { 0 = s.id } } in
    turn_has s.under_way s.pause s.messages (has_turn_by (may_send_on s.under_way s.pause s.messages) own next.turn next.is)

count-same : (streams : List Stream) (p : ℕ) (s : Stream) → p < length streams → s.messages ≡ (stream_at streams p).messages → count_messages (set streams p s) ≡ count_messages streams
count-same [] p s lt is = absurd (omega arith)
count-same (x ∷ xs) zero s lt is = let g = ap length is in omega (arith, g)
count-same (x ∷ xs) (suc p) s lt is = let ih = count-same xs p s (omega arith) is in omega (arith, ih)

-- a message fewer waits once one was dropped
pub count-without_rest : (queue : SendQueueState) (place sent : ℕ) (message : Waiting) → place < length queue.streams → front_of (stream_at queue.streams place).messages ≡ Some message → count_messages (without_rest place sent message queue).streams + 1 ≡ count_messages queue.streams
count-without_rest queue place sent message lt front =
    let less : Stream = record (stream_at queue.streams place) { amount = (stream_at queue.streams place).amount - (length message.payload - sent) } in
    let at = stream_at-set queue.streams place less lt in
    let len = length-set_at queue.streams place less in
    let first = count-same queue.streams place less lt refl in
    let second = count-without (set queue.streams place less) place (without_front (stream_at (set queue.streams place less) place)) message (omega (arith, len)) (ap (λ s. front_of s.messages) at ∙ front) refl in
    omega (arith, first, second)
