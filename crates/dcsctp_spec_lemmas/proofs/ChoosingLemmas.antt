-- The stream that sends where none is held: it may send, its message isn't too old, and there is one wherever a stream has its turn.
use Rattle.std.proofs.Common.{◌≡◌, ◌∙◌, ◌⊎◌, ◌&&◌, inl, inr, ℕ, zero, suc, ◌<◌, Bool, true, false, Option, Some, is_some, List, [], ◌∷◌, length, refl, sym, ap, subst, arith, None}
use Rattle.dcsctp_spec.specs.types.declared.sending.Pause.{Pause}
use Rattle.dcsctp_spec.specs.types.declared.sending.Pause.TheVariants.{Open, Pausing, HandedOut}
use Rattle.dcsctp_spec.specs.types.declared.sending.Turn.{Turn}
use Rattle.dcsctp_spec.specs.types.declared.sending.UnderWay.{UnderWay}
use Rattle.dcsctp_spec.specs.queues.SendQueue.{SendQueueState}
use Rattle.dcsctp_spec.specs.types.queues.SendStreams.{Waiting, Stream, front_of, stream_at, may_send_on, turn_of, IsNext}
use Rattle.dcsctp_spec.specs.queues.Sending.{is_too_old, may_send_part, has_begun, IsFirstUnderWay, AreNoneUnderWay, PassesTurn, IsChosen}
use Rattle.dcsctp_spec_lemmas.proofs.TurnOutcomes.{by_test}

-- ---- a message under way

both_true : (a b : Bool) → (a && b) ≡ true → (a ≡ true) × (b ≡ true)
both_true true true both = (refl, refl)
both_true true false both = cc
both_true false b both = cc

pub begun_goes_on : (stream : Stream) → has_begun stream ≡ true → is_some stream.under_way ≡ true
begun_goes_on stream begun = (both_true (is_some stream.under_way) (is_some (front_of stream.messages)) begun).0

some_there : (oldest : Option Waiting) → is_some oldest ≡ true → (message : Waiting) × (oldest ≡ Some message)
some_there None there = cc
some_there (Some message) there = (message, refl)

pub begun_front : (stream : Stream) → has_begun stream ≡ true → (message : Waiting) × (front_of stream.messages ≡ Some message)
begun_front stream begun = some_there (front_of stream.messages) (both_true (is_some stream.under_way) (is_some (front_of stream.messages)) begun).1

-- ---- it may send

goes_on_sending : (under_way : Option UnderWay) (pause : Pause) (messages : List Waiting) (message : Waiting) → is_some under_way ≡ true → front_of messages ≡ Some message
    → may_send_on under_way pause messages ≡ true
goes_on_sending under_way pause [] message goes front = absurd (cc)
goes_on_sending under_way Open (first ∷ messages) message goes front = refl
goes_on_sending under_way Pausing (first ∷ messages) message goes front = goes
goes_on_sending under_way HandedOut (first ∷ messages) message goes front = goes

-- A stream whose message is under way may send.
pub turn_under_way : (stream : Stream) (message : Waiting) → is_some stream.under_way ≡ true → front_of stream.messages ≡ Some message → (turn : Turn) × (turn_of stream ≡ Some turn)
turn_under_way stream message goes front =
    (record { priority = stream.priority; last_turn = stream.last_turn; stream_id = record { 0 = stream.id } }, rw (goes_on_sending stream.under_way stream.pause stream.messages message goes front) refl)

-- ---- which one it is

-- It is the stream whose turn it is, or one whose message is under way.
pub data SendsBy (streams : List Stream) (turn place : ℕ) : Type 0 where
  own_turn : place ≡ turn → SendsBy streams turn place
  under_way : IsFirstUnderWay streams place → SendsBy streams turn place

sends_by : (may : Bool) (streams : List Stream) (turn place : ℕ) → PassesTurn may streams turn place → SendsBy streams turn place
sends_by true streams turn place same = own_turn same
sends_by false streams turn place (inl first) = under_way first
sends_by false streams turn place (inr (none_is, same)) = own_turn same

pub chosen_by : (now max : ℕ) (queue : SendQueueState) (place : ℕ) → (chosen : IsChosen now max queue place) → SendsBy queue.streams chosen.turn place
chosen_by now max queue place chosen =
    sends_by (may_send_part max chosen.message (stream_at queue.streams chosen.turn) queue) queue.streams chosen.turn place chosen.sends

pub chosen_within : (now max : ℕ) (queue : SendQueueState) (place : ℕ) → IsChosen now max queue place → place < length queue.streams
chosen_within now max queue place chosen = go (chosen_by now max queue place chosen)
  where
    go : SendsBy queue.streams chosen.turn place → place < length queue.streams
    go (own_turn same) = subst (λ (p : ℕ). p < length queue.streams) (sym same) chosen.next.within
    go (under_way first) = first.within

-- The stream that is chosen may send.
pub chosen_turn : (now max : ℕ) (queue : SendQueueState) (place : ℕ) (message : Waiting) → IsChosen now max queue place → front_of (stream_at queue.streams place).messages ≡ Some message
    → (turn : Turn) × (turn_of (stream_at queue.streams place) ≡ Some turn)
chosen_turn now max queue place message chosen front = go (chosen_by now max queue place chosen)
  where
    go : SendsBy queue.streams chosen.turn place → (turn : Turn) × (turn_of (stream_at queue.streams place) ≡ Some turn)
    go (own_turn same) = (chosen.next.turn, ap (λ (p : ℕ). turn_of (stream_at queue.streams p)) same ∙ chosen.next.is)
    go (under_way first) = turn_under_way (stream_at queue.streams place) message (begun_goes_on (stream_at queue.streams place) first.goes_on) front

-- Its message isn't too old to be started.
pub chosen_fresh : (now max : ℕ) (queue : SendQueueState) (place : ℕ) (message : Waiting) → IsChosen now max queue place → front_of (stream_at queue.streams place).messages ≡ Some message
    → is_too_old now message (stream_at queue.streams place) ≡ false
chosen_fresh now max queue place message chosen front = go (chosen_by now max queue place chosen)
  where
    same_message : (one other : Waiting) → Some one ≡ Some other → one ≡ other
    same_message one other is = cc

    go : SendsBy queue.streams chosen.turn place → is_too_old now message (stream_at queue.streams place) ≡ false
    go (own_turn same) =
        let is : message ≡ chosen.message = same_message message chosen.message (sym front ∙ (ap (λ (p : ℕ). front_of (stream_at queue.streams p).messages) same ∙ chosen.front)) in
        ap (λ (m : Waiting). is_too_old now m (stream_at queue.streams place)) is
        ∙ (ap (λ (p : ℕ). is_too_old now chosen.message (stream_at queue.streams p)) same ∙ chosen.fresh)
    go (under_way first) = let goes = begun_goes_on (stream_at queue.streams place) first.goes_on in rw goes refl

-- ---- there is one

first_behind : (x : Stream) (xs : List Stream) (place : ℕ) → has_begun x ≡ false → ((k : ℕ) → k < place → has_begun (stream_at xs k) ≡ false)
    → (k : ℕ) → k < suc place → has_begun (stream_at (x ∷ xs) k) ≡ false
first_behind x xs place rests first zero before = rests
first_behind x xs place rests first (suc k) before = first k (omega arith)

first_under_way : (streams : List Stream) → ((place : ℕ) × IsFirstUnderWay streams place) ⊎ AreNoneUnderWay streams
first_under_way [] = inr refl
first_under_way (x ∷ xs) =
    by_test (has_begun x)
    (λ goes. inl (0, record { within = omega arith; goes_on = goes; first = λ k before. absurd (omega arith) }))
    (λ rests. behind rests (first_under_way xs))
  where
    behind : has_begun x ≡ false → ((place : ℕ) × IsFirstUnderWay xs place) ⊎ AreNoneUnderWay xs → ((place : ℕ) × IsFirstUnderWay (x ∷ xs) place) ⊎ AreNoneUnderWay (x ∷ xs)
    behind rests (inl (place, is)) =
        inl (suc place, record { within = let w = is.within in omega arith; goes_on = is.goes_on; first = first_behind x xs place rests is.first })
    behind rests (inr none_is) = inr (rw rests none_is)

-- the stream that sends, with its oldest message
pub record Chosen (now max : ℕ) (queue : SendQueueState) : Type 0 where
  pub place : ℕ
  pub is : IsChosen now max queue place
  pub message : Waiting
  pub front : front_of (stream_at queue.streams place).messages ≡ Some message

-- One sends if a stream has its turn with a message that isn't too old.
pub one_chosen : (now max : ℕ) (queue : SendQueueState) (turn : ℕ) (message : Waiting) → IsNext queue.streams turn
    → front_of (stream_at queue.streams turn).messages ≡ Some message → is_too_old now message (stream_at queue.streams turn) ≡ false → Chosen now max queue
one_chosen now max queue turn message next front fresh =
    by_test (may_send_part max message (stream_at queue.streams turn) queue)
    (λ may. own (rw may refl))
    (λ may_not. by_first may_not (first_under_way queue.streams))
  where
    Sends : ℕ → Type 0
    Sends place = PassesTurn (may_send_part max message (stream_at queue.streams turn) queue) queue.streams turn place

    own : Sends turn → Chosen now max queue
    own sends =
        record {
          place = turn;
          is = record { turn = turn; next = next; message = message; front = front; fresh = fresh; sends = sends };
          message = message;
          front = front;
        }

    by_first : may_send_part max message (stream_at queue.streams turn) queue ≡ false → ((place : ℕ) × IsFirstUnderWay queue.streams place) ⊎ AreNoneUnderWay queue.streams → Chosen now max queue
    by_first may_not (inl (place, first)) =
        let oldest = begun_front (stream_at queue.streams place) first.goes_on in
        record {
          place = place;
          is = record { turn = turn; next = next; message = message; front = front; fresh = fresh; sends = rw may_not (inl first) };
          message = oldest.0;
          front = oldest.1;
        }
    by_first may_not (inr none_is) = own (rw may_not (inr (none_is, refl)))
