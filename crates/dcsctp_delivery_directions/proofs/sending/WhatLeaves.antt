-- What is left of the streams once a fragment was handed out, or the rest of a message dropped.
use Rattle.std.proofs.Common.{◌≡◌, ◌==◌, ℕ, Bool, true, false, ◌<◌, ◌≤◌, ◌-◌, List, length, drop, refl, sym, ◌∙◌, ap, inl, inr}
use Rattle.std.specs.Prelude.{Option, None, Some, if◌then◌else◌}
use Rattle.std.proofs.lemmas.Bool.Decides.{leb_tells}
use Rattle.std.proofs.lemmas.List.{get_or-set_same}
use Rattle.dcsctp_spec.specs.types.declared.ids.StreamId.{StreamId}
use Rattle.dcsctp_spec.specs.types.declared.sending.UnderWay.{UnderWay}
use Rattle.dcsctp_spec.specs.types.queues.SendStreams.{Waiting, Stream, without_front, stream_with_progress, stream_counted, unused_stream, stream_at}
use Rattle.dcsctp_spec.specs.queues.SendQueue.{SendQueueState}
use Rattle.dcsctp_spec.specs.queues.Sending.{reduced_queue, fragment_counted, progress_after, stream_held_after, released_queue, after_part, after_last, without_oldest, without_rest, queue_after_producing, is_last, reserve_begun}
use Rattle.dcsctp_delivery_directions.proofs.sending.Numbers.{SameMids}
use Rattle.dcsctp_delivery_directions.proofs.sending.Fragments.{ChangesOne, changes_set, changes_twice, still_within, reduced_there, fragment_there}

-- ---- a fragment was handed out

-- The stream at the place has these messages then, and its oldest has come so far.
pub record Produces (place : ℕ) (message : Waiting) (under_way : UnderWay) (messages : List Waiting) (progress : Option UnderWay) (old new : SendQueueState) : Type 0 where
  pub one : ChangesOne place old.streams new.streams
  pub kind : new.is_interleaved ≡ old.is_interleaved
  pub turns : new.takes_turns ≡ old.takes_turns
  pub pause : (stream_at new.streams place).pause ≡ (stream_at old.streams place).pause
  pub mids : SameMids (if under_way.sent == 0 then stream_counted old.is_interleaved message.is_unordered (stream_at old.streams place) else stream_at old.streams place) (stream_at new.streams place)
  pub messages_are : (stream_at new.streams place).messages ≡ messages
  pub progress_is : (stream_at new.streams place).under_way ≡ progress

-- More of the message is left, or it was the last fragment.
pub data Leaves (place max : ℕ) (message : Waiting) (under_way : UnderWay) (old new : SendQueueState) : Type 0 where
  part : max < length message.payload - under_way.sent → Produces place message under_way (stream_at old.streams place).messages (Some (progress_after max under_way)) old new
      → new.held ≡ stream_held_after under_way.stream_id message old → Leaves place max message under_way old new
  last : length message.payload - under_way.sent ≤ max → Produces place message under_way (drop 1 (stream_at old.streams place).messages) None old new
      → new.held ≡ (released_queue under_way.stream_id.0 (reserve_begun (length message.payload) under_way) old).held → Leaves place max message under_way old new

produces_part : (place max : ℕ) (message : Waiting) (under_way : UnderWay) (queue : SendQueueState) → place < length queue.streams
    → Produces place message under_way (stream_at queue.streams place).messages (Some (progress_after max under_way)) queue (after_part place max message under_way queue)
produces_part place max message under_way queue within =
    let counted : SendQueueState = fragment_counted place max message under_way (reduced_queue place max queue) in
    let t = fragment_there place max message under_way queue within in
    let within' : place < length counted.streams = still_within place (under_way.sent == 0) message.is_unordered queue counted t within in
    let is : stream_at (after_part place max message under_way queue).streams place ≡ stream_with_progress (progress_after max under_way) (stream_at counted.streams place) =
    get_or-set_same counted.streams place (stream_with_progress (progress_after max under_way) (stream_at counted.streams place)) (unused_stream 0 0 0) within' in
    record {
      one = changes_twice place queue.streams counted.streams (after_part place max message under_way queue).streams t.one (changes_set place counted.streams (stream_with_progress (progress_after max under_way) (stream_at counted.streams place)) within' refl);
      kind = t.kind;
      turns = t.turns;
      pause = ap (λ (s : Stream). s.pause) is ∙ t.counts.pause;
      mids = record {
        ordered = ap (λ (s : Stream). s.next_mid) is ∙ t.counts.mids.ordered;
        unordered = ap (λ (s : Stream). s.next_unordered_mid) is ∙ t.counts.mids.unordered;
        ssn = ap (λ (s : Stream). s.next_ssn) is ∙ t.counts.mids.ssn;
      };
      messages_are = ap (λ (s : Stream). s.messages) is ∙ t.counts.messages;
      progress_is = ap (λ (s : Stream). s.under_way) is;
    }

produces_last : (place : ℕ) (message : Waiting) (under_way : UnderWay) (queue : SendQueueState) → place < length queue.streams
    → Produces place message under_way (drop 1 (stream_at queue.streams place).messages) None queue (after_last place message under_way queue)
produces_last place message under_way queue within =
    let size : ℕ = length message.payload - under_way.sent in
    let counted : SendQueueState = fragment_counted place (length message.payload - under_way.sent) message under_way (reduced_queue place (length message.payload - under_way.sent) queue) in
    let t = fragment_there place (length message.payload - under_way.sent) message under_way queue within in
    let within' : place < length counted.streams = still_within place (under_way.sent == 0) message.is_unordered queue counted t within in
    let is : stream_at (after_last place message under_way queue).streams place ≡ without_front (stream_at counted.streams place) =
    get_or-set_same counted.streams place (without_front (stream_at counted.streams place)) (unused_stream 0 0 0) within' in
    record {
      one = changes_twice place queue.streams counted.streams (after_last place message under_way queue).streams t.one (changes_set place counted.streams (without_front (stream_at counted.streams place)) within' refl);
      kind = t.kind;
      turns = t.turns;
      pause = ap (λ (s : Stream). s.pause) is ∙ t.counts.pause;
      mids = record {
        ordered = ap (λ (s : Stream). s.next_mid) is ∙ t.counts.mids.ordered;
        unordered = ap (λ (s : Stream). s.next_unordered_mid) is ∙ t.counts.mids.unordered;
        ssn = ap (λ (s : Stream). s.next_ssn) is ∙ t.counts.mids.ssn;
      };
      messages_are = ap (λ (s : Stream). s.messages) is ∙ ap (λ (l : List Waiting). drop 1 l) t.counts.messages;
      progress_is = ap (λ (s : Stream). s.under_way) is;
    }

-- a stream is released as before, where the same one is held
pub released_same : (id reserve : ℕ) (old new : SendQueueState) → new.held ≡ old.held → (released_queue id reserve new).held ≡ (released_queue id reserve old).held
released_same id reserve old new same = ap (λ (h : Option StreamId). (released_queue id reserve (record old { held = h })).held) same

pub leaves : (place max : ℕ) (message : Waiting) (under_way : UnderWay) (queue : SendQueueState) → place < length queue.streams
    → Leaves place max message under_way queue (queue_after_producing place max message under_way queue)
leaves place max message under_way queue within = go (is_last max message under_way) refl
  where
    go : (b : Bool) → is_last max message under_way ≡ b → Leaves place max message under_way queue (if b then after_last place message under_way queue else after_part place max message under_way queue)
    go true e =
        let all : length message.payload - under_way.sent ≤ max = elim (leb_tells (length message.payload - under_way.sent) max) [ inl t ↦ t.1 | inr t ↦ absurd (let clash : true ≡ false = sym e ∙ t.0 in cc) ] in
        last all (produces_last place message under_way queue within)
        (released_same under_way.stream_id.0 (reserve_begun (length message.payload) under_way) queue (without_oldest place (fragment_counted place (length message.payload - under_way.sent) message under_way (reduced_queue place (length message.payload - under_way.sent) queue)))
        (fragment_there place (length message.payload - under_way.sent) message under_way queue within).held)
    go false e =
        let more : max < length message.payload - under_way.sent = elim (leb_tells (length message.payload - under_way.sent) max) [ inl t ↦ absurd (let clash : true ≡ false = sym t.0 ∙ e in cc) | inr t ↦ t.1 ] in
        part more (produces_part place max message under_way queue within) refl

-- ---- the rest of a message is dropped

-- The stream at the place has lost its oldest message.
pub record DropsFront (place : ℕ) (old new : SendQueueState) : Type 0 where
  pub one : ChangesOne place old.streams new.streams
  pub kind : new.is_interleaved ≡ old.is_interleaved
  pub turns : new.takes_turns ≡ old.takes_turns
  pub messages_are : (stream_at new.streams place).messages ≡ drop 1 (stream_at old.streams place).messages
  pub progress_is : (stream_at new.streams place).under_way ≡ None

pub drops_front : (place sent : ℕ) (message : Waiting) (queue : SendQueueState) → place < length queue.streams → DropsFront place queue (without_rest place sent message queue)
drops_front place sent message queue within =
    let reduced : SendQueueState = reduced_queue place (length message.payload - sent) queue in
    let t = reduced_there place (length message.payload - sent) false queue within in
    let within' : place < length reduced.streams = still_within place false false queue reduced t within in
    let is : stream_at (without_rest place sent message queue).streams place ≡ without_front (stream_at reduced.streams place) =
    get_or-set_same reduced.streams place (without_front (stream_at reduced.streams place)) (unused_stream 0 0 0) within' in
    record {
      one = changes_twice place queue.streams reduced.streams (without_rest place sent message queue).streams t.one (changes_set place reduced.streams (without_front (stream_at reduced.streams place)) within' refl);
      kind = refl;
      turns = refl;
      messages_are = ap (λ (s : Stream). s.messages) is ∙ ap (λ (l : List Waiting). drop 1 l) t.counts.messages;
      progress_is = ap (λ (s : Stream). s.under_way) is;
    }
