-- The message under way, and what a fragment of it leaves.
use Rattle.std.proofs.Common.{◌≡◌, ◌≢◌, ◌==◌, nat_le, ℕ, ◌-◌, ◌<◌, Bool, true, false, if◌then◌else◌, Option, None, Some, is_some, Ok, Err, List, [], ◌∷◌, length, set, refl, sym, ap, subst, ◌∙◌, arith}
use Rattle.std.proofs.lemmas.Bool.Decides.{nat_tests}
use Rattle.std.specs.List.{AllByRecursion}
use Rattle.dcsctp_api.specs.spec.endpoint.Event.{Event}
use Rattle.dcsctp_api.specs.spec.queues.SendQueue.{SendQueueState, IsUnderWay, CanGoOn, HaveBytes, IsHeld, queue_interleaves}
use Rattle.dcsctp_api.specs.types.declared.ids.StreamId.{StreamId}
use Rattle.dcsctp_api.specs.types.declared.sending.UnderWay.{UnderWay}
use Rattle.dcsctp_api.specs.types.queues.SendStreams.{Waiting, Stream, front_of, without_front, stream_with_progress, stream_with_turn_bytes, stream_counted, served_stream, fills_turn, stream_at, IsAscending}
use Rattle.dcsctp_send_queue.specs.Ranking.{IsFound}
use Rattle.dcsctp_api.specs.spec.queues.Sending.{Chooses, IsMessageUnderWay, Drops, none, more, reduced_queue, next_turn, next_progress, queue_with_stream, queue_numbered, queue_served, queue_with_turn_bytes, fragment_counted, progress_after, reserve_begun, released_queue, stream_held_after, is_kept_whole, after_part, after_last, queue_after_producing, is_last, without_rest}
use Rattle.dcsctp_send_queue.proofs.StreamLemmas.{stream_at-set, length-set_at, counted-id, counted-messages, counted-under_way}
use Rattle.dcsctp_send_queue.proofs.NextLemmas.{same_place, absent_at}
use Rattle.dcsctp_send_queue.proofs.QueueLemmas.{set-set}
use Rattle.dcsctp_send_queue.proofs.HeldLemmas.{held-released}

-- drops leave the stream that is held
pub drops-held : (now : ℕ) (old queue : SendQueueState) (events : List (Event (List ℕ))) → Drops now old events queue → queue.held ≡ old.held
drops-held now old queue events none = refl
drops-held now old queue events (more told before place message drops next front expired) = drops-held now old before told drops

-- ---- what a fragment leaves

-- Only the stream at the place changes, and it keeps its number, its messages and how far the oldest has come.
pub record KeepsAt (p : ℕ) (queue after : SendQueueState) : Type 0 where
  pub stream : Stream
  pub is : after.streams ≡ set queue.streams p stream
  pub id : stream.id ≡ (stream_at queue.streams p).id
  pub messages : stream.messages ≡ (stream_at queue.streams p).messages
  pub under_way : stream.under_way ≡ (stream_at queue.streams p).under_way
  pub held : after.held ≡ queue.held
  pub interleaves : queue_interleaves after ≡ queue_interleaves queue
  pub window : after.window ≡ queue.window
  pub reserved : after.reserved ≡ queue.reserved

-- the stream at the place
pub kept_at : (p : ℕ) (queue after : SendQueueState) → p < length queue.streams → (keeps : KeepsAt p queue after) → stream_at after.streams p ≡ keeps.stream
kept_at p queue after lt keeps = ap (λ s. stream_at s p) keeps.is ∙ stream_at-set queue.streams p keeps.stream lt

keeps_with : (p : ℕ) (queue after : SendQueueState) (s : Stream) → p < length queue.streams → KeepsAt p queue after → s.id ≡ (stream_at after.streams p).id
    → s.messages ≡ (stream_at after.streams p).messages → s.under_way ≡ (stream_at after.streams p).under_way → KeepsAt p queue (queue_with_stream p s after)
keeps_with p queue after s lt keeps id messages under_way =
    let at = kept_at p queue after lt keeps in
    record {
      stream = s;
      is = ap (λ (t : List Stream). set t p s) keeps.is ∙ set-set queue.streams p keeps.stream s;
      id = id ∙ (ap (λ x. x.id) at ∙ keeps.id);
      messages = messages ∙ (ap (λ x. x.messages) at ∙ keeps.messages);
      under_way = under_way ∙ (ap (λ x. x.under_way) at ∙ keeps.under_way);
      held = keeps.held;
      interleaves = keeps.interleaves;
      window = keeps.window;
      reserved = keeps.reserved;
    }

keeps_reduced : (p size : ℕ) (queue : SendQueueState) → KeepsAt p queue (reduced_queue p size queue)
keeps_reduced p size queue =
    record {
      stream = record (stream_at queue.streams p) { amount = (stream_at queue.streams p).amount - size };
      is = refl;
      id = refl;
      messages = refl;
      under_way = refl;
      held = refl;
      interleaves = refl;
      window = refl;
      reserved = refl;
    }

keeps_numbered : (b : Bool) (p : ℕ) (is_unordered : Bool) (queue after : SendQueueState) → p < length queue.streams → KeepsAt p queue after → KeepsAt p queue (queue_numbered p b is_unordered after)
keeps_numbered true p is_unordered queue after lt keeps =
    keeps_with p queue after (stream_counted after.is_interleaved is_unordered (stream_at after.streams p)) lt keeps
    (counted-id after.is_interleaved is_unordered (stream_at after.streams p)) (counted-messages after.is_interleaved is_unordered (stream_at after.streams p))
    (counted-under_way after.is_interleaved is_unordered (stream_at after.streams p))
keeps_numbered false p is_unordered queue after lt keeps = keeps

keeps_served : (b : Bool) (p : ℕ) (queue after : SendQueueState) → p < length queue.streams → KeepsAt p queue after → KeepsAt p queue (queue_served p b after)
keeps_served true p queue after lt keeps =
    let k = keeps_with p queue after (served_stream (next_turn after) (stream_at after.streams p)) lt keeps refl refl refl in
    record { stream = k.stream; is = k.is; id = k.id; messages = k.messages; under_way = k.under_way; held = k.held; interleaves = k.interleaves; window = k.window; reserved = k.reserved }
keeps_served false p queue after lt keeps = keeps

keeps_turn : (b : Bool) (p : ℕ) (begins : Bool) (size : ℕ) (queue after : SendQueueState) → p < length queue.streams → KeepsAt p queue after
    → KeepsAt p queue (if b then queue_served p (fills_turn after.turn_size size (stream_at after.streams p)) (queue_with_turn_bytes p size after) else queue_served p begins after)
keeps_turn true p begins size queue after lt keeps =
    keeps_served (fills_turn after.turn_size size (stream_at after.streams p)) p queue (queue_with_turn_bytes p size after) lt
    (keeps_with p queue after (stream_with_turn_bytes after.turn_size size (stream_at after.streams p)) lt keeps refl refl refl)
keeps_turn false p begins size queue after lt keeps = keeps_served begins p queue after lt keeps

-- a fragment is counted
pub keeps_counted : (p size : ℕ) (message : Waiting) (u : UnderWay) (queue : SendQueueState) → p < length queue.streams
    → KeepsAt p queue (fragment_counted p size message u (reduced_queue p size queue))
keeps_counted p size message u queue lt =
    let numbered = queue_numbered p (u.sent == 0) message.is_unordered (reduced_queue p size queue) in
    keeps_turn (queue_interleaves numbered) p (u.sent == 0) size queue numbered lt
    (keeps_numbered (u.sent == 0) p message.is_unordered queue (reduced_queue p size queue) lt (keeps_reduced p size queue))

-- the message can continue once a fragment is counted
pub can_continue : (p : ℕ) (queue after : SendQueueState) (message : Waiting) (next : UnderWay) → p < length queue.streams → KeepsAt p queue after
    → (stream_at queue.streams p).id ≡ next.stream_id.0 → front_of (stream_at queue.streams p).messages ≡ Some message → 0 < next.sent → next.sent < length message.payload
    → IsUnderWay (stream_at after.streams p).id (stream_at after.streams p).messages next
can_continue p queue after message next lt keeps is front some less =
    let at = kept_at p queue after lt keeps in
    record {
      is = ap (λ x. x.id) at ∙ (keeps.id ∙ is);
      message = message;
      front = ap (λ x. front_of x.messages) at ∙ (ap (λ m. front_of m) keeps.messages ∙ front);
      begun = some;
      unfinished = less;
    }

-- what is held after a fragment that isn't the last, once it is counted
pub held_counted : (p : ℕ) (queue after : SendQueueState) (id : StreamId) (message : Waiting) → KeepsAt p queue after → stream_held_after id message after ≡ stream_held_after id message queue
held_counted p queue after id message keeps = rw (keeps.interleaves, keeps.window, keeps.reserved) refl

part_held : (b : Bool) (p : ℕ) (queue after : SendQueueState) (next : UnderWay) (id : StreamId) → p < length queue.streams → KeepsAt p queue after → (stream_at queue.streams p).id ≡ id.0
    → IsHeld (if b then Some id else None) (set after.streams p (stream_with_progress next (stream_at after.streams p)))
part_held true p queue after next id lt keeps is =
    let at = kept_at p queue after lt keeps in
    let len = ap length keeps.is ∙ length-set_at queue.streams p keeps.stream in
    let last : Stream = stream_with_progress next (stream_at after.streams p) in
    let more = length-set_at after.streams p last in
    let there = stream_at-set after.streams p last (omega (arith, len, lt)) in (
      p,
      record {
        within = omega (arith, len, more, lt);
        is = ap (λ x. x.id) there ∙ (ap (λ x. x.id) at ∙ (keeps.id ∙ is));
        goes_on = ap (λ x. is_some x.under_way) there;
      },
    )
part_held false p queue after next id lt keeps is = tt

last_held : (p : ℕ) (queue after : SendQueueState) (id reserve : ℕ) → p < length queue.streams → KeepsAt p queue after → IsHeld queue.held queue.streams → (stream_at queue.streams p).id ≡ id
    → IsHeld (released_queue id reserve after).held (set after.streams p (without_front (stream_at after.streams p)))
last_held p queue after id reserve lt keeps held is =
    let last : Stream = without_front (stream_at after.streams p) in
    let streams = ap (λ (t : List Stream). set t p last) keeps.is ∙ set-set queue.streams p keeps.stream last in
    rw streams (held-released after queue.streams p id reserve last (rw keeps.held held) is)

pub not_last : (rest max : ℕ) → nat_le rest max ≡ false → max < rest
not_last rest max e = grind (arith, nat_tests)

produced_held : (queue : SendQueueState) (place max : ℕ) (message : Waiting) (u : UnderWay) (b : Bool) → place < length queue.streams → (stream_at queue.streams place).id ≡ u.stream_id.0
    → IsHeld queue.held queue.streams
    → IsHeld (if b then after_last place message u queue else after_part place max message u queue).held (if b then after_last place message u queue else after_part place max message u queue).streams
produced_held queue place max message u true lt is held =
    let size = length message.payload - u.sent in
    last_held place queue (fragment_counted place size message u (reduced_queue place size queue)) u.stream_id.0 (reserve_begun (length message.payload) u) lt
    (keeps_counted place size message u queue lt) held is
produced_held queue place max message u false lt is held =
    part_held (is_kept_whole message queue) place queue (fragment_counted place max message u (reduced_queue place max queue)) (progress_after max u) u.stream_id lt
    (keeps_counted place max message u queue lt) is

-- the stream that is held after a fragment has a message under way
pub held-produced : (queue : SendQueueState) (place max : ℕ) (message : Waiting) (u : UnderWay) → place < length queue.streams → (stream_at queue.streams place).id ≡ u.stream_id.0
    → IsHeld queue.held queue.streams → IsHeld (queue_after_producing place max message u queue).held (queue_after_producing place max message u queue).streams
held-produced queue place max message u lt is held = produced_held queue place max message u (is_last max message u) lt is held

-- ---- how far a message has come

-- a message of the stream, of which some bytes are left
pub record ComesFrom (stream : Stream) (u : UnderWay) (message : Waiting) : Type 0 where
  pub is : stream.id ≡ u.stream_id.0
  pub less : u.sent < length message.payload

some_bytes : (messages : List Waiting) (message : Waiting) → AllByRecursion (λ (m : Waiting). 0 < length m.payload) messages → front_of messages ≡ Some message → 0 < length message.payload
some_bytes [] message all e = cc
some_bytes (x ∷ xs) message all e = let same : x ≡ message = cc in rw (sym same) all.0

comes_by : (stream : Stream) (message : Waiting) (w : Option UnderWay) → stream.under_way ≡ w → CanGoOn stream → HaveBytes stream → front_of stream.messages ≡ Some message
    → ComesFrom stream (next_progress message stream) message
comes_by stream message None e can bytes front = rw e (record { is = refl; less = some_bytes stream.messages message bytes front })
comes_by stream message (Some u) e can bytes front =
    let goes : IsUnderWay stream.id stream.messages u = rw e at can in
    let both : Some goes.message ≡ Some message = sym goes.front ∙ front in
    let same : goes.message ≡ message = cc in
    let less : u.sent < length message.payload = rw same at goes.unfinished in
    rw e (record { is = goes.is; less = less })

-- The oldest message of a stream has bytes left, whether it is under way or is begun.
pub comes_from : (stream : Stream) (message : Waiting) → CanGoOn stream → HaveBytes stream → front_of stream.messages ≡ Some message → ComesFrom stream (next_progress message stream) message
comes_from stream message can bytes front = comes_by stream message stream.under_way refl can bytes front

going_by : (stream : Stream) (w : Option UnderWay) → stream.under_way ≡ w → is_some w ≡ true → CanGoOn stream → (message : Waiting) × (front_of stream.messages ≡ Some message)
going_by stream None e some can = absurd (cc)
going_by stream (Some u) e some can = let goes : IsUnderWay stream.id stream.messages u = rw e at can in (goes.message, goes.front)

-- a stream with a message under way has a message
pub going_front : (stream : Stream) → is_some stream.under_way ≡ true → CanGoOn stream → (message : Waiting) × (front_of stream.messages ≡ Some message)
going_front stream some can = going_by stream stream.under_way refl some can

-- the stream that is held is chosen
pub chosen_held : (now max : ℕ) (old : SendQueueState) (place : ℕ) (held : StreamId) (w : Option StreamId) → w ≡ Some held → (stream_at old.streams place).id ≡ held.0
    → Chooses now max old w old place
chosen_held now max old place held w e is = rw e (refl, is)

-- ---- a message that is named

-- Another message is under way on the stream, or none.
pub not_named : (queue : SendQueueState) (stream message_id p : ℕ) (message : Waiting) → IsAscending queue.streams → IsFound queue.streams stream (Ok p) → front_of (stream_at queue.streams p).messages ≡ Some message
    → message.message_id ≢ message_id → IsMessageUnderWay queue stream message_id → ⊥
not_named queue stream message_id p message ascending found front other named =
    let same = same_place queue.streams named.place p ascending named.within found.0 (named.is ∙ sym found.1) in
    let e : Some named.message ≡ Some message = sym named.front ∙ (ap (λ k. front_of (stream_at queue.streams k).messages) same ∙ front) in
    let m : named.message ≡ message = cc in
    other (ap (λ w. w.message_id) (sym m) ∙ named.named)

pub none_named : (queue : SendQueueState) (stream message_id p : ℕ) → IsAscending queue.streams → IsFound queue.streams stream (Ok p) → (stream_at queue.streams p).under_way ≡ None
    → IsMessageUnderWay queue stream message_id → ⊥
none_named queue stream message_id p ascending found idle named =
    let same = same_place queue.streams named.place p ascending named.within found.0 (named.is ∙ sym found.1) in
    let e : Some named.under_way ≡ None = sym named.goes_on ∙ (ap (λ k. (stream_at queue.streams k).under_way) same ∙ idle) in
    absurd (cc)

pub lost_named : (queue : SendQueueState) (stream message_id p : ℕ) → IsFound queue.streams stream (Err p) → IsMessageUnderWay queue stream message_id → ⊥
lost_named queue stream message_id p lost named = absent_at queue.streams stream p named.place lost named.within named.is

-- ---- a message that is dropped

-- What is left of a message is dropped, and it takes nothing of the peer's window any more.
pub discarded_is : (old dropped new : SendQueueState) (place : ℕ) (message : Waiting) (u : UnderWay) (id size reserve : ℕ) → size ≡ length message.payload → reserve ≡ reserve_begun size u
    → dropped ≡ without_rest place u.sent message old → new ≡ released_queue id reserve dropped
    → new ≡ released_queue id (reserve_begun (length message.payload) u) (without_rest place u.sent message old)
discarded_is old dropped new place message u id size reserve same takes is after =
    after ∙ (ap (λ (n : ℕ). released_queue id n dropped) (takes ∙ ap (λ (n : ℕ). reserve_begun n u) same)
    ∙ ap {A = SendQueueState} (λ (q : SendQueueState). released_queue id (reserve_begun (length message.payload) u) q) is)

-- The stream that is held has a message under way once the rest of another's is dropped, and it is held no longer if it was its own.
pub held-discarded : (old : SendQueueState) (place sent : ℕ) (message : Waiting) (id reserve : ℕ) → IsHeld old.held old.streams → (stream_at old.streams place).id ≡ id
    → IsHeld (released_queue id reserve (without_rest place sent message old)).held (without_rest place sent message old).streams
held-discarded old place sent message id reserve held is =
    let less : Stream = record (stream_at old.streams place) { amount = (stream_at old.streams place).amount - (length message.payload - sent) } in
    let last : Stream = without_front (stream_at (set old.streams place less) place) in
    let streams = set-set old.streams place less last in
    subst (λ (t : List Stream). IsHeld (released_queue id reserve old).held t) (sym streams) (held-released old old.streams place id reserve last held is)
