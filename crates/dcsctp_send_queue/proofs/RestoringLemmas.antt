-- Streams and messages that are restored one after another.
use Rattle.std.proofs.Common.{◌≡◌, ◌==◌, nat_lt, ℕ, zero, suc, ◌+◌, ◌-◌, ◌^◌, ◌<◌, ◌&&◌, ◌||◌, min, not, Bool, true, false, if◌then◌else◌, Option, None, Some, is_some, Ok, Err, List, [], ◌∷◌, ◌++◌, length, get_or, set, map, refl, sym, ap, ◌∙◌, arith}
use Rattle.std.proofs.lemmas.Bool.Decides.{nat_tests}
use Rattle.std.specs.List.{list_all}
use Rattle.dcsctp_api.specs.types.declared.ids.StreamId.{StreamId}
use Rattle.dcsctp_api.specs.types.declared.sending.UnderWay.{UnderWay}
use Rattle.dcsctp_api.specs.types.declared.snapshot.HandoverStreamMessage.{HandoverStreamMessage}
use Rattle.dcsctp_api.specs.types.Snapshot.{has_bytes, has_unsent_bytes, is_valid_queued}
use Rattle.dcsctp_api.specs.types.SnapshotItems.{QueuedPart, queued_part}
use Rattle.dcsctp_api.specs.spec.queues.QueuedParts.{with_rest, is_part_continued, waiting_again, progress_again, held_again, queue_continued}
use Rattle.dcsctp_api.specs.spec.queues.Sending.{reserve_begun, reserved_after, stream_held_after, is_kept_whole}
use Rattle.dcsctp_api.specs.spec.queues.SendQueue.{SendQueueState, stream_changed, with_stream, is_used, used_streams, stream_found, queue_stream, IsUnderWay, IsHeld}
use Rattle.dcsctp_api.specs.types.queues.SendStreams.{Waiting, Stream, unused_stream, front_of, stream_with_progress, stream_at, IsAscending}
use Rattle.dcsctp_send_queue.specs.Ranking.{IsFound}
use Rattle.dcsctp_send_queue.proofs.StreamLemmas.{stream_at-set, length-set_at}
use Rattle.dcsctp_send_queue.proofs.QueueLemmas.{same_test, changed_at, stream_found-at, stream_found-none}
use Rattle.dcsctp_send_queue.proofs.HeldLemmas.{held-set}

some_sent : (sent : ℕ) (a b : Bool) → (nat_lt 0 sent && a && not b) ≡ true → 0 < sent
some_sent sent true b is = grind (arith, nat_tests)
some_sent sent false b is = grind (arith, nat_tests)

none_waits : (a b c : Bool) → (a && b && not c) ≡ true → c ≡ false
none_waits a b false is = refl
none_waits true true true is = sym is
none_waits true false true is = sym is
none_waits false b true is = sym is

same_number : (m n : ℕ) → (m == n) ≡ true → m ≡ n
same_number m n is = grind (arith, nat_tests)

-- ---- the stream of a message, once it was added

changed_by : (b : Bool) (d x : Stream) (xs : List Stream) (id : ℕ) (f : Stream → Stream) → (x.id == id) ≡ b → ((s : Stream) → (f s).id ≡ s.id) → (b || is_used id xs) ≡ true
    → (is_used id xs ≡ true → stream_found d id (stream_changed id f xs) ≡ f (stream_found d id xs))
    → stream_found d id ((if b then f x else x) ∷ stream_changed id f xs) ≡ f (if b then x else stream_found d id xs)
changed_by true d x xs id f e same is more = let t = same_test (f x).id id (same x ∙ same_number x.id id e) in rw t refl
changed_by false d x xs id f e same is more = rw e (more is)

found_changed : (d : Stream) (streams : List Stream) (id : ℕ) (f : Stream → Stream) → ((s : Stream) → (f s).id ≡ s.id) → is_used id streams ≡ true
    → stream_found d id (stream_changed id f streams) ≡ f (stream_found d id streams)
found_changed d [] id f same is = absurd (cc)
found_changed d (x ∷ xs) id f same is = changed_by (x.id == id) d x xs id f refl same is (λ more. found_changed d xs id f same more)

first_changed : (d e : Stream) (xs : List Stream) (id : ℕ) (f : Stream → Stream) → ((s : Stream) → (f s).id ≡ s.id) → e.id ≡ id → stream_found d id (stream_changed id f (e ∷ xs)) ≡ f e
first_changed d e xs id f same is =
    let first = same_test e.id id is in
    let second = same_test (f e).id id (same e ∙ is) in
    rw (first, second) refl

or_false : (a b : Bool) → (a || b) ≡ false → (a ≡ false) × (b ≡ false)
or_false false b is = (refl, is)
or_false true b is = absurd (cc)

new_by : (b : Bool) (d e x : Stream) (xs : List Stream) (id : ℕ) (f : Stream → Stream) → ((s : Stream) → (f s).id ≡ s.id) → e.id ≡ id → (x.id == id) ≡ false
    → stream_found d id (stream_changed id f (with_stream e xs)) ≡ f e → stream_found d id (stream_changed id f (if b then x ∷ with_stream e xs else e ∷ x ∷ xs)) ≡ f e
new_by true d e x xs id f same is other more = rw (other, other) more
new_by false d e x xs id f same is other more = first_changed d e (x ∷ xs) id f same is

found_new : (d e : Stream) (streams : List Stream) (id : ℕ) (f : Stream → Stream) → ((s : Stream) → (f s).id ≡ s.id) → e.id ≡ id → is_used id streams ≡ false
    → stream_found d id (stream_changed id f (with_stream e streams)) ≡ f e
found_new d e [] id f same is none = first_changed d e [] id f same is
found_new d e (x ∷ xs) id f same is none =
    let both = or_false (x.id == id) (is_used id xs) none in
    new_by (nat_lt x.id e.id) d e x xs id f same is both.0 (found_new d e xs id f same is both.1)

unused_default : (d : Stream) (streams : List Stream) (id : ℕ) → is_used id streams ≡ false → stream_found d id streams ≡ d
unused_default d [] id none = refl
unused_default d (x ∷ xs) id none =
    let both = or_false (x.id == id) (is_used id xs) none in
    rw both.0 (unused_default d xs id both.1)

-- a stream of the queue that is used, and changed
found_again : (queue : SendQueueState) (id : ℕ) (f : Stream → Stream) → ((s : Stream) → (f s).id ≡ s.id)
    → stream_found (unused_stream id queue.default_priority queue.default_threshold) id (stream_changed id f (used_streams queue id)) ≡ f (queue_stream queue id)
found_again queue id f same = go (is_used id queue.streams) refl
  where
    default : Stream
    default = unused_stream id queue.default_priority queue.default_threshold

    go : (b : Bool) → is_used id queue.streams ≡ b → stream_found default id (stream_changed id f (if b then queue.streams else with_stream default queue.streams)) ≡ f (queue_stream queue id)
    go true e = found_changed default queue.streams id f same e
    go false e = found_new default default queue.streams id f same refl e ∙ ap f (sym (unused_default default queue.streams id e))

first_alone : (messages : List Waiting) (message : Waiting) → is_some (front_of messages) ≡ false → front_of (messages ++ message ∷ []) ≡ Some message
first_alone [] message none = refl
first_alone (other ∷ messages) message none = cc

-- A message of the snapshot that is to continue can do so, once it was added.
pub restored_can : (now rest : ℕ) (part : QueuedPart) (queue after : SendQueueState) (message : Waiting) (u : UnderWay) → is_part_continued part queue ≡ true
    → part.remaining_offset < length part.payload → message ≡ waiting_again now part → u ≡ progress_again part
    → after ≡ record queue { streams = stream_changed part.stream_id (with_rest message rest) (used_streams queue part.stream_id); total_amount = min (queue.total_amount + rest) (2 ^ 64 - 1) }
    → IsUnderWay part.stream_id (queue_stream after part.stream_id).messages u
restored_can now rest part queue after message u on less same is they =
    let id = part.stream_id in
    let c = queue.is_interleaved || not (is_some queue.held) in
    let none = none_waits (nat_lt 0 part.remaining_offset) c (is_some (front_of (queue_stream queue id).messages)) on in
    let at : queue_stream after id ≡ with_rest message rest (queue_stream queue id) =
    ap (λ (q : SendQueueState). queue_stream q id) they ∙ found_again queue id (with_rest message rest) (λ s. refl) in
    rw is (record {
      is = refl;
      message = waiting_again now part;
      front = ap (λ (s : Stream). front_of s.messages) at ∙ (first_alone (queue_stream queue id).messages message none ∙ ap (λ (m : Waiting). Some m) same);
      begun = some_sent part.remaining_offset c (is_some (front_of (queue_stream queue id).messages)) on;
      unfinished = less;
    })

-- ---- it continues

-- the stream is found, and can continue
pub found_can : (queue : SendQueueState) (id : StreamId) (p : ℕ) (u : UnderWay) → IsAscending queue.streams → IsFound queue.streams id.0 (Ok p)
    → IsUnderWay id.0 (queue_stream queue id.0).messages u → IsUnderWay (stream_at queue.streams p).id (stream_at queue.streams p).messages u
found_can queue id p u ascending found can =
    let at = stream_found-at (unused_stream id.0 queue.default_priority queue.default_threshold) queue.streams p id.0 ascending found in
    record {
      is = found.1 ∙ can.is;
      message = can.message;
      front = ap (λ (s : Stream). front_of s.messages) (sym at) ∙ can.front;
      begun = can.begun;
      unfinished = can.unfinished;
    }

-- it isn't lost, since it has a message
pub continued_not_lost : (queue : SendQueueState) (id : StreamId) (p : ℕ) (u : UnderWay) → IsFound queue.streams id.0 (Err p) → IsUnderWay id.0 (queue_stream queue id.0).messages u → ⊥
continued_not_lost queue id p u lost can =
    let at = stream_found-none (unused_stream id.0 queue.default_priority queue.default_threshold) queue.streams p id.0 lost in
    let none : front_of (queue_stream queue id.0).messages ≡ None = ap (λ (s : Stream). front_of s.messages) at in
    let some = can.front in
    cc

held_by : (w held : Option StreamId) (id : StreamId) (message : Waiting) (queue : SendQueueState) → is_some w ≡ true → held ≡ w → held ≡ held_again id message queue w
held_by None held id message queue some is = absurd (cc)
held_by (Some other) held id message queue some is = is

-- Another stream is held already, or this one is, or none.
pub held_kept : (held : Option StreamId) (id : StreamId) (message : Waiting) (queue : SendQueueState) → is_some queue.held ≡ true → held ≡ queue.held → held ≡ held_again id message queue queue.held
held_kept held id message queue some is = held_by queue.held held id message queue some is

held_none_by : (w held : Option StreamId) (id : StreamId) (message : Waiting) (queue : SendQueueState) → is_some w ≡ false → held ≡ stream_held_after id message queue → held ≡ held_again id message queue w
held_none_by None held id message queue none is = is
held_none_by (Some other) held id message queue none is = absurd (cc)

pub held_new : (held : Option StreamId) (id : StreamId) (message : Waiting) (queue : SendQueueState) → is_some queue.held ≡ false → held ≡ stream_held_after id message queue
    → held ≡ held_again id message queue queue.held
held_new held id message queue none is = held_none_by queue.held held id message queue none is

pub continued_is : (queue : SendQueueState) (id : StreamId) (p : ℕ) (message : Waiting) (u : UnderWay) (streams : List Stream) (held : Option StreamId) (reserved : ℕ) → IsAscending queue.streams
    → IsFound queue.streams id.0 (Ok p) → streams ≡ set queue.streams p (stream_with_progress u (stream_at queue.streams p)) → held ≡ held_again id message queue queue.held
    → reserved ≡ reserved_after 0 (reserve_begun (length message.payload) u) queue → record queue { streams = streams; held = held; reserved = reserved } ≡ queue_continued id.0 message u queue
continued_is queue id p message u streams held reserved ascending found is they takes =
    let all = is ∙ changed_at queue.streams p id.0 (stream_with_progress u) ascending found in
    rw (all, they, takes) refl

continued_by : (b : Bool) (streams : List Stream) (id : StreamId) (p : ℕ) (u : UnderWay) → IsFound streams id.0 (Ok p) → IsHeld (if b then Some id else None) (set streams p (stream_with_progress u (stream_at streams p)))
continued_by true streams id p u found =
    let last : Stream = stream_with_progress u (stream_at streams p) in
    let len = length-set_at streams p last in
    let there = stream_at-set streams p last found.0 in
    let lt = found.0 in
    (p, record { within = omega (arith, len, lt); is = ap (λ x. x.id) there ∙ found.1; goes_on = ap (λ x. is_some x.under_way) there })
continued_by false streams id p u found = tt

held_again_by : (w : Option StreamId) (streams : List Stream) (id : StreamId) (p : ℕ) (message : Waiting) (queue : SendQueueState) (u : UnderWay) → IsFound streams id.0 (Ok p) → IsHeld w streams
    → IsHeld (held_again id message queue w) (set streams p (stream_with_progress u (stream_at streams p)))
held_again_by None streams id p message queue u found is = continued_by (is_kept_whole message queue) streams id p u found
held_again_by (Some held) streams id p message queue u found is = held-set streams p (stream_with_progress u (stream_at streams p)) (Some held) is refl (λ goes. refl)

-- the stream that is held then has a message under way
pub held-continued : (queue : SendQueueState) (id : StreamId) (p : ℕ) (message : Waiting) (u : UnderWay) (streams : List Stream) (held : Option StreamId) → IsFound queue.streams id.0 (Ok p)
    → streams ≡ set queue.streams p (stream_with_progress u (stream_at queue.streams p)) → held ≡ held_again id message queue queue.held → IsHeld queue.held queue.streams → IsHeld held streams
held-continued queue id p message u streams held found is they now =
    rw (is, they) (held_again_by queue.held queue.streams id p message queue u found now)

-- ---- what is valid

also : (a b : Bool) → (a && b) ≡ true → b ≡ true
also true b is = is
also false b is = absurd (cc)

first_true : (a b : Bool) → (a && b) ≡ true → a ≡ true
first_true true b is = refl
first_true false b is = is

less_from : (m n : ℕ) → nat_lt m n ≡ true → m < n
less_from m n is = grind (arith, nat_tests)

-- A valid message has bytes that weren't sent.
pub valid_at : (parts : List HandoverStreamMessage) (i : ℕ) (d : HandoverStreamMessage) → list_all is_valid_queued (map queued_part parts) ≡ true → i < length parts
    → (get_or parts i d).remaining_offset < length (get_or parts i d).payload.items
valid_at [] i d all lt = absurd (omega arith)
valid_at (part ∷ parts) zero d all lt =
    less_from part.remaining_offset (length part.payload.items)
    (also (has_bytes (queued_part part)) (has_unsent_bytes (queued_part part)) (first_true (is_valid_queued (queued_part part)) (list_all is_valid_queued (map queued_part parts)) all))
valid_at (part ∷ parts) (suc i) d all lt = valid_at parts i d (also (is_valid_queued (queued_part part)) (list_all is_valid_queued (map queued_part parts)) all) (omega arith)

-- a stream that takes one more message
pub put_rest_is : (old mid : SendQueueState) (streams more : List Stream) (total rest : ℕ) → mid.total_amount ≡ old.total_amount → total ≡ min (mid.total_amount + rest) (2 ^ 64 - 1)
    → record mid { streams = streams } ≡ record old { streams = more } → record mid { streams = streams; total_amount = total } ≡ record old { streams = more; total_amount = min (old.total_amount + rest) (2 ^ 64 - 1) }
put_rest_is old mid streams more total rest same is stream_changed =
    ap {A = ℕ} (λ (t : ℕ). record mid { streams = streams; total_amount = t }) (is ∙ ap (λ (t : ℕ). min (t + rest) (2 ^ 64 - 1)) same)
    ∙ ap {A = SendQueueState} (λ (q : SendQueueState). record q { total_amount = min (old.total_amount + rest) (2 ^ 64 - 1) }) stream_changed
