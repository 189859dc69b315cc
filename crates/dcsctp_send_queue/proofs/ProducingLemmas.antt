-- What is left after a fragment was taken, step by step.
use Rattle.std.proofs.Common.{◌≡◌, ◌==◌, ◌+◌, ◌-◌, ◌^◌, ℕ, ◌<◌, ◌≤◌, min, nat_le, Bool, true, false, Option, None, Some, Result, Ok, Err, OnOk, List, length, set, refl, sym, ap, subst, ◌∙◌, arith}
use Rattle.std.proofs.lemmas.Bool.Decides.{nat_tests}
use Rattle.dcsctp_api.specs.spec.queues.SendQueue.{SendQueueState, IsUnderWay, CanGoOn, HaveBytes}
use Rattle.dcsctp_api.specs.types.declared.ids.StreamId.{StreamId}
use Rattle.dcsctp_api.specs.types.declared.sending.UnderWay.{UnderWay}
use Rattle.dcsctp_api.specs.types.queues.SendStreams.{Waiting, Stream, front_of, without_front, stream_with_progress, stream_at}
use Rattle.dcsctp_api.specs.spec.queues.Sending.{reduced_queue, next_progress, begun_under_way, queue_numbered, turn_counted, fragment_counted, progress_after, message_reserve, reserve_begun, reserved_after, released_queue, stream_held_after, after_part, after_last, queue_after_producing}
use Rattle.dcsctp_send_queue.proofs.StreamLemmas.{length-set_at}
use Rattle.dcsctp_send_queue.proofs.GoingOnLemmas.{kept_at, keeps_counted, can_continue, held_counted, ComesFrom, comes_from}

-- ---- how far the oldest message has come

pub progress_some : (stream : Stream) (message : Waiting) (u : UnderWay) → stream.under_way ≡ Some u → u ≡ next_progress message stream
progress_some stream message u e = rw e refl

pub progress_none : (stream : Stream) (message : Waiting) (u : UnderWay) → stream.under_way ≡ None → u ≡ begun_under_way message stream → u ≡ next_progress message stream
progress_none stream message u e is = is ∙ begun_next stream message e
  where
    begun_next : (stream : Stream) (message : Waiting) → stream.under_way ≡ None → begun_under_way message stream ≡ next_progress message stream
    begun_next stream message e = rw e refl

pub comes_as : (stream : Stream) (message : Waiting) (u : UnderWay) → CanGoOn stream → HaveBytes stream → front_of stream.messages ≡ Some message → u ≡ next_progress message stream
    → ComesFrom stream u message
comes_as stream message u can bytes front is = subst (λ (w : UnderWay). ComesFrom stream w message) (sym is) (comes_from stream message can bytes front)

-- ---- a fragment is counted in three steps

pub counted_is : (old reduced numbered turned : SendQueueState) (place size : ℕ) (message : Waiting) (u : UnderWay) (unordered : Bool) → reduced ≡ reduced_queue place size old
    → numbered ≡ queue_numbered place (u.sent == 0) unordered reduced → unordered ≡ message.is_unordered → turned ≡ turn_counted place (u.sent == 0) size numbered
    → turned ≡ fragment_counted place size message u (reduced_queue place size old)
counted_is old reduced numbered turned place size message u unordered first second is third =
    let both = second
    ∙ (ap {A = Bool} (λ (b : Bool). queue_numbered place (u.sent == 0) b reduced) is ∙ ap {A = SendQueueState} (λ (q : SendQueueState). queue_numbered place (u.sent == 0) message.is_unordered q) first) in
    third ∙ ap {A = SendQueueState} (λ (q : SendQueueState). turn_counted place (u.sent == 0) size q) both

-- The message can continue then.
pub continues : (old turned : SendQueueState) (place size : ℕ) (message : Waiting) (u next : UnderWay) → turned ≡ fragment_counted place size message u (reduced_queue place size old)
    → place < length old.streams → (stream_at old.streams place).id ≡ next.stream_id.0 → front_of (stream_at old.streams place).messages ≡ Some message → 0 < next.sent
    → next.sent < length message.payload → IsUnderWay (stream_at turned.streams place).id (stream_at turned.streams place).messages next
continues old turned place size message u next counted lt is front some less =
    let P : SendQueueState → Type 0 = λ q. IsUnderWay (stream_at q.streams place).id (stream_at q.streams place).messages next in
    subst P (sym counted)
    (can_continue place old (fragment_counted place size message u (reduced_queue place size old)) message next lt (keeps_counted place size message u old lt) is front some less)

-- the place stays one of the streams
pub counted_length : (old turned : SendQueueState) (place size : ℕ) (message : Waiting) (u : UnderWay) → turned ≡ fragment_counted place size message u (reduced_queue place size old)
    → place < length old.streams → length turned.streams ≡ length old.streams
counted_length old turned place size message u counted lt =
    let keeps = keeps_counted place size message u old lt in
    ap (λ (q : SendQueueState). length q.streams) counted ∙ (ap length keeps.is ∙ length-set_at old.streams place keeps.stream)

pub counted_front : (old turned : SendQueueState) (place size : ℕ) (message : Waiting) (u : UnderWay) → turned ≡ fragment_counted place size message u (reduced_queue place size old)
    → place < length old.streams → front_of (stream_at turned.streams place).messages ≡ front_of (stream_at old.streams place).messages
counted_front old turned place size message u counted lt =
    let keeps = keeps_counted place size message u old lt in
    let at = kept_at place old (fragment_counted place size message u (reduced_queue place size old)) lt keeps in
    ap (λ (q : SendQueueState). front_of (stream_at q.streams place).messages) counted ∙ (ap (λ (s : Stream). front_of s.messages) at ∙ ap (λ m. front_of m) keeps.messages)

pub part_is : (old turned : SendQueueState) (place size : ℕ) (message : Waiting) (u next : UnderWay) (streams : List Stream) (held : Option StreamId) (reserved : ℕ)
    → turned ≡ fragment_counted place size message u (reduced_queue place size old) → place < length old.streams
    → streams ≡ set turned.streams place (stream_with_progress next (stream_at turned.streams place)) → next ≡ progress_after size u → held ≡ stream_held_after u.stream_id message turned
    → reserved ≡ reserved_after (reserve_begun (length message.payload) u) (message_reserve (length message.payload) next) turned
    → record turned { streams = streams; held = held; reserved = reserved } ≡ after_part place size message u old
part_is old turned place size message u next streams held reserved counted lt is come they takes =
    let after = fragment_counted place size message u (reduced_queue place size old) in
    let keeps = keeps_counted place size message u old lt in
    let held_is = they ∙ (ap {A = SendQueueState} (λ (q : SendQueueState). stream_held_after u.stream_id message q) counted ∙ held_counted place old after u.stream_id message keeps) in
    let all = is ∙ ap (λ (n : UnderWay). set turned.streams place (stream_with_progress n (stream_at turned.streams place))) come in
    let less = reserve_begun (length message.payload) u in
    let was : turned.reserved ≡ old.reserved = ap {A = SendQueueState} (λ (q : SendQueueState). q.reserved) counted ∙ keeps.reserved in
    let takes_is : reserved ≡ reserved_after less (message_reserve (length message.payload) (progress_after size u)) old =
    takes ∙ (ap {A = UnderWay} (λ (n : UnderWay). reserved_after less (message_reserve (length message.payload) n) turned) come
    ∙ ap (λ (n : ℕ). min (n - less + message_reserve (length message.payload) (progress_after size u)) (2 ^ 128 - 1)) was) in
    rw (held_is, takes_is, all) (ap {A = SendQueueState} (λ (q : SendQueueState). record q {
      streams = set q.streams place (stream_with_progress (progress_after size u) (stream_at q.streams place));
      held = stream_held_after u.stream_id message old;
      reserved = reserved_after less (message_reserve (length message.payload) (progress_after size u)) old;
    }) counted)

pub last_is : (old turned released : SendQueueState) (place : ℕ) (message : Waiting) (u : UnderWay) (streams : List Stream)
    → turned ≡ fragment_counted place (length message.payload - u.sent) message u (reduced_queue place (length message.payload - u.sent) old)
    → released ≡ released_queue u.stream_id.0 (reserve_begun (length message.payload) u) turned → streams ≡ set released.streams place (without_front (stream_at released.streams place))
    → record released { streams = streams } ≡ after_last place message u old
last_is old turned released place message u streams counted is they =
    ap {A = List Stream} (λ (s : List Stream). record released { streams = s }) they
    ∙ (ap {A = SendQueueState} (λ (q : SendQueueState). record q { streams = set q.streams place (without_front (stream_at q.streams place)) }) is
    ∙ ap {A = SendQueueState} (λ (q : SendQueueState). record (released_queue u.stream_id.0 (reserve_begun (length message.payload) u) q) { streams = set q.streams place (without_front (stream_at q.streams place)) }) counted)

-- ---- the whole

at_most : (a b : ℕ) → a ≤ b → nat_le a b ≡ true
at_most a b le = grind (arith, nat_tests)

more_than : (a b : ℕ) → b < a → nat_le a b ≡ false
more_than a b lt = grind (arith, nat_tests)

-- It was the last fragment.
pub whole_last : {T E : Type 0} (r : Result T E) (old new : SendQueueState) (place max : ℕ) (message : Waiting) (u : UnderWay) → length message.payload - u.sent ≤ max
    → OnOk r (new ≡ after_last place message u old) → OnOk r (new ≡ queue_after_producing place max message u old)
whole_last (Ok v) old new place max message u le is = let t = at_most (length message.payload - u.sent) max le in is ∙ rw t refl
whole_last (Err e) old new place max message u le is = tt

-- More are to follow.
pub whole_part : {T E : Type 0} (r : Result T E) (old new : SendQueueState) (place max : ℕ) (message : Waiting) (u : UnderWay) → max < length message.payload - u.sent
    → OnOk r (new ≡ after_part place max message u old) → OnOk r (new ≡ queue_after_producing place max message u old)
whole_part (Ok v) old new place max message u lt is = let t = more_than (length message.payload - u.sent) max lt in is ∙ rw t refl
whole_part (Err e) old new place max message u lt is = tt
