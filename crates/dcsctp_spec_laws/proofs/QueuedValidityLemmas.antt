-- What a snapshot has of a well-formed send queue is valid: no stream is listed twice, and each message has bytes that weren't sent.
use Rattle.std.proofs.Common.{◌≡◌, ◌==◌, ◌<◌, ℕ, zero, suc, Bool, true, false, Option, None, Some, List, [], ◌∷◌, ◌++◌, length, map, refl, ◌∙◌, arith}
use Rattle.std.proofs.lemmas.Bool.Decides.{nat_tests}
use Rattle.std.proofs.lemmas.List.Folds.{list_all-append}
use Rattle.std.specs.List.{AllByRecursion, list_any, list_all, flat_map}
use Rattle.dcsctp_spec_lemmas.specs.types.declared.sending.UnderWay.{UnderWay}
use Rattle.dcsctp_spec_lemmas.specs.types.declared.snapshot.HandoverOutgoingStream.{HandoverOutgoingStream}
use Rattle.dcsctp_spec_lemmas.specs.types.Snapshot.{names_twice, is_valid_queued}
use Rattle.dcsctp_spec_lemmas.specs.types.SnapshotItems.{QueuedPart}
use Rattle.dcsctp_spec_lemmas.specs.spec.queues.QueuedParts.{whole_message, begun_message, with_progress, messages_given, stream_given}
use Rattle.dcsctp_spec_lemmas.specs.spec.queues.SendQueue.{HaveBytes, CanContinue, CanGoOn}
use Rattle.dcsctp_spec_lemmas.specs.types.queues.SendStreams.{Waiting, Stream, IsBelow, IsAscending, front_of}

-- ---- no stream is listed twice

-- the numbers under which a snapshot lists the streams
abbrev pub ids_given : List Stream → List ℕ
ids_given streams = map (λ (stream : HandoverOutgoingStream). stream.id) (map stream_given streams)

-- A number less than those of all the streams is none of theirs.
none_is : (id : ℕ) (streams : List Stream) → IsBelow id streams → list_any (λ other. other == id) (ids_given streams) ≡ false
none_is id [] below = refl
none_is id (stream ∷ streams) below =
    let here : id < stream.id = below.0 in
    let rest = none_is id streams below.1 in
    grind (arith, nat_tests)

pub each_is_given_once : (streams : List Stream) → IsAscending streams → names_twice (ids_given streams) ≡ false
each_is_given_once [] ascending = refl
each_is_given_once (stream ∷ streams) ascending =
    rw (none_is stream.id streams ascending.0, each_is_given_once streams ascending.1) refl

-- ---- messages that wait whole

abbrev HasPayload : Waiting → Type 0
HasPayload message = 0 < length message.payload

whole_is_valid : (now id : ℕ) (message : Waiting) → HasPayload message → is_valid_queued (whole_message now id message) ≡ true
whole_is_valid now id message bytes = grind (arith, nat_tests)

whole_are_valid : (now id : ℕ) (messages : List Waiting) → AllByRecursion HasPayload messages
    → list_all is_valid_queued (map (whole_message now id) messages) ≡ true
whole_are_valid now id [] bytes = refl
whole_are_valid now id (message ∷ messages) bytes =
    rw (whole_is_valid now id message bytes.0) (whole_are_valid now id messages bytes.1)

-- ---- the message under way

begun_is_valid : (now id : ℕ) (under_way : UnderWay) (message : Waiting) → HasPayload message → under_way.sent < length message.payload
    → is_valid_queued (begun_message under_way (whole_message now id message)) ≡ true
begun_is_valid now id under_way message bytes unfinished = grind (arith, nat_tests)

-- The message under way is the oldest.
begun_are_valid : (now id : ℕ) (under_way : UnderWay) (messages : List Waiting) → AllByRecursion HasPayload messages
    → (message : Waiting) → front_of messages ≡ Some message → under_way.sent < length message.payload
    → list_all is_valid_queued (with_progress (Some under_way) (map (whole_message now id) messages)) ≡ true
begun_are_valid now id under_way [] bytes message front unfinished = refl
begun_are_valid now id under_way (first ∷ messages) bytes message front unfinished =
    let same : first ≡ message = cc in
    let sent : under_way.sent < length first.payload = rw same unfinished in
    rw (begun_is_valid now id under_way first bytes.0 sent) (whole_are_valid now id messages bytes.1)

stream_is_valid : (now : ℕ) (stream : Stream) (under_way : Option UnderWay) → stream.under_way ≡ under_way → HaveBytes stream → CanContinue stream.id stream.messages under_way
    → list_all is_valid_queued (messages_given now stream) ≡ true
stream_is_valid now stream None is bytes can = rw is (whole_are_valid now stream.id stream.messages bytes)
stream_is_valid now stream (Some under_way) is bytes can =
    rw is (begun_are_valid now stream.id under_way stream.messages bytes can.message can.front can.unfinished)

-- ---- all streams

both_are_valid : (parts more : List QueuedPart) → list_all is_valid_queued parts ≡ true → list_all is_valid_queued more ≡ true
    → list_all is_valid_queued (parts ++ more) ≡ true
both_are_valid parts more first second = list_all-append is_valid_queued parts more ∙ rw first second

pub queued_are_valid : (now : ℕ) (streams : List Stream) → AllByRecursion HaveBytes streams → AllByRecursion CanGoOn streams
    → list_all is_valid_queued (flat_map (messages_given now) streams) ≡ true
queued_are_valid now [] bytes can = refl
queued_are_valid now (stream ∷ streams) bytes can =
    both_are_valid (messages_given now stream) _ (stream_is_valid now stream stream.under_way refl bytes.0 can.0) (queued_are_valid now streams bytes.1 can.1)
