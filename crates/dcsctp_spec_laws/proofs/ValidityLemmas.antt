-- The snapshot of a socket that is ready to be handed over is valid for its options.
use Rattle.std.proofs.Common.{◌≡◌, inl, inr, ◌==◌, ◌||◌, ◌<◌, ◌≤◌, ◌+◌, ◌-◌, ◌%◌, ◌^◌, ℕ, not, nat_lt, bit_or, Bool, true, false, Option, None, Some, List, [], ◌∷◌, length, map, refl, arith, Less}
use Rattle.std.proofs.lemmas.Bool.Decides.{nat_tests}
use Rattle.std.proofs.lemmas.List.{length-map}
use Rattle.std.proofs.lemmas.Nat.{le_or_l, le_or_r}
use Rattle.std.specs.List.{AllByRecursion, list_any, list_all}
use Rattle.std.specs.List.Sorted.{IsStrictlySortedBy}
use Rattle.std.specs.Map.{keys_of}
use Rattle.std.specs.Ordering.{nat_cmp}
use Rattle.dcsctp_spec_lemmas.specs.types.declared.association.Held.{Held}
use Rattle.dcsctp_spec_lemmas.specs.types.declared.association.Pair.{Pair}
use Rattle.dcsctp_spec_lemmas.specs.types.declared.capabilities.Capabilities.{Capabilities}
use Rattle.dcsctp_spec_lemmas.specs.types.declared.options.Options.{Options}
use Rattle.dcsctp_spec_lemmas.specs.types.declared.snapshot.HandoverOrderedStream.{HandoverOrderedStream}
use Rattle.dcsctp_spec_lemmas.specs.spec.endpoint.Endpoint.{Endpoint, Core, closed, cookie_wait, cookie_echoed, open_in, established, shutdown_pending, shutdown_sent, shutdown_received, shutdown_ack_sent, held_by_core}
use Rattle.dcsctp_spec_lemmas.specs.spec.Handover.{transfer_layer_readiness, readiness_by_core}
use Rattle.dcsctp_spec_lemmas.specs.types.Readiness.{reason_if_true}
use Rattle.dcsctp_spec_lemmas.specs.types.Snapshot.{SendPart, ReceivePart, names_twice, has_bytes_or_is_abandoned, tsns_between, allows_zero_checksum, outstanding_count_fits, is_valid_queued, is_valid_send_part, is_valid_received_part, is_valid_connected, is_valid_snapshot, empty_send_part, empty_received_part}
use Rattle.dcsctp_spec_lemmas.specs.spec.SocketSnapshot.{capabilities_given, with_received, connected_snapshot, snapshot_by_core}
use Rattle.dcsctp_spec_lemmas.specs.spec.Soundness.{UsesOwnMethod, IsSoundHeld, IsSoundCore, HasBytes, IsSoundIfKnown}
use Rattle.dcsctp_spec_laws.specs.SoundnessLaws.{SnapshotsAreValid}
use Rattle.dcsctp_spec_lemmas.specs.spec.queues.Incoming.{AreInOrder}
use Rattle.dcsctp_spec_lemmas.specs.spec.queues.IncomingStreams.{StreamModel}
use Rattle.dcsctp_spec_lemmas.specs.spec.queues.Items.{Item}
use Rattle.dcsctp_spec_lemmas.specs.spec.queues.OutstandingParts.{outstanding_given, with_retransmission}
use Rattle.dcsctp_spec_lemmas.specs.spec.queues.QueuedParts.{part_with_queue}
use Rattle.dcsctp_spec_lemmas.specs.spec.queues.Readiness.{retransmission_readiness}
use Rattle.dcsctp_spec_lemmas.specs.spec.queues.ReceivedParts.{ordered_stream}
use Rattle.dcsctp_spec_lemmas.specs.spec.queues.Retransmission.{RetransmissionState}
use Rattle.dcsctp_spec_lemmas.specs.spec.queues.SendQueue.{SendQueueState, IsWellFormed}
use Rattle.dcsctp_spec_lemmas.specs.spec.queues.Transfer.{Transfer}
use Rattle.dcsctp_spec_laws.proofs.QueuedValidityLemmas.{each_is_given_once, queued_are_valid}

-- ---- there is no reason against it

left_is_zero : (x y : ℕ) → bit_or x y ≡ 0 → x ≡ 0
left_is_zero x y none = let least = le_or_l x y in omega arith

right_is_zero : (x y : ℕ) → bit_or x y ≡ 0 → y ≡ 0
right_is_zero x y none = let least = le_or_r x y in omega arith

-- the number of a reason isn't 0
doesnt_hold : (b : Bool) (reason : ℕ) → 0 < reason → reason_if_true b reason ≡ 0 → b ≡ false
doesnt_hold true reason named none = absurd (omega arith)
doesnt_hold false reason named none = refl

-- If nothing goes along, nothing is in flight.
nothing_in_flight : (state : RetransmissionState) → retransmission_readiness false state ≡ 0 → length state.outstanding.items ≡ 0
nothing_in_flight state ready =
    let test : nat_lt 0 (length state.outstanding.items) ≡ false = doesnt_hold _ _ (omega arith) (left_is_zero _ _ ready) in
    grind (arith, nat_tests)

-- ---- what is in flight

in_flight_has_bytes : (now : ℕ) (item : Item) → HasBytes item → has_bytes_or_is_abandoned (outstanding_given now item) ≡ true
in_flight_has_bytes now item (inl bytes) = grind (arith, nat_tests)
in_flight_has_bytes now item (inr is) = rw is refl

in_flight_have_bytes : (now : ℕ) (items : List Item) → AllByRecursion HasBytes items
    → list_all has_bytes_or_is_abandoned (map (outstanding_given now) items) ≡ true
in_flight_have_bytes now [] each = refl
in_flight_have_bytes now (item ∷ items) each = rw (in_flight_has_bytes now item each.0) (in_flight_have_bytes now items each.1)

-- As many TSNs are between the one before the first and the next one.
count_between : (first count : ℕ) → count < 2 ^ 31 → tsns_between ((first + (2 ^ 32 - 1)) % 2 ^ 32) ((first + count) % 2 ^ 32) ≡ count
count_between first count few = omega arith

-- Data that goes along is all that is outstanding.
count_fits : (now : ℕ) (with_data : Bool) (state : RetransmissionState) (tx : SendPart) → length state.outstanding.items < 2 ^ 31
    → retransmission_readiness with_data state ≡ 0 → outstanding_count_fits (with_retransmission now with_data state tx) ≡ true
count_fits now true state tx few ready =
    let between = count_between state.outstanding.first_tsn (length state.outstanding.items) few in
    rw between (simp length-map (grind (arith, nat_tests)))
count_fits now false state tx few ready =
    let between = count_between state.outstanding.first_tsn (length state.outstanding.items) few in
    rw (between, nothing_in_flight state ready) refl

in_flight_are_valid : (now : ℕ) (with_data : Bool) (state : RetransmissionState) (tx : SendPart) → AllByRecursion HasBytes state.outstanding.items
    → list_all has_bytes_or_is_abandoned (with_retransmission now with_data state tx).outstanding_data ≡ true
in_flight_are_valid now true state tx each = in_flight_have_bytes now state.outstanding.items each
in_flight_are_valid now false state tx each = refl

-- ---- what waits

waiting_are_valid : (now : ℕ) (with_data : Bool) (queue : SendQueueState) (tx : SendPart) → IsWellFormed queue
    → list_all is_valid_queued (part_with_queue now with_data queue tx).queued_messages ≡ true
waiting_are_valid now true queue tx is = queued_are_valid now queue.streams is.bytes is.can
waiting_are_valid now false queue tx is = refl

sending_is_valid : (now : ℕ) (with_data : Bool) (queue : SendQueueState) (state : RetransmissionState) (tx : SendPart) → IsWellFormed queue
    → AllByRecursion HasBytes state.outstanding.items → length state.outstanding.items < 2 ^ 31 → retransmission_readiness with_data state ≡ 0
    → is_valid_send_part (with_retransmission now with_data state (part_with_queue now with_data queue tx)) ≡ true
sending_is_valid now with_data queue state tx is each few ready =
    rw (each_is_given_once queue.streams is.ascending)
    (rw (waiting_are_valid now with_data queue tx is)
    (rw (in_flight_are_valid now with_data state tx each)
    (count_fits now with_data state (part_with_queue now with_data queue tx) few ready)))

-- ---- what was received

-- the numbers under which a snapshot lists the streams
abbrev ids_received : List (ℕ × StreamModel) → List ℕ
ids_received streams =
    map (λ (stream : HandoverOrderedStream). stream.id) (map (λ (entry : ℕ × StreamModel). ordered_stream entry.0 entry.1) streams)

-- A number less than those of all the streams is none of theirs.
none_is : (id : ℕ) (streams : List (ℕ × StreamModel)) → AllByRecursion (λ other. nat_cmp id other ≡ Less) (keys_of streams)
    → list_any (λ other. other == id) (ids_received streams) ≡ false
none_is id [] below = refl
none_is id (entry ∷ streams) below =
    let here : nat_cmp id entry.0 ≡ Less = below.0 in
    let rest = none_is id streams below.1 in
    grind (arith, nat_tests)

each_is_listed_once : (streams : List (ℕ × StreamModel)) → AreInOrder streams → names_twice (ids_received streams) ≡ false
unfolding IsStrictlySortedBy
each_is_listed_once [] sorted = refl
each_is_listed_once (entry ∷ streams) sorted = rw (none_is entry.0 streams sorted.0, each_is_listed_once streams sorted.1) refl

received_is_valid : (transfer : Transfer) (rx : ReceivePart) → AreInOrder transfer.reassembly.incoming.streams
    → is_valid_received_part (with_received (Some transfer) rx) ≡ true
received_is_valid transfer rx sorted = rw (each_is_listed_once transfer.reassembly.incoming.streams sorted) refl

-- ---- the association

-- A snapshot says that packets go without a checksum only if the options have a method for it.
own_method_is_allowed : (options : Options) (capabilities : Capabilities) → UsesOwnMethod options capabilities
    → allows_zero_checksum options (capabilities_given capabilities) ≡ true
own_method_is_allowed options capabilities (inl none) = rw none refl
own_method_is_allowed options capabilities (inr same) = rw same (or_not (options.zero_checksum_alternate_error_detection_method.0 == 0))
  where
    or_not : (b : Bool) → (not (not b) || not b) ≡ true
    or_not true = refl
    or_not false = refl

tag_counts : (tag : ℕ) → 1 ≤ tag → not (tag == 0) ≡ true
tag_counts tag least = grind (arith, nat_tests)

established_is_valid : (e : Endpoint) (my : Pair) (held : Held) → 1 ≤ my.tag → IsSoundHeld e.options held → IsWellFormed e.queues.queue
    → (transfer : Option Transfer) → e.queues.transfer ≡ transfer → IsSoundIfKnown (Some held) transfer → transfer_layer_readiness e transfer ≡ 0
    → is_valid_connected e.options (connected_snapshot e my held) ≡ true
established_is_valid e my held least sound queue None is known ready = absurd known
established_is_valid e my held least sound queue (Some transfer) is known ready =
    rw (tag_counts my.tag least, tag_counts held.peer.tag sound.tag_is_not_zero, own_method_is_allowed e.options held.capabilities sound.method)
    (rw is
    (rw (sending_is_valid e.moment e.options.enable_handover_with_outstanding_data e.queues.queue transfer.retransmission
    (record empty_send_part { next_reset_req_sn = held.own_next }) queue known.items known.few (left_is_zero _ _ ready))
    (received_is_valid transfer (record empty_received_part { last_completed_reset_req_sn = held.peer_last }) known.streams)))

valid_in : (e : Endpoint) (core : Core) → IsSoundCore e.options core → IsWellFormed e.queues.queue → IsSoundIfKnown (held_by_core core) e.queues.transfer
    → readiness_by_core e core ≡ 0 → is_valid_snapshot e.options (snapshot_by_core e core) ≡ true
valid_in e closed sound queue known ready = refl
valid_in e (cookie_wait my) sound queue known ready = refl
valid_in e (cookie_echoed my held cookie) sound queue known ready = refl
valid_in e (open_in established my held) sound queue known ready =
    established_is_valid e my held sound.0 sound.1 queue e.queues.transfer refl known (right_is_zero _ _ (right_is_zero _ _ ready))
valid_in e (open_in shutdown_pending my held) sound queue known ready = absurd (omega (arith, ready))
valid_in e (open_in shutdown_sent my held) sound queue known ready = absurd (omega (arith, ready))
valid_in e (open_in shutdown_received my held) sound queue known ready = absurd (omega (arith, ready))
valid_in e (open_in shutdown_ack_sent my held) sound queue known ready = absurd (omega (arith, ready))

pub snapshots_are_valid : SnapshotsAreValid
snapshots_are_valid e sound below ready = valid_in e e.core sound below.queue below.transfer ready
