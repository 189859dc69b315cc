-- Outside examples of specs/Snapshot: which snapshots are valid. One true and one false for each condition.
use Rattle.std.proofs.Common.{◌≡◌, ℕ, Bool, true, false, List, [], ◌∷◌, refl}
use Rattle.dcsctp_types.specs.declared.options.Options.{Options}
use Rattle.dcsctp_types.specs.declared.snapshot.HandoverSocketState.TheVariants.{Connected}
use Rattle.dcsctp_types.specs.declared.snapshot.HandoverOutgoingStream.{HandoverOutgoingStream}
use Rattle.dcsctp_types.specs.declared.snapshot.HandoverOrderedStream.{HandoverOrderedStream}
use Rattle.dcsctp_types.specs.declared.snapshot.HandoverUnorderedStream.{HandoverUnorderedStream}
use Rattle.dcsctp_types.specs.SnapshotItems.{OutstandingPart, empty_queued_part, empty_outstanding_part}
use Rattle.dcsctp_types.specs.Snapshot.{SendPart, ReceivePart, Snapshot, empty_send_part, empty_received_part, empty_snapshot, no_handover_capabilities, is_valid_snapshot}

-- ---- snapshots

-- next TSN 1, and 0 is acknowledged: nothing is outstanding
idle : SendPart
idle = record empty_send_part { next_tsn = 1 }

-- connected with the tags 9 and 7
connected : SendPart → ReceivePart → Snapshot
connected tx rx =
    record empty_snapshot { socket_state = Connected; my_verification_tag = 9; peer_verification_tag = 7; tx = tx; rx = rx }

sends : SendPart → Snapshot
sends tx = connected tx empty_received_part

receives : ReceivePart → Snapshot
receives rx = connected idle rx

-- ---- a closed one

closed_is_valid : (options : Options) → is_valid_snapshot options empty_snapshot ≡ true
closed_is_valid options = refl

-- Nothing else counts there: this one has zero checksum, and a list that isn't valid.
closed_is_valid_with_all : (options : Options) →
    is_valid_snapshot options (record empty_snapshot { capabilities = record no_handover_capabilities { zero_checksum = true }; tx = record empty_send_part { queued_messages = empty_queued_part ∷ [] } }) ≡ true
closed_is_valid_with_all options = refl

-- ---- verification tags

tags_are_valid : (options : Options) → is_valid_snapshot options (sends idle) ≡ true
unfolding sends connected idle
tags_are_valid options = refl

own_tag_of_0_is_not : (options : Options) → is_valid_snapshot options (record (sends idle) { my_verification_tag = 0 }) ≡ false
unfolding sends connected idle
own_tag_of_0_is_not options = refl

peer_tag_of_0_is_not : (options : Options) → is_valid_snapshot options (record (sends idle) { peer_verification_tag = 0 }) ≡ false
unfolding sends connected idle
peer_tag_of_0_is_not options = refl

-- ---- zero checksum

-- with zero checksum, and options with this method
zero_checksum_under : Options → ℕ → Bool
zero_checksum_under options method =
    is_valid_snapshot (record options { zero_checksum_alternate_error_detection_method = record { 0 = method } })
    (record (sends idle) { capabilities = record no_handover_capabilities { zero_checksum = true } })

zero_checksum_with_a_method : (options : Options) → zero_checksum_under options 1 ≡ true
unfolding zero_checksum_under sends connected idle
zero_checksum_with_a_method options = refl

zero_checksum_without_a_method : (options : Options) → zero_checksum_under options 0 ≡ false
unfolding zero_checksum_under sends connected idle
zero_checksum_without_a_method options = refl

-- ---- streams

outgoing : ℕ → HandoverOutgoingStream
outgoing id = record { id = id; next_ssn = 0; next_unordered_mid = 0; next_ordered_mid = 0; priority = 256 }

ordered : ℕ → HandoverOrderedStream
ordered id = record { id = id; next_ssn = 3 }

unordered : ℕ → HandoverUnorderedStream
unordered id = record { id = id }

-- The order doesn't matter.
three_outgoing_streams : (options : Options) → is_valid_snapshot options (sends (record idle { streams = outgoing 5 ∷ outgoing 1 ∷ outgoing 4 ∷ [] })) ≡ true
unfolding sends connected idle outgoing
three_outgoing_streams options = refl

an_outgoing_stream_twice : (options : Options) → is_valid_snapshot options (sends (record idle { streams = outgoing 1 ∷ outgoing 4 ∷ outgoing 1 ∷ [] })) ≡ false
unfolding sends connected idle outgoing
an_outgoing_stream_twice options = refl

-- The same stream may be received both ways.
streams_both_ways : (options : Options) →
    is_valid_snapshot options
    (receives (record empty_received_part { ordered_streams = ordered 2 ∷ ordered 1 ∷ []; unordered_streams = unordered 1 ∷ unordered 2 ∷ [] }))
    ≡ true
unfolding receives connected idle ordered unordered
streams_both_ways options = refl

an_ordered_stream_twice : (options : Options) →
    is_valid_snapshot options (receives (record empty_received_part { ordered_streams = ordered 2 ∷ ordered 2 ∷ [] })) ≡ false
unfolding receives connected idle ordered
an_ordered_stream_twice options = refl

an_unordered_stream_twice : (options : Options) →
    is_valid_snapshot options (receives (record empty_received_part { unordered_streams = unordered 0 ∷ unordered 3 ∷ unordered 0 ∷ [] })) ≡ false
unfolding receives connected idle unordered
an_unordered_stream_twice options = refl

-- ---- queued messages

-- of these bytes, of which that many were sent
queues : List ℕ → ℕ → Snapshot
queues payload sent = sends (record idle { queued_messages = record empty_queued_part { payload = payload; remaining_offset = sent } ∷ [] })

one_byte_is_left : (options : Options) → is_valid_snapshot options (queues (1 ∷ 2 ∷ 3 ∷ []) 2) ≡ true
unfolding queues sends connected idle
one_byte_is_left options = refl

no_byte_is_left : (options : Options) → is_valid_snapshot options (queues (1 ∷ 2 ∷ 3 ∷ []) 3) ≡ false
unfolding queues sends connected idle
no_byte_is_left options = refl

a_message_without_bytes : (options : Options) → is_valid_snapshot options (queues [] 0) ≡ false
unfolding queues sends connected idle
a_message_without_bytes options = refl

-- ---- outstanding data

-- one byte, or no byte that is abandoned or not
byte : OutstandingPart
byte = record empty_outstanding_part { payload = 1 ∷ [] }

no_byte : Bool → OutstandingPart
no_byte is_abandoned = record empty_outstanding_part { is_abandoned = is_abandoned }

outstanding : ℕ → ℕ → List OutstandingPart → Snapshot
outstanding last next sent = sends (record empty_send_part { last_cumulative_tsn_ack = last; next_tsn = next; outstanding_data = sent })

data_of_two_TSNs : (options : Options) → is_valid_snapshot options (outstanding 10 13 (byte ∷ byte ∷ [])) ≡ true
unfolding outstanding sends connected byte
data_of_two_TSNs options = refl

one_too_few : (options : Options) → is_valid_snapshot options (outstanding 10 13 (byte ∷ [])) ≡ false
unfolding outstanding sends connected byte
one_too_few options = refl

one_too_many : (options : Options) → is_valid_snapshot options (outstanding 10 11 (byte ∷ [])) ≡ false
unfolding outstanding sends connected byte
one_too_many options = refl

-- The TSN of the one item is 0, since the greatest TSN is acknowledged.
data_after_the_greatest_TSN : (options : Options) → is_valid_snapshot options (outstanding 4294967295 1 (byte ∷ [])) ≡ true
unfolding outstanding sends connected byte
data_after_the_greatest_TSN options = refl

data_without_bytes_if_abandoned : (options : Options) → is_valid_snapshot options (outstanding 10 12 (no_byte true ∷ [])) ≡ true
unfolding outstanding sends connected no_byte
data_without_bytes_if_abandoned options = refl

data_without_bytes : (options : Options) → is_valid_snapshot options (outstanding 10 12 (no_byte false ∷ [])) ≡ false
unfolding outstanding sends connected no_byte
data_without_bytes options = refl
