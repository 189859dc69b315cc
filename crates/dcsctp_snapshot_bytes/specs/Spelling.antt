-- A snapshot as bytes. A comment after each field says how many bytes it has.
use Rattle.std.specs.Prelude.{ℕ, nat_lt, Bool, true, false, List, ◌++◌, if◌then◌else◌}
use Rattle.std.specs.List.{count_by}
use Rattle.std.specs.Int.{w16, w32, w64}
use Rattle.dcsctp_types.specs.declared.snapshot.HandoverSocketState.{HandoverSocketState}
use Rattle.dcsctp_types.specs.declared.snapshot.HandoverSocketState.TheVariants.{Closed, Connected}
use Rattle.dcsctp_types.specs.declared.snapshot.HandoverCapabilities.{HandoverCapabilities}
use Rattle.dcsctp_types.specs.declared.snapshot.HandoverOutgoingStream.{HandoverOutgoingStream}
use Rattle.dcsctp_types.specs.declared.snapshot.HandoverOrderedStream.{HandoverOrderedStream}
use Rattle.dcsctp_types.specs.declared.snapshot.HandoverUnorderedStream.{HandoverUnorderedStream}
use Rattle.dcsctp_types.specs.SnapshotItems.{QueuedPart, OutstandingPart}
use Rattle.dcsctp_types.specs.Snapshot.{SendPart, ReceivePart, Snapshot}
use Rattle.dcsctp_snapshot_bytes.specs.Fields.{number_bytes, signed_bytes, flag_bytes, payload_bytes, optional_bytes, element_list_bytes}

-- "dcSn", for a snapshot of dcsctp
abbrev pub snapshot_magic : ℕ
snapshot_magic = 0x6463536e

-- was a part of the message sent?
abbrev pub is_part_begun : QueuedPart → Bool
is_part_begun message = nat_lt 0 message.remaining_offset

-- how many messages are under way
abbrev pub count_begun_parts : List QueuedPart → ℕ
count_begun_parts messages = count_by is_part_begun messages

-- The version of the format: 2 where several messages are under way, all of which a reader of version 1 but one would begin again.
abbrev pub version_of : Snapshot → ℕ
version_of state = if nat_lt 1 (count_begun_parts state.tx.queued_messages) then 2 else 1

-- ---- elements of lists

-- a message that waits, or of which a part was sent
unfoldable pub queued_part_bytes : QueuedPart → List ℕ
queued_part_bytes message =
    number_bytes w16 message.stream_id  -- 2
    ++ number_bytes w32 message.ppid  -- 4
    ++ payload_bytes message.payload  -- 8, and the payload
    ++ flag_bytes message.unordered  -- 1
    ++ optional_bytes signed_bytes message.expires_in_ms  -- 1, or 1 + 4
    ++ number_bytes w16 message.max_retransmissions  -- 2
    ++ number_bytes w64 message.lifecycle_id  -- 8
    ++ number_bytes w64 message.message_id  -- 8
    ++ number_bytes w64 message.remaining_offset  -- 8
    ++ optional_bytes (number_bytes w32) message.mid  -- 1, or 1 + 4
    ++ optional_bytes (number_bytes w16) message.ssn  -- 1, or 1 + 2
    ++ number_bytes w32 message.fsn  -- 4

-- which fragment was sent under one TSN
unfoldable pub fragment_bytes : OutstandingPart → List ℕ
fragment_bytes sent =
    number_bytes w16 sent.stream_id  -- 2
    ++ number_bytes w16 sent.ssn  -- 2
    ++ number_bytes w32 sent.mid  -- 4
    ++ number_bytes w32 sent.fsn  -- 4
    ++ number_bytes w32 sent.ppid  -- 4
    ++ payload_bytes sent.payload  -- 8, and the payload
    ++ flag_bytes sent.is_beginning  -- 1
    ++ flag_bytes sent.is_end  -- 1
    ++ flag_bytes sent.is_unordered  -- 1

-- how long it is tried, and what became of it
unfoldable pub sending_bytes : OutstandingPart → List ℕ
sending_bytes sent =
    number_bytes w64 sent.message_id  -- 8
    ++ number_bytes w64 sent.lifecycle_id  -- 8
    ++ optional_bytes signed_bytes sent.expires_in_ms  -- 1, or 1 + 4
    ++ number_bytes w16 sent.max_retransmissions  -- 2
    ++ number_bytes w16 sent.retransmission_count  -- 2
    ++ signed_bytes sent.time_since_sent_ms  -- 4
    ++ flag_bytes sent.acked  -- 1
    ++ flag_bytes sent.is_abandoned  -- 1
    ++ flag_bytes sent.is_nacked  -- 1
    ++ flag_bytes sent.is_to_be_retransmitted  -- 1

-- what was sent under one TSN
unfoldable pub outstanding_bytes : OutstandingPart → List ℕ
outstanding_bytes sent = fragment_bytes sent ++ sending_bytes sent

-- a stream that messages are sent by
unfoldable pub outgoing_bytes : HandoverOutgoingStream → List ℕ
outgoing_bytes stream =
    number_bytes w16 stream.id  -- 2
    ++ number_bytes w16 stream.next_ssn  -- 2
    ++ number_bytes w32 stream.next_unordered_mid  -- 4
    ++ number_bytes w32 stream.next_ordered_mid  -- 4
    ++ number_bytes w16 stream.priority  -- 2

-- a stream that ordered messages are received by
unfoldable pub ordered_bytes : HandoverOrderedStream → List ℕ
ordered_bytes stream =
    number_bytes w16 stream.id  -- 2
    ++ number_bytes w32 stream.next_ssn  -- 4

-- a stream that unordered messages are received by
unfoldable pub unordered_bytes : HandoverUnorderedStream → List ℕ
unordered_bytes stream = number_bytes w16 stream.id  -- 2

-- ---- the parts

unfoldable pub send_bytes : SendPart → List ℕ
send_bytes tx =
    number_bytes w32 tx.next_tsn  -- 4
    ++ number_bytes w32 tx.next_reset_req_sn  -- 4
    ++ number_bytes w32 tx.cwnd  -- 4
    ++ number_bytes w32 tx.rwnd  -- 4
    ++ number_bytes w32 tx.ssthresh  -- 4
    ++ number_bytes w32 tx.partial_bytes_acked  -- 4
    ++ number_bytes w32 tx.last_cumulative_tsn_ack  -- 4
    ++ number_bytes w64 tx.next_outgoing_message_id  -- 8
    ++ element_list_bytes outgoing_bytes tx.streams  -- 8, and 14 for each
    ++ element_list_bytes queued_part_bytes tx.queued_messages  -- 8, and each
    ++ element_list_bytes outstanding_bytes tx.outstanding_data  -- 8, and each

unfoldable pub received_bytes : ReceivePart → List ℕ
received_bytes rx =
    flag_bytes rx.seen_packet  -- 1
    ++ number_bytes w32 rx.last_cumulative_acked_tsn  -- 4
    ++ number_bytes w32 rx.last_assembled_tsn  -- 4
    ++ number_bytes w32 rx.last_completed_deferred_reset_req_sn  -- 4
    ++ number_bytes w32 rx.last_completed_reset_req_sn  -- 4
    ++ element_list_bytes ordered_bytes rx.ordered_streams  -- 8, and 6 for each
    ++ element_list_bytes unordered_bytes rx.unordered_streams  -- 8, and 2 for each

-- what both ends support
unfoldable pub capabilities_bytes : HandoverCapabilities → List ℕ
capabilities_bytes capabilities =
    flag_bytes capabilities.partial_reliability  -- 1
    ++ flag_bytes capabilities.message_interleaving  -- 1
    ++ flag_bytes capabilities.reconfig  -- 1
    ++ flag_bytes capabilities.zero_checksum  -- 1
    ++ number_bytes w16 capabilities.negotiated_maximum_incoming_streams  -- 2
    ++ number_bytes w16 capabilities.negotiated_maximum_outgoing_streams  -- 2

-- ---- the whole

abbrev pub is_connected : HandoverSocketState → Bool
is_connected Closed = false
is_connected Connected = true

unfoldable pub snapshot_bytes : Snapshot → List ℕ
snapshot_bytes state =
    number_bytes w32 snapshot_magic  -- 4
    ++ number_bytes w16 (version_of state)  -- 2
    ++ flag_bytes (is_connected state.socket_state)  -- 1
    ++ number_bytes w32 state.my_verification_tag  -- 4
    ++ number_bytes w32 state.my_initial_tsn  -- 4
    ++ number_bytes w32 state.peer_verification_tag  -- 4
    ++ number_bytes w32 state.peer_initial_tsn  -- 4
    ++ number_bytes w64 state.tie_tag  -- 8
    ++ capabilities_bytes state.capabilities  -- 8
    ++ send_bytes state.tx
    ++ received_bytes state.rx
