-- Outside examples of the chunks of data, acknowledgements, heartbeats, shutdowns, resets and skipped messages, written
-- by hand from RFC 9260, section 3.3, RFC 3758, section 3.2, RFC 6525, section 3.1, and RFC 8260, section 2.
use Rattle.std.proofs.Common.{◌≡◌, ℕ, true, false, None, Some, List, [], ◌∷◌, refl}
use Rattle.dcsctp_wire.specs.declared.chunk.user_data.DataFlags.{DataFlags}
use Rattle.dcsctp_wire.specs.Content.{heartbeat_info, incoming_ssn_reset_request, DataContent, IDataContent, SackContent, data_chunk, sack_chunk, heartbeat_chunk, heartbeat_ack_chunk, shutdown_chunk, shutdown_ack_chunk, shutdown_complete_chunk, i_data_chunk, re_config_chunk, forward_tsn_chunk, i_forward_tsn_chunk, unknown_chunk}
use Rattle.dcsctp_wire.specs.Fields.{parameter_of, incoming_request_of_value, data_of_value, i_data_of_value, sack_of_value, shutdown_of_value, forward_tsn_of_value, i_forward_tsn_of_value, content_of_fields, numbered_gap_ack_block, numbered_skipped_stream, numbered_skipped_messages}
use Rattle.dcsctp_wire.specs.Format.{leading_frame, form_of, IsChunkOf}
use Rattle.dcsctp_wire.specs.Spelling.{parameter_bytes, parameters_len, data_fields, i_data_fields, sack_fields, parameter_chunk_bytes, other_bytes, chunk_bytes}

-- ---- DATA (RFC 9260, section 3.3.1)

-- E is 1, B 2, U 4 and I 8.
flags_of : DataFlags
flags_of = record { is_end = true; is_beginning = false; is_unordered = true; immediate_ack = false }

some_data : DataContent
some_data = record { flags = flags_of; tsn = 0x01020304; stream_id = 5; ssn = 6; ppid = 53; payload = 65 ∷ [] }

data_is_spelled : chunk_bytes (data_chunk some_data) ≡ 0 ∷ 5 ∷ 0 ∷ 17 ∷ 1 ∷ 2 ∷ 3 ∷ 4 ∷ 0 ∷ 5 ∷ 0 ∷ 6 ∷ 0 ∷ 0 ∷ 0 ∷ 53 ∷ 65 ∷ 0 ∷ 0 ∷ 0 ∷ []
unfolding other_bytes data_fields some_data flags_of
data_is_spelled = refl

data_is_read : IsChunkOf (data_chunk some_data) 0 0xf5 (1 ∷ 2 ∷ 3 ∷ 4 ∷ 0 ∷ 5 ∷ 0 ∷ 6 ∷ 0 ∷ 0 ∷ 0 ∷ 53 ∷ 65 ∷ [])
unfolding form_of content_of_fields data_of_value some_data flags_of
data_is_read = refl

-- B and I, and no user data
empty_data_is_read : data_of_value 10 (0 ∷ 0 ∷ 0 ∷ 1 ∷ 0 ∷ 0 ∷ 0 ∷ 0 ∷ 0 ∷ 0 ∷ 0 ∷ 0 ∷ [])
    ≡ Some (data_chunk (record {
      flags = record { is_end = false; is_beginning = true; is_unordered = false; immediate_ack = true };
      tsn = 1;
      stream_id = 0;
      ssn = 0;
      ppid = 0;
      payload = [];
    }))
unfolding data_of_value
empty_data_is_read = refl

data_of_11_bytes_is_refused : data_of_value 3 (0 ∷ 0 ∷ 0 ∷ 1 ∷ 0 ∷ 0 ∷ 0 ∷ 0 ∷ 0 ∷ 0 ∷ 0 ∷ []) ≡ None
unfolding data_of_value
data_of_11_bytes_is_refused = refl

-- ---- I-DATA (RFC 8260, section 2.1)

some_i_data : IDataContent
some_i_data = record { flags = flags_of; tsn = 0x01020304; stream_id = 5; mid = 6; ppid_or_fsn = 7; payload = 65 ∷ [] }

i_data_is_spelled : chunk_bytes (i_data_chunk some_i_data)
    ≡ 64 ∷ 5 ∷ 0 ∷ 21 ∷ 1 ∷ 2 ∷ 3 ∷ 4 ∷ 0 ∷ 5 ∷ 0 ∷ 0 ∷ 0 ∷ 0 ∷ 0 ∷ 6 ∷ 0 ∷ 0 ∷ 0 ∷ 7 ∷ 65 ∷ 0 ∷ 0 ∷ 0 ∷ []
unfolding other_bytes i_data_fields some_i_data flags_of
i_data_is_spelled = refl

-- The reserved bytes are not looked at.
i_data_is_read : IsChunkOf (i_data_chunk some_i_data) 64 5 (1 ∷ 2 ∷ 3 ∷ 4 ∷ 0 ∷ 5 ∷ 9 ∷ 9 ∷ 0 ∷ 0 ∷ 0 ∷ 6 ∷ 0 ∷ 0 ∷ 0 ∷ 7 ∷ 65 ∷ [])
unfolding form_of content_of_fields i_data_of_value some_i_data flags_of
i_data_is_read = refl

i_data_of_15_bytes_is_refused : i_data_of_value 3 (0 ∷ 0 ∷ 0 ∷ 1 ∷ 0 ∷ 0 ∷ 0 ∷ 0 ∷ 0 ∷ 0 ∷ 0 ∷ 0 ∷ 0 ∷ 0 ∷ 0 ∷ []) ≡ None
unfolding i_data_of_value
i_data_of_15_bytes_is_refused = refl

-- ---- SACK (RFC 9260, section 3.3.4)

-- the example of RFC 9260, section 3.3.4: TSNs up to 12, and 14 and 15, and 17 are there
example_sack : SackContent
example_sack = record { cumulative_tsn_ack = 12; a_rwnd = 4660; gap_ack_blocks = 0 ∷ 2 ∷ 0 ∷ 3 ∷ 0 ∷ 5 ∷ 0 ∷ 5 ∷ []; duplicate_tsns = [] }

example_sack_value : List ℕ
example_sack_value = 0 ∷ 0 ∷ 0 ∷ 12 ∷ 0 ∷ 0 ∷ 0x12 ∷ 0x34 ∷ 0 ∷ 2 ∷ 0 ∷ 0 ∷ 0 ∷ 2 ∷ 0 ∷ 3 ∷ 0 ∷ 5 ∷ 0 ∷ 5 ∷ []

sack_is_spelled : chunk_bytes (sack_chunk example_sack)
    ≡ 3 ∷ 0 ∷ 0 ∷ 24 ∷ 0 ∷ 0 ∷ 0 ∷ 12 ∷ 0 ∷ 0 ∷ 0x12 ∷ 0x34 ∷ 0 ∷ 2 ∷ 0 ∷ 0 ∷ 0 ∷ 2 ∷ 0 ∷ 3 ∷ 0 ∷ 5 ∷ 0 ∷ 5 ∷ []
unfolding other_bytes sack_fields example_sack
sack_is_spelled = refl

sack_is_read : IsChunkOf (sack_chunk example_sack) 3 0 example_sack_value
unfolding form_of content_of_fields sack_of_value example_sack example_sack_value
sack_is_read = refl

first_block_is_2_to_3 : numbered_gap_ack_block 0 example_sack.gap_ack_blocks ≡ record { start = 2; end = 3 }
unfolding example_sack
first_block_is_2_to_3 = refl

second_block_is_5_to_5 : numbered_gap_ack_block 1 example_sack.gap_ack_blocks ≡ record { start = 5; end = 5 }
unfolding example_sack
second_block_is_5_to_5 = refl

-- a duplicate where there is no block, and a byte that is ignored
duplicates_are_read : sack_of_value (0 ∷ 0 ∷ 0 ∷ 12 ∷ 0 ∷ 0 ∷ 0x12 ∷ 0x34 ∷ 0 ∷ 0 ∷ 0 ∷ 1 ∷ 0 ∷ 0 ∷ 0 ∷ 11 ∷ 9 ∷ [])
    ≡ Some (sack_chunk (record { cumulative_tsn_ack = 12; a_rwnd = 4660; gap_ack_blocks = []; duplicate_tsns = 0 ∷ 0 ∷ 0 ∷ 11 ∷ [] }))
unfolding sack_of_value
duplicates_are_read = refl

cut_block_is_refused : sack_of_value (0 ∷ 0 ∷ 0 ∷ 12 ∷ 0 ∷ 0 ∷ 0x12 ∷ 0x34 ∷ 0 ∷ 1 ∷ 0 ∷ 0 ∷ 0 ∷ 2 ∷ 0 ∷ []) ≡ None
unfolding sack_of_value
cut_block_is_refused = refl

-- ---- HEARTBEAT and HEARTBEAT ACK (RFC 9260, sections 3.3.5 and 3.3.6)

heartbeat_is_spelled : chunk_bytes (heartbeat_chunk (heartbeat_info (1 ∷ 2 ∷ 3 ∷ []) ∷ [])) ≡ 4 ∷ 0 ∷ 0 ∷ 11 ∷ 0 ∷ 1 ∷ 0 ∷ 7 ∷ 1 ∷ 2 ∷ 3 ∷ 0 ∷ []
unfolding parameter_chunk_bytes parameters_len parameter_bytes
heartbeat_is_spelled = refl

heartbeat_is_read : IsChunkOf (heartbeat_chunk (heartbeat_info (1 ∷ 2 ∷ 3 ∷ []) ∷ [])) 4 1 (0 ∷ 1 ∷ 0 ∷ 7 ∷ 1 ∷ 2 ∷ 3 ∷ [])
unfolding form_of leading_frame parameter_of
heartbeat_is_read = (heartbeat_info (1 ∷ 2 ∷ 3 ∷ []) ∷ [], refl, (_, record { value = 1 ∷ 2 ∷ 3 ∷ []; framed = refl; read = refl }, refl))

heartbeat_ack_is_5 : chunk_bytes (heartbeat_ack_chunk []) ≡ 5 ∷ 0 ∷ 0 ∷ 4 ∷ []
unfolding parameter_chunk_bytes parameters_len
heartbeat_ack_is_5 = refl

heartbeat_ack_is_read : IsChunkOf (heartbeat_ack_chunk []) 5 0 []
unfolding form_of
heartbeat_ack_is_read = ([], refl, refl)

-- ---- SHUTDOWN, SHUTDOWN ACK and SHUTDOWN COMPLETE (RFC 9260, sections 3.3.8, 3.3.9 and 3.3.13)

shutdown_is_spelled : chunk_bytes (shutdown_chunk 0x01020304) ≡ 7 ∷ 0 ∷ 0 ∷ 8 ∷ 1 ∷ 2 ∷ 3 ∷ 4 ∷ []
unfolding other_bytes
shutdown_is_spelled = refl

shutdown_is_read : IsChunkOf (shutdown_chunk 0x01020304) 7 9 (1 ∷ 2 ∷ 3 ∷ 4 ∷ [])
unfolding form_of content_of_fields shutdown_of_value
shutdown_is_read = refl

shutdown_of_3_bytes_is_refused : shutdown_of_value (1 ∷ 2 ∷ 3 ∷ []) ≡ None
unfolding shutdown_of_value
shutdown_of_3_bytes_is_refused = refl

shutdown_ack_is_8 : chunk_bytes shutdown_ack_chunk ≡ 8 ∷ 0 ∷ 0 ∷ 4 ∷ []
unfolding other_bytes
shutdown_ack_is_8 = refl

shutdown_ack_is_read : IsChunkOf shutdown_ack_chunk 8 1 (9 ∷ [])
unfolding form_of content_of_fields
shutdown_ack_is_read = refl

shutdown_complete_is_spelled : chunk_bytes (shutdown_complete_chunk true) ≡ 14 ∷ 1 ∷ 0 ∷ 4 ∷ []
unfolding other_bytes
shutdown_complete_is_spelled = refl

shutdown_complete_is_read : IsChunkOf (shutdown_complete_chunk false) 14 0xfe []
unfolding form_of content_of_fields
shutdown_complete_is_read = refl

-- ---- RE-CONFIG (RFC 6525, section 3.1)

re_config_is_spelled : chunk_bytes (re_config_chunk (incoming_ssn_reset_request 3 (0 ∷ 4 ∷ []) ∷ [])) ≡ 130 ∷ 0 ∷ 0 ∷ 14 ∷ 0 ∷ 14 ∷ 0 ∷ 10 ∷ 0 ∷ 0 ∷ 0 ∷ 3 ∷ 0 ∷ 4 ∷ 0 ∷ 0 ∷ []
unfolding parameter_chunk_bytes parameters_len parameter_bytes
re_config_is_spelled = refl

re_config_is_read : IsChunkOf (re_config_chunk (incoming_ssn_reset_request 3 (0 ∷ 4 ∷ []) ∷ [])) 130 0 (0 ∷ 14 ∷ 0 ∷ 10 ∷ 0 ∷ 0 ∷ 0 ∷ 3 ∷ 0 ∷ 4 ∷ [])
unfolding form_of leading_frame parameter_of incoming_request_of_value
re_config_is_read =
    (incoming_ssn_reset_request 3 (0 ∷ 4 ∷ []) ∷ [], refl, (_, record { value = 0 ∷ 0 ∷ 0 ∷ 3 ∷ 0 ∷ 4 ∷ []; framed = refl; read = refl }, refl))

-- ---- FORWARD-TSN (RFC 3758, section 3.2) and I-FORWARD-TSN (RFC 8260, section 2.3.1)

forward_is_spelled : chunk_bytes (forward_tsn_chunk 9 (0 ∷ 1 ∷ 0 ∷ 2 ∷ [])) ≡ 192 ∷ 0 ∷ 0 ∷ 12 ∷ 0 ∷ 0 ∷ 0 ∷ 9 ∷ 0 ∷ 1 ∷ 0 ∷ 2 ∷ []
unfolding other_bytes
forward_is_spelled = refl

forward_is_read : IsChunkOf (forward_tsn_chunk 9 (0 ∷ 1 ∷ 0 ∷ 2 ∷ [])) 192 0 (0 ∷ 0 ∷ 0 ∷ 9 ∷ 0 ∷ 1 ∷ 0 ∷ 2 ∷ [])
unfolding form_of content_of_fields forward_tsn_of_value
forward_is_read = refl

half_an_entry_is_refused : forward_tsn_of_value (0 ∷ 0 ∷ 0 ∷ 9 ∷ 0 ∷ 1 ∷ []) ≡ None
unfolding forward_tsn_of_value
half_an_entry_is_refused = refl

stream_1_is_skipped_to_2 : numbered_skipped_stream 0 (0 ∷ 1 ∷ 0 ∷ 2 ∷ []) ≡ record { stream_id = 1; ssn = 2 }
stream_1_is_skipped_to_2 = refl

i_forward_is_spelled : chunk_bytes (i_forward_tsn_chunk 9 (0 ∷ 1 ∷ 0 ∷ 1 ∷ 0 ∷ 0 ∷ 0 ∷ 2 ∷ []))
    ≡ 194 ∷ 0 ∷ 0 ∷ 16 ∷ 0 ∷ 0 ∷ 0 ∷ 9 ∷ 0 ∷ 1 ∷ 0 ∷ 1 ∷ 0 ∷ 0 ∷ 0 ∷ 2 ∷ []
unfolding other_bytes
i_forward_is_spelled = refl

i_forward_is_read : IsChunkOf (i_forward_tsn_chunk 9 (0 ∷ 1 ∷ 0 ∷ 1 ∷ 0 ∷ 0 ∷ 0 ∷ 2 ∷ [])) 194 0 (0 ∷ 0 ∷ 0 ∷ 9 ∷ 0 ∷ 1 ∷ 0 ∷ 1 ∷ 0 ∷ 0 ∷ 0 ∷ 2 ∷ [])
unfolding form_of content_of_fields i_forward_tsn_of_value
i_forward_is_read = refl

half_an_i_entry_is_refused : i_forward_tsn_of_value (0 ∷ 0 ∷ 0 ∷ 9 ∷ 0 ∷ 1 ∷ 0 ∷ 1 ∷ []) ≡ None
unfolding i_forward_tsn_of_value
half_an_i_entry_is_refused = refl

unordered_messages_are_skipped : numbered_skipped_messages 0 (0 ∷ 1 ∷ 0 ∷ 3 ∷ 0 ∷ 0 ∷ 0 ∷ 2 ∷ []) ≡ record { stream_id = 1; is_unordered = true; mid = 2 }
unordered_messages_are_skipped = refl

-- ---- a type that has no name

unknown_is_spelled : chunk_bytes (unknown_chunk 15 1 (0xaa ∷ [])) ≡ 15 ∷ 1 ∷ 0 ∷ 5 ∷ 0xaa ∷ 0 ∷ 0 ∷ 0 ∷ []
unfolding other_bytes
unknown_is_spelled = refl

unknown_is_read : IsChunkOf (unknown_chunk 15 1 (0xaa ∷ [])) 15 1 (0xaa ∷ [])
unfolding form_of content_of_fields
unknown_is_read = refl
