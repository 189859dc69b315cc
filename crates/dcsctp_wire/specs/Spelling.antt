-- The bytes that a packet, a chunk and a parameter are written as (RFC 9260, section 3).
use Rattle.std.specs.Prelude.{ℕ, ◌+◌, ◌*◌, ◌/◌, map, Bool, true, false, Option, None, Some, List, [], ◌∷◌, ◌++◌, length, replicate, fold}
use Rattle.std.specs.List.{flat_map}
use Rattle.std.specs.Int.{w16, w32, to_be_bytes, to_le_bytes}
use Rattle.dcsctp_wire.specs.declared.reconfiguration.ReconfigurationResponseResult.{ReconfigurationResponseResult}
use Rattle.dcsctp_wire.specs.declared.reconfiguration.ReconfigurationResponseResult.TheVariants.{SuccessNothingToDo, SuccessPerformed, Denied, ErrorWrongSSN, ErrorRequestAlreadyInProgress, ErrorBadSequenceNumber, InProgress}
use Rattle.dcsctp_wire.specs.declared.reconfiguration.NextTsns.{NextTsns}
use Rattle.dcsctp_wire.specs.declared.chunk.user_data.DataFlags.{DataFlags}
use Rattle.dcsctp_wire.specs.Numbers.{data_type, init_type, init_ack_type, sack_type, heartbeat_type, heartbeat_ack_type, abort_type, shutdown_type, shutdown_ack_type, error_type, cookie_echo_type, cookie_ack_type, shutdown_complete_type, i_data_type, re_config_type, forward_tsn_type, i_forward_tsn_type, heartbeat_info_type, state_cookie_type, outgoing_ssn_reset_request_type, incoming_ssn_reset_request_type, reconfiguration_response_type, zero_checksum_acceptable_type, supported_extensions_type, forward_tsn_supported_type, missing_mandatory_parameter_code, unrecognized_chunk_type_code, no_user_data_code, cookie_received_while_shutting_down_code, user_initiated_abort_code, protocol_violation_code}
use Rattle.dcsctp_wire_checksum.specs.Crc32c.{packet_checksum_of}
use Rattle.dcsctp_wire.specs.Format.{padding_of}
use Rattle.dcsctp_wire.specs.Content.{ParameterContent, heartbeat_info, state_cookie, outgoing_ssn_reset_request, incoming_ssn_reset_request, reconfiguration_response, supported_extensions, zero_checksum_acceptable, forward_tsn_supported, unknown_parameter, InitContent, CauseContent, missing_mandatory_parameter, unrecognized_chunk_type, no_user_data, cookie_received_while_shutting_down, user_initiated_abort, protocol_violation, unknown_cause, DataContent, IDataContent, SackContent, ChunkContent, data_chunk, init_chunk, init_ack_chunk, sack_chunk, heartbeat_chunk, heartbeat_ack_chunk, abort_chunk, shutdown_chunk, shutdown_ack_chunk, error_chunk, cookie_echo_chunk, cookie_ack_chunk, shutdown_complete_chunk, i_data_chunk, re_config_chunk, forward_tsn_chunk, i_forward_tsn_chunk, unknown_chunk, PacketContent}

-- that many bytes 0
abbrev pub zeros : ℕ → List ℕ
zeros n = replicate n 0

-- ---- parameters

-- the number of a result (RFC 6525, section 4.4)
abbrev pub result_code : ReconfigurationResponseResult → ℕ
result_code SuccessNothingToDo = 0
result_code SuccessPerformed = 1
result_code Denied = 2
result_code ErrorWrongSSN = 3
result_code ErrorRequestAlreadyInProgress = 4
result_code ErrorBadSequenceNumber = 5
result_code InProgress = 6

abbrev pub next_tsns_bytes : Option NextTsns → List ℕ
next_tsns_bytes None = []
next_tsns_bytes (Some next) = to_be_bytes w32 next.sender ++ to_be_bytes w32 next.receiver

abbrev pub parameter_type : ParameterContent → ℕ
parameter_type (heartbeat_info info) = heartbeat_info_type
parameter_type (state_cookie cookie) = state_cookie_type
parameter_type (outgoing_ssn_reset_request number answered last_tsn streams) = outgoing_ssn_reset_request_type
parameter_type (incoming_ssn_reset_request number streams) = incoming_ssn_reset_request_type
parameter_type (reconfiguration_response number result next) = reconfiguration_response_type
parameter_type (supported_extensions chunk_types) = supported_extensions_type
parameter_type (zero_checksum_acceptable method) = zero_checksum_acceptable_type
parameter_type forward_tsn_supported = forward_tsn_supported_type
parameter_type (unknown_parameter other value) = other

abbrev pub parameter_value : ParameterContent → List ℕ
parameter_value (heartbeat_info info) = info
parameter_value (state_cookie cookie) = cookie
parameter_value (outgoing_ssn_reset_request number answered last_tsn streams) =
    (to_be_bytes w32 number ++ to_be_bytes w32 answered ++ to_be_bytes w32 last_tsn) ++ streams
parameter_value (incoming_ssn_reset_request number streams) = to_be_bytes w32 number ++ streams
parameter_value (reconfiguration_response number result next) =
    to_be_bytes w32 number ++ to_be_bytes w32 (result_code result) ++ next_tsns_bytes next
parameter_value (supported_extensions chunk_types) = chunk_types
parameter_value (zero_checksum_acceptable method) = to_be_bytes w32 method
parameter_value forward_tsn_supported = []
parameter_value (unknown_parameter other value) = value

-- a parameter's length without its padding (RFC 9260, section 3.2.1)
abbrev pub parameter_len : ParameterContent → ℕ
parameter_len parameter = 4 + length (parameter_value parameter)

-- a parameter with its padding
unfoldable pub parameter_bytes : ParameterContent → List ℕ
parameter_bytes parameter =
    to_be_bytes w16 (parameter_type parameter) ++ to_be_bytes w16 (parameter_len parameter) ++ parameter_value parameter
    ++ zeros (padding_of (parameter_len parameter))

-- The length of parameters after one another: each but the last has its padding.
unfoldable pub parameters_len : List ParameterContent → ℕ
parameters_len parameters = fold (λ len parameter. len + padding_of len + parameter_len parameter) 0 parameters

-- the fixed part of INIT and INIT ACK (RFC 9260, sections 3.3.2 and 3.3.3)
unfoldable pub init_fields : InitContent → List ℕ
init_fields init =
    to_be_bytes w32 init.initiate_tag ++ to_be_bytes w32 init.a_rwnd ++ to_be_bytes w16 init.outbound_streams ++ to_be_bytes w16 init.inbound_streams
    ++ to_be_bytes w32 init.initial_tsn

-- ---- causes

abbrev pub cause_code : CauseContent → ℕ
cause_code (missing_mandatory_parameter types) = missing_mandatory_parameter_code
cause_code (unrecognized_chunk_type chunk) = unrecognized_chunk_type_code
cause_code (no_user_data tsn) = no_user_data_code
cause_code cookie_received_while_shutting_down = cookie_received_while_shutting_down_code
cause_code (user_initiated_abort text) = user_initiated_abort_code
cause_code (protocol_violation text) = protocol_violation_code
cause_code (unknown_cause code value) = code

abbrev pub cause_value : CauseContent → List ℕ
cause_value (missing_mandatory_parameter types) = to_be_bytes w32 (length types / 2) ++ types
cause_value (unrecognized_chunk_type chunk) = chunk
cause_value (no_user_data tsn) = to_be_bytes w32 tsn
cause_value cookie_received_while_shutting_down = []
cause_value (user_initiated_abort text) = text
cause_value (protocol_violation text) = text
cause_value (unknown_cause code value) = value

-- A cause is written as a parameter is: its code, its length and its value.
abbrev pub as_parameter : CauseContent → ParameterContent
as_parameter cause = unknown_parameter (cause_code cause) (cause_value cause)

-- ---- chunks

-- the T bit, the lowest of the flags (RFC 9260, section 3.3.7)
abbrev pub t_bit : Bool → ℕ
t_bit true = 1
t_bit false = 0

-- E, B, U and I, from the lowest bit on (RFC 9260, section 3.3.1)
abbrev pub data_flags : DataFlags → ℕ
data_flags flags = t_bit flags.is_end + 2 * t_bit flags.is_beginning + 4 * t_bit flags.is_unordered + 8 * t_bit flags.immediate_ack

-- the fixed part of DATA (RFC 9260, section 3.3.1)
unfoldable pub data_fields : DataContent → List ℕ
data_fields chunk = to_be_bytes w32 chunk.tsn ++ to_be_bytes w16 chunk.stream_id ++ to_be_bytes w16 chunk.ssn ++ to_be_bytes w32 chunk.ppid

-- the fixed part of I-DATA, of which two bytes are reserved (RFC 8260, section 2.1)
unfoldable pub i_data_fields : IDataContent → List ℕ
i_data_fields chunk =
    to_be_bytes w32 chunk.tsn ++ to_be_bytes w16 chunk.stream_id ++ zeros 2 ++ to_be_bytes w32 chunk.mid ++ to_be_bytes w32 chunk.ppid_or_fsn

-- the fixed part of SACK (RFC 9260, section 3.3.4)
unfoldable pub sack_fields : SackContent → List ℕ
sack_fields chunk =
    to_be_bytes w32 chunk.cumulative_tsn_ack ++ to_be_bytes w32 chunk.a_rwnd ++ to_be_bytes w16 (length chunk.gap_ack_blocks / 4)
    ++ to_be_bytes w16 (length chunk.duplicate_tsns / 4)

-- A chunk, as it is written.
pub data WrittenChunk : Type 0 where
  -- by its type, flags and value
  by_value : ℕ → ℕ → List ℕ → WrittenChunk
  -- by its type, flags, fixed part, and parameters, or causes as they are written
  by_list : ℕ → ℕ → List ℕ → List ParameterContent → WrittenChunk

abbrev pub written_chunk : ChunkContent → WrittenChunk
written_chunk (data_chunk chunk) = by_value data_type (data_flags chunk.flags) (data_fields chunk ++ chunk.payload)
written_chunk (init_chunk init) = by_list init_type 0 (init_fields init) init.parameters
written_chunk (init_ack_chunk init) = by_list init_ack_type 0 (init_fields init) init.parameters
written_chunk (sack_chunk chunk) = by_value sack_type 0 (sack_fields chunk ++ (chunk.gap_ack_blocks ++ chunk.duplicate_tsns))
written_chunk (heartbeat_chunk parameters) = by_list heartbeat_type 0 [] parameters
written_chunk (heartbeat_ack_chunk parameters) = by_list heartbeat_ack_type 0 [] parameters
written_chunk (abort_chunk reflected causes) = by_list abort_type (t_bit reflected) [] (map as_parameter causes)
written_chunk (shutdown_chunk cumulative_tsn) = by_value shutdown_type 0 (to_be_bytes w32 cumulative_tsn)
written_chunk shutdown_ack_chunk = by_value shutdown_ack_type 0 []
written_chunk (error_chunk causes) = by_list error_type 0 [] (map as_parameter causes)
written_chunk (cookie_echo_chunk cookie) = by_value cookie_echo_type 0 cookie
written_chunk cookie_ack_chunk = by_value cookie_ack_type 0 []
written_chunk (shutdown_complete_chunk reflected) = by_value shutdown_complete_type (t_bit reflected) []
written_chunk (i_data_chunk chunk) = by_value i_data_type (data_flags chunk.flags) (i_data_fields chunk ++ chunk.payload)
written_chunk (re_config_chunk parameters) = by_list re_config_type 0 [] parameters
written_chunk (forward_tsn_chunk tsn streams) = by_value forward_tsn_type 0 (to_be_bytes w32 tsn ++ streams)
written_chunk (i_forward_tsn_chunk tsn streams) = by_value i_forward_tsn_type 0 (to_be_bytes w32 tsn ++ streams)
written_chunk (unknown_chunk chunk_type flags value) = by_value chunk_type flags value

-- The length of a chunk leaves out its padding, and that of its last parameter or cause.
abbrev pub spelled_len : WrittenChunk → ℕ
spelled_len (by_value chunk_type flags value) = 4 + length value
spelled_len (by_list chunk_type flags fields parameters) = 4 + length fields + parameters_len parameters

abbrev pub chunk_len : ChunkContent → ℕ
chunk_len chunk = spelled_len (written_chunk chunk)

-- a chunk of this type, flags and value
unfoldable pub other_bytes : ℕ → ℕ → List ℕ → List ℕ
other_bytes chunk_type flags value =
    chunk_type ∷ flags ∷ to_be_bytes w16 (4 + length value) ++ value ++ zeros (padding_of (length value))

-- a chunk of this type and flags, with these fields and parameters
unfoldable pub parameter_chunk_bytes : ℕ → ℕ → List ℕ → List ParameterContent → List ℕ
parameter_chunk_bytes chunk_type flags fields parameters =
    chunk_type ∷ flags ∷ to_be_bytes w16 (4 + length fields + parameters_len parameters) ++ fields ++ flat_map parameter_bytes parameters

abbrev pub spelled_bytes : WrittenChunk → List ℕ
spelled_bytes (by_value chunk_type flags value) = other_bytes chunk_type flags value
spelled_bytes (by_list chunk_type flags fields parameters) = parameter_chunk_bytes chunk_type flags fields parameters

-- a chunk with its padding (RFC 9260, section 3.2)
abbrev pub chunk_bytes : ChunkContent → List ℕ
chunk_bytes chunk = spelled_bytes (written_chunk chunk)

-- ---- packets

-- ports and verification tag (RFC 9260, section 3.1)
unfoldable pub header_bytes : ℕ → ℕ → ℕ → List ℕ
header_bytes source_port destination_port verification_tag =
    to_be_bytes w16 source_port ++ to_be_bytes w16 destination_port ++ to_be_bytes w32 verification_tag

-- The checksum field: CRC32c, lowest byte first (RFC 9260, appendix A), or 0 (RFC 9653, section 5.2).
unfoldable pub checksum_field : Bool → List ℕ → List ℕ → List ℕ
checksum_field false header body = zeros 4
checksum_field true header body = to_le_bytes w32 (packet_checksum_of (header ++ zeros 4 ++ body))

-- A packet with this header, ports and verification tag, and these chunks in bytes.
unfoldable pub packet_bytes_of : Bool → List ℕ → List ℕ → List ℕ
packet_bytes_of with_checksum header body = header ++ checksum_field with_checksum header body ++ body

-- a packet of these chunks, with a checksum or with 0 in its place
abbrev pub packet_bytes : Bool → PacketContent → List ℕ
packet_bytes with_checksum packet =
    packet_bytes_of with_checksum (header_bytes packet.source_port packet.destination_port packet.verification_tag) (flat_map chunk_bytes packet.chunks)
