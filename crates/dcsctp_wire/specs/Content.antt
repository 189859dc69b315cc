-- What packets, chunks and parameters say, apart from where they lie in memory (RFC 9260, section 3).
use Rattle.std.specs.Prelude.{ℕ, Bool, Option, List, map}
use Rattle.dcsctp_wire.specs.declared.reconfiguration.ReconfigurationResponseResult.{ReconfigurationResponseResult}
use Rattle.dcsctp_wire.specs.declared.reconfiguration.NextTsns.{NextTsns}
use Rattle.dcsctp_wire.specs.declared.parameter.Parameter.{Parameter}
use Rattle.dcsctp_wire.specs.declared.parameter.Parameter.TheVariants as parameters
use Rattle.dcsctp_wire.specs.declared.cause.ErrorCause.{ErrorCause}
use Rattle.dcsctp_wire.specs.declared.cause.ErrorCause.TheVariants as causes
use Rattle.dcsctp_wire.specs.declared.chunk.init.InitChunk.{InitChunk}
use Rattle.dcsctp_wire.specs.declared.chunk.user_data.DataFlags.{DataFlags}
use Rattle.dcsctp_wire.specs.declared.chunk.user_data.DataChunk.{DataChunk}
use Rattle.dcsctp_wire.specs.declared.chunk.user_data.IDataChunk.{IDataChunk}
use Rattle.dcsctp_wire.specs.declared.chunk.sack.SackChunk.{SackChunk}
use Rattle.dcsctp_wire.specs.declared.chunk.Chunk.{Chunk}
use Rattle.dcsctp_wire.specs.declared.chunk.Chunk.TheVariants as chunks
use Rattle.dcsctp_wire.specs.declared.packet.SctpPacket.{SctpPacket}

-- A parameter of a chunk (RFC 9260, section 3.2.1). Lists of streams are bytes, two a stream.
pub data ParameterContent : Type 0 where
  -- Heartbeat Info (RFC 9260, section 3.3.5): bytes that come back in the HEARTBEAT ACK
  heartbeat_info : List ℕ → ParameterContent
  -- State Cookie (RFC 9260, section 3.3.3.1): its bytes
  state_cookie : List ℕ → ParameterContent
  -- Outgoing SSN Reset Request (RFC 6525, section 4.1): its number, the number of the request that it answers, the
  -- sender's last TSN, and the streams
  outgoing_ssn_reset_request : ℕ → ℕ → ℕ → List ℕ → ParameterContent
  -- Incoming SSN Reset Request (RFC 6525, section 4.2): its number, and the streams
  incoming_ssn_reset_request : ℕ → List ℕ → ParameterContent
  -- Re-configuration Response (RFC 6525, section 4.4): the number of the request, its result, and the next TSNs
  reconfiguration_response : ℕ → ReconfigurationResponseResult → Option NextTsns → ParameterContent
  -- Supported Extensions: the chunk types that the sender understands
  supported_extensions : List ℕ → ParameterContent
  -- Zero Checksum Acceptable (RFC 9653, section 4): the alternate error detection method
  zero_checksum_acceptable : ℕ → ParameterContent
  -- Forward-TSN-Supported (RFC 3758, section 3.1)
  forward_tsn_supported : ParameterContent
  -- any other: its type and value
  unknown_parameter : ℕ → List ℕ → ParameterContent

-- The fields of INIT and INIT ACK (RFC 9260, sections 3.3.2 and 3.3.3)
pub record InitContent : Type 0 where
  pub initiate_tag : ℕ
  pub a_rwnd : ℕ
  pub outbound_streams : ℕ
  pub inbound_streams : ℕ
  pub initial_tsn : ℕ
  pub parameters : List ParameterContent

-- An error cause (RFC 9260, section 3.3.10)
pub data CauseContent : Type 0 where
  -- Missing Mandatory Parameter (RFC 9260, section 3.3.10.2): the types of the parameters, two bytes each
  missing_mandatory_parameter : List ℕ → CauseContent
  -- Unrecognized Chunk Type (RFC 9260, section 3.3.10.6): the chunk's bytes
  unrecognized_chunk_type : List ℕ → CauseContent
  -- No User Data (RFC 9260, section 3.3.10.9): the TSN of the DATA chunk
  no_user_data : ℕ → CauseContent
  -- Cookie Received While Shutting Down (RFC 9260, section 3.3.10.10)
  cookie_received_while_shutting_down : CauseContent
  -- User-Initiated Abort (RFC 9260, section 3.3.10.12): a text
  user_initiated_abort : List ℕ → CauseContent
  -- Protocol Violation (RFC 9260, section 3.3.10.13): a text
  protocol_violation : List ℕ → CauseContent
  -- any other: its code and value
  unknown_cause : ℕ → List ℕ → CauseContent

-- DATA (RFC 9260, section 3.3.1)
pub record DataContent : Type 0 where
  pub flags : DataFlags
  pub tsn : ℕ
  pub stream_id : ℕ
  pub ssn : ℕ
  pub ppid : ℕ
  pub payload : List ℕ

-- I-DATA (RFC 8260, section 2.1). The first fragment of a message has the PPID, each other its FSN.
pub record IDataContent : Type 0 where
  pub flags : DataFlags
  pub tsn : ℕ
  pub stream_id : ℕ
  pub mid : ℕ
  pub ppid_or_fsn : ℕ
  pub payload : List ℕ

-- SACK (RFC 9260, section 3.3.4): blocks and duplicates are bytes, four each.
pub record SackContent : Type 0 where
  pub cumulative_tsn_ack : ℕ
  pub a_rwnd : ℕ
  pub gap_ack_blocks : List ℕ
  pub duplicate_tsns : List ℕ

-- A chunk (RFC 9260, section 3.2)
pub data ChunkContent : Type 0 where
  data_chunk : DataContent → ChunkContent
  init_chunk : InitContent → ChunkContent
  init_ack_chunk : InitContent → ChunkContent
  sack_chunk : SackContent → ChunkContent
  -- HEARTBEAT and HEARTBEAT ACK (RFC 9260, sections 3.3.5 and 3.3.6)
  heartbeat_chunk : List ParameterContent → ChunkContent
  heartbeat_ack_chunk : List ParameterContent → ChunkContent
  -- ABORT (RFC 9260, section 3.3.7): the T bit, and why
  abort_chunk : Bool → List CauseContent → ChunkContent
  -- SHUTDOWN (RFC 9260, section 3.3.8): the cumulative TSN ack
  shutdown_chunk : ℕ → ChunkContent
  -- SHUTDOWN ACK (RFC 9260, section 3.3.9)
  shutdown_ack_chunk : ChunkContent
  -- ERROR (RFC 9260, section 3.3.10)
  error_chunk : List CauseContent → ChunkContent
  -- COOKIE ECHO (RFC 9260, section 3.3.11): the bytes of the state cookie
  cookie_echo_chunk : List ℕ → ChunkContent
  -- COOKIE ACK (RFC 9260, section 3.3.12)
  cookie_ack_chunk : ChunkContent
  -- SHUTDOWN COMPLETE (RFC 9260, section 3.3.13): the T bit
  shutdown_complete_chunk : Bool → ChunkContent
  i_data_chunk : IDataContent → ChunkContent
  -- RE-CONFIG (RFC 6525, section 3.1)
  re_config_chunk : List ParameterContent → ChunkContent
  -- FORWARD-TSN (RFC 3758, section 3.2): the new cumulative TSN, and the skipped streams, four bytes each
  forward_tsn_chunk : ℕ → List ℕ → ChunkContent
  -- I-FORWARD-TSN (RFC 8260, section 2.3.1): the new cumulative TSN, and the skipped streams, eight bytes each
  i_forward_tsn_chunk : ℕ → List ℕ → ChunkContent
  -- a chunk of any other type, by its header: type, flags, value
  unknown_chunk : ℕ → ℕ → List ℕ → ChunkContent

-- A packet (RFC 9260, section 3.1), without its checksum
pub record PacketContent : Type 0 where
  pub source_port : ℕ
  pub destination_port : ℕ
  pub verification_tag : ℕ
  pub chunks : List ChunkContent

-- ---- in memory

-- what a parameter in memory says
abbrev pub parameter_content : Parameter → ParameterContent
parameter_content (parameters.HeartbeatInfo info) = heartbeat_info info.now
parameter_content (parameters.StateCookie cookie) = state_cookie cookie.now
parameter_content (parameters.OutgoingSsnResetRequest request) =
    outgoing_ssn_reset_request request.request_seq_nbr request.response_seq_nbr request.sender_last_assigned_tsn request.streams.now
parameter_content (parameters.IncomingSsnResetRequest request) = incoming_ssn_reset_request request.request_seq_nbr request.streams.now
parameter_content (parameters.ReconfigurationResponse response) = reconfiguration_response response.response_seq_nbr response.result response.next_tsns
parameter_content (parameters.SupportedExtensions chunk_types) = supported_extensions chunk_types.now
parameter_content (parameters.ZeroChecksumAcceptable method) = zero_checksum_acceptable method
parameter_content parameters.ForwardTsnSupported = forward_tsn_supported
parameter_content (parameters.Unknown parameter_type value) = unknown_parameter parameter_type value.now

-- what a cause in memory says
abbrev pub cause_content : ErrorCause → CauseContent
cause_content (causes.MissingMandatoryParameter types) = missing_mandatory_parameter types.now
cause_content (causes.UnrecognizedChunkType chunk) = unrecognized_chunk_type chunk.now
cause_content (causes.NoUserData tsn) = no_user_data tsn
cause_content causes.CookieReceivedWhileShuttingDown = cookie_received_while_shutting_down
cause_content (causes.UserInitiatedAbort text) = user_initiated_abort text.now
cause_content (causes.ProtocolViolation text) = protocol_violation text.now
cause_content (causes.Unknown code value) = unknown_cause code value.now

-- what an INIT or INIT ACK in memory says
abbrev pub init_content : InitChunk → InitContent
init_content chunk =
    record {
      initiate_tag = chunk.initiate_tag;
      a_rwnd = chunk.a_rwnd;
      outbound_streams = chunk.nbr_outbound_streams;
      inbound_streams = chunk.nbr_inbound_streams;
      initial_tsn = chunk.initial_tsn;
      parameters = map parameter_content chunk.parameters.items;
    }

abbrev pub data_content : DataChunk → DataContent
data_content chunk =
    record { flags = chunk.flags; tsn = chunk.tsn; stream_id = chunk.stream_id; ssn = chunk.ssn; ppid = chunk.ppid; payload = chunk.payload.now }

abbrev pub i_data_content : IDataChunk → IDataContent
i_data_content chunk =
    record { flags = chunk.flags; tsn = chunk.tsn; stream_id = chunk.stream_id; mid = chunk.mid; ppid_or_fsn = chunk.ppid_or_fsn; payload = chunk.payload.now }

abbrev pub sack_content : SackChunk → SackContent
sack_content chunk =
    record { cumulative_tsn_ack = chunk.cumulative_tsn_ack; a_rwnd = chunk.a_rwnd; gap_ack_blocks = chunk.gap_ack_blocks.now; duplicate_tsns = chunk.duplicate_tsns.now }

-- what a chunk in memory says
abbrev pub chunk_content : Chunk → ChunkContent
chunk_content (chunks.Data chunk) = data_chunk (data_content chunk)
chunk_content (chunks.Init chunk) = init_chunk (init_content chunk)
chunk_content (chunks.InitAck chunk) = init_ack_chunk (init_content chunk)
chunk_content (chunks.Sack chunk) = sack_chunk (sack_content chunk)
chunk_content (chunks.HeartbeatRequest chunk) = heartbeat_chunk (map parameter_content chunk.parameters.items)
chunk_content (chunks.HeartbeatAck chunk) = heartbeat_ack_chunk (map parameter_content chunk.parameters.items)
chunk_content (chunks.Abort chunk) = abort_chunk chunk.tag_reflected (map cause_content chunk.error_causes.items)
chunk_content (chunks.Shutdown chunk) = shutdown_chunk chunk.cumulative_tsn_ack
chunk_content chunks.ShutdownAck = shutdown_ack_chunk
chunk_content (chunks.Error chunk) = error_chunk (map cause_content chunk.error_causes.items)
chunk_content (chunks.CookieEcho chunk) = cookie_echo_chunk chunk.cookie.now
chunk_content chunks.CookieAck = cookie_ack_chunk
chunk_content (chunks.ShutdownComplete chunk) = shutdown_complete_chunk chunk.tag_reflected
chunk_content (chunks.IData chunk) = i_data_chunk (i_data_content chunk)
chunk_content (chunks.ReConfig chunk) = re_config_chunk (map parameter_content chunk.parameters.items)
chunk_content (chunks.ForwardTsn chunk) = forward_tsn_chunk chunk.new_cumulative_tsn chunk.skipped_streams.now
chunk_content (chunks.IForwardTsn chunk) = i_forward_tsn_chunk chunk.new_cumulative_tsn chunk.skipped_streams.now
chunk_content (chunks.Unknown chunk) = unknown_chunk chunk.chunk_type chunk.flags chunk.value.now

-- what a packet in memory says
abbrev pub packet_content : SctpPacket → PacketContent
packet_content packet =
    record {
      source_port = packet.common_header.source_port;
      destination_port = packet.common_header.destination_port;
      verification_tag = packet.common_header.verification_tag;
      chunks = map chunk_content packet.chunks.items;
    }
