-- A built packet reads back (RFC 9260, section 3): the packets whose numbers fit their fields, what a reader requires beyond
-- that, and the laws.
use Rattle.std.specs.Prelude.{◌≡◌, ◌≢◌, ◌<◌, ◌⊎◌, ℕ, ◌+◌, ◌%◌, ◌^◌, Bool, true, false, Option, None, Some, List, map, length, drop}
use Rattle.std.specs.List.{AllByRecursion}
use Rattle.dcsctp_wire.specs.declared.packet.WireOptions.{WireOptions}
use Rattle.dcsctp_wire.specs.declared.reconfiguration.NextTsns.{NextTsns}
use Rattle.dcsctp_wire.specs.Content.{ParameterContent, heartbeat_info, state_cookie, outgoing_ssn_reset_request, incoming_ssn_reset_request, reconfiguration_response, supported_extensions, zero_checksum_acceptable, forward_tsn_supported, unknown_parameter, InitContent, CauseContent, missing_mandatory_parameter, unrecognized_chunk_type, no_user_data, cookie_received_while_shutting_down, user_initiated_abort, protocol_violation, unknown_cause, DataContent, IDataContent, SackContent, ChunkContent, data_chunk, init_chunk, init_ack_chunk, sack_chunk, heartbeat_chunk, heartbeat_ack_chunk, abort_chunk, shutdown_chunk, shutdown_ack_chunk, error_chunk, cookie_echo_chunk, cookie_ack_chunk, shutdown_complete_chunk, i_data_chunk, re_config_chunk, forward_tsn_chunk, i_forward_tsn_chunk, unknown_chunk, PacketContent}
use Rattle.dcsctp_wire.specs.Fields.{parameter_of, cause_of, content_of_fields}
use Rattle.dcsctp_wire.specs.Format.{fields, form_of, HasInitMinima, is_cookie_echo, IsPacket}
use Rattle.dcsctp_wire.specs.Spelling.{as_parameter, parameters_len, packet_bytes}

abbrev pub IsByte : ℕ → Type 0
IsByte byte = byte < 2 ^ 8

-- whole entries of that many bytes
pub record AreWholeEntries (len : ℕ) (entries : List ℕ) : Type 0 where
  pub whole : length entries % len ≡ 0
  pub entries_in_bytes : AllByRecursion IsByte entries

-- an unknown parameter within its fields: a reader of its type and value keeps them as they are
pub record FitsUnknown (other : ℕ) (value : List ℕ) : Type 0 where
  pub type_fits : other < 2 ^ 16
  pub read_as_unknown : parameter_of other value ≡ Some (unknown_parameter other value)
  pub value_in_bytes : AllByRecursion IsByte value

-- the numbers of an Outgoing SSN Reset Request within their fields (RFC 6525, section 4.1)
pub record FitsOutgoingRequest (number answered last_tsn : ℕ) (streams : List ℕ) : Type 0 where
  pub number_fits : number < 2 ^ 32
  pub answered_fits : answered < 2 ^ 32
  pub last_tsn_fits : last_tsn < 2 ^ 32
  pub streams_fit : AreWholeEntries 2 streams

abbrev pub FitsNextTsns : Option NextTsns → Type 0
FitsNextTsns None = Unit {0}
FitsNextTsns (Some next) = (next.sender < 2 ^ 32) × (next.receiver < 2 ^ 32)

-- A parameter within its fields (RFC 9260, section 3.2.1; RFC 6525, section 4). Its length fits if that of its chunk does.
abbrev pub FitsParameter : ParameterContent → Type 0
FitsParameter (heartbeat_info info) = AllByRecursion IsByte info
FitsParameter (state_cookie cookie) = AllByRecursion IsByte cookie
FitsParameter (outgoing_ssn_reset_request number answered last_tsn streams) = FitsOutgoingRequest number answered last_tsn streams
FitsParameter (incoming_ssn_reset_request number streams) = (number < 2 ^ 32) × AreWholeEntries 2 streams
FitsParameter (reconfiguration_response number result next) = (number < 2 ^ 32) × FitsNextTsns next
FitsParameter (supported_extensions chunk_types) = AllByRecursion IsByte chunk_types
FitsParameter (zero_checksum_acceptable method) = method < 2 ^ 32
FitsParameter forward_tsn_supported = Unit {0}
FitsParameter (unknown_parameter other value) = FitsUnknown other value

-- parameters in a chunk that has nothing else
pub record FitsParameters (parameters : List ParameterContent) : Type 0 where
  pub len_fits : 4 + parameters_len parameters < 2 ^ 16
  pub parameters_fit : AllByRecursion FitsParameter parameters

-- an INIT or INIT ACK within its fields (RFC 9260, sections 3.3.2 and 3.3.3)
pub record FitsInit (init : InitContent) : Type 0 where
  pub initiate_tag : init.initiate_tag < 2 ^ 32
  pub a_rwnd : init.a_rwnd < 2 ^ 32
  pub outbound_streams : init.outbound_streams < 2 ^ 16
  pub inbound_streams : init.inbound_streams < 2 ^ 16
  pub initial_tsn : init.initial_tsn < 2 ^ 32
  pub len_fits : 20 + parameters_len init.parameters < 2 ^ 16
  pub parameters : AllByRecursion FitsParameter init.parameters

-- a chunk of another type within its fields (RFC 9260, section 3.2): a reader of its type, flags and value keeps them as
-- they are
pub record FitsOther (chunk_type flags : ℕ) (value : List ℕ) : Type 0 where
  pub type_fits : IsByte chunk_type
  pub form : form_of chunk_type ≡ fields
  pub read_as_unknown : content_of_fields chunk_type flags value ≡ Some (unknown_chunk chunk_type flags value)
  pub flags_fit : IsByte flags
  pub len_fits : 4 + length value < 2 ^ 16
  pub value_in_bytes : AllByRecursion IsByte value

-- DATA within its fields (RFC 9260, section 3.3.1)
pub record FitsData (chunk : DataContent) : Type 0 where
  pub tsn : chunk.tsn < 2 ^ 32
  pub stream_id : chunk.stream_id < 2 ^ 16
  pub ssn : chunk.ssn < 2 ^ 16
  pub ppid : chunk.ppid < 2 ^ 32
  pub len_fits : 16 + length chunk.payload < 2 ^ 16
  pub payload_in_bytes : AllByRecursion IsByte chunk.payload

-- I-DATA within its fields (RFC 8260, section 2.1)
pub record FitsIData (chunk : IDataContent) : Type 0 where
  pub tsn : chunk.tsn < 2 ^ 32
  pub stream_id : chunk.stream_id < 2 ^ 16
  pub mid : chunk.mid < 2 ^ 32
  pub ppid_or_fsn : chunk.ppid_or_fsn < 2 ^ 32
  pub len_fits : 20 + length chunk.payload < 2 ^ 16
  pub payload_in_bytes : AllByRecursion IsByte chunk.payload

-- SACK within its fields (RFC 9260, section 3.3.4)
pub record FitsSack (chunk : SackContent) : Type 0 where
  pub cumulative_tsn_ack : chunk.cumulative_tsn_ack < 2 ^ 32
  pub a_rwnd : chunk.a_rwnd < 2 ^ 32
  pub len_fits : 16 + length chunk.gap_ack_blocks + length chunk.duplicate_tsns < 2 ^ 16
  pub blocks : AreWholeEntries 4 chunk.gap_ack_blocks
  pub duplicates : AreWholeEntries 4 chunk.duplicate_tsns

-- a new cumulative TSN and skipped streams of that many bytes each (RFC 3758, section 3.2; RFC 8260, section 2.3.1)
pub record FitsForward (entry tsn : ℕ) (streams : List ℕ) : Type 0 where
  pub tsn_fits : tsn < 2 ^ 32
  pub len_fits : 8 + length streams < 2 ^ 16
  pub streams_fit : AreWholeEntries entry streams

-- a COOKIE ECHO within its fields (RFC 9260, section 3.3.11)
pub record FitsEcho (cookie : List ℕ) : Type 0 where
  pub len_fits : 4 + length cookie < 2 ^ 16
  pub cookie_in_bytes : AllByRecursion IsByte cookie

-- an unknown cause within its fields: a reader of its code and value keeps them as they are
pub record FitsUnknownCause (code : ℕ) (value : List ℕ) : Type 0 where
  pub code_fits : code < 2 ^ 16
  pub read_as_unknown : cause_of code value ≡ Some (unknown_cause code value)
  pub value_in_bytes : AllByRecursion IsByte value

-- A cause within its fields (RFC 9260, section 3.3.10). Its length fits if that of its chunk does.
abbrev pub FitsCause : CauseContent → Type 0
FitsCause (missing_mandatory_parameter types) = AreWholeEntries 2 types
FitsCause (unrecognized_chunk_type chunk) = AllByRecursion IsByte chunk
FitsCause (no_user_data tsn) = tsn < 2 ^ 32
FitsCause cookie_received_while_shutting_down = Unit {0}
FitsCause (user_initiated_abort text) = AllByRecursion IsByte text
FitsCause (protocol_violation text) = AllByRecursion IsByte text
FitsCause (unknown_cause code value) = FitsUnknownCause code value

-- the causes of an ABORT or ERROR within their fields (RFC 9260, sections 3.3.7 and 3.3.10)
pub record FitsCauses (causes : List CauseContent) : Type 0 where
  pub len_fits : 4 + parameters_len (map as_parameter causes) < 2 ^ 16
  pub causes_fit : AllByRecursion FitsCause causes

-- a chunk within its fields
abbrev pub FitsChunk : ChunkContent → Type 0
FitsChunk (data_chunk chunk) = FitsData chunk
FitsChunk (init_chunk init) = FitsInit init
FitsChunk (init_ack_chunk init) = FitsInit init
FitsChunk (sack_chunk chunk) = FitsSack chunk
FitsChunk (heartbeat_chunk parameters) = FitsParameters parameters
FitsChunk (heartbeat_ack_chunk parameters) = FitsParameters parameters
FitsChunk (abort_chunk reflected causes) = FitsCauses causes
FitsChunk (shutdown_chunk cumulative_tsn) = cumulative_tsn < 2 ^ 32
FitsChunk shutdown_ack_chunk = Unit {0}
FitsChunk (error_chunk causes) = FitsCauses causes
FitsChunk (cookie_echo_chunk cookie) = FitsEcho cookie
FitsChunk cookie_ack_chunk = Unit {0}
FitsChunk (shutdown_complete_chunk reflected) = Unit {0}
FitsChunk (i_data_chunk chunk) = FitsIData chunk
FitsChunk (re_config_chunk parameters) = FitsParameters parameters
FitsChunk (forward_tsn_chunk tsn streams) = FitsForward 4 tsn streams
FitsChunk (i_forward_tsn_chunk tsn streams) = FitsForward 8 tsn streams
FitsChunk (unknown_chunk chunk_type flags value) = FitsOther chunk_type flags value

-- a packet within its fields (RFC 9260, section 3.1)
pub record FitsFields (packet : PacketContent) : Type 0 where
  pub source_port : packet.source_port < 2 ^ 16
  pub destination_port : packet.destination_port < 2 ^ 16
  pub verification_tag : packet.verification_tag < 2 ^ 32
  pub chunks : AllByRecursion FitsChunk packet.chunks

-- what a reader requires of a chunk's numbers: only those of INIT and INIT ACK have minima
abbrev pub HasMinima : ChunkContent → Type 0
HasMinima (init_chunk init) = HasInitMinima init
HasMinima (init_ack_chunk init) = HasInitMinima init
HasMinima chunk = Unit {0}

-- A packet within its fields that a reader accepts: its chunks have their minima, and a COOKIE ECHO is the first chunk (RFC 9260,
-- section 5.1).
pub record IsWritable (packet : PacketContent) : Type 0 where
  pub fields : FitsFields packet
  pub minima : AllByRecursion HasMinima packet.chunks
  pub echo_in_front : AllByRecursion (λ chunk. is_cookie_echo chunk ≡ false) (drop 1 packet.chunks)

-- The reader has the packet's port, and if no checksum is written it has an alternate error detection method (RFC 9653, section
-- 5.3).
pub record IsReader (options : WireOptions) (with_checksum : Bool) (packet : PacketContent) : Type 0 where
  pub to_this_port : options.local_port ≡ packet.destination_port
  pub checked : (with_checksum ≡ true) ⊎ (options.zero_checksum_alternate_error_detection_method ≢ 0)

-- Such a reader reads a built packet as what was built.
abbrev pub BuiltPacketReadsBack : Type 0
BuiltPacketReadsBack =
    (options : WireOptions) (with_checksum : Bool) (packet : PacketContent) → IsWritable packet → IsReader options with_checksum packet
    → IsPacket options packet (packet_bytes with_checksum packet)

-- Whatever a reader reads of a built packet is what was built. The port, the minima and the place of a COOKIE ECHO need no
-- premise: if they are wrong, nothing is read.
abbrev pub BuiltPacketReadsAsItself : Type 0
BuiltPacketReadsAsItself =
    (options : WireOptions) (with_checksum : Bool) (packet read : PacketContent) → FitsFields packet
    → IsPacket options read (packet_bytes with_checksum packet)
    → read ≡ packet
