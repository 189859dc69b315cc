-- Which bytes a packet, a chunk and a parameter are read from (RFC 9260, section 3). A list of chunks or parameters is read one
-- by one: the first at the front, the others after it.
use Rattle.std.specs.Prelude.{◌≡◌, ◌≤◌, ◌==◌, ℕ, ◌+◌, ◌-◌, ◌%◌, Bool, true, false, not, ◌&&◌, ◌||◌, IsTrue, List, [], ◌∷◌, length, take, drop, Option, Some, None, nat_lt, slice_index, if◌then◌else◌}
use Rattle.std.specs.List.{AllByRecursion}
use Rattle.std.specs.Int.{w32, from_le_bytes}
use Rattle.dcsctp_wire.specs.declared.packet.WireOptions.{WireOptions}
use Rattle.dcsctp_wire.specs.Numbers.{init_type, init_ack_type, heartbeat_type, heartbeat_ack_type, abort_type, error_type, re_config_type}
use Rattle.dcsctp_wire_checksum.specs.Crc32c.{packet_checksum_of}
use Rattle.dcsctp_wire.specs.Content.{ParameterContent, InitContent, CauseContent, ChunkContent, init_chunk, init_ack_chunk, heartbeat_chunk, heartbeat_ack_chunk, abort_chunk, error_chunk, cookie_echo_chunk, re_config_chunk, PacketContent}
use Rattle.dcsctp_wire.specs.Fields.{u16_at, u32_at, parameter_of, cause_of, lowest_bit, content_of_fields}

-- how many bytes of padding follow n bytes, to a multiple of 4
abbrev pub padding_of : ℕ → ℕ
padding_of n = (4 - n % 4) % 4

-- the value of a chunk or parameter, and what follows its padding
pub record Frame : Type 0 where
  pub value : List ℕ
  pub rest : List ℕ

-- Chunks and parameters have a header of 4 bytes whose last two are the length, header included and
-- padding not. It is at least 4 and stays inside its container. The last padding may be missing.
unfoldable pub leading_frame : List ℕ → Option Frame
leading_frame bytes =
    if nat_lt (length bytes) 4 then None
    else (if nat_lt (u16_at 2 bytes) 4 then None
    else (if nat_lt (length bytes) (u16_at 2 bytes) then None
    else Some (record {
      value = take (u16_at 2 bytes - 4) (drop 4 bytes);
      rest = drop (u16_at 2 bytes + padding_of (u16_at 2 bytes)) bytes;
    })))

-- An item, which is a chunk, a parameter or a cause, is at the front of the bytes, and rest after it. Says relates it to its
-- header, with which the bytes begin, and to its value.
pub record BeginsWith {Item : Type 0} (Says : Item → List ℕ → List ℕ → Type 0) (item : Item) (rest bytes : List ℕ) : Type 0 where
  pub value : List ℕ
  pub framed : leading_frame bytes ≡ Some (record { value = value; rest = rest })
  pub read : Says item bytes value

-- the bytes are these items
abbrev pub AreItems : {Item : Type 0} → (Item → List ℕ → List ℕ → Type 0) → List Item → List ℕ → Type 0
AreItems Says [] bytes = bytes ≡ []
AreItems Says (item ∷ items) bytes = (rest : List ℕ) × BeginsWith Says item rest bytes × AreItems Says items rest

-- the item that a function reads from the type or code, which is the first two bytes, and the value
abbrev pub IsReadAsItem : {Item : Type 0} → (ℕ → List ℕ → Option Item) → Item → List ℕ → List ℕ → Type 0
IsReadAsItem read item bytes value = read (u16_at 0 bytes) value ≡ Some item

-- the parameter is at the front of the bytes, and rest after it
abbrev pub BeginsWithParameter : ParameterContent → List ℕ → List ℕ → Type 0
BeginsWithParameter = BeginsWith (IsReadAsItem parameter_of)

-- the bytes are these parameters
abbrev pub AreParameters : List ParameterContent → List ℕ → Type 0
AreParameters = AreItems (IsReadAsItem parameter_of)

-- The minima of an INIT or INIT ACK (RFC 9260, sections 3.3.2 and 3.3.3): a tag other than 0, a window of 1500 bytes, and a
-- stream in each direction.
pub record HasInitMinima (init : InitContent) : Type 0 where
  pub tag_is_not_zero : 1 ≤ init.initiate_tag
  pub window_is_large_enough : 1500 ≤ init.a_rwnd
  pub sends_on_a_stream : 1 ≤ init.outbound_streams
  pub receives_on_a_stream : 1 ≤ init.inbound_streams

-- the bytes are the value of this INIT or INIT ACK (RFC 9260, sections 3.3.2 and 3.3.3)
pub record IsInitValue (init : InitContent) (value : List ℕ) : Type 0 where
  pub long_enough : 16 ≤ length value
  pub initiate_tag : init.initiate_tag ≡ u32_at 0 value
  pub a_rwnd : init.a_rwnd ≡ u32_at 4 value
  pub outbound_streams : init.outbound_streams ≡ u16_at 8 value
  pub inbound_streams : init.inbound_streams ≡ u16_at 10 value
  pub initial_tsn : init.initial_tsn ≡ u32_at 12 value
  pub minima : HasInitMinima init
  pub parameters : AreParameters init.parameters (drop 16 value)

-- The cause is at the front of the bytes, and rest after it. Causes have the frame of parameters.
abbrev pub BeginsWithCause : CauseContent → List ℕ → List ℕ → Type 0
BeginsWithCause = BeginsWith (IsReadAsItem cause_of)

-- the bytes are these causes
abbrev pub AreCauses : List CauseContent → List ℕ → Type 0
AreCauses = AreItems (IsReadAsItem cause_of)

-- How the value of a chunk is read.
pub data Form : Type 0 where
  -- as that of INIT and INIT ACK: fields and parameters
  introduction : (InitContent → ChunkContent) → Form
  -- as parameters
  parameter_list : (List ParameterContent → ChunkContent) → Form
  -- as error causes, beside a bit of the flags
  cause_list : (Bool → List CauseContent → ChunkContent) → Form
  -- by its fields alone
  fields : Form

-- the form of a chunk type
unfoldable pub form_of : ℕ → Form
form_of chunk_type =
    if chunk_type == init_type then introduction init_chunk
    else (if chunk_type == init_ack_type then introduction init_ack_chunk
    else (if chunk_type == heartbeat_type then parameter_list heartbeat_chunk
    else (if chunk_type == heartbeat_ack_type then parameter_list heartbeat_ack_chunk
    else (if chunk_type == abort_type then cause_list abort_chunk
    else (if chunk_type == error_type then cause_list (λ bit causes. error_chunk causes)
    else (if chunk_type == re_config_type then parameter_list re_config_chunk
    else fields))))))

-- a chunk of this type, flags and value, which has this form
abbrev pub HasForm : Form → ChunkContent → ℕ → ℕ → List ℕ → Type 0
HasForm (introduction says) chunk chunk_type flags value = (init : InitContent) × (chunk ≡ says init) × IsInitValue init value
HasForm (parameter_list says) chunk chunk_type flags value = (parameters : List ParameterContent) × (chunk ≡ says parameters) × AreParameters parameters value
HasForm (cause_list says) chunk chunk_type flags value = (causes : List CauseContent) × (chunk ≡ says (lowest_bit flags) causes) × AreCauses causes value
HasForm fields chunk chunk_type flags value = content_of_fields chunk_type flags value ≡ Some chunk

-- A chunk of this type, flags and value. Flags without a name are not looked at.
abbrev pub IsChunkOf : ChunkContent → ℕ → ℕ → List ℕ → Type 0
IsChunkOf chunk chunk_type flags value = HasForm (form_of chunk_type) chunk chunk_type flags value

-- what the type and the flags, the first two bytes, and the value say
abbrev pub IsReadByHeader : ChunkContent → List ℕ → List ℕ → Type 0
IsReadByHeader chunk bytes value = IsChunkOf chunk (slice_index bytes 0) (slice_index bytes 1) value

-- the chunk is at the front of the bytes, and rest after it
abbrev pub BeginsWithChunk : ChunkContent → List ℕ → List ℕ → Type 0
BeginsWithChunk = BeginsWith IsReadByHeader

-- the bytes are these chunks
abbrev pub AreChunks : List ChunkContent → List ℕ → Type 0
AreChunks = AreItems IsReadByHeader

-- is the chunk a COOKIE ECHO (RFC 9260, section 3.3.11)?
abbrev pub is_cookie_echo : ChunkContent → Bool
is_cookie_echo (cookie_echo_chunk cookie) = true
is_cookie_echo chunk = false

-- The checksum is right, or its field is 0 and the reader has an alternate error detection method, or
-- it is not looked at (RFC 9260, section 6.8; RFC 9653, section 5.3).
abbrev pub checksum_accepted : WireOptions → List ℕ → Bool
checksum_accepted options bytes =
    options.disable_checksum_verification
    || (u32_at 8 bytes == 0 && not (options.zero_checksum_alternate_error_detection_method == 0))
    || from_le_bytes w32 (take 4 (drop 8 bytes)) == packet_checksum_of bytes

-- The bytes are this packet for a reader with these options (RFC 9260, section 3.1). A COOKIE ECHO is the first chunk (RFC 9260,
-- section 5.1).
pub record IsPacket (options : WireOptions) (packet : PacketContent) (bytes : List ℕ) : Type 0 where
  pub long_enough : 12 ≤ length bytes
  pub source_port : packet.source_port ≡ u16_at 0 bytes
  pub destination_port : packet.destination_port ≡ u16_at 2 bytes
  pub verification_tag : packet.verification_tag ≡ u32_at 4 bytes
  pub to_this_port : packet.destination_port ≡ options.local_port
  pub checked : IsTrue (checksum_accepted options bytes)
  pub chunks : AreChunks packet.chunks (drop 12 bytes)
  pub echo_in_front : AllByRecursion (λ chunk. is_cookie_echo chunk ≡ false) (drop 1 packet.chunks)
