-- What the machine sees of a packet: a verification tag and what each chunk says (RFC 9260, section 3).
use Rattle.std.specs.Prelude.{ℕ, Bool, true, false, Option, None, Some, List, [], ◌∷◌, ◌++◌, map}
use Rattle.dcsctp_types.specs.declared.association.Pair.{Pair}
use Rattle.dcsctp_types.specs.Settings.{Ports}
use Rattle.dcsctp_types.specs.Offer.{Offer, offer_parameters, offer_announced}
use Rattle.dcsctp_types.specs.wire.Content.{ParameterContent, state_cookie, InitContent, ChunkContent, data_chunk, i_data_chunk, init_chunk, init_ack_chunk, heartbeat_chunk, heartbeat_ack_chunk, abort_chunk, shutdown_chunk, shutdown_ack_chunk, error_chunk, cookie_echo_chunk, cookie_ack_chunk, shutdown_complete_chunk, re_config_chunk, unknown_chunk, PacketContent}
use Rattle.dcsctp_types.specs.wire.Spelling.{packet_bytes}
use Rattle.dcsctp_spec.specs.endpoint.Cause.{Cause}
use Rattle.dcsctp_spec.specs.Reconfiguration.{ResetParameter, reset_parameter_content, reset_parameter_of}

-- what INIT and INIT ACK say of their sender
pub record Introduction : Type 0 where
  -- initiate tag and initial TSN
  pub pair : Pair
  pub offer : Offer
  -- its receive window
  pub window : ℕ

-- A chunk that doesn't concern the association: data, acknowledgements, heartbeats, errors, and what is unknown. Other files say
-- what their kinds mean.
pub data Plain : Type 0 where
  -- a chunk of a type that isn't known (RFC 9260, section 3.2): type, flags, value
  unknown : ℕ → ℕ → List ℕ → Plain
  -- HEARTBEAT and HEARTBEAT ACK (RFC 9260, sections 3.3.5 and 3.3.6): their parameters
  heartbeat : List ParameterContent → Plain
  heartbeat_ack : List ParameterContent → Plain
  -- any other kind, as it is in its packet: data, SACK and ERROR are recognized by it, and the others aren't handled
  unworked : ChunkContent → Plain

-- Is it DATA? By the RFC I-DATA is data, too (RFC 8260, section 2.1).
abbrev pub is_data : Bool → Plain → Bool
is_data follows_rfc (unknown type flags value) = false
is_data follows_rfc (heartbeat parameters) = false
is_data follows_rfc (heartbeat_ack parameters) = false
is_data follows_rfc (unworked (data_chunk chunk)) = true
is_data follows_rfc (unworked (i_data_chunk chunk)) = follows_rfc
is_data follows_rfc (unworked chunk) = false

-- an ERROR chunk (RFC 9260, section 3.3.10)
abbrev pub error_of : List Cause → Plain
error_of causes = unworked (error_chunk causes)

pub data Content : Type 0 where
  init : Introduction → Content
  -- with the bytes of the state cookie, if there is one
  init_ack : Introduction → Option (List ℕ) → Content
  -- COOKIE ECHO (RFC 9260, section 3.3.11): the bytes of the state cookie
  cookie_echo : List ℕ → Content
  -- COOKIE ACK (RFC 9260, section 3.3.12)
  cookie_ack : Content
  -- RE-CONFIG (RFC 6525, section 3.1)
  re_config : List ResetParameter → Content
  -- ABORT (RFC 9260, section 3.3.7): the T bit, and why
  abort : Bool → List Cause → Content
  -- SHUTDOWN (RFC 9260, section 3.3.8): the cumulative TSN ack
  shutdown : ℕ → Content
  -- SHUTDOWN ACK (RFC 9260, section 3.3.9)
  shutdown_ack : Content
  -- SHUTDOWN COMPLETE (RFC 9260, section 3.3.13): the T bit
  shutdown_complete : Bool → Content
  -- any other chunk
  plain : Plain → Content

pub record Packet : Type 0 where
  pub tag : ℕ
  pub contents : List Content

-- a packet that a socket sends, with a checksum or with 0 in its place
pub record Emission : Type 0 where
  pub with_checksum : Bool
  pub packet : Packet

-- ---- from the wire

abbrev pub introduction_of_init : InitContent → Introduction
introduction_of_init chunk =
    record {
      pair = record { tag = chunk.initiate_tag; first_tsn = chunk.initial_tsn };
      offer = offer_announced chunk.outbound_streams chunk.inbound_streams chunk.parameters;
      window = chunk.a_rwnd;
    }

-- The first State Cookie counts.
abbrev pub first_cookie : List ParameterContent → Option (List ℕ)
first_cookie [] = None
first_cookie (state_cookie cookie ∷ parameters) = Some cookie
first_cookie (parameter ∷ parameters) = first_cookie parameters

-- what a chunk says
abbrev pub content_of_chunk : ChunkContent → Content
content_of_chunk (init_chunk chunk) = init (introduction_of_init chunk)
content_of_chunk (init_ack_chunk chunk) = init_ack (introduction_of_init chunk) (first_cookie chunk.parameters)
content_of_chunk (abort_chunk reflected causes) = abort reflected causes
content_of_chunk (cookie_echo_chunk cookie) = cookie_echo cookie
content_of_chunk cookie_ack_chunk = cookie_ack
content_of_chunk (re_config_chunk parameters) = re_config (map reset_parameter_of parameters)
content_of_chunk (shutdown_chunk cumulative_tsn) = shutdown cumulative_tsn
content_of_chunk shutdown_ack_chunk = shutdown_ack
content_of_chunk (shutdown_complete_chunk reflected) = shutdown_complete reflected
content_of_chunk (unknown_chunk type flags value) = plain (unknown type flags value)
content_of_chunk (heartbeat_chunk parameters) = plain (heartbeat parameters)
content_of_chunk (heartbeat_ack_chunk parameters) = plain (heartbeat_ack parameters)
content_of_chunk chunk = plain (unworked chunk)

abbrev pub packet_of_content : PacketContent → Packet
packet_of_content packet = record { tag = packet.verification_tag; contents = map content_of_chunk packet.chunks }

-- ---- to the wire

-- the cookie is the last parameter
abbrev pub cookie_parameters : Option (List ℕ) → List ParameterContent
cookie_parameters None = []
cookie_parameters (Some cookie) = state_cookie cookie ∷ []

abbrev pub introduction_out : Introduction → Option (List ℕ) → InitContent
introduction_out introduction cookie =
    record {
      initiate_tag = introduction.pair.tag;
      a_rwnd = introduction.window;
      outbound_streams = introduction.offer.outbound_streams;
      inbound_streams = introduction.offer.inbound_streams;
      initial_tsn = introduction.pair.first_tsn;
      parameters = offer_parameters introduction.offer ++ cookie_parameters cookie;
    }

abbrev pub plain_out : Plain → ChunkContent
plain_out (unknown type flags value) = unknown_chunk type flags value
plain_out (heartbeat parameters) = heartbeat_chunk parameters
plain_out (heartbeat_ack parameters) = heartbeat_ack_chunk parameters
plain_out (unworked chunk) = chunk

abbrev pub chunk_out : Content → ChunkContent
chunk_out (init introduction) = init_chunk (introduction_out introduction None)
chunk_out (init_ack introduction cookie) = init_ack_chunk (introduction_out introduction cookie)
chunk_out (cookie_echo cookie) = cookie_echo_chunk cookie
chunk_out cookie_ack = cookie_ack_chunk
chunk_out (re_config parameters) = re_config_chunk (map reset_parameter_content parameters)
chunk_out (abort reflected causes) = abort_chunk reflected causes
chunk_out (shutdown cumulative_tsn) = shutdown_chunk cumulative_tsn
chunk_out shutdown_ack = shutdown_ack_chunk
chunk_out (shutdown_complete reflected) = shutdown_complete_chunk reflected
chunk_out (plain chunk) = plain_out chunk

-- the bytes of a packet between these ports
abbrev pub emission_bytes : Ports → Emission → List ℕ
emission_bytes ports emission =
    packet_bytes emission.with_checksum (record {
      source_port = ports.local;
      destination_port = ports.remote;
      verification_tag = emission.packet.tag;
      chunks = map chunk_out emission.packet.contents;
    })
