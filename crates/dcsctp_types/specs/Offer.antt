-- What an end announces in INIT or INIT ACK, and what two ends agree on (RFC 9260, section 5.1).
use Rattle.std.specs.Prelude.{◌==◌, ℕ, min, Bool, true, false, ◌&&◌, ◌||◌, List, [], ◌∷◌, ◌++◌, if◌then◌else◌}
use Rattle.std.specs.List.{list_any}
use Rattle.dcsctp_types.specs.declared.options.Options.{Options}
use Rattle.dcsctp_types.specs.declared.capabilities.Capabilities.{Capabilities}
use Rattle.dcsctp_wire.specs.Numbers.{re_config_type, forward_tsn_type, i_data_type, i_forward_tsn_type}
use Rattle.dcsctp_wire.specs.Content.{ParameterContent, supported_extensions, zero_checksum_acceptable, forward_tsn_supported}

pub record Offer : Type 0 where
  -- RFC 3758
  pub partial_reliability : Bool
  -- RFC 8260
  pub message_interleaving : Bool
  -- RFC 6525
  pub reconfig : Bool
  -- the alternate error detection method of RFC 9653, 0 for none
  pub zero_checksum_method : ℕ
  pub inbound_streams : ℕ
  pub outbound_streams : ℕ

-- what a socket with these options announces
abbrev pub offer_of : Options → Offer
offer_of options =
    record {
      partial_reliability = options.enable_partial_reliability;
      message_interleaving = options.enable_message_interleaving;
      reconfig = true;
      zero_checksum_method = options.zero_checksum_alternate_error_detection_method.0;
      inbound_streams = options.announced_maximum_incoming_streams;
      outbound_streams = options.announced_maximum_outgoing_streams;
    }

-- the method of both ends, 0 unless it is one (RFC 9653, section 5.1)
abbrev pub agreed_method : Offer → Offer → ℕ
agreed_method mine theirs = if mine.zero_checksum_method == theirs.zero_checksum_method then mine.zero_checksum_method else 0

-- nothing, and no streams
abbrev pub no_capabilities : Capabilities
no_capabilities =
    record {
      partial_reliability = false;
      message_interleaving = false;
      reconfig = false;
      zero_checksum_method = record { 0 = 0 };
      negotiated_maximum_incoming_streams = 0;
      negotiated_maximum_outgoing_streams = 0;
    }

-- What two ends agree on, as the first sees it: what both offer. In each direction there are no more streams than the one sends
-- and the other receives.
abbrev pub negotiated_capabilities : Offer → Offer → Capabilities
negotiated_capabilities mine theirs =
    record {
      partial_reliability = mine.partial_reliability && theirs.partial_reliability;
      message_interleaving = mine.message_interleaving && theirs.message_interleaving;
      reconfig = mine.reconfig && theirs.reconfig;
      zero_checksum_method = record { 0 = agreed_method mine theirs };
      negotiated_maximum_incoming_streams = min mine.inbound_streams theirs.outbound_streams;
      negotiated_maximum_outgoing_streams = min mine.outbound_streams theirs.inbound_streams;
    }

-- What an end announces in an INIT ACK to an INIT with this offer: its own offer, with the method only if both have it.
abbrev pub answering_offer : Offer → Offer → Offer
answering_offer theirs mine = record mine { zero_checksum_method = agreed_method mine theirs }

-- a peer's offer as capabilities: the streams that it sends on are incoming ones
abbrev pub capabilities_offered : Offer → Capabilities
capabilities_offered offer =
    record {
      partial_reliability = offer.partial_reliability;
      message_interleaving = offer.message_interleaving;
      reconfig = offer.reconfig;
      zero_checksum_method = record { 0 = offer.zero_checksum_method };
      negotiated_maximum_incoming_streams = offer.outbound_streams;
      negotiated_maximum_outgoing_streams = offer.inbound_streams;
    }

-- and back
abbrev pub offer_of_capabilities : Capabilities → Offer
offer_of_capabilities capabilities =
    record {
      partial_reliability = capabilities.partial_reliability;
      message_interleaving = capabilities.message_interleaving;
      reconfig = capabilities.reconfig;
      zero_checksum_method = capabilities.zero_checksum_method.0;
      inbound_streams = capabilities.negotiated_maximum_outgoing_streams;
      outbound_streams = capabilities.negotiated_maximum_incoming_streams;
    }

-- ---- in parameters

abbrev pub announced_extensions : Offer → List ℕ
announced_extensions offer =
    re_config_type ∷ ((if offer.partial_reliability then forward_tsn_type ∷ [] else [])
    ++ (if offer.message_interleaving then i_data_type ∷ i_forward_tsn_type ∷ [] else []))

-- the parameters that announce an offer, in their order
abbrev pub offer_parameters : Offer → List ParameterContent
offer_parameters offer =
    (if offer.partial_reliability then forward_tsn_supported ∷ [] else [])
    ++ (if offer.zero_checksum_method == 0 then [] else zero_checksum_acceptable offer.zero_checksum_method ∷ [])
    ++ supported_extensions (announced_extensions offer) ∷ []

-- The first Supported Extensions counts.
abbrev pub extensions_of : List ParameterContent → List ℕ
extensions_of [] = []
extensions_of (supported_extensions chunk_types ∷ parameters) = chunk_types
extensions_of (parameter ∷ parameters) = extensions_of parameters

-- The first Zero Checksum Acceptable counts.
abbrev pub method_of : List ParameterContent → ℕ
method_of [] = 0
method_of (zero_checksum_acceptable method ∷ parameters) = method
method_of (parameter ∷ parameters) = method_of parameters

abbrev pub is_forward_tsn_supported : ParameterContent → Bool
is_forward_tsn_supported forward_tsn_supported = true
is_forward_tsn_supported parameter = false

-- is the chunk type among these?
abbrev pub supports_type : ℕ → List ℕ → Bool
supports_type chunk_type chunk_types = list_any (λ supported. supported == chunk_type) chunk_types

-- what an INIT or INIT ACK with these stream counts and parameters announces
abbrev pub offer_announced : ℕ → ℕ → List ParameterContent → Offer
offer_announced outbound_streams inbound_streams parameters =
    record {
      partial_reliability = list_any is_forward_tsn_supported parameters || supports_type forward_tsn_type (extensions_of parameters);
      message_interleaving = supports_type i_data_type (extensions_of parameters);
      reconfig = supports_type re_config_type (extensions_of parameters);
      zero_checksum_method = method_of parameters;
      inbound_streams = inbound_streams;
      outbound_streams = outbound_streams;
    }
