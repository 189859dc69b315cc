-- Outside examples of what INIT and INIT ACK announce and of what two ends agree on, computed by the
-- definitions: a wrong rule in specs/ would not check here.
use Rattle.std.proofs.Common.{◌≡◌, ℕ, Bool, true, false, None, Some, [], ◌∷◌, refl}
use Rattle.dcsctp_types.specs.wire.Content.{state_cookie, supported_extensions, zero_checksum_acceptable, forward_tsn_supported, unknown_parameter, init_ack_chunk}
use Rattle.dcsctp_types.specs.declared.capabilities.Capabilities.{Capabilities}
use Rattle.dcsctp_types.specs.Offer.{Offer, agreed_method, negotiated_capabilities, answering_offer, capabilities_offered, offer_of_capabilities, offer_parameters, offer_announced}
use Rattle.dcsctp_spec.specs.Packet.{Introduction, init_ack, first_cookie, introduction_of_init, introduction_out, chunk_out}
use Rattle.dcsctp_spec.specs.endpoint.Outcome.{count_up}
use Rattle.dcsctp_spec.specs.endpoint.HandshakeOutcomes.{tag_from, first_tsn_from, pair_from}

-- ---- offers

offer : Bool → Bool → Bool → ℕ → ℕ → ℕ → Offer
offer partial interleaving reconfig method inbound outbound =
    record { partial_reliability = partial; message_interleaving = interleaving; reconfig = reconfig; zero_checksum_method = method; inbound_streams = inbound; outbound_streams = outbound }

capabilities : Bool → Bool → Bool → ℕ → ℕ → ℕ → Capabilities
capabilities partial interleaving reconfig method incoming outgoing =
    record { partial_reliability = partial; message_interleaving = interleaving; reconfig = reconfig; zero_checksum_method = record { 0 = method }; negotiated_maximum_incoming_streams = incoming; negotiated_maximum_outgoing_streams = outgoing }

-- One side alone offers each feature, and the methods differ. The one can receive on 10 streams and the
-- other sends on 40; the one sends on 20 and the other can receive on 5.
nothing_in_common : negotiated_capabilities (offer true false true 1 10 20) (offer false true false 2 5 40) ≡ capabilities false false false 0 10 5
unfolding offer capabilities
nothing_in_common = refl

all_in_common : negotiated_capabilities (offer true true true 1 40 5) (offer true true true 1 20 10) ≡ capabilities true true true 1 10 5
unfolding offer capabilities
all_in_common = refl

-- a method on one side alone
method_of_one_side : agreed_method (offer true true true 1 1 1) (offer true true true 0 1 1) ≡ 0
unfolding offer
method_of_one_side = refl

method_of_the_other_side : agreed_method (offer true true true 0 1 1) (offer true true true 1 1 1) ≡ 0
unfolding offer
method_of_the_other_side = refl

-- The answer is our offer, without a method that isn't common.
answer_without_method : answering_offer (offer true true true 2 1 2) (offer false true false 1 3 4) ≡ offer false true false 0 3 4
unfolding offer
answer_without_method = refl

answer_with_method : answering_offer (offer true true true 1 1 2) (offer false true false 1 3 4) ≡ offer false true false 1 3 4
unfolding offer
answer_with_method = refl

-- What the peer sends on comes in.
offer_is_shown : capabilities_offered (offer true false true 7 10 20) ≡ capabilities true false true 7 20 10
unfolding offer capabilities
offer_is_shown = refl

offer_is_found : offer_of_capabilities (capabilities true false true 7 20 10) ≡ offer true false true 7 10 20
unfolding offer capabilities
offer_is_found = refl

-- RE-CONFIG is chunk type 130 (RFC 6525), FORWARD-TSN 192 (RFC 3758), I-DATA 64 and I-FORWARD-TSN 194
-- (RFC 8260).
all_is_announced : offer_parameters (offer true true true 1 10 20) ≡ forward_tsn_supported ∷ zero_checksum_acceptable 1 ∷ supported_extensions (130 ∷ 192 ∷ 64 ∷ 194 ∷ []) ∷ []
unfolding offer
all_is_announced = refl

default_is_announced : offer_parameters (offer true false true 0 10 20) ≡ forward_tsn_supported ∷ supported_extensions (130 ∷ 192 ∷ []) ∷ []
unfolding offer
default_is_announced = refl

least_is_announced : offer_parameters (offer false false true 0 10 20) ≡ supported_extensions (130 ∷ []) ∷ []
unfolding offer
least_is_announced = refl

-- The first Supported Extensions and the first Zero Checksum Acceptable count.
first_counts : offer_announced 20 10 (unknown_parameter 5 [] ∷ supported_extensions (192 ∷ 130 ∷ []) ∷ zero_checksum_acceptable 1 ∷ supported_extensions (64 ∷ []) ∷ zero_checksum_acceptable 2 ∷ []) ≡ offer true false true 1 10 20
unfolding offer
first_counts = refl

-- Forward-TSN-Supported announces partial reliability too (RFC 3758, section 3.1).
forward_tsn_counts : offer_announced 20 10 (state_cookie [] ∷ forward_tsn_supported ∷ []) ≡ offer true false false 0 10 20
unfolding offer
forward_tsn_counts = refl

interleaving_is_i_data : offer_announced 20 10 (supported_extensions (194 ∷ 64 ∷ []) ∷ []) ≡ offer false true false 0 10 20
unfolding offer
interleaving_is_i_data = refl

i_forward_tsn_is_not_enough : offer_announced 20 10 (supported_extensions (194 ∷ []) ∷ []) ≡ offer false false false 0 10 20
unfolding offer
i_forward_tsn_is_not_enough = refl

-- ---- chunks

introduced : Introduction
introduced = record { pair = record { tag = 7; first_tsn = 100 }; offer = offer true false true 1 10 20; window = 1500 }

-- The cookie is the last parameter, and of two the first is taken.
init_ack_goes_out : chunk_out (init_ack introduced (Some (1 ∷ 2 ∷ []))) ≡ init_ack_chunk (record { initiate_tag = 7; a_rwnd = 1500; outbound_streams = 20; inbound_streams = 10; initial_tsn = 100; parameters = forward_tsn_supported ∷ zero_checksum_acceptable 1 ∷ supported_extensions (130 ∷ 192 ∷ []) ∷ state_cookie (1 ∷ 2 ∷ []) ∷ [] })
unfolding introduced offer
init_ack_goes_out = refl

init_ack_comes_in : introduction_of_init (introduction_out introduced None) ≡ introduced
unfolding introduced offer
init_ack_comes_in = refl

first_cookie_is_taken : first_cookie (forward_tsn_supported ∷ state_cookie (1 ∷ []) ∷ state_cookie (2 ∷ []) ∷ []) ≡ Some (1 ∷ [])
first_cookie_is_taken = refl

-- ---- random words and counts

-- A tag is 1 to 2^32 - 2.
least_tag : tag_from 0 ≡ 1
least_tag = refl

greatest_tag : tag_from 0xfffffffd ≡ 0xfffffffe
greatest_tag = refl

tag_goes_round : tag_from 0xffffffff ≡ 2
tag_goes_round = refl

first_tsn_goes_round : first_tsn_from 0xffffffff ≡ 0
first_tsn_goes_round = refl

-- The first word is the TSN, the second the tag.
words_make_a_pair : pair_from 5 9 ≡ record { tag = 10; first_tsn = 5 }
words_make_a_pair = refl

count_goes_up : count_up 41 ≡ 42
count_goes_up = refl

count_stops : count_up 0xffffffffffffffff ≡ 0xffffffffffffffff
count_stops = refl
