-- Each packet of the handshake fits in 112 bytes.
use Rattle.std.proofs.Common.{◌≡◌, ◌≤◌, ℕ, ◌+◌, Bool, true, false, eqb, None, Some, [], ◌∷◌, ◌++◌, length, ap, arith}
use Rattle.std.specs.Prelude.{nat_le}
use Rattle.std.specs.List.{flat_map}
use Rattle.std.proofs.lemmas.List.{append-nil}
use Rattle.std.proofs.lemmas.Bool.Decides.{nat_tests}
use Rattle.dcsctp_spec_lemmas.specs.wire.Content.{state_cookie, InitContent}
use Rattle.dcsctp_spec_lemmas.specs.wire.Numbers.{init_type, init_ack_type}
use Rattle.dcsctp_spec_lemmas.specs.wire.Spelling.{parameter_bytes, init_fields, parameter_chunk_bytes, other_bytes}
use Rattle.dcsctp_spec_lemmas.specs.types.declared.association.Pair.{Pair}
use Rattle.dcsctp_spec_lemmas.specs.types.declared.options.Options.{Options}
use Rattle.dcsctp_spec_lemmas.specs.types.Settings.{packet_size_limit}
use Rattle.dcsctp_spec_lemmas.specs.types.Offer.{offer_of, agreed_method}
use Rattle.dcsctp_spec_lemmas.specs.spec.Cookie.{Cookie, cookie_bytes}
use Rattle.dcsctp_spec_lemmas.specs.spec.Packet.{Introduction, cookie_echo, introduction_out}
use Rattle.dcsctp_spec_lemmas.specs.spec.endpoint.Endpoint.{Endpoint}
use Rattle.dcsctp_spec_lemmas.specs.spec.endpoint.Outcome.{contents_len, fits}
use Rattle.dcsctp_spec_lemmas.specs.spec.endpoint.HandshakeOutcomes.{init_emission, init_ack_emission, cookie_for, echo_emission}
use Rattle.dcsctp_spec_lemmas.specs.spec.association.HandshakeChanges.{introduction_of, answering_introduction}
use Rattle.dcsctp_theorem_sockets.proofs.Sendable.{parameters_by}

-- the limit of such options
limit : (options : Options) → 112 ≤ options.mtu → 112 ≤ packet_size_limit options
limit options large = omega arith

-- what fits in 112 bytes fits
small_fits : (len size : ℕ) → len ≤ 112 → 112 ≤ size → nat_le len size ≡ true
small_fits len size small large = grind (arith, nat_tests)

-- the length of INIT or INIT ACK with these parameters in bytes
chunk_len : (chunk_type : ℕ) (chunk : InitContent) (more : ℕ) → length (flat_map parameter_bytes chunk.parameters) ≤ more → length (parameter_chunk_bytes chunk_type 0 (init_fields chunk) chunk.parameters ++ []) ≤ 20 + more
unfolding parameter_chunk_bytes init_fields
chunk_len chunk_type chunk more h = omega (arith, h, ap length (append-nil (flat_map parameter_bytes chunk.parameters)))

len_without : (partial interleaving no_method : Bool) (method : ℕ) → length (flat_map parameter_bytes (parameters_by partial interleaving no_method method ++ [])) ≤ 20
unfolding parameter_bytes
len_without true true true method = omega arith
len_without true true false method = omega arith
len_without true false true method = omega arith
len_without true false false method = omega arith
len_without false true true method = omega arith
len_without false true false method = omega arith
len_without false false true method = omega arith
len_without false false false method = omega arith

len_with : (partial interleaving no_method : Bool) (method : ℕ) (cookie : Cookie)
    → length (flat_map parameter_bytes (parameters_by partial interleaving no_method method ++ state_cookie (cookie_bytes cookie) ∷ [])) ≤ 80
unfolding parameter_bytes cookie_bytes
len_with true true true method cookie = omega arith
len_with true true false method cookie = omega arith
len_with true false true method cookie = omega arith
len_with true false false method cookie = omega arith
len_with false true true method cookie = omega arith
len_with false true false method cookie = omega arith
len_with false false true method cookie = omega arith
len_with false false false method cookie = omega arith

pub init_fits : (e : Endpoint) (mine : Pair) → 112 ≤ e.options.mtu → fits e (init_emission e mine) ≡ true
init_fits e mine large =
    let method : ℕ = e.options.zero_checksum_alternate_error_detection_method.0 in
    let parameters = len_without e.options.enable_partial_reliability e.options.enable_message_interleaving (eqb method 0) method in
    small_fits _ (packet_size_limit e.options) (omega (arith, chunk_len init_type (introduction_out (introduction_of e.options mine) None) 20 parameters)) (limit e.options large)

pub init_ack_fits : (e : Endpoint) (theirs : Introduction) (mine : Pair) (tie : ℕ) → 112 ≤ e.options.mtu → fits e (init_ack_emission e theirs mine tie) ≡ true
init_ack_fits e theirs mine tie large =
    let method : ℕ = agreed_method (offer_of e.options) theirs.offer in
    let parameters = len_with e.options.enable_partial_reliability e.options.enable_message_interleaving (eqb method 0) method (cookie_for e.moment theirs mine tie) in
    small_fits _ (packet_size_limit e.options) (omega (arith, chunk_len init_ack_type (introduction_out (answering_introduction e.options theirs mine) (Some (cookie_bytes (cookie_for e.moment theirs mine tie)))) 80 parameters)) (limit e.options large)

echo_len : (cookie : Cookie) → contents_len (cookie_echo (cookie_bytes cookie) ∷ []) ≤ 60
unfolding other_bytes cookie_bytes
echo_len cookie = omega arith

pub echo_fits : (e : Endpoint) (tag : ℕ) (cookie : Cookie) → 112 ≤ e.options.mtu → fits e (echo_emission tag (cookie_bytes cookie)) ≡ true
echo_fits e tag cookie large = small_fits _ (packet_size_limit e.options) (omega (arith, echo_len cookie)) (limit e.options large)
