-- The turns of chunks that don't concern the association: one line for each kind.
use Rattle.std.specs.Prelude.{◌≡◌, ◌==◌, ℕ, ◌+◌, ◌-◌, ◌/◌, ◌%◌, Bool, true, false, Option, None, Some, List, [], ◌∷◌, ◌++◌, ◌&&◌, length, take, nat_le, codes, if◌then◌else◌}
use Rattle.std.specs.Int.{w16, to_be_bytes}
use Rattle.std.specs.Fmt.{decimal}
use Rattle.dcsctp_types.specs.wire.Content.{data_chunk, i_data_chunk, sack_chunk, error_chunk, forward_tsn_chunk, i_forward_tsn_chunk, unrecognized_chunk_type}
use Rattle.dcsctp_types.specs.wire.Texts.{causes_text}
use Rattle.dcsctp_types.specs.declared.association.Held.{Held}
use Rattle.dcsctp_types.specs.declared.capabilities.Capabilities.{Capabilities}
use Rattle.dcsctp_types.specs.declared.ends.Violation.{Violation}
use Rattle.dcsctp_types.specs.declared.ends.Violation.TheVariants.{DataWithInterleaving, InterleavedDataWithout, ForwardTsnWithout}
use Rattle.dcsctp_types.specs.declared.ends.AbortReason.TheVariants as reasons
use Rattle.dcsctp_types.specs.declared.kinds.ErrorKind.TheVariants.{ParseFailed, PeerReported}
use Rattle.dcsctp_types.specs.Settings.{packet_size_limit}
use Rattle.dcsctp_types.specs.Sizes.{common_header_size, chunk_header_size, parameter_header_size}
use Rattle.dcsctp_spec.specs.endpoint.Cause.{Cause, has_stale_cookie}
use Rattle.dcsctp_spec.specs.endpoint.Event.{error, aborted}
use Rattle.dcsctp_spec.specs.Packet.{Plain, unknown, heartbeat, heartbeat_ack, unworked, plain, error_of, Emission}
use Rattle.dcsctp_spec.specs.endpoint.Endpoint.{Endpoint, Core, cookie_echoed, open_in}
use Rattle.dcsctp_spec.specs.endpoint.Following.{Following, next_chunk, packet_end}
use Rattle.dcsctp_spec.specs.endpoint.Outcome.{Outcome, still, reports, quiet, sends, to_peer}
use Rattle.dcsctp_spec.specs.endpoint.EndOutcomes.{aborting_outcome, ended_outcome}
use Rattle.dcsctp_spec.specs.queues.Arrivals.{data_arrival, i_data_arrival, named_skips, skipped_messages}
use Rattle.dcsctp_spec.specs.endpoint.DataOutcomes.{DataTurn, ForwardTurn, SackTurn}
use Rattle.dcsctp_spec.specs.endpoint.HeartbeatOutcomes.{heartbeat_outcome, first_heartbeat_info, counter_of, heartbeat_ack_outcome}

-- ---- what breaks the protocol that was negotiated

-- DATA; the flag says whether message interleaving is negotiated (RFC 8260, section 2.2.1)
abbrev pub data_violation : Bool → Option Violation
data_violation true = Some DataWithInterleaving
data_violation false = None

abbrev pub i_data_violation : Bool → Option Violation
i_data_violation true = None
i_data_violation false = Some InterleavedDataWithout

-- FORWARD-TSN, and whether partial reliability is negotiated too (RFC 3758, section 3.3.1)
abbrev pub forward_tsn_violation : Bool → Bool → Option Violation
forward_tsn_violation true is_partial = Some DataWithInterleaving
forward_tsn_violation false true = None
forward_tsn_violation false false = Some ForwardTsnWithout

abbrev pub i_forward_tsn_violation : Bool → Bool → Option Violation
i_forward_tsn_violation false is_partial = Some InterleavedDataWithout
i_forward_tsn_violation true true = None
i_forward_tsn_violation true false = Some ForwardTsnWithout

abbrev pub violation_of_capabilities : Capabilities → Plain → Option Violation
violation_of_capabilities capabilities (unworked (data_chunk chunk)) = data_violation capabilities.message_interleaving
violation_of_capabilities capabilities (unworked (i_data_chunk chunk)) = i_data_violation capabilities.message_interleaving
violation_of_capabilities capabilities (unworked (forward_tsn_chunk tsn streams)) = forward_tsn_violation capabilities.message_interleaving capabilities.partial_reliability
violation_of_capabilities capabilities (unworked (i_forward_tsn_chunk tsn streams)) = i_forward_tsn_violation capabilities.message_interleaving capabilities.partial_reliability
violation_of_capabilities capabilities chunk = None

-- A violation counts if the peer is known.
abbrev pub violation_by_core : Core → Plain → Option Violation
violation_by_core (cookie_echoed my held cookie) chunk = violation_of_capabilities held.capabilities chunk
violation_by_core (open_in phase my held) chunk = violation_of_capabilities held.capabilities chunk
violation_by_core core chunk = None

-- ---- a chunk of a type that isn't known (RFC 9260, section 3.2)

-- Its second bit asks that it is reported,
abbrev pub is_reported : ℕ → Bool
is_reported type = type / 64 % 2 == 1

-- and its first one that the chunks after it are handled.
abbrev pub after_unknown : ℕ → Following
after_unknown type = if nat_le 128 type then next_chunk else packet_end

abbrev pub unknown_text : ℕ → List ℕ
unknown_text type = codes "Received chunk type " ++ decimal type ++ codes ", "

-- the chunk as it was read, without padding
abbrev pub unknown_bytes : ℕ → ℕ → List ℕ → List ℕ
unknown_bytes type flags value = type ∷ flags ∷ to_be_bytes w16 (chunk_header_size + length value) ++ value

-- what precedes the chunk in a packet of one ERROR: the common header, and those of the ERROR and of its cause
abbrev pub reported_offset : ℕ
reported_offset = common_header_size + chunk_header_size + parameter_header_size

-- an ERROR of the cause Unrecognized Chunk Type, with as much of the chunk as fits in `mtu` (RFC 9260, section 3.3.10.6)
abbrev pub unknown_error : Endpoint → List ℕ → Plain
unknown_error e chunk = error_of (unrecognized_chunk_type (take (packet_size_limit e.options - reported_offset) chunk) ∷ [])

abbrev pub unknown_report : Endpoint → Held → List ℕ → Emission
unknown_report e held chunk = to_peer held (plain (unknown_error e chunk))

-- It is reported to the user, and to the peer, if that is known.
abbrev pub unknown_chunk_outcome : Endpoint → Core → ℕ → List ℕ → Outcome
unknown_chunk_outcome e (cookie_echoed my held cookie) type chunk = sends e [] (error ParseFailed (unknown_text type) ∷ []) (unknown_report e held chunk)
unknown_chunk_outcome e (open_in phase my held) type chunk = sends e [] (error ParseFailed (unknown_text type) ∷ []) (unknown_report e held chunk)
unknown_chunk_outcome e core type chunk = reports e ParseFailed (unknown_text type)

abbrev pub unknown_outcome : Endpoint → Core → ℕ → ℕ → List ℕ → Outcome
unknown_outcome e core type flags value =
    record (if is_reported type then unknown_chunk_outcome e core type (unknown_bytes type flags value) else still e) { following = after_unknown type }

-- ---- an ERROR (RFC 9260, section 3.3.10)

-- Does an ERROR end a handshake? By the RFC it does where the peer found our cookie too old: sent again, it would be older still
-- (RFC 9260, section 5.2.6).
abbrev pub ends_handshake : Endpoint → List Cause → Bool
ends_handshake e causes = has_stale_cookie causes && e.options.follow_rfc

abbrev pub echoed_error_outcome : Bool → Endpoint → List Cause → Outcome
echoed_error_outcome true e causes = ended_outcome (quiet e [] []) (aborted PeerReported (causes_text causes))
echoed_error_outcome false e causes = reports e PeerReported (causes_text causes)

-- The texts of its causes are reported to the user, if the peer is known.
abbrev pub error_outcome : Endpoint → Core → List Cause → Outcome
error_outcome e (cookie_echoed my held cookie) causes = echoed_error_outcome (ends_handshake e causes) e causes
error_outcome e (open_in phase my held) causes = reports e PeerReported (causes_text causes)
error_outcome e core causes = still e

-- ---- every kind

-- A chunk that breaks the protocol ends the association. Data and ERROR have their own outcomes, and a chunk without a handler
-- changes nothing.
abbrev pub PlainTurnUnlessViolating : Endpoint → Plain → Option Violation → Outcome → Type 0
PlainTurnUnlessViolating e chunk (Some violation) o = o ≡ aborting_outcome e e.core (reasons.Violation violation)
PlainTurnUnlessViolating e (unknown type flags value) None o = o ≡ unknown_outcome e e.core type flags value
PlainTurnUnlessViolating e (heartbeat parameters) None o = o ≡ heartbeat_outcome e e.core parameters
PlainTurnUnlessViolating e (heartbeat_ack parameters) None o = o ≡ heartbeat_ack_outcome e (counter_of (first_heartbeat_info parameters))
PlainTurnUnlessViolating e (unworked (data_chunk chunk)) None o = DataTurn e (data_arrival chunk) o
PlainTurnUnlessViolating e (unworked (i_data_chunk chunk)) None o = DataTurn e (i_data_arrival chunk) o
PlainTurnUnlessViolating e (unworked (sack_chunk chunk)) None o = SackTurn e e.queues.transfer chunk o
PlainTurnUnlessViolating e (unworked (forward_tsn_chunk tsn streams)) None o = ForwardTurn e e.queues.transfer tsn (named_skips streams) o
PlainTurnUnlessViolating e (unworked (i_forward_tsn_chunk tsn streams)) None o = ForwardTurn e e.queues.transfer tsn (skipped_messages streams) o
PlainTurnUnlessViolating e (unworked (error_chunk causes)) None o = o ≡ error_outcome e e.core causes
PlainTurnUnlessViolating e (unworked chunk) None o = o ≡ still e

abbrev pub PlainTurn : Endpoint → Plain → Outcome → Type 0
PlainTurn e chunk o = PlainTurnUnlessViolating e chunk (violation_by_core e.core chunk) o
