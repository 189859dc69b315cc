-- What the handler of the reconfiguration timer does, as turns of a socket's view (RFC 6525, section 5.1.1).
use Rattle.std.specs.Prelude.{◌≡◌, ℕ, ◌+◌, Bool, true, false, Option, Some, Result, [], ◌∷◌, length, nat_le}
use Rattle.dcsctp_core.specs.wire.Content.{ChunkContent, re_config_chunk, outgoing_ssn_reset_request}
use Rattle.dcsctp_core.specs.wire.declared.reconfiguration.OutgoingSsnResetRequestParameter.{OutgoingSsnResetRequestParameter}
use Rattle.dcsctp_core.specs.types.ByResult.{ByResult}
use Rattle.dcsctp_core.specs.types.declared.association.Held.{Held}
use Rattle.dcsctp_core.specs.spec.endpoint.Endpoint.{Endpoint, OutstandingRequest, held_by_core}
use Rattle.dcsctp_core.specs.spec.endpoint.Outcome.{Outcome, still}
use Rattle.dcsctp_core.specs.spec.endpoint.HeartbeatOutcomes.{is_exhausted}
use Rattle.dcsctp_core.specs.spec.endpoint.ReconfigurationOutcomes.{reset_again, request_emitted, request_renewed}
use Rattle.dcsctp_core.specs.wire.Spelling.{chunk_bytes}
use Rattle.dcsctp_core.specs.types.Settings.{packet_size_limit}
use Rattle.dcsctp_core.specs.types.Sizes.{common_header_size}
use Rattle.dcsctp_core.specs.declared.context.Context.{Context}
use Rattle.dcsctp_core.specs.declared.state.State.{State}
use Rattle.dcsctp_core.specs.Handling.{emitted_to}
use Rattle.dcsctp_core.specs.Reconfiguring.{request_renumbered, tcb_changed}
use Rattle.dcsctp_core.specs.View.{View, core_of, view_of}

-- a RE-CONFIG of this request
abbrev pub request_chunk : OutgoingSsnResetRequestParameter → ChunkContent
request_chunk request =
    re_config_chunk (outgoing_ssn_reset_request request.request_seq_nbr request.response_seq_nbr request.sender_last_assigned_tsn request.streams.now ∷ [])

-- its number, or the next one
abbrev pub number_if_new : Bool → ℕ → ℕ → ℕ
number_if_new false number next = number
number_if_new true number next = next

-- It takes the next number if it was sent under that, and else keeps its own.
abbrev pub renumbered_if_sent : Bool → Bool → State → State
renumbered_if_sent true true state = tcb_changed request_renumbered state
renumbered_if_sent true false state = state
renumbered_if_sent false is_new state = state

-- The request was sent to the peer, if there is one and the request fits `mtu`, which is answered; or an allocation failed, and
-- nothing has changed.
abbrev pub EmitsRequest : {R E : Type 0} → ChunkContent → Context R → Result Bool E → Context R → Type 0
EmitsRequest chunk old result new =
    ByResult (λ sent. (sent ≡ nat_le (common_header_size + length (chunk_bytes chunk)) (packet_size_limit old.options))
    × (view_of new ≡ emitted_to (held_by_core (core_of old.state)) chunk (view_of old)))
    (view_of new ≡ view_of old) result

-- The outstanding request is sent to the peer.
abbrev pub request_again_outcome : Endpoint → Option Held → Option OutstandingRequest → Outcome
request_again_outcome e (Some held) (Some request) = request_emitted e held held.own_outstanding (reset_again (Some request))
request_again_outcome e held request = still e

-- It is sent under the next number.
abbrev pub renewed_request_outcome : Endpoint → Option Held → Option OutstandingRequest → Outcome
renewed_request_outcome e (Some held) (Some request) = request_renewed e held held.own_outstanding (reset_again (Some request))
renewed_request_outcome e held request = still e

-- under its number, or under the next one
abbrev pub repeated_outcome : Bool → Endpoint → Outcome
repeated_outcome false e = request_again_outcome e (held_by_core e.core) e.outstanding
repeated_outcome true e = renewed_request_outcome e (held_by_core e.core) e.outstanding

abbrev pub repeated_turn : {R : Type 0} → Bool → View R → Outcome
repeated_turn is_new view = repeated_outcome is_new view.endpoint

-- That is so, unless the association is to be aborted.
abbrev pub unless_outcome : Bool → Bool → Endpoint → Outcome
unless_outcome true is_new e = still e
unless_outcome false is_new e = repeated_outcome is_new e

abbrev pub unless_turn : {R : Type 0} → Bool → View R → Outcome
unless_turn is_new view = unless_outcome (is_exhausted view.endpoint.options.max_retransmissions view.endpoint.error_count) is_new view.endpoint
