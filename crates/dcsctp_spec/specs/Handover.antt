-- Why a socket can't be handed over to another process now.
use Rattle.std.specs.Prelude.{ℕ, bit_or, is_some, Option, None, Some}
use Rattle.dcsctp_types.specs.declared.association.Held.{Held}
use Rattle.dcsctp_spec.specs.endpoint.Endpoint.{Endpoint, Core, OpenPhase, closed, cookie_wait, cookie_echoed, open_in, established, shutdown_pending, shutdown_sent, shutdown_received, shutdown_ack_sent}
use Rattle.dcsctp_types.specs.Readiness.{reason_if_true, wrong_connection_state, pending_stream_reset_request}
use Rattle.dcsctp_spec.specs.queues.Readiness.{queue_readiness, transfer_readiness}
use Rattle.dcsctp_spec.specs.queues.Transfer.{Transfer}

-- that of the transfer layer, once the peer is known
abbrev pub transfer_layer_readiness : Endpoint → Option Transfer → ℕ
transfer_layer_readiness e None = 0
transfer_layer_readiness e (Some transfer) = transfer_readiness e.options.enable_handover_with_outstanding_data transfer

-- by the phase of an open association
abbrev pub readiness_open : Endpoint → OpenPhase → Held → ℕ
readiness_open e established held =
    bit_or (queue_readiness e.options.enable_handover_with_outstanding_data e.queues.queue)
    (bit_or (reason_if_true (is_some held.own_outstanding) pending_stream_reset_request) (transfer_layer_readiness e e.queues.transfer))
readiness_open e shutdown_pending held = wrong_connection_state
readiness_open e shutdown_sent held = wrong_connection_state
readiness_open e shutdown_received held = wrong_connection_state
readiness_open e shutdown_ack_sent held = wrong_connection_state

abbrev pub readiness_by_core : Endpoint → Core → ℕ
readiness_by_core e closed = 0
readiness_by_core e (cookie_wait my) = wrong_connection_state
readiness_by_core e (cookie_echoed my held cookie) = wrong_connection_state
readiness_by_core e (open_in phase my held) = readiness_open e phase held

-- A closed socket is ready. Otherwise an association must be established; the reasons are those of its parts.
abbrev pub readiness_of : Endpoint → ℕ
readiness_of e = readiness_by_core e e.core
