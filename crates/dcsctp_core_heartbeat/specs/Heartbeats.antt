-- What the handlers of heartbeats do, as turns of a socket's view (RFC 9260, section 8.3).
use Rattle.std.specs.Prelude.{List}
use Rattle.dcsctp_core.specs.wire.Content.{ParameterContent}
use Rattle.dcsctp_core.specs.spec.endpoint.Endpoint.{Endpoint, Core, cookie_echoed, open_in}
use Rattle.dcsctp_core.specs.spec.endpoint.Outcome.{Outcome, still}
use Rattle.dcsctp_core.specs.spec.endpoint.HeartbeatOutcomes.{heartbeat_outcome, first_heartbeat_info, counter_of, heartbeat_ack_outcome, beat}
use Rattle.dcsctp_core.specs.View.{View}

-- A HEARTBEAT with these parameters was received.
abbrev pub heartbeat_turn : {R : Type 0} → List ParameterContent → View R → Outcome
heartbeat_turn parameters view = heartbeat_outcome view.endpoint view.endpoint.core parameters

-- A HEARTBEAT ACK with these parameters was received.
abbrev pub heartbeat_ack_turn : {R : Type 0} → List ParameterContent → View R → Outcome
heartbeat_ack_turn parameters view = heartbeat_ack_outcome view.endpoint (counter_of (first_heartbeat_info parameters))

-- The next HEARTBEAT is sent, if the peer is known.
abbrev pub beat_outcome : Endpoint → Core → Outcome
beat_outcome e (cookie_echoed my held cookie) = beat e held
beat_outcome e (open_in phase my held) = beat e held
beat_outcome e core = still e

abbrev pub beat_turn : {R : Type 0} → View R → Outcome
beat_turn view = beat_outcome view.endpoint view.endpoint.core
