-- What the handlers of a shutdown do, as turns of a socket's view (RFC 9260, section 9.2).
use Rattle.std.specs.Prelude.{ℕ, Bool, true, false, Option, None, Some, [], ◌∷◌}
use Rattle.dcsctp_core.specs.types.declared.association.Pair.{Pair}
use Rattle.dcsctp_core.specs.types.declared.association.Held.{Held}
use Rattle.dcsctp_core.specs.spec.Packet.{shutdown_complete}
use Rattle.dcsctp_core.specs.spec.endpoint.Endpoint.{Endpoint, Core, cookie_echoed, open_in, OpenPhase, shutdown_pending, shutdown_sent, shutdown_received, held_by_core}
use Rattle.dcsctp_core.specs.spec.endpoint.Outcome.{Outcome, still, sends, to_peer}
use Rattle.dcsctp_core.specs.spec.endpoint.EndOutcomes.{reflected_outcome}
use Rattle.dcsctp_core.specs.spec.endpoint.ShutdownOutcomes.{sends_shutdown, sends_shutdown_ack, shutdown_is_sent, shutdown_ack_is_sent, step_outcome, step_from, t1_stopped, shut_down_outcome, shutdown_outcome, completed_outcome, shutdown_ack_outcome, shutdown_complete_outcome, shutdown_sent_again, shutdown_repeated}
use Rattle.dcsctp_core.specs.View.{View}

-- ---- one packet

abbrev pub to_held : (Endpoint → Held → Outcome) → Endpoint → Option Held → Outcome
to_held out e None = still e
to_held out e (Some held) = out e held

abbrev pub send_shutdown_turn : {R : Type 0} → View R → Outcome
send_shutdown_turn view = to_held sends_shutdown view.endpoint (held_by_core view.endpoint.core)

abbrev pub send_shutdown_ack_turn : {R : Type 0} → View R → Outcome
send_shutdown_ack_turn view = to_held sends_shutdown_ack view.endpoint (held_by_core view.endpoint.core)

abbrev pub sends_complete : Endpoint → Held → Outcome
sends_complete e held = sends e [] [] (to_peer held (shutdown_complete false))

abbrev pub complete_sent_turn : {R : Type 0} → View R → Outcome
complete_sent_turn view = to_held sends_complete view.endpoint (held_by_core view.endpoint.core)

-- It is sent with the T bit under this tag.
abbrev pub complete_reflected_turn : {R : Type 0} → ℕ → View R → Outcome
complete_reflected_turn tag view =
    sends view.endpoint [] [] (record { with_checksum = true; packet = record { tag = tag; contents = shutdown_complete true ∷ [] } })

-- ---- where an association is open

abbrev pub is_open_core : Core → Bool
is_open_core (open_in phase my held) = true
is_open_core core = false

-- no T2
abbrev pub t2_stopped : Endpoint → Endpoint
t2_stopped e = record e { timers = record e.timers { t2 = None } }

abbrev pub where_open : (Endpoint → OpenPhase → Pair → Held → Outcome) → Endpoint → Core → Outcome
where_open out e (open_in phase my held) = out e phase my held
where_open out e core = still e

abbrev pub shutdown_sent_turn : {R : Type 0} → View R → Outcome
shutdown_sent_turn view = where_open (λ e phase my held. shutdown_is_sent e my held) view.endpoint view.endpoint.core

abbrev pub ack_sent_turn : {R : Type 0} → View R → Outcome
ack_sent_turn view = where_open (λ e phase my held. shutdown_ack_is_sent e my held) view.endpoint view.endpoint.core

abbrev pub step_turn : {R : Type 0} → View R → Outcome
step_turn view = step_outcome view.endpoint view.endpoint.core

abbrev pub received_turn : {R : Type 0} → View R → Outcome
received_turn view = where_open (λ e phase my held. step_from (t2_stopped e) shutdown_received my held) view.endpoint view.endpoint.core

-- ---- the call

abbrev pub pending_outcome : Endpoint → Core → Outcome
pending_outcome e (cookie_echoed my held cookie) = step_from (t1_stopped e) shutdown_pending my held
pending_outcome e (open_in phase my held) = step_from (t2_stopped e) shutdown_pending my held
pending_outcome e core = still e

abbrev pub pending_turn : {R : Type 0} → View R → Outcome
pending_turn view = pending_outcome view.endpoint view.endpoint.core

abbrev pub shut_down_turn : {R : Type 0} → View R → Outcome
shut_down_turn view = shut_down_outcome view.endpoint view.endpoint.core

-- ---- chunks

abbrev pub shutdown_turn : {R : Type 0} → View R → Outcome
shutdown_turn view = shutdown_outcome view.endpoint view.endpoint.core

abbrev pub completed_turn : {R : Type 0} → View R → Outcome
completed_turn view = to_held completed_outcome view.endpoint (held_by_core view.endpoint.core)

abbrev pub reflected_turn : {R : Type 0} → ℕ → View R → Outcome
reflected_turn header view = reflected_outcome view.endpoint header

abbrev pub ack_turn : {R : Type 0} → ℕ → View R → Outcome
ack_turn header view = shutdown_ack_outcome view.endpoint view.endpoint.core header

abbrev pub complete_turn : {R : Type 0} → View R → Outcome
complete_turn view = shutdown_complete_outcome view.endpoint view.endpoint.core

-- ---- T2, and data

abbrev pub again_turn : {R : Type 0} → View R → Outcome
again_turn view = shutdown_sent_again view.endpoint view.endpoint.core

abbrev pub repeated_by_phase : Endpoint → OpenPhase → Pair → Held → Outcome
repeated_by_phase e shutdown_sent my held = shutdown_repeated e held
repeated_by_phase e phase my held = still e

abbrev pub shutdown_answer_turn : {R : Type 0} → View R → Outcome
shutdown_answer_turn view = where_open repeated_by_phase view.endpoint view.endpoint.core
