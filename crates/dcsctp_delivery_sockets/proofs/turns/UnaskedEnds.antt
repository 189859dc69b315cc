-- The turns of a shutdown, and ends: no request of the peer is accepted or performed.
use Rattle.std.proofs.Common.{◌≡◌, ℕ, Bool, true, false, Option, None, Some, List, [], refl}
use Rattle.dcsctp_spec_lemmas.specs.spec.endpoint.Cause.{Cause}
use Rattle.dcsctp_spec_lemmas.specs.types.declared.association.Held.{Held}
use Rattle.dcsctp_spec_lemmas.specs.types.declared.association.Pair.{Pair}
use Rattle.dcsctp_spec_lemmas.specs.types.declared.ends.AbortReason.{AbortReason}
use Rattle.dcsctp_spec_lemmas.specs.spec.endpoint.Endpoint.{Endpoint, Core, closed, cookie_wait, cookie_echoed, open_in, OpenPhase, established, shutdown_pending, shutdown_sent, shutdown_received, shutdown_ack_sent}
use Rattle.dcsctp_spec_lemmas.specs.spec.endpoint.Event as events
use Rattle.dcsctp_spec_lemmas.specs.spec.endpoint.Event.{Event, connected, connection_restarted, aborted}
use Rattle.dcsctp_spec_lemmas.specs.spec.endpoint.Outcome.{Outcome, quiet, sends, emits, to_peer}
use Rattle.dcsctp_spec_lemmas.specs.spec.Packet.{shutdown_complete}
use Rattle.dcsctp_spec_lemmas.specs.spec.endpoint.Turn.{BeginTurn}
use Rattle.dcsctp_spec_lemmas.specs.spec.endpoint.EndOutcomes.{abort_outcome, abort_to, aborting_outcome, end_of}
use Rattle.dcsctp_spec_lemmas.specs.spec.endpoint.HandoverOutcomes.{hand_over_outcome}
use Rattle.dcsctp_spec_lemmas.specs.spec.endpoint.HeardShutdown.{said_by_shutdown, acknowledges_by_shutdown, HearsValidShutdown, HearsShutdown, ShutdownTurn, open_association}
use Rattle.dcsctp_spec_lemmas.specs.spec.endpoint.ShutdownOutcomes.{shut_down_echoed, endpoint_in_phase, may_continue_shutdown, step_if_acknowledged, step_outcome, step_from, t1_stopped, shut_down_outcome, shutdown_outcome, shutdown_ack_outcome, shutdown_complete_outcome, shutdown_sent_again}
use Rattle.dcsctp_spec_lemmas.specs.spec.endpoint.TimerOutcomes.{t1_gives_up_outcome}
use Rattle.dcsctp_spec_lemmas.specs.spec.queues.Transfer.{Transfer}
use Rattle.dcsctp_spec_lemmas.proofs.AbortLemmas.{by_abort_outcome}
use Rattle.dcsctp_delivery_sockets.proofs.turns.Unasked.{acknowledges_asks}
use Rattle.dcsctp_delivery_sockets.proofs.turns.Waiting.{AsksNothing, as_this, rests, said, emitted, ended}

-- ---- shutdown

step_by_asks : (b : Bool) (e : Endpoint) (phase : OpenPhase) (my : Pair) (held : Held) → AsksNothing e.queues.transfer e.renewable (step_if_acknowledged b e phase my held)
step_by_asks false e phase my held = rests e
step_by_asks true e established my held = rests e
step_by_asks true e shutdown_pending my held = said e _ tt refl refl
step_by_asks true e shutdown_sent my held = rests e
step_by_asks true e shutdown_received my held = said e _ tt refl refl
step_by_asks true e shutdown_ack_sent my held = rests e

pub step_asks : (e : Endpoint) (core : Core) → AsksNothing e.queues.transfer e.renewable (step_outcome e core)
step_asks e closed = rests e
step_asks e (cookie_wait my) = rests e
step_asks e (cookie_echoed my held cookie) = rests e
step_asks e (open_in phase my held) = step_by_asks (may_continue_shutdown e) e phase my held

from_asks : (e : Endpoint) (phase : OpenPhase) (my : Pair) (held : Held) → AsksNothing e.queues.transfer e.renewable (step_from e phase my held)
from_asks e phase my held = step_by_asks (may_continue_shutdown e) (endpoint_in_phase e phase my held) phase my held

echoed_asks : (follows : Bool) (e : Endpoint) (my : Pair) (held : Held) → AsksNothing e.queues.transfer e.renewable (shut_down_echoed follows e my held)
echoed_asks true e my held = rests (record e { shutdown_asked = true })
echoed_asks false e my held = from_asks (t1_stopped e) shutdown_pending my held

pub shut_down_asks : (e : Endpoint) (core : Core) → AsksNothing e.queues.transfer e.renewable (shut_down_outcome e core)
shut_down_asks e closed = rests e
shut_down_asks e (cookie_wait my) = ended e.queues.transfer e.renewable (quiet e [] []) events.closed tt
shut_down_asks e (cookie_echoed my held cookie) = echoed_asks e.options.follow_rfc e my held
shut_down_asks e (open_in established my held) = from_asks e shutdown_pending my held
shut_down_asks e (open_in shutdown_pending my held) = rests e
shut_down_asks e (open_in shutdown_sent my held) = rests e
shut_down_asks e (open_in shutdown_received my held) = rests e
shut_down_asks e (open_in shutdown_ack_sent my held) = rests e

shutdown_asks : (e : Endpoint) (core : Core) → AsksNothing e.queues.transfer e.renewable (shutdown_outcome e core)
shutdown_asks e closed = rests e
shutdown_asks e (cookie_wait my) = rests e
shutdown_asks e (cookie_echoed my held cookie) = rests e
shutdown_asks e (open_in established my held) = from_asks e shutdown_received my held
shutdown_asks e (open_in shutdown_pending my held) = from_asks e shutdown_received my held
shutdown_asks e (open_in shutdown_sent my held) = said e _ tt refl refl
shutdown_asks e (open_in shutdown_received my held) = rests e
shutdown_asks e (open_in shutdown_ack_sent my held) = said e _ tt refl refl

heard_where_asks : (b : Bool) (e : Endpoint) (phase : OpenPhase) (my : Pair) (held : Held) (transfer : Transfer) (tsn : ℕ) (o : Outcome) → e.queues.transfer ≡ Some transfer
    → HearsValidShutdown b e (open_association phase my held) transfer tsn o → AsksNothing e.queues.transfer e.renewable o
heard_where_asks true e phase my held transfer tsn o known turn = acknowledges_asks (endpoint_in_phase e shutdown_received my held) held transfer (said_by_shutdown tsn transfer.retransmission) o known turn
heard_where_asks false e phase my held transfer tsn o known turn = as_this e.queues.transfer e.renewable o _ turn (shutdown_asks e (open_in phase my held))

heard_by_asks : (e : Endpoint) (phase : OpenPhase) (my : Pair) (held : Held) (found : Option Transfer) (tsn : ℕ) (o : Outcome) → e.queues.transfer ≡ found → HearsShutdown e phase my held found tsn o
    → AsksNothing e.queues.transfer e.renewable o
heard_by_asks e phase my held None tsn o known turn = as_this e.queues.transfer e.renewable o _ turn (shutdown_asks e (open_in phase my held))
heard_by_asks e phase my held (Some transfer) tsn o known turn = heard_where_asks (acknowledges_by_shutdown e.options phase transfer tsn) e phase my held transfer tsn o known turn

pub heard_asks : (e : Endpoint) (core : Core) (tsn : ℕ) (o : Outcome) → ShutdownTurn e core tsn o → AsksNothing e.queues.transfer e.renewable o
heard_asks e closed tsn o turn = as_this e.queues.transfer e.renewable o _ turn (shutdown_asks e closed)
heard_asks e (cookie_wait my) tsn o turn = as_this e.queues.transfer e.renewable o _ turn (shutdown_asks e (cookie_wait my))
heard_asks e (cookie_echoed my held cookie) tsn o turn = as_this e.queues.transfer e.renewable o _ turn (shutdown_asks e (cookie_echoed my held cookie))
heard_asks e (open_in phase my held) tsn o turn = heard_by_asks e phase my held e.queues.transfer tsn o refl turn

pub shutdown_ack_asks : (e : Endpoint) (core : Core) (tag : ℕ) → AsksNothing e.queues.transfer e.renewable (shutdown_ack_outcome e core tag)
shutdown_ack_asks e closed tag = said e _ tt refl refl
shutdown_ack_asks e (cookie_wait my) tag = said e _ tt refl refl
shutdown_ack_asks e (cookie_echoed my held cookie) tag = said e _ tt refl refl
shutdown_ack_asks e (open_in established my held) tag = said e _ tt refl refl
shutdown_ack_asks e (open_in shutdown_pending my held) tag = said e _ tt refl refl
shutdown_ack_asks e (open_in shutdown_sent my held) tag = ended e.queues.transfer e.renewable (sends e [] [] (to_peer held (shutdown_complete false))) events.closed tt
shutdown_ack_asks e (open_in shutdown_received my held) tag = said e _ tt refl refl
shutdown_ack_asks e (open_in shutdown_ack_sent my held) tag = ended e.queues.transfer e.renewable (sends e [] [] (to_peer held (shutdown_complete false))) events.closed tt

pub shutdown_complete_asks : (e : Endpoint) (core : Core) → AsksNothing e.queues.transfer e.renewable (shutdown_complete_outcome e core)
shutdown_complete_asks e closed = rests e
shutdown_complete_asks e (cookie_wait my) = rests e
shutdown_complete_asks e (cookie_echoed my held cookie) = rests e
shutdown_complete_asks e (open_in established my held) = rests e
shutdown_complete_asks e (open_in shutdown_pending my held) = rests e
shutdown_complete_asks e (open_in shutdown_sent my held) = rests e
shutdown_complete_asks e (open_in shutdown_received my held) = rests e
shutdown_complete_asks e (open_in shutdown_ack_sent my held) = ended e.queues.transfer e.renewable (quiet e [] []) events.closed tt

pub repeats_ask : (e : Endpoint) (core : Core) → AsksNothing e.queues.transfer e.renewable (shutdown_sent_again e core)
repeats_ask e closed = rests e
repeats_ask e (cookie_wait my) = rests e
repeats_ask e (cookie_echoed my held cookie) = rests e
repeats_ask e (open_in established my held) = rests e
repeats_ask e (open_in shutdown_pending my held) = rests e
repeats_ask e (open_in shutdown_sent my held) = said e _ tt refl refl
repeats_ask e (open_in shutdown_received my held) = rests e
repeats_ask e (open_in shutdown_ack_sent my held) = said e _ tt refl refl

pub begin_asks : (e : Endpoint) (core : Core) (has : Bool) (o : Outcome) → BeginTurn e core has o → AsksNothing e.queues.transfer e.renewable o
begin_asks e closed has o turn = as_this e.queues.transfer e.renewable o _ turn (rests e)
begin_asks e (cookie_wait my) has o turn = as_this e.queues.transfer e.renewable o _ turn (rests e)
begin_asks e (cookie_echoed my held cookie) has o turn = as_this e.queues.transfer e.renewable o _ turn (rests e)
begin_asks e (open_in established my held) has o turn = as_this e.queues.transfer e.renewable o _ turn (rests e)
begin_asks e (open_in shutdown_pending my held) has o turn = as_this e.queues.transfer e.renewable o _ turn (rests e)
begin_asks e (open_in shutdown_sent my held) true o turn = as_this e.queues.transfer e.renewable o _ turn (said e _ tt refl refl)
begin_asks e (open_in shutdown_sent my held) false o turn = as_this e.queues.transfer e.renewable o _ turn (rests e)
begin_asks e (open_in shutdown_received my held) has o turn = as_this e.queues.transfer e.renewable o _ turn (rests e)
begin_asks e (open_in shutdown_ack_sent my held) has o turn = as_this e.queues.transfer e.renewable o _ turn (rests e)

-- ---- ends

pub abort_asks : (e : Endpoint) (causes : List Cause) (core : Core) → AsksNothing e.queues.transfer e.renewable (abort_outcome e causes core)
abort_asks e causes core = by_abort_outcome (AsksNothing e.queues.transfer e.renewable) e causes core (ended e.queues.transfer e.renewable (quiet e [] []) _ tt) (rests e)

pub aborting_asks : (e : Endpoint) (core : Core) (reason : AbortReason) → AsksNothing e.queues.transfer e.renewable (aborting_outcome e core reason)
aborting_asks e closed reason = rests e
aborting_asks e (cookie_wait my) reason = ended e.queues.transfer e.renewable (quiet e [] []) (end_of reason) tt
aborting_asks e (cookie_echoed my held cookie) reason = ended e.queues.transfer e.renewable (emits e [] (abort_to held reason)) (end_of reason) (emitted e [] (abort_to held reason)).none
aborting_asks e (open_in phase my held) reason = ended e.queues.transfer e.renewable (emits e [] (abort_to held reason)) (end_of reason) (emitted e [] (abort_to held reason)).none

pub gives_up_asks : (e : Endpoint) (core : Core) → AsksNothing e.queues.transfer e.renewable (t1_gives_up_outcome e core)
gives_up_asks e closed = rests e
gives_up_asks e (cookie_wait my) = ended e.queues.transfer e.renewable (quiet e [] []) _ tt
gives_up_asks e (cookie_echoed my held cookie) = ended e.queues.transfer e.renewable (quiet e [] []) _ tt
gives_up_asks e (open_in phase my held) = rests e

pub hand_over_asks : (e : Endpoint) (core : Core) → AsksNothing e.queues.transfer e.renewable (hand_over_outcome e core)
hand_over_asks e closed = rests e
hand_over_asks e (cookie_wait my) = rests e
hand_over_asks e (cookie_echoed my held cookie) = rests e
hand_over_asks e (open_in established my held) = ended e.queues.transfer e.renewable (quiet e [] []) events.closed tt
hand_over_asks e (open_in shutdown_pending my held) = rests e
hand_over_asks e (open_in shutdown_sent my held) = rests e
hand_over_asks e (open_in shutdown_received my held) = rests e
hand_over_asks e (open_in shutdown_ack_sent my held) = rests e
