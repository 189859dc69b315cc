-- The turns of shutdown leave numbers that fit their fields, and send what is read as itself.
use Rattle.std.proofs.Common.{◌<◌, ◌^◌, ℕ, Bool, true, false, Option, None, Some, [], ◌∷◌, refl, sym, subst, arith}
use Rattle.dcsctp_spec_lemmas.specs.wire.Fields.{cause_of}
use Rattle.dcsctp_spec_lemmas.specs.wire.Spelling.{parameters_len}
use Rattle.dcsctp_spec_lemmas.specs.types.declared.association.Pair.{Pair}
use Rattle.dcsctp_spec_lemmas.specs.types.declared.association.Held.{Held}
use Rattle.dcsctp_spec_lemmas.specs.spec.endpoint.Cause.{cookie_received_while_shutting_down}
use Rattle.dcsctp_spec_lemmas.specs.spec.Packet.{error_of, Content, shutdown, shutdown_ack, shutdown_complete, plain}
use Rattle.dcsctp_spec_lemmas.specs.spec.queues.Transfer.{Transfer}
use Rattle.dcsctp_spec_lemmas.specs.spec.endpoint.Endpoint.{Endpoint, Core, closed, cookie_wait, cookie_echoed, open_in, OpenPhase, established, shutdown_pending, shutdown_sent, shutdown_received, shutdown_ack_sent}
use Rattle.dcsctp_spec_lemmas.specs.spec.endpoint.Outcome.{Outcome, sends, to_peer}
use Rattle.dcsctp_spec_lemmas.specs.spec.endpoint.Turn.{BeginTurn}
use Rattle.dcsctp_spec_lemmas.specs.spec.association.CookieEchoChanges.{stale_error}
use Rattle.dcsctp_spec_lemmas.specs.spec.endpoint.CookieEchoOutcomes.{refused_restart_outcome}
use Rattle.dcsctp_spec_lemmas.specs.spec.endpoint.EndOutcomes.{reflected_outcome}
use Rattle.dcsctp_spec_lemmas.specs.spec.endpoint.ShutdownOutcomes.{shut_down_echoed, received_tsn, endpoint_in_phase, t2_begun, endpoint_with_t2_continued, may_continue_shutdown, step_if_acknowledged, step_outcome, t1_stopped, shut_down_outcome, shutdown_outcome, shutdown_ack_outcome, shutdown_complete_outcome, shutdown_sent_again, t2_again_outcome, shutdown_repeated}
use Rattle.dcsctp_spec_runs.specs.Fitting.{FitsHeld, FitsCore, FitsEndpoint, Sendable, TurnFits}
use Rattle.dcsctp_spec_lemmas.specs.spec.CookieFits.{FitsPair}
use Rattle.dcsctp_theorem_sockets.proofs.FlushFits.{still_fits}

-- ---- what is sent

received_fits : (transfer : Option Transfer) → received_tsn transfer < 2 ^ 32
received_fits None = omega arith
received_fits (Some transfer) = omega arith

shutdown_sendable : (transfer : Option Transfer) → Sendable (shutdown (received_tsn transfer))
shutdown_sendable transfer = record { fits = received_fits transfer; reads = refl; said = tt }

pub shutdown_ack_sendable : Sendable shutdown_ack
shutdown_ack_sendable = record { fits = tt; reads = refl; said = tt }

completed_sendable : (reflected : Bool) → Sendable (shutdown_complete reflected)
completed_sendable reflected = record { fits = tt; reads = refl; said = tt }

pub while_ending_sendable : Sendable (plain (error_of (cookie_received_while_shutting_down ∷ [])))
unfolding parameters_len
while_ending_sendable = record { fits = record { len_fits = omega arith; causes_fit = (tt, tt) }; reads = refl; said = tt }

pub stale_sendable : Sendable stale_error
unfolding parameters_len cause_of
stale_sendable =
    let byte : 0 < 2 ^ 8 = omega arith in
    record {
      fits = record {
        len_fits = omega arith;
        causes_fit = (record { code_fits = omega arith; read_as_unknown = refl; value_in_bytes = (byte, (byte, (byte, (byte, tt)))) }, tt);
      };
      reads = refl;
      said = tt;
    }

-- one packet to the peer
to_peer_fits : (e : Endpoint) (held : Held) (content : Content) → FitsEndpoint e → FitsHeld held → Sendable content → TurnFits (sends e [] [] (to_peer held content))
to_peer_fits e held content h fits good =
    record { after = record { valid = h.valid; options = h.options; core = h.core; t1 = h.t1 }; sends = (record { tag = fits.peer.tag; contents = (good, tt) }, tt) }

-- ---- a step of it

-- the endpoint in another phase, with T2
begun_fits : (e : Endpoint) (phase : OpenPhase) (my : Pair) (held : Held) → FitsEndpoint e → FitsPair my → FitsHeld held → FitsEndpoint (t2_begun (endpoint_in_phase e phase my held))
begun_fits e phase my held h own fits = record { valid = h.valid; options = h.options; core = (own, fits); t1 = tt }

asks_fit : (e : Endpoint) (my : Pair) (held : Held) → FitsEndpoint e → FitsPair my → FitsHeld held
    → TurnFits (sends (t2_begun (endpoint_in_phase e shutdown_sent my held)) [] [] (to_peer held (shutdown (received_tsn e.queues.transfer))))
asks_fit e my held h own fits =
    to_peer_fits (t2_begun (endpoint_in_phase e shutdown_sent my held)) held (shutdown (received_tsn e.queues.transfer)) (begun_fits e shutdown_sent my held h own fits) fits (shutdown_sendable e.queues.transfer)

answers_fit : (e : Endpoint) (my : Pair) (held : Held) → FitsEndpoint e → FitsPair my → FitsHeld held → TurnFits (sends (t2_begun (endpoint_in_phase e shutdown_ack_sent my held)) [] [] (to_peer held shutdown_ack))
answers_fit e my held h own fits = to_peer_fits (t2_begun (endpoint_in_phase e shutdown_ack_sent my held)) held shutdown_ack (begun_fits e shutdown_ack_sent my held h own fits) fits shutdown_ack_sendable

step_by_fits : (b : Bool) (e : Endpoint) (phase : OpenPhase) (my : Pair) (held : Held) → FitsEndpoint e → FitsPair my → FitsHeld held → TurnFits (step_if_acknowledged b e phase my held)
step_by_fits false e phase my held h own fits = still_fits e h
step_by_fits true e established my held h own fits = still_fits e h
step_by_fits true e shutdown_pending my held h own fits = asks_fit e my held h own fits
step_by_fits true e shutdown_sent my held h own fits = still_fits e h
step_by_fits true e shutdown_received my held h own fits = answers_fit e my held h own fits
step_by_fits true e shutdown_ack_sent my held h own fits = still_fits e h

pub step_fits : (e : Endpoint) (core : Core) → FitsEndpoint e → FitsCore core → TurnFits (step_outcome e core)
step_fits e closed h own = still_fits e h
step_fits e (cookie_wait my) h own = still_fits e h
step_fits e (cookie_echoed my held cookie) h own = still_fits e h
step_fits e (open_in phase my held) h own = step_by_fits (may_continue_shutdown e) e phase my held h own.0 own.1

step_from_fits : (e : Endpoint) (phase : OpenPhase) (my : Pair) (held : Held) → FitsEndpoint e → FitsPair my → FitsHeld held
    → TurnFits (step_if_acknowledged (may_continue_shutdown e) (endpoint_in_phase e phase my held) phase my held)
step_from_fits e phase my held h own fits =
    step_by_fits (may_continue_shutdown e) (endpoint_in_phase e phase my held) phase my held (record { valid = h.valid; options = h.options; core = (own, fits); t1 = tt }) own fits

-- ---- the user's call

-- as above, where T1 runs no longer
stopped_fits : (e : Endpoint) (my : Pair) (held : Held) → FitsEndpoint e → FitsPair my → FitsHeld held
    → TurnFits (step_if_acknowledged (may_continue_shutdown e) (endpoint_in_phase (t1_stopped e) shutdown_pending my held) shutdown_pending my held)
stopped_fits e my held h own fits =
    step_by_fits (may_continue_shutdown e) (endpoint_in_phase (t1_stopped e) shutdown_pending my held) shutdown_pending my held
    (record { valid = h.valid; options = h.options; core = (own, fits); t1 = tt }) own fits

echoed_fits : (follows : Bool) (e : Endpoint) (my : Pair) (held : Held) → FitsEndpoint e → FitsPair my → FitsHeld held → TurnFits (shut_down_echoed follows e my held)
echoed_fits true e my held h own fits =
    record { after = record { valid = h.valid; options = h.options; core = h.core; t1 = h.t1 }; sends = tt }
echoed_fits false e my held h own fits = stopped_fits e my held h own fits

pub shut_down_fits : (e : Endpoint) (core : Core) → FitsEndpoint e → FitsCore core → TurnFits (shut_down_outcome e core)
shut_down_fits e closed h own = still_fits e h
shut_down_fits e (cookie_wait my) h own = record { after = record { valid = h.valid; options = h.options; core = tt; t1 = tt }; sends = (tt, tt) }
shut_down_fits e (cookie_echoed my held cookie) h own = echoed_fits e.options.follow_rfc e my held h own.0 own.1
shut_down_fits e (open_in established my held) h own = step_from_fits e shutdown_pending my held h own.0 own.1
shut_down_fits e (open_in shutdown_pending my held) h own = still_fits e h
shut_down_fits e (open_in shutdown_sent my held) h own = still_fits e h
shut_down_fits e (open_in shutdown_received my held) h own = still_fits e h
shut_down_fits e (open_in shutdown_ack_sent my held) h own = still_fits e h

-- ---- chunks

pub shutdown_fits : (e : Endpoint) (core : Core) → FitsEndpoint e → FitsCore core → TurnFits (shutdown_outcome e core)
shutdown_fits e closed h own = still_fits e h
shutdown_fits e (cookie_wait my) h own = still_fits e h
shutdown_fits e (cookie_echoed my held cookie) h own = still_fits e h
shutdown_fits e (open_in established my held) h own = step_from_fits e shutdown_received my held h own.0 own.1
shutdown_fits e (open_in shutdown_pending my held) h own = step_from_fits e shutdown_received my held h own.0 own.1
shutdown_fits e (open_in shutdown_sent my held) h own = answers_fit e my held h own.0 own.1
shutdown_fits e (open_in shutdown_received my held) h own = still_fits e h
shutdown_fits e (open_in shutdown_ack_sent my held) h own = answers_fit e my held h own.0 own.1

reflected_fits : (e : Endpoint) (tag : ℕ) → FitsEndpoint e → tag < 2 ^ 32 → TurnFits (reflected_outcome e tag)
reflected_fits e tag h fits =
    record { after = record { valid = h.valid; options = h.options; core = h.core; t1 = h.t1 }; sends = (record { tag = fits; contents = (completed_sendable true, tt) }, tt) }

-- A SHUTDOWN COMPLETE is sent under the tag of the packet, or, where the SHUTDOWN ACK was awaited, under the peer's.
pub shutdown_ack_fits : (e : Endpoint) (core : Core) (tag : ℕ) → FitsEndpoint e → FitsCore core → tag < 2 ^ 32 → TurnFits (shutdown_ack_outcome e core tag)
shutdown_ack_fits e closed tag h own fits = reflected_fits e tag h fits
shutdown_ack_fits e (cookie_wait my) tag h own fits = reflected_fits e tag h fits
shutdown_ack_fits e (cookie_echoed my held cookie) tag h own fits = reflected_fits e tag h fits
shutdown_ack_fits e (open_in established my held) tag h own fits = reflected_fits e tag h fits
shutdown_ack_fits e (open_in shutdown_pending my held) tag h own fits = reflected_fits e tag h fits
shutdown_ack_fits e (open_in shutdown_sent my held) tag h own fits =
    record { after = record { valid = h.valid; options = h.options; core = tt; t1 = tt }; sends = (record { tag = own.1.peer.tag; contents = (completed_sendable false, tt) }, (tt, tt)) }
shutdown_ack_fits e (open_in shutdown_received my held) tag h own fits = reflected_fits e tag h fits
shutdown_ack_fits e (open_in shutdown_ack_sent my held) tag h own fits =
    record { after = record { valid = h.valid; options = h.options; core = tt; t1 = tt }; sends = (record { tag = own.1.peer.tag; contents = (completed_sendable false, tt) }, (tt, tt)) }

pub shutdown_complete_fits : (e : Endpoint) (core : Core) → FitsEndpoint e → TurnFits (shutdown_complete_outcome e core)
shutdown_complete_fits e closed h = still_fits e h
shutdown_complete_fits e (cookie_wait my) h = still_fits e h
shutdown_complete_fits e (cookie_echoed my held cookie) h = still_fits e h
shutdown_complete_fits e (open_in established my held) h = still_fits e h
shutdown_complete_fits e (open_in shutdown_pending my held) h = still_fits e h
shutdown_complete_fits e (open_in shutdown_sent my held) h = still_fits e h
shutdown_complete_fits e (open_in shutdown_received my held) h = still_fits e h
shutdown_complete_fits e (open_in shutdown_ack_sent my held) h = record { after = record { valid = h.valid; options = h.options; core = tt; t1 = tt }; sends = (tt, tt) }

-- A restart while a SHUTDOWN ACK waits for its answer is answered by it, and an ERROR.
pub refused_restart_fits : (e : Endpoint) (held : Held) → FitsEndpoint e → FitsHeld held → TurnFits (refused_restart_outcome e held)
refused_restart_fits e held h fits =
    record {
      after = record { valid = h.valid; options = h.options; core = h.core; t1 = h.t1 };
      sends = (record { tag = fits.peer.tag; contents = (shutdown_ack_sendable, (while_ending_sendable, tt)) }, (tt, tt));
    }

-- ---- T2, and data while a SHUTDOWN waits for its answer

again_fits : (e : Endpoint) (core : Core) → FitsEndpoint e → FitsCore core → TurnFits (shutdown_sent_again e core)
again_fits e closed h own = still_fits e h
again_fits e (cookie_wait my) h own = still_fits e h
again_fits e (cookie_echoed my held cookie) h own = still_fits e h
again_fits e (open_in established my held) h own = still_fits e h
again_fits e (open_in shutdown_pending my held) h own = still_fits e h
again_fits e (open_in shutdown_sent my held) h own = to_peer_fits e held (shutdown (received_tsn e.queues.transfer)) h own.1 (shutdown_sendable e.queues.transfer)
again_fits e (open_in shutdown_received my held) h own = still_fits e h
again_fits e (open_in shutdown_ack_sent my held) h own = to_peer_fits e held shutdown_ack h own.1 shutdown_ack_sendable

pub t2_again_fits : (e : Endpoint) → FitsEndpoint e → TurnFits (t2_again_outcome e)
t2_again_fits e h = again_fits (endpoint_with_t2_continued e) e.core (record { valid = h.valid; options = h.options; core = h.core; t1 = h.t1 }) h.core

repeated_fits : (e : Endpoint) (held : Held) → FitsEndpoint e → FitsHeld held → TurnFits (shutdown_repeated e held)
repeated_fits e held h fits =
    to_peer_fits (t2_begun e) held (shutdown (received_tsn e.queues.transfer)) (record { valid = h.valid; options = h.options; core = h.core; t1 = h.t1 }) fits (shutdown_sendable e.queues.transfer)

-- The turn before the chunks of a packet sends a SHUTDOWN at most.
pub begin_fits : (e : Endpoint) (core : Core) (has : Bool) (o : Outcome) → FitsEndpoint e → FitsCore core → BeginTurn e core has o → TurnFits o
begin_fits e closed has o h own turn = subst TurnFits (sym turn) (still_fits e h)
begin_fits e (cookie_wait my) has o h own turn = subst TurnFits (sym turn) (still_fits e h)
begin_fits e (cookie_echoed my held cookie) has o h own turn = subst TurnFits (sym turn) (still_fits e h)
begin_fits e (open_in established my held) has o h own turn = subst TurnFits (sym turn) (still_fits e h)
begin_fits e (open_in shutdown_pending my held) has o h own turn = subst TurnFits (sym turn) (still_fits e h)
begin_fits e (open_in shutdown_sent my held) true o h own turn = subst TurnFits (sym turn) (repeated_fits e held h own.1)
begin_fits e (open_in shutdown_sent my held) false o h own turn = subst TurnFits (sym turn) (still_fits e h)
begin_fits e (open_in shutdown_received my held) has o h own turn = subst TurnFits (sym turn) (still_fits e h)
begin_fits e (open_in shutdown_ack_sent my held) has o h own turn = subst TurnFits (sym turn) (still_fits e h)
