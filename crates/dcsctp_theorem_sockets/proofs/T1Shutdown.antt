-- The turns of shutdown leave T1 running where the association connects.
use Rattle.std.proofs.Common.{ℕ, Bool, true, false, sym, subst}
use Rattle.dcsctp_spec_lemmas.specs.types.declared.association.Pair.{Pair}
use Rattle.dcsctp_spec_lemmas.specs.types.declared.association.Held.{Held}
use Rattle.dcsctp_spec_lemmas.specs.spec.endpoint.Endpoint.{Endpoint, Core, closed, cookie_wait, cookie_echoed, open_in, OpenPhase, established, shutdown_pending, shutdown_sent, shutdown_received, shutdown_ack_sent}
use Rattle.dcsctp_spec_lemmas.specs.spec.endpoint.Outcome.{Outcome}
use Rattle.dcsctp_spec_lemmas.specs.spec.endpoint.Turn.{BeginTurn}
use Rattle.dcsctp_spec_lemmas.specs.spec.endpoint.ShutdownOutcomes.{shut_down_echoed, endpoint_in_phase, may_continue_shutdown, step_if_acknowledged, step_outcome, t1_stopped, shut_down_outcome, shutdown_outcome, shutdown_ack_outcome, shutdown_complete_outcome, endpoint_with_t2_continued, shutdown_sent_again, t2_again_outcome}
use Rattle.dcsctp_theorem_sockets.proofs.T1Turns.{Up, UpAfter}

-- ---- a step of it

step_by_up : (b : Bool) (e : Endpoint) (phase : OpenPhase) (my : Pair) (held : Held) → Up e → UpAfter (step_if_acknowledged b e phase my held)
step_by_up false e phase my held h = h
step_by_up true e established my held h = h
step_by_up true e shutdown_pending my held h = tt
step_by_up true e shutdown_sent my held h = h
step_by_up true e shutdown_received my held h = tt
step_by_up true e shutdown_ack_sent my held h = h

pub step_up : (e : Endpoint) (core : Core) → Up e → UpAfter (step_outcome e core)
step_up e closed h = h
step_up e (cookie_wait my) h = h
step_up e (cookie_echoed my held cookie) h = h
step_up e (open_in phase my held) h = step_by_up (may_continue_shutdown e) e phase my held h

-- from another phase, in which it isn't awaited
step_from_up : (e : Endpoint) (phase : OpenPhase) (my : Pair) (held : Held) → UpAfter (step_if_acknowledged (may_continue_shutdown e) (endpoint_in_phase e phase my held) phase my held)
step_from_up e phase my held = step_by_up (may_continue_shutdown e) (endpoint_in_phase e phase my held) phase my held tt

-- ---- the user's call

echoed_up : (follows : Bool) (e : Endpoint) (my : Pair) (held : Held) → Up e → UpAfter (shut_down_echoed follows e my held)
echoed_up true e my held h = h
echoed_up false e my held h = step_from_up (t1_stopped e) shutdown_pending my held

pub shut_down_up : (e : Endpoint) (core : Core) → Up e → UpAfter (shut_down_outcome e core)
shut_down_up e closed h = h
shut_down_up e (cookie_wait my) h = tt
shut_down_up e (cookie_echoed my held cookie) h = echoed_up e.options.follow_rfc e my held h
shut_down_up e (open_in established my held) h = step_from_up e shutdown_pending my held
shut_down_up e (open_in shutdown_pending my held) h = h
shut_down_up e (open_in shutdown_sent my held) h = h
shut_down_up e (open_in shutdown_received my held) h = h
shut_down_up e (open_in shutdown_ack_sent my held) h = h

-- ---- chunks

pub shutdown_up : (e : Endpoint) (core : Core) → Up e → UpAfter (shutdown_outcome e core)
shutdown_up e closed h = h
shutdown_up e (cookie_wait my) h = h
shutdown_up e (cookie_echoed my held cookie) h = h
shutdown_up e (open_in established my held) h = step_from_up e shutdown_received my held
shutdown_up e (open_in shutdown_pending my held) h = step_from_up e shutdown_received my held
shutdown_up e (open_in shutdown_sent my held) h = tt
shutdown_up e (open_in shutdown_received my held) h = h
shutdown_up e (open_in shutdown_ack_sent my held) h = tt

pub shutdown_ack_up : (e : Endpoint) (core : Core) (tag : ℕ) → Up e → UpAfter (shutdown_ack_outcome e core tag)
shutdown_ack_up e closed tag h = h
shutdown_ack_up e (cookie_wait my) tag h = h
shutdown_ack_up e (cookie_echoed my held cookie) tag h = h
shutdown_ack_up e (open_in established my held) tag h = h
shutdown_ack_up e (open_in shutdown_pending my held) tag h = h
shutdown_ack_up e (open_in shutdown_sent my held) tag h = tt
shutdown_ack_up e (open_in shutdown_received my held) tag h = h
shutdown_ack_up e (open_in shutdown_ack_sent my held) tag h = tt

pub shutdown_complete_up : (e : Endpoint) (core : Core) → Up e → UpAfter (shutdown_complete_outcome e core)
shutdown_complete_up e closed h = h
shutdown_complete_up e (cookie_wait my) h = h
shutdown_complete_up e (cookie_echoed my held cookie) h = h
shutdown_complete_up e (open_in established my held) h = h
shutdown_complete_up e (open_in shutdown_pending my held) h = h
shutdown_complete_up e (open_in shutdown_sent my held) h = h
shutdown_complete_up e (open_in shutdown_received my held) h = h
shutdown_complete_up e (open_in shutdown_ack_sent my held) h = tt

-- ---- T2, and data while a SHUTDOWN waits for its answer

again_up : (e : Endpoint) (core : Core) → Up e → UpAfter (shutdown_sent_again e core)
again_up e closed h = h
again_up e (cookie_wait my) h = h
again_up e (cookie_echoed my held cookie) h = h
again_up e (open_in established my held) h = h
again_up e (open_in shutdown_pending my held) h = h
again_up e (open_in shutdown_sent my held) h = h
again_up e (open_in shutdown_received my held) h = h
again_up e (open_in shutdown_ack_sent my held) h = h

pub t2_again_up : (e : Endpoint) → Up e → UpAfter (t2_again_outcome e)
t2_again_up e h = again_up (endpoint_with_t2_continued e) e.core h

pub begin_up : (e : Endpoint) (core : Core) (has : Bool) (o : Outcome) → BeginTurn e core has o → Up e → UpAfter o
begin_up e closed has o turn h = subst UpAfter (sym turn) h
begin_up e (cookie_wait my) has o turn h = subst UpAfter (sym turn) h
begin_up e (cookie_echoed my held cookie) has o turn h = subst UpAfter (sym turn) h
begin_up e (open_in established my held) has o turn h = subst UpAfter (sym turn) h
begin_up e (open_in shutdown_pending my held) has o turn h = subst UpAfter (sym turn) h
begin_up e (open_in shutdown_sent my held) true o turn h = subst UpAfter (sym turn) h
begin_up e (open_in shutdown_sent my held) false o turn h = subst UpAfter (sym turn) h
begin_up e (open_in shutdown_received my held) has o turn h = subst UpAfter (sym turn) h
begin_up e (open_in shutdown_ack_sent my held) has o turn h = subst UpAfter (sym turn) h
