-- How many packets the turns of shutdown send.
use Rattle.std.proofs.Common.{◌≡◌, ℕ, Bool, true, false, not, ◌&&◌, sym, subst, ap}
use Rattle.dcsctp_spec_lemmas.specs.types.declared.association.Pair.{Pair}
use Rattle.dcsctp_spec_lemmas.specs.types.declared.association.Held.{Held}
use Rattle.dcsctp_spec_lemmas.specs.spec.endpoint.Endpoint.{Endpoint, Core, closed, cookie_wait, cookie_echoed, open_in, OpenPhase, established, shutdown_pending, shutdown_sent, shutdown_received, shutdown_ack_sent}
use Rattle.dcsctp_spec_lemmas.specs.spec.endpoint.Outcome.{Outcome}
use Rattle.dcsctp_spec_lemmas.specs.spec.endpoint.Turn.{BeginTurn}
use Rattle.dcsctp_spec_lemmas.specs.spec.endpoint.ShutdownOutcomes.{shut_down_echoed, endpoint_in_phase, is_all_acknowledged, waits_for_abandoned, waits_for_queue, may_continue_shutdown, step_if_acknowledged, step_outcome, t1_stopped, shut_down_outcome, shutdown_outcome, shutdown_ack_outcome, shutdown_complete_outcome, endpoint_with_t2_continued, shutdown_sent_again, t2_again_outcome}
use Rattle.dcsctp_theorem_sockets.proofs.Bursts.{Few, none, one, HasPeer}

-- ---- a step of it

step_by_few : (b : Bool) (e : Endpoint) (phase : OpenPhase) (my : Pair) (held : Held) → Few 1 (step_if_acknowledged b e phase my held)
step_by_few false e phase my held = none 1
step_by_few true e established my held = none 1
step_by_few true e shutdown_pending my held = one 0
step_by_few true e shutdown_sent my held = none 1
step_by_few true e shutdown_received my held = one 0
step_by_few true e shutdown_ack_sent my held = none 1

pub step_few : (e : Endpoint) (core : Core) → Few 1 (step_outcome e core)
step_few e closed = none 1
step_few e (cookie_wait my) = none 1
step_few e (cookie_echoed my held cookie) = none 1
step_few e (open_in phase my held) = step_by_few (may_continue_shutdown e) e phase my held

-- It waits until all is acknowledged.
waits_by : (b : Bool) (e : Endpoint) (phase : OpenPhase) (my : Pair) (held : Held) → b ≡ false → Few 0 (step_if_acknowledged b e phase my held)
waits_by false e phase my held is = none 0
waits_by true e phase my held is = absurd (cc)

pub step_waits : (e : Endpoint) (core : Core) → is_all_acknowledged e.queues.transfer ≡ false → Few 0 (step_outcome e core)
step_waits e closed is = none 0
step_waits e (cookie_wait my) is = none 0
step_waits e (cookie_echoed my held cookie) is = none 0
step_waits e (open_in phase my held) is = waits_by (may_continue_shutdown e) e phase my held (ap (λ (b : Bool). b && not (waits_for_queue e) && not (waits_for_abandoned e)) is)

-- The peer stays known.
step_by_peer : (b : Bool) (e : Endpoint) (phase : OpenPhase) (my : Pair) (held : Held) → HasPeer e.core → HasPeer (step_if_acknowledged b e phase my held).after.core
step_by_peer false e phase my held peer = peer
step_by_peer true e established my held peer = peer
step_by_peer true e shutdown_pending my held peer = tt
step_by_peer true e shutdown_sent my held peer = peer
step_by_peer true e shutdown_received my held peer = tt
step_by_peer true e shutdown_ack_sent my held peer = peer

pub step_peer : (e : Endpoint) (core : Core) → HasPeer e.core → HasPeer (step_outcome e core).after.core
step_peer e closed peer = peer
step_peer e (cookie_wait my) peer = peer
step_peer e (cookie_echoed my held cookie) peer = peer
step_peer e (open_in phase my held) peer = step_by_peer (may_continue_shutdown e) e phase my held peer

-- from another phase
step_from_few : (e : Endpoint) (phase : OpenPhase) (my : Pair) (held : Held) → Few 1 (step_if_acknowledged (may_continue_shutdown e) (endpoint_in_phase e phase my held) phase my held)
step_from_few e phase my held = step_by_few (may_continue_shutdown e) (endpoint_in_phase e phase my held) phase my held

-- ---- the user's call

echoed_few : (follows : Bool) (e : Endpoint) (my : Pair) (held : Held) → Few 1 (shut_down_echoed follows e my held)
echoed_few true e my held = none 1
echoed_few false e my held = step_from_few (t1_stopped e) shutdown_pending my held

pub shut_down_few : (e : Endpoint) (core : Core) → Few 1 (shut_down_outcome e core)
shut_down_few e closed = none 1
shut_down_few e (cookie_wait my) = none 1
shut_down_few e (cookie_echoed my held cookie) = echoed_few e.options.follow_rfc e my held
shut_down_few e (open_in established my held) = step_from_few e shutdown_pending my held
shut_down_few e (open_in shutdown_pending my held) = none 1
shut_down_few e (open_in shutdown_sent my held) = none 1
shut_down_few e (open_in shutdown_received my held) = none 1
shut_down_few e (open_in shutdown_ack_sent my held) = none 1

-- ---- chunks

pub shutdown_few : (e : Endpoint) (core : Core) → Few 1 (shutdown_outcome e core)
shutdown_few e closed = none 1
shutdown_few e (cookie_wait my) = none 1
shutdown_few e (cookie_echoed my held cookie) = none 1
shutdown_few e (open_in established my held) = step_from_few e shutdown_received my held
shutdown_few e (open_in shutdown_pending my held) = step_from_few e shutdown_received my held
shutdown_few e (open_in shutdown_sent my held) = one 0
shutdown_few e (open_in shutdown_received my held) = none 1
shutdown_few e (open_in shutdown_ack_sent my held) = one 0

pub shutdown_ack_few : (e : Endpoint) (core : Core) (tag : ℕ) → Few 1 (shutdown_ack_outcome e core tag)
shutdown_ack_few e closed tag = one 0
shutdown_ack_few e (cookie_wait my) tag = one 0
shutdown_ack_few e (cookie_echoed my held cookie) tag = one 0
shutdown_ack_few e (open_in established my held) tag = one 0
shutdown_ack_few e (open_in shutdown_pending my held) tag = one 0
shutdown_ack_few e (open_in shutdown_sent my held) tag = one 0
shutdown_ack_few e (open_in shutdown_received my held) tag = one 0
shutdown_ack_few e (open_in shutdown_ack_sent my held) tag = one 0

pub shutdown_complete_few : (e : Endpoint) (core : Core) → Few 0 (shutdown_complete_outcome e core)
shutdown_complete_few e closed = none 0
shutdown_complete_few e (cookie_wait my) = none 0
shutdown_complete_few e (cookie_echoed my held cookie) = none 0
shutdown_complete_few e (open_in established my held) = none 0
shutdown_complete_few e (open_in shutdown_pending my held) = none 0
shutdown_complete_few e (open_in shutdown_sent my held) = none 0
shutdown_complete_few e (open_in shutdown_received my held) = none 0
shutdown_complete_few e (open_in shutdown_ack_sent my held) = none 0

-- ---- T2, and data while a SHUTDOWN waits for its answer

again_few : (e : Endpoint) (core : Core) → Few 1 (shutdown_sent_again e core)
again_few e closed = none 1
again_few e (cookie_wait my) = none 1
again_few e (cookie_echoed my held cookie) = none 1
again_few e (open_in established my held) = none 1
again_few e (open_in shutdown_pending my held) = none 1
again_few e (open_in shutdown_sent my held) = one 0
again_few e (open_in shutdown_received my held) = none 1
again_few e (open_in shutdown_ack_sent my held) = one 0

pub t2_again_few : (e : Endpoint) → Few 1 (t2_again_outcome e)
t2_again_few e = again_few (endpoint_with_t2_continued e) e.core

pub begin_few : (e : Endpoint) (core : Core) (has : Bool) (o : Outcome) → BeginTurn e core has o → Few 1 o
begin_few e closed has o turn = subst (Few 1) (sym turn) (none 1)
begin_few e (cookie_wait my) has o turn = subst (Few 1) (sym turn) (none 1)
begin_few e (cookie_echoed my held cookie) has o turn = subst (Few 1) (sym turn) (none 1)
begin_few e (open_in established my held) has o turn = subst (Few 1) (sym turn) (none 1)
begin_few e (open_in shutdown_pending my held) has o turn = subst (Few 1) (sym turn) (none 1)
begin_few e (open_in shutdown_sent my held) true o turn = subst (Few 1) (sym turn) (one 0)
begin_few e (open_in shutdown_sent my held) false o turn = subst (Few 1) (sym turn) (none 1)
begin_few e (open_in shutdown_received my held) has o turn = subst (Few 1) (sym turn) (none 1)
begin_few e (open_in shutdown_ack_sent my held) has o turn = subst (Few 1) (sym turn) (none 1)
