-- The turns of shutdown send no packet that is longer than a limit.
use Rattle.std.proofs.Common.{◌≡◌, ℕ, Bool, true, false, [], ◌∷◌, refl, sym, subst, arith}
use Rattle.dcsctp_spec_lemmas.specs.wire.Spelling.{other_bytes}
use Rattle.dcsctp_spec_lemmas.specs.types.declared.association.Pair.{Pair}
use Rattle.dcsctp_spec_lemmas.specs.types.declared.association.Held.{Held}
use Rattle.dcsctp_spec_lemmas.specs.spec.Packet.{shutdown, shutdown_ack, shutdown_complete}
use Rattle.dcsctp_spec_lemmas.specs.spec.endpoint.Endpoint.{Endpoint, Core, closed, cookie_wait, cookie_echoed, open_in, OpenPhase, established, shutdown_pending, shutdown_sent, shutdown_received, shutdown_ack_sent}
use Rattle.dcsctp_spec_lemmas.specs.spec.endpoint.Outcome.{Outcome, contents_len}
use Rattle.dcsctp_spec_lemmas.specs.spec.endpoint.Turn.{BeginTurn}
use Rattle.dcsctp_spec_lemmas.specs.spec.endpoint.EndOutcomes.{reflected_outcome}
use Rattle.dcsctp_spec_lemmas.specs.spec.endpoint.ShutdownOutcomes.{shut_down_echoed, received_tsn, sends_shutdown, sends_shutdown_ack, endpoint_in_phase, t2_begun, may_continue_shutdown, step_if_acknowledged, step_outcome, t1_stopped, shut_down_outcome, shutdown_outcome, completed_outcome, shutdown_ack_outcome, shutdown_complete_outcome, endpoint_with_t2_continued, shutdown_sent_again, t2_again_outcome}
use Rattle.dcsctp_theorem_sockets.proofs.Sizes.{AtLimit, TurnSizes}

-- ---- what is sent

shutdown_len : (tsn : ℕ) → contents_len (shutdown tsn ∷ []) ≡ 8
unfolding other_bytes
shutdown_len tsn = refl

ack_len : contents_len (shutdown_ack ∷ []) ≡ 4
unfolding other_bytes
ack_len = refl

complete_len : (reflected : Bool) → contents_len (shutdown_complete reflected ∷ []) ≡ 4
unfolding other_bytes
complete_len true = refl
complete_len false = refl

asks_sizes : (limit : ℕ) (e : Endpoint) (held : Held) → AtLimit limit e → TurnSizes limit (sends_shutdown e held)
asks_sizes limit e held h = let len = shutdown_len (received_tsn e.queues.transfer) in (h, (omega (arith, h.1, len), tt))

answers_sizes : (limit : ℕ) (e : Endpoint) (held : Held) → AtLimit limit e → TurnSizes limit (sends_shutdown_ack e held)
answers_sizes limit e held h = (h, (omega (arith, h.1, ack_len), tt))

-- ---- a step of it

step_by_sizes : (b : Bool) (limit : ℕ) (e : Endpoint) (phase : OpenPhase) (my : Pair) (held : Held) → AtLimit limit e → TurnSizes limit (step_if_acknowledged b e phase my held)
step_by_sizes false limit e phase my held h = (h, tt)
step_by_sizes true limit e established my held h = (h, tt)
step_by_sizes true limit e shutdown_pending my held h = asks_sizes limit (t2_begun (endpoint_in_phase e shutdown_sent my held)) held h
step_by_sizes true limit e shutdown_sent my held h = (h, tt)
step_by_sizes true limit e shutdown_received my held h = answers_sizes limit (t2_begun (endpoint_in_phase e shutdown_ack_sent my held)) held h
step_by_sizes true limit e shutdown_ack_sent my held h = (h, tt)

pub step_sizes : (limit : ℕ) (e : Endpoint) (core : Core) → AtLimit limit e → TurnSizes limit (step_outcome e core)
step_sizes limit e closed h = (h, tt)
step_sizes limit e (cookie_wait my) h = (h, tt)
step_sizes limit e (cookie_echoed my held cookie) h = (h, tt)
step_sizes limit e (open_in phase my held) h = step_by_sizes (may_continue_shutdown e) limit e phase my held h

-- from another phase
step_from_sizes : (limit : ℕ) (e : Endpoint) (phase : OpenPhase) (my : Pair) (held : Held) → AtLimit limit e
    → TurnSizes limit (step_if_acknowledged (may_continue_shutdown e) (endpoint_in_phase e phase my held) phase my held)
step_from_sizes limit e phase my held h = step_by_sizes (may_continue_shutdown e) limit (endpoint_in_phase e phase my held) phase my held h

-- ---- the user's call

echoed_sizes : (follows : Bool) (limit : ℕ) (e : Endpoint) (my : Pair) (held : Held) → AtLimit limit e → TurnSizes limit (shut_down_echoed follows e my held)
echoed_sizes true limit e my held h = (h, tt)
echoed_sizes false limit e my held h = step_from_sizes limit (t1_stopped e) shutdown_pending my held h

pub shut_down_sizes : (limit : ℕ) (e : Endpoint) (core : Core) → AtLimit limit e → TurnSizes limit (shut_down_outcome e core)
shut_down_sizes limit e closed h = (h, tt)
shut_down_sizes limit e (cookie_wait my) h = (h, tt)
shut_down_sizes limit e (cookie_echoed my held cookie) h = echoed_sizes e.options.follow_rfc limit e my held h
shut_down_sizes limit e (open_in established my held) h = step_from_sizes limit e shutdown_pending my held h
shut_down_sizes limit e (open_in shutdown_pending my held) h = (h, tt)
shut_down_sizes limit e (open_in shutdown_sent my held) h = (h, tt)
shut_down_sizes limit e (open_in shutdown_received my held) h = (h, tt)
shut_down_sizes limit e (open_in shutdown_ack_sent my held) h = (h, tt)

-- ---- chunks

pub shutdown_sizes : (limit : ℕ) (e : Endpoint) (core : Core) → AtLimit limit e → TurnSizes limit (shutdown_outcome e core)
shutdown_sizes limit e closed h = (h, tt)
shutdown_sizes limit e (cookie_wait my) h = (h, tt)
shutdown_sizes limit e (cookie_echoed my held cookie) h = (h, tt)
shutdown_sizes limit e (open_in established my held) h = step_from_sizes limit e shutdown_received my held h
shutdown_sizes limit e (open_in shutdown_pending my held) h = step_from_sizes limit e shutdown_received my held h
shutdown_sizes limit e (open_in shutdown_sent my held) h = answers_sizes limit (t2_begun (endpoint_in_phase e shutdown_ack_sent my held)) held h
shutdown_sizes limit e (open_in shutdown_received my held) h = (h, tt)
shutdown_sizes limit e (open_in shutdown_ack_sent my held) h = answers_sizes limit (t2_begun (endpoint_in_phase e shutdown_ack_sent my held)) held h

reflected_sizes : (limit : ℕ) (e : Endpoint) (tag : ℕ) → AtLimit limit e → TurnSizes limit (reflected_outcome e tag)
reflected_sizes limit e tag h = let len = complete_len true in (h, (omega (arith, h.1, len), tt))

completed_sizes : (limit : ℕ) (e : Endpoint) (held : Held) → AtLimit limit e → TurnSizes limit (completed_outcome e held)
completed_sizes limit e held h = let len = complete_len false in (h, (omega (arith, h.1, len), tt))

pub shutdown_ack_sizes : (limit : ℕ) (e : Endpoint) (core : Core) (tag : ℕ) → AtLimit limit e → TurnSizes limit (shutdown_ack_outcome e core tag)
shutdown_ack_sizes limit e closed tag h = reflected_sizes limit e tag h
shutdown_ack_sizes limit e (cookie_wait my) tag h = reflected_sizes limit e tag h
shutdown_ack_sizes limit e (cookie_echoed my held cookie) tag h = reflected_sizes limit e tag h
shutdown_ack_sizes limit e (open_in established my held) tag h = reflected_sizes limit e tag h
shutdown_ack_sizes limit e (open_in shutdown_pending my held) tag h = reflected_sizes limit e tag h
shutdown_ack_sizes limit e (open_in shutdown_sent my held) tag h = completed_sizes limit e held h
shutdown_ack_sizes limit e (open_in shutdown_received my held) tag h = reflected_sizes limit e tag h
shutdown_ack_sizes limit e (open_in shutdown_ack_sent my held) tag h = completed_sizes limit e held h

pub shutdown_complete_sizes : (limit : ℕ) (e : Endpoint) (core : Core) → AtLimit limit e → TurnSizes limit (shutdown_complete_outcome e core)
shutdown_complete_sizes limit e closed h = (h, tt)
shutdown_complete_sizes limit e (cookie_wait my) h = (h, tt)
shutdown_complete_sizes limit e (cookie_echoed my held cookie) h = (h, tt)
shutdown_complete_sizes limit e (open_in established my held) h = (h, tt)
shutdown_complete_sizes limit e (open_in shutdown_pending my held) h = (h, tt)
shutdown_complete_sizes limit e (open_in shutdown_sent my held) h = (h, tt)
shutdown_complete_sizes limit e (open_in shutdown_received my held) h = (h, tt)
shutdown_complete_sizes limit e (open_in shutdown_ack_sent my held) h = (h, tt)

-- ---- T2, and data while a SHUTDOWN waits for its answer

again_sizes : (limit : ℕ) (e : Endpoint) (core : Core) → AtLimit limit e → TurnSizes limit (shutdown_sent_again e core)
again_sizes limit e closed h = (h, tt)
again_sizes limit e (cookie_wait my) h = (h, tt)
again_sizes limit e (cookie_echoed my held cookie) h = (h, tt)
again_sizes limit e (open_in established my held) h = (h, tt)
again_sizes limit e (open_in shutdown_pending my held) h = (h, tt)
again_sizes limit e (open_in shutdown_sent my held) h = asks_sizes limit e held h
again_sizes limit e (open_in shutdown_received my held) h = (h, tt)
again_sizes limit e (open_in shutdown_ack_sent my held) h = answers_sizes limit e held h

pub t2_again_sizes : (limit : ℕ) (e : Endpoint) → AtLimit limit e → TurnSizes limit (t2_again_outcome e)
t2_again_sizes limit e h = again_sizes limit (endpoint_with_t2_continued e) e.core h

pub begin_sizes : (limit : ℕ) (e : Endpoint) (core : Core) (has : Bool) (o : Outcome) → BeginTurn e core has o → AtLimit limit e → TurnSizes limit o
begin_sizes limit e closed has o turn h = subst (TurnSizes limit) (sym turn) (h, tt)
begin_sizes limit e (cookie_wait my) has o turn h = subst (TurnSizes limit) (sym turn) (h, tt)
begin_sizes limit e (cookie_echoed my held cookie) has o turn h = subst (TurnSizes limit) (sym turn) (h, tt)
begin_sizes limit e (open_in established my held) has o turn h = subst (TurnSizes limit) (sym turn) (h, tt)
begin_sizes limit e (open_in shutdown_pending my held) has o turn h = subst (TurnSizes limit) (sym turn) (h, tt)
begin_sizes limit e (open_in shutdown_sent my held) true o turn h = subst (TurnSizes limit) (sym turn) (asks_sizes limit (t2_begun e) held h)
begin_sizes limit e (open_in shutdown_sent my held) false o turn h = subst (TurnSizes limit) (sym turn) (h, tt)
begin_sizes limit e (open_in shutdown_received my held) has o turn h = subst (TurnSizes limit) (sym turn) (h, tt)
begin_sizes limit e (open_in shutdown_ack_sent my held) has o turn h = subst (TurnSizes limit) (sym turn) (h, tt)
