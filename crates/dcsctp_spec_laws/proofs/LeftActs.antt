-- What the user and the timers bring leaves the messages that the last association left, or ends this one.
use Rattle.std.proofs.Common.{ℕ, Bool, true, false, Option, None, Some, List, [], ◌∷◌, inl, inr, refl, sym, subst}
use Rattle.std.specs.Prelude.{if◌then◌else◌}
use Rattle.dcsctp_spec_lemmas.specs.types.declared.association.Held.{Held}
use Rattle.dcsctp_spec_lemmas.specs.types.declared.association.Pair.{Pair}
use Rattle.dcsctp_spec_lemmas.specs.types.declared.ends.AbortReason.{AbortReason}
use Rattle.dcsctp_spec_lemmas.specs.spec.Packet.{Content}
use Rattle.dcsctp_spec_lemmas.specs.spec.Reconfiguration.{RequestedReset, renewed_reset}
use Rattle.dcsctp_spec_lemmas.specs.spec.association.Acts.{Act, connect, t1_expires, shut_down, step_of_shutdown, shutdown_repeats, abort_with, hands_over, flushes, request_again, request_renewed}
use Rattle.dcsctp_spec_lemmas.specs.spec.endpoint.Endpoint.{Endpoint, Core, OutstandingRequest, closed, cookie_wait, cookie_echoed, open_in, established, shutdown_pending, shutdown_sent, shutdown_received, shutdown_ack_sent, held_by_core}
use Rattle.dcsctp_spec_lemmas.specs.spec.endpoint.Outcome.{Outcome, quiet, sends, fits, to_peer}
use Rattle.dcsctp_spec_lemmas.specs.spec.endpoint.EndOutcomes.{ended_outcome, end_of, abort_to, aborting_outcome}
use Rattle.dcsctp_spec_lemmas.specs.spec.endpoint.FlushOutcomes.{Answer, flush_answered}
use Rattle.dcsctp_spec_lemmas.specs.spec.endpoint.HandoverOutcomes.{hand_over_outcome}
use Rattle.dcsctp_spec_lemmas.specs.spec.endpoint.HandshakeOutcomes.{pair_from, connect_outcome, awaits_init_ack, init_emission, echo_emission}
use Rattle.dcsctp_spec_lemmas.specs.spec.endpoint.HeartbeatOutcomes.{is_exhausted, interval_expired, beating, heartbeat_emission, interval_outcome}
use Rattle.dcsctp_spec_lemmas.specs.spec.endpoint.OwnTimers.{OwnTimer, TimerTurn, acknowledgement_delay, retransmission, heartbeat_interval, heartbeat_timeout, reconfiguration}
use Rattle.dcsctp_spec_lemmas.specs.spec.endpoint.ReconfigurationOutcomes.{reset_again, request_emitted, renewed_request_if_fitting, request_renewed as renewed_outcome, is_renewed, request_unless, request_expired, reconfiguration_outcome}
use Rattle.dcsctp_spec_lemmas.specs.spec.association.FlushChanges.{reset_request}
use Rattle.dcsctp_spec_lemmas.specs.spec.endpoint.ShutdownOutcomes.{shut_down_echoed, t1_stopped, may_continue_shutdown, shut_down_outcome, endpoint_with_t2_continued, shutdown_sent_again}
use Rattle.dcsctp_spec_lemmas.specs.spec.endpoint.TimerOutcomes.{endpoint_with_t1_continued, AgainAnswers, t1_again_with_flush, t1_gives_up_outcome}
use Rattle.dcsctp_spec_lemmas.specs.spec.endpoint.Turn.{act_input, ActTurn}
use Rattle.dcsctp_spec_lemmas.specs.types.declared.word.Word.TheVariants.{U32}
use Rattle.dcsctp_spec_laws.specs.LeftLaws.{IsOwnInput}
use Rattle.dcsctp_spec_laws.proofs.LeftLemmas.{Ends, StaysIn, LeavesIn, unmoved, stays_then, emits_stays}
use Rattle.dcsctp_spec_laws.proofs.LeftChunks.{echo_stays}
use Rattle.dcsctp_spec_laws.proofs.LeftData.{step_stays, step_from_stays, flush_turn_stays, delay_stays, loss_stays}

-- ---- our abort

aborts_where : (b : Bool) (e : Endpoint) (held : Held) (reason : AbortReason) → Ends e (ended_outcome (if b then sends e [] [] (abort_to held reason) else quiet e [] []) (end_of reason)).after
aborts_where true e held reason = record { left = refl; none = refl; last = refl }
aborts_where false e held reason = record { left = refl; none = refl; last = refl }

pub aborting_leaves : (e : Endpoint) (core : Core) (reason : AbortReason) → LeavesIn e (aborting_outcome e core reason)
aborting_leaves e closed reason = inl (unmoved e)
aborting_leaves e (cookie_wait my) reason = inr (inr (record { left = refl; none = refl; last = refl }))
aborting_leaves e (cookie_echoed my held cookie) reason = inr (inr (aborts_where (fits e (abort_to held reason)) e held reason))
aborting_leaves e (open_in phase my held) reason = inr (inr (aborts_where (fits e (abort_to held reason)) e held reason))

-- ---- what the user and the timers bring

connect_stays : (e : Endpoint) (core : Core) (word next : ℕ) → StaysIn e (connect_outcome e core word next)
connect_stays e closed word next =
    let begun : Endpoint = awaits_init_ack e (pair_from word next) in
    stays_then e begun _ (record { left = refl; there = refl; last = refl }) (emits_stays begun (U32 word ∷ U32 next ∷ []) (init_emission e (pair_from word next)))
connect_stays e (cookie_wait my) word next = unmoved e
connect_stays e (cookie_echoed my held cookie) word next = unmoved e
connect_stays e (open_in phase my held) word next = unmoved e

again_stays : (e : Endpoint) (core : Core) (answers : List Answer) → AgainAnswers (endpoint_with_t1_continued e) core answers → StaysIn e (t1_again_with_flush (flush_answered answers) e core)
again_stays e closed answers h = record { left = refl; there = refl; last = refl }
again_stays e (cookie_wait mine) answers h =
    stays_then e (endpoint_with_t1_continued e) _ (record { left = refl; there = refl; last = refl }) (emits_stays (endpoint_with_t1_continued e) [] (init_emission (endpoint_with_t1_continued e) mine))
again_stays e (cookie_echoed mine held cookie) answers h =
    stays_then e (endpoint_with_t1_continued e) _ (record { left = refl; there = refl; last = refl })
    (echo_stays (fits (endpoint_with_t1_continued e) (echo_emission held.peer.tag cookie)) (endpoint_with_t1_continued e) [] held.peer.tag cookie answers h)
again_stays e (open_in phase mine held) answers h = record { left = refl; there = refl; last = refl }

gives_up_leaves : (e : Endpoint) (core : Core) → LeavesIn e (t1_gives_up_outcome e core)
gives_up_leaves e closed = inl (unmoved e)
gives_up_leaves e (cookie_wait mine) = inr (inr (record { left = refl; none = refl; last = refl }))
gives_up_leaves e (cookie_echoed mine held cookie) = inr (inr (record { left = refl; none = refl; last = refl }))
gives_up_leaves e (open_in phase mine held) = inl (unmoved e)

echoed_leaves : (follows : Bool) (e : Endpoint) (my : Pair) (held : Held) → LeavesIn e (shut_down_echoed follows e my held)
echoed_leaves true e my held = inl (record { left = refl; there = refl; last = refl })
echoed_leaves false e my held =
    inl (stays_then e (t1_stopped e) _ (record { left = refl; there = refl; last = refl }) (step_from_stays (may_continue_shutdown (t1_stopped e)) (t1_stopped e) shutdown_pending my held))

shut_down_leaves : (e : Endpoint) (core : Core) → LeavesIn e (shut_down_outcome e core)
shut_down_leaves e closed = inl (unmoved e)
shut_down_leaves e (cookie_wait my) = inr (inr (record { left = refl; none = refl; last = refl }))
shut_down_leaves e (cookie_echoed my held cookie) = echoed_leaves e.options.follow_rfc e my held
shut_down_leaves e (open_in established my held) = inl (step_from_stays (may_continue_shutdown e) e shutdown_pending my held)
shut_down_leaves e (open_in shutdown_pending my held) = inl (unmoved e)
shut_down_leaves e (open_in shutdown_sent my held) = inl (unmoved e)
shut_down_leaves e (open_in shutdown_received my held) = inl (unmoved e)
shut_down_leaves e (open_in shutdown_ack_sent my held) = inl (unmoved e)

repeated_stays : (e : Endpoint) (core : Core) → StaysIn e (shutdown_sent_again (endpoint_with_t2_continued e) core)
repeated_stays e closed = record { left = refl; there = refl; last = refl }
repeated_stays e (cookie_wait my) = record { left = refl; there = refl; last = refl }
repeated_stays e (cookie_echoed my held cookie) = record { left = refl; there = refl; last = refl }
repeated_stays e (open_in established my held) = record { left = refl; there = refl; last = refl }
repeated_stays e (open_in shutdown_pending my held) = record { left = refl; there = refl; last = refl }
repeated_stays e (open_in shutdown_sent my held) = record { left = refl; there = refl; last = refl }
repeated_stays e (open_in shutdown_received my held) = record { left = refl; there = refl; last = refl }
repeated_stays e (open_in shutdown_ack_sent my held) = record { left = refl; there = refl; last = refl }

hand_over_leaves : (e : Endpoint) (core : Core) → LeavesIn e (hand_over_outcome e core)
hand_over_leaves e closed = inl (unmoved e)
hand_over_leaves e (cookie_wait my) = inl (unmoved e)
hand_over_leaves e (cookie_echoed my held cookie) = inl (unmoved e)
hand_over_leaves e (open_in established my held) = inr (inr (record { left = refl; none = refl; last = refl }))
hand_over_leaves e (open_in shutdown_pending my held) = inl (unmoved e)
hand_over_leaves e (open_in shutdown_sent my held) = inl (unmoved e)
hand_over_leaves e (open_in shutdown_received my held) = inl (unmoved e)
hand_over_leaves e (open_in shutdown_ack_sent my held) = inl (unmoved e)

pub act_leaves : (e : Endpoint) (act : Act) (o : Outcome) → IsOwnInput (act_input act) → ActTurn e act o → LeavesIn e o
act_leaves e connect o own turn = subst (LeavesIn e) (sym turn.2) (inl (connect_stays e e.core turn.0 turn.1))
act_leaves e (t1_expires true) o own turn = subst (LeavesIn e) (sym turn.2) (inl (again_stays e e.core turn.0 turn.1))
act_leaves e (t1_expires false) o own turn = subst (LeavesIn e) (sym turn) (gives_up_leaves e e.core)
act_leaves e shut_down o own turn = subst (LeavesIn e) (sym turn) (shut_down_leaves e e.core)
act_leaves e step_of_shutdown o own turn = subst (LeavesIn e) (sym turn) (inl (step_stays e e.core))
act_leaves e shutdown_repeats o own turn = subst (LeavesIn e) (sym turn) (inl (repeated_stays e e.core))
act_leaves e (abort_with reason) o own turn = subst (LeavesIn e) (sym turn) (aborting_leaves e e.core reason)
act_leaves e hands_over o own turn = subst (LeavesIn e) (sym turn) (hand_over_leaves e e.core)
act_leaves e flushes o own turn = inl (flush_turn_stays e o turn)
act_leaves e (request_again reset) o own turn = absurd own
act_leaves e (request_renewed reset) o own turn = absurd own

-- ---- timers

interval_stays : (e : Endpoint) (core : Core) → StaysIn e (interval_outcome e core)
interval_stays e closed = record { left = refl; there = refl; last = refl }
interval_stays e (cookie_wait my) = record { left = refl; there = refl; last = refl }
interval_stays e (cookie_echoed my held cookie) =
    let after : Endpoint = beating (interval_expired e) in
    stays_then e after _ (record { left = refl; there = refl; last = refl }) (emits_stays after [] (heartbeat_emission held after.heartbeat_counter))
interval_stays e (open_in phase my held) =
    let after : Endpoint = beating (interval_expired e) in
    stays_then e after _ (record { left = refl; there = refl; last = refl }) (emits_stays after [] (heartbeat_emission held after.heartbeat_counter))

emitted_stays : (e : Endpoint) (held : Held) (number : Option ℕ) (reset : RequestedReset) → StaysIn e (request_emitted e held number reset)
emitted_stays e held None reset = unmoved e
emitted_stays e held (Some number) reset = emits_stays e [] (to_peer held (reset_request number reset))

renewed_stays : (b : Bool) (e : Endpoint) (held : Held) (number : ℕ) (request : Content) → StaysIn e (renewed_request_if_fitting b e held number request)
renewed_stays true e held number request = record { left = refl; there = refl; last = refl }
renewed_stays false e held number request = unmoved e

anew_stays : (e : Endpoint) (held : Held) (number : Option ℕ) (reset : RequestedReset) → StaysIn e (renewed_outcome e held number reset)
anew_stays e held None reset = unmoved e
anew_stays e held (Some number) reset = renewed_stays (fits e (to_peer held (reset_request held.own_next (renewed_reset reset)))) e held number (reset_request held.own_next (renewed_reset reset))

unless_stays : (b is_new : Bool) (e : Endpoint) (held : Held) (reset : RequestedReset) → StaysIn e (request_unless b is_new e held reset)
unless_stays true is_new e held reset = unmoved e
unless_stays false true e held reset = anew_stays e held held.own_outstanding reset
unless_stays false false e held reset = emitted_stays e held held.own_outstanding reset

reconfiguration_stays : (e : Endpoint) (peer : Option Held) (request : Option OutstandingRequest) → StaysIn e (reconfiguration_outcome e peer request)
reconfiguration_stays e None request = record { left = refl; there = refl; last = refl }
reconfiguration_stays e (Some held) None = record { left = refl; there = refl; last = refl }
reconfiguration_stays e (Some held) (Some request) =
    let after : Endpoint = request_expired e request in
    stays_then e after _ (record { left = refl; there = refl; last = refl })
    (unless_stays (is_exhausted after.options.max_retransmissions after.error_count) (is_renewed e (Some request)) after held (reset_again (Some request)))

pub timer_stays : (e : Endpoint) (timer : OwnTimer) (o : Outcome) → TimerTurn e timer o → StaysIn e o
timer_stays e acknowledgement_delay o turn = subst (StaysIn e) (sym turn) (delay_stays e e.queues.transfer refl)
timer_stays e retransmission o turn = loss_stays e e.queues.transfer o refl turn
timer_stays e heartbeat_interval o turn = subst (StaysIn e) (sym turn) (interval_stays e e.core)
timer_stays e heartbeat_timeout o turn = subst (StaysIn e) (sym turn) (record { left = refl; there = refl; last = refl })
timer_stays e reconfiguration o turn = subst (StaysIn e) (sym turn) (reconfiguration_stays e (held_by_core e.core) e.outstanding)
