-- Time goes on at a socket that awaits data.
use Rattle.std.specs.Prelude.{nat_le, if◌then◌else◌}
use Rattle.std.proofs.Common.{◌≡◌, ℕ, Bool, true, false, Option, None, Some, List, [], ◌∷◌, refl, sym, ap, ◌∙◌, subst}
use Rattle.dcsctp_spec_lemmas.specs.types.declared.association.Held.{Held}
use Rattle.dcsctp_spec_lemmas.specs.types.declared.capabilities.Capabilities.{Capabilities}
use Rattle.dcsctp_spec_lemmas.specs.types.declared.ends.AbortReason.TheVariants.{TooManyErrors}
use Rattle.dcsctp_spec_lemmas.specs.types.declared.options.Options.{Options}
use Rattle.dcsctp_spec_lemmas.specs.spec.association.Acts.{abort_with, flushes}
use Rattle.dcsctp_spec_lemmas.specs.spec.endpoint.CallTurns.{Transition, IsTurn, Turns, after_all}
use Rattle.dcsctp_spec_lemmas.specs.spec.endpoint.DataOutcomes.{FlushTurn, AnswersTo, flush_to_peer, delay_outcome}
use Rattle.dcsctp_spec_lemmas.specs.spec.endpoint.Endpoint.{Endpoint, Core, held_by_core}
use Rattle.dcsctp_spec_lemmas.specs.spec.endpoint.FlushOutcomes.{Answer, first_ask, draft_to, packets_allowed}
use Rattle.dcsctp_spec_lemmas.specs.spec.endpoint.HeartbeatOutcomes.{is_exhausted, interval_outcome, timeout_outcome}
use Rattle.dcsctp_spec_lemmas.specs.spec.endpoint.Outcome.{Outcome, still}
use Rattle.dcsctp_spec_lemmas.specs.spec.endpoint.OwnTimers.{acknowledgement_delay, retransmission, heartbeat_interval, heartbeat_timeout, reconfiguration}
use Rattle.dcsctp_spec_lemmas.specs.spec.endpoint.ReconfigurationOutcomes.{reconfiguration_outcome}
use Rattle.dcsctp_spec_lemmas.specs.spec.endpoint.TimeTurns.{Timer, own_timer, t2_timer, handled_timers, deadline, has_come, expiry_input, inputs_behind, after_expiries, ExpiryThen, ExpiryTurns, DueTurns, MomentTurns, TimeTurns}
use Rattle.dcsctp_spec_lemmas.specs.spec.endpoint.Turn.{act_input, with_clock}
use Rattle.dcsctp_spec_lemmas.specs.spec.queues.Transfer.{Transfer}
use Rattle.dcsctp_theorem_transfer.specs.Expiring.{LeavesErrors}
use Rattle.dcsctp_theorem_transfer.specs.Ticking.{TimePassesReceiver}
use Rattle.dcsctp_theorem_transfer.proofs.Passing.{still_receives}
use Rattle.dcsctp_theorem_transfer.proofs.Unmoved.{same_itself, StaysReceiver, flush_receives}
use Rattle.dcsctp_theorem_transfer.proofs.TickingTimers.{within, Ticks, fewer, same_receives, request_goes, timeout_goes, interval_goes, loss_goes, delay_goes}

module _ (base : Transfer) (options : Options) (kinds : Capabilities) where
  abbrev Receives : Endpoint → Type 0
  Receives f = StaysReceiver base options kinds f

  -- ---- the end

  flush_goes : (f : Endpoint) (peer : Option Held) (answers : List Answer) → Receives f → AnswersTo f peer answers → Receives (flush_to_peer f peer answers).after
  flush_goes f None answers h allowed = h
  flush_goes f (Some held) answers h allowed = flush_receives first_ask (packets_allowed f.options.max_burst f.core) f (draft_to held) answers base options kinds h allowed

  flushed_goes : (f : Endpoint) (ts : List Transition) → Receives f → Turns f (act_input flushes ∷ []) ts → Receives (after_all f ts)
  flushed_goes f [] h turns = absurd turns
  flushed_goes f (t ∷ u ∷ ts) h turns = absurd turns.1
  flushed_goes f (t ∷ []) h turns =
      let turn : FlushTurn f t.outcome = turns.0.comes in
      subst (λ (o : Outcome). Receives o.after) (sym turn.2) (flush_goes f (held_by_core f.core) turn.0 h turn.1)

  end_goes : (expired : Bool) (f : Endpoint) (ts : List Transition) → Ticks base options kinds 0 f → Turns f (after_expiries f expired) ts → Receives (after_all f ts)
  end_goes false f [] h end = h.stays
  end_goes false f (t ∷ ts) h end = absurd end
  end_goes true f ts h end =
      let at_core : Turns f (if is_exhausted f.options.max_retransmissions f.error_count then act_input (abort_with TooManyErrors) ∷ [] else act_input flushes ∷ []) ts =
      subst (λ (core : Core). Turns f (inputs_behind f core) ts) h.stays.phase end in
      let none : is_exhausted f.options.max_retransmissions f.error_count ≡ false =
      ap (λ (o : Options). is_exhausted o.max_retransmissions f.error_count) h.stays.options_are ∙ within options.max_retransmissions f.error_count 0 h.errors in
      flushed_goes f ts h.stays (subst (λ (b : Bool). Turns f (if b then act_input (abort_with TooManyErrors) ∷ [] else act_input flushes ∷ []) ts) none at_core)

  -- ---- one timer after another

  abbrev Rest : List Timer → ℕ → Type 0
  Rest timers more = (expired : Bool) (f : Endpoint) (ts : List Transition) → Ticks base options kinds more f → ExpiryTurns timers expired f ts → Receives (after_all f ts)

  next_timer : (timer : Timer) (timers : List Timer) (before more : ℕ) → ((f : Endpoint) → Ticks base options kinds before f → Ticks base options kinds more f)
      → ((f : Endpoint) (t : Transition) → Ticks base options kinds before f → IsTurn f (expiry_input f timer) t → Ticks base options kinds more t.outcome.after) → Rest timers more → Rest (timer ∷ timers) before
  next_timer timer timers before more passes leaves rest expired f ts h time = go (has_come f.moment (deadline f timer)) ts time
    where
      go : (due : Bool) (ts : List Transition) → ExpiryThen due (ExpiryTurns timers) f expired timer ts → Receives (after_all f ts)
      go false ts at = rest expired f ts (passes f h) at
      go true [] at = absurd at
      go true (t ∷ ts) at = rest true t.outcome.after ts (leaves f t h at.0) at.1

  after_turn : (more : ℕ) (t : Transition) (o : Outcome) → t.outcome ≡ o → Ticks base options kinds more o.after → Ticks base options kinds more t.outcome.after
  after_turn more t o is h = subst (λ (x : Outcome). Ticks base options kinds more x.after) (sym is) h

  from_t2 : Rest (t2_timer ∷ []) 0
  from_t2 expired f ts h time = end_goes expired f ts h (subst (λ (b : Bool). ExpiryThen b (ExpiryTurns []) f expired t2_timer ts) h.t2 time)

  from_request : Rest (own_timer reconfiguration ∷ t2_timer ∷ []) 1
  from_request =
      next_timer (own_timer reconfiguration) (t2_timer ∷ []) 1 0 (fewer base options kinds 0)
      (λ f t h is. after_turn 0 t (reconfiguration_outcome f (held_by_core f.core) f.outstanding) is.comes (request_goes base options kinds 0 f (held_by_core f.core) f.outstanding h)) from_t2

  from_timeout : Rest (own_timer heartbeat_timeout ∷ own_timer reconfiguration ∷ t2_timer ∷ []) 2
  from_timeout =
      next_timer (own_timer heartbeat_timeout) (own_timer reconfiguration ∷ t2_timer ∷ []) 2 1 (fewer base options kinds 1) (λ f t h is. after_turn 1 t (timeout_outcome f) is.comes (timeout_goes base options kinds 1 f h)) from_request

  abbrev beats : List Timer
  beats = own_timer heartbeat_interval ∷ own_timer heartbeat_timeout ∷ own_timer reconfiguration ∷ t2_timer ∷ []

  from_interval : Rest beats 2
  from_interval =
      next_timer (own_timer heartbeat_interval) (own_timer heartbeat_timeout ∷ own_timer reconfiguration ∷ t2_timer ∷ []) 2 2 (λ f h. h)
      (λ f t h is. after_turn 2 t (interval_outcome f f.core) is.comes (interval_goes base options kinds 2 f h)) from_timeout

  from_loss : Rest (own_timer retransmission ∷ beats) 3
  from_loss = next_timer (own_timer retransmission) beats 3 2 (fewer base options kinds 2) (λ f t h is. loss_goes base options kinds 2 f f.queues.transfer t.outcome h h.stays.has is.comes) from_interval

  from_delay : Rest (own_timer acknowledgement_delay ∷ own_timer retransmission ∷ beats) 3
  from_delay =
      next_timer (own_timer acknowledgement_delay) (own_timer retransmission ∷ beats) 3 3 (λ f h. h)
      (λ f t h is. after_turn 3 t (delay_outcome f f.queues.transfer) is.comes (delay_goes base options kinds 3 f f.queues.transfer h h.stays.has)) from_loss

  -- ---- the call

  due_goes : (f : Endpoint) (ts : List Transition) → Ticks base options kinds 3 f → DueTurns f ts → Receives (after_all f ts)
  due_goes f ts h time = from_delay false f ts h (subst (λ (core : Core). ExpiryTurns (handled_timers core) false f ts) h.stays.phase time)

  moment_goes : (e : Endpoint) (moment : ℕ) (ts : List Transition) → Ticks base options kinds 3 (with_clock moment e) → MomentTurns e moment ts → Receives (after_all e ts)
  moment_goes e moment [] h time = absurd time
  moment_goes e moment (t ∷ ts) h time = due_goes t.outcome.after ts (after_turn 3 t (still (with_clock moment e)) time.0.comes h) time.1

  pub call_goes : (later : Bool) (e : Endpoint) (moment : ℕ) (ts : List Transition) → Receives e → LeavesErrors options.max_retransmissions e.error_count 3
      → has_come moment (deadline e t2_timer) ≡ false → TimeTurns later e moment ts → Receives (after_all e ts)
  call_goes true e moment ts h errors t2 time =
      moment_goes e moment ts (record { stays = same_receives base options kinds e (with_clock moment e) refl refl refl h; errors = errors; t2 = t2 }) time
  call_goes false e moment ts h errors t2 time = subst (λ (l : List Transition). Receives (after_all e l)) (sym time) h

pub time_passes_receiver : TimePassesReceiver
time_passes_receiver e received kind moment turns call awaits may =
    still_receives kind e received turns awaits
    (call_goes received e.options awaits.held.capabilities (nat_le e.moment moment) e moment turns
    (record { my = awaits.my; held = awaits.held; phase = awaits.phase; kinds_are = refl; options_are = refl; left = received; has = awaits.has; same = same_itself received }) may.errors may.t2 call)
