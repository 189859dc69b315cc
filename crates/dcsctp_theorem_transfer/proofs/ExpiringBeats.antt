-- The turns of heartbeats after T3's in a call, and the flush.
use Rattle.std.specs.Prelude.{if◌then◌else◌}
use Rattle.std.proofs.Common.{◌≡◌, ℕ, Bool, true, false, cond, Option, None, Some, List, [], ◌∷◌, refl, sym, subst, ap, ◌∙◌, arith}
use Rattle.std.proofs.lemmas.Bool.Decides.{nat_tests}
use Rattle.dcsctp_spec_lemmas.specs.types.declared.association.Held.{Held}
use Rattle.dcsctp_spec_lemmas.specs.types.declared.association.Pair.{Pair}
use Rattle.dcsctp_spec_lemmas.specs.types.declared.ends.AbortReason.TheVariants.{TooManyErrors}
use Rattle.dcsctp_spec_lemmas.specs.types.declared.options.Options.{Options}
use Rattle.dcsctp_spec_lemmas.specs.spec.association.Acts.{abort_with, flushes}
use Rattle.dcsctp_spec_lemmas.specs.spec.endpoint.CallTurns.{Transition, Turns}
use Rattle.dcsctp_spec_lemmas.specs.spec.endpoint.Endpoint.{Endpoint, Core, OpenPhase, closed, cookie_wait, cookie_echoed, open_in}
use Rattle.dcsctp_spec_lemmas.specs.spec.endpoint.HeartbeatOutcomes.{error_counted, is_exhausted, interval_expired, beating, heartbeat_emission, heartbeat_timeout_settings, interval_outcome, timeout_outcome}
use Rattle.dcsctp_spec_lemmas.specs.spec.endpoint.Outcome.{Outcome, quiet, sends, fits}
use Rattle.dcsctp_spec_lemmas.specs.spec.endpoint.OwnTimers.{heartbeat_interval, heartbeat_timeout, reconfiguration}
use Rattle.dcsctp_spec_lemmas.specs.spec.endpoint.Timers.{RunningTimer, started_timer}
use Rattle.dcsctp_spec_lemmas.specs.spec.endpoint.TimeTurns.{own_timer, t2_timer, deadline_of, has_come, inputs_behind, after_expiries, ExpiryThen, ExpiryTurns}
use Rattle.dcsctp_spec_lemmas.specs.spec.endpoint.Turn.{act_input}
use Rattle.dcsctp_theorem_transfer.specs.Deadlines.{IsOpen}
use Rattle.dcsctp_theorem_transfer.specs.Expiring.{LeavesErrors, answer_deadline, errors_with, T3IsDue, where_due}

-- ---- what stays

-- At this moment the endpoint has the same association, options and timers of requests and of T2. It counts that many errors.
pub record Goes (e : Endpoint) (moment count : ℕ) (f : Endpoint) : Type 0 where
  pub now : f.moment ≡ moment
  pub core : f.core ≡ e.core
  pub options : f.options ≡ e.options
  pub errors : f.error_count ≡ count
  pub reconfiguration : f.timers.reconfiguration ≡ e.timers.reconfiguration
  pub t2 : f.timers.t2 ≡ e.timers.t2

-- So it does with the same timers of heartbeats.
pub record Waits (e : Endpoint) (moment count : ℕ) (f : Endpoint) : Type 0 where
  pub goes : Goes e moment count f
  pub interval : f.timers.heartbeat_interval ≡ e.timers.heartbeat_interval
  pub timeout : f.timers.heartbeat_timeout ≡ e.timers.heartbeat_timeout

pub record IsOpenAs (core : Core) : Type 0 where
  pub phase : OpenPhase
  pub my : Pair
  pub held : Held
  pub is : core ≡ open_in phase my held

pub open_as : (core : Core) → IsOpen core → IsOpenAs core
open_as closed is = absurd is
open_as (cookie_wait my) is = absurd is
open_as (cookie_echoed my held cookie) is = absurd is
open_as (open_in phase my held) is = record { phase = phase; my = my; held = held; is = refl }

-- ---- errors

-- how many count after T3, and after an answer that is late
abbrev errors_after : Bool → Option ℕ → ℕ → ℕ
errors_after false limit count = error_counted limit count
errors_after true limit count = error_counted limit (error_counted limit count)

not_exhausted : (late : Bool) (limit : Option ℕ) (count : ℕ) → LeavesErrors limit count (errors_with late) → is_exhausted limit (errors_after late limit count) ≡ false
not_exhausted false None count h = refl
not_exhausted true None count h = refl
not_exhausted false (Some limit) count h = grind (arith, nat_tests, h)
not_exhausted true (Some limit) count h = grind (arith, nat_tests, h)

-- ---- the end

pub by_end : (e f : Endpoint) (moment count : ℕ) (turns : List Transition) → IsOpenAs e.core → Goes e moment count f → is_exhausted e.options.max_retransmissions count ≡ false
    → Turns f (after_expiries f true) turns → Turns f (act_input flushes ∷ []) turns
by_end e f moment count turns is goes left end =
    let at_core : Turns f (if is_exhausted f.options.max_retransmissions f.error_count then act_input (abort_with TooManyErrors) ∷ [] else act_input flushes ∷ []) turns =
    subst (λ (core : Core). Turns f (inputs_behind f core) turns) (goes.core ∙ is.is) end in
    let none : is_exhausted f.options.max_retransmissions f.error_count ≡ false =
    ap (λ (options : Options). is_exhausted options.max_retransmissions f.error_count) goes.options ∙ ap (is_exhausted e.options.max_retransmissions) goes.errors ∙ left in
    subst (λ (b : Bool). Turns f (if b then act_input (abort_with TooManyErrors) ∷ [] else act_input flushes ∷ []) turns) none at_core

not_due : (f : Endpoint) (moment : ℕ) (timer was : Option RunningTimer) → f.moment ≡ moment → timer ≡ was → has_come moment (deadline_of was) ≡ false → has_come f.moment (deadline_of timer) ≡ false
not_due f moment timer was now same none = ap (λ (m : ℕ). has_come m (deadline_of timer)) now ∙ ap (λ (t : Option RunningTimer). has_come moment (deadline_of t)) same ∙ none

-- Neither a request nor T2 is due.
by_others : (e f : Endpoint) (moment count : ℕ) (turns : List Transition) → IsOpenAs e.core → T3IsDue e moment → Goes e moment count f → is_exhausted e.options.max_retransmissions count ≡ false
    → ExpiryTurns (own_timer reconfiguration ∷ t2_timer ∷ []) true f turns → Turns f (act_input flushes ∷ []) turns
by_others e f moment count turns is due goes left time =
    let at_t2 : ExpiryTurns (t2_timer ∷ []) true f turns =
    subst (λ (b : Bool). ExpiryThen b (ExpiryTurns (t2_timer ∷ [])) f true (own_timer reconfiguration) turns)
    (not_due f moment f.timers.reconfiguration e.timers.reconfiguration goes.now goes.reconfiguration due.reconfiguration) time in
    by_end e f moment count turns is goes left
    (subst (λ (b : Bool). ExpiryThen b (ExpiryTurns []) f true t2_timer turns) (not_due f moment f.timers.t2 e.timers.t2 goes.now goes.t2 due.t2) at_t2)

-- ---- heartbeats

pub after_turn : (Good : Endpoint → Type 0) (o : Outcome) (t : Transition) → t.outcome ≡ o → Good o.after → Good t.outcome.after
after_turn Good o t is h = subst (λ (x : Outcome). Good x.after) (sym is) h

missed_goes : (e f : Endpoint) (moment count : ℕ) → Goes e moment count f → Goes e moment (error_counted e.options.max_retransmissions count) (timeout_outcome f).after
missed_goes e f moment count h =
    record {
      now = h.now;
      core = h.core;
      options = h.options;
      errors = ap (λ (options : Options). error_counted options.max_retransmissions f.error_count) h.options ∙ ap (error_counted e.options.max_retransmissions) h.errors;
      reconfiguration = h.reconfiguration;
      t2 = h.t2;
    }

by_timeout : (late : Bool) (e f : Endpoint) (moment : ℕ) (turns : List Transition) → IsOpenAs e.core → T3IsDue e moment → LeavesErrors e.options.max_retransmissions e.error_count (errors_with late)
    → Goes e moment (error_counted e.options.max_retransmissions e.error_count) f
    → ExpiryThen late (ExpiryTurns (own_timer reconfiguration ∷ t2_timer ∷ [])) f true (own_timer heartbeat_timeout) turns
    → Turns f (where_due late heartbeat_timeout (act_input flushes ∷ [])) turns
by_timeout false e f moment turns is due left goes time =
    by_others e f moment (error_counted e.options.max_retransmissions e.error_count) turns is due goes (not_exhausted false e.options.max_retransmissions e.error_count left) time
by_timeout true e f moment [] is due left goes time = absurd time
by_timeout true e f moment (t ∷ ts) is due left goes time =
    let count : ℕ = error_counted e.options.max_retransmissions e.error_count in
    let after : Goes e moment (error_counted e.options.max_retransmissions count) t.outcome.after =
    after_turn (Goes e moment (error_counted e.options.max_retransmissions count)) (timeout_outcome f) t time.0.comes (missed_goes e f moment count goes) in
    (time.0, by_others e t.outcome.after moment (error_counted e.options.max_retransmissions count) ts is due after (not_exhausted true e.options.max_retransmissions e.error_count left) time.1)

-- A HEARTBEAT goes out, if it fits.
abbrev pub beat_by : Bool → Endpoint → Held → Outcome
beat_by fitting f held =
    let after : Endpoint = beating (interval_expired f) in
    cond fitting (sends after [] [] (heartbeat_emission held after.heartbeat_counter)) (quiet after [] [])

record Beating (e : Endpoint) (moment count : ℕ) (f : Endpoint) : Type 0 where
  goes : Goes e moment count f
  timeout : f.timers.heartbeat_timeout ≡ started_timer moment (heartbeat_timeout_settings e.options)

beat_goes : (fitting : Bool) (e f : Endpoint) (held : Held) (moment count : ℕ) → Goes e moment count f → Beating e moment count (beat_by fitting f held).after
beat_goes true e f held moment count h =
    record {
      goes = record { now = h.now; core = h.core; options = h.options; errors = h.errors; reconfiguration = h.reconfiguration; t2 = h.t2 };
      timeout = ap (λ (m : ℕ). started_timer m (heartbeat_timeout_settings f.options)) h.now ∙ ap (λ (options : Options). started_timer moment (heartbeat_timeout_settings options)) h.options;
    }
beat_goes false e f held moment count h =
    record {
      goes = record { now = h.now; core = h.core; options = h.options; errors = h.errors; reconfiguration = h.reconfiguration; t2 = h.t2 };
      timeout = ap (λ (m : ℕ). started_timer m (heartbeat_timeout_settings f.options)) h.now ∙ ap (λ (options : Options). started_timer moment (heartbeat_timeout_settings options)) h.options;
    }

pub late_as : (f : Endpoint) (moment : ℕ) (timer was : Option RunningTimer) → f.moment ≡ moment → timer ≡ was → has_come f.moment (deadline_of timer) ≡ has_come moment (deadline_of was)
late_as f moment timer was now same = ap (λ (m : ℕ). has_come m (deadline_of timer)) now ∙ ap (λ (t : Option RunningTimer). has_come moment (deadline_of t)) same

pub by_interval : (beats : Bool) (e f : Endpoint) (moment : ℕ) (turns : List Transition) → IsOpenAs e.core → T3IsDue e moment
    → LeavesErrors e.options.max_retransmissions e.error_count (errors_with (has_come moment (answer_deadline beats e moment)))
    → Waits e moment (error_counted e.options.max_retransmissions e.error_count) f
    → ExpiryThen beats (ExpiryTurns (own_timer heartbeat_timeout ∷ own_timer reconfiguration ∷ t2_timer ∷ [])) f true (own_timer heartbeat_interval) turns
    → Turns f (where_due beats heartbeat_interval (where_due (has_come moment (answer_deadline beats e moment)) heartbeat_timeout (act_input flushes ∷ []))) turns
by_interval false e f moment turns is due left waits time =
    by_timeout (has_come moment (deadline_of e.timers.heartbeat_timeout)) e f moment turns is due left waits.goes
    (subst (λ (b : Bool). ExpiryThen b (ExpiryTurns (own_timer reconfiguration ∷ t2_timer ∷ [])) f true (own_timer heartbeat_timeout) turns)
    (late_as f moment f.timers.heartbeat_timeout e.timers.heartbeat_timeout waits.goes.now waits.timeout) time)
by_interval true e f moment [] is due left waits time = absurd time
by_interval true e f moment (t ∷ ts) is due left waits time =
    let count : ℕ = error_counted e.options.max_retransmissions e.error_count in
    let held : Held = is.held in
    let after : Endpoint = beating (interval_expired f) in
    let fitting : Bool = fits after (heartbeat_emission held after.heartbeat_counter) in
    let o : t.outcome ≡ beat_by fitting f held = time.0.comes ∙ ap (interval_outcome f) (waits.goes.core ∙ is.is) in
    let beating_now : Beating e moment count t.outcome.after = after_turn (Beating e moment count) (beat_by fitting f held) t o (beat_goes fitting e f held moment count waits.goes) in
    let started : Option RunningTimer = started_timer moment (heartbeat_timeout_settings e.options) in (
      time.0,
      by_timeout (has_come moment (deadline_of started)) e t.outcome.after moment ts is due left beating_now.goes
          (subst (λ (b : Bool). ExpiryThen b (ExpiryTurns (own_timer reconfiguration ∷ t2_timer ∷ [])) t.outcome.after true (own_timer heartbeat_timeout) ts)
          (late_as t.outcome.after moment t.outcome.after.timers.heartbeat_timeout started beating_now.goes.now beating_now.timeout) time.1),
    )
