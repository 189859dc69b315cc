-- The turns of the call at T3's deadline.
use Rattle.std.specs.Prelude.{nat_le}
use Rattle.std.proofs.Common.{◌≡◌, ℕ, Bool, true, false, Option, None, Some, List, [], ◌∷◌, refl, sym, subst, ap, ◌∙◌, arith}
use Rattle.std.proofs.lemmas.Bool.Decides.{nat_tests}
use Rattle.dcsctp_spec_lemmas.specs.types.declared.options.Options.{Options}
use Rattle.dcsctp_spec_lemmas.specs.spec.endpoint.CallTurns.{Transition, Turns}
use Rattle.dcsctp_spec_lemmas.specs.spec.endpoint.DataOutcomes.{LossTurn, delay_outcome}
use Rattle.dcsctp_spec_lemmas.specs.spec.endpoint.Endpoint.{Endpoint, Core}
use Rattle.dcsctp_spec_lemmas.specs.spec.endpoint.HeartbeatOutcomes.{error_counted}
use Rattle.dcsctp_spec_lemmas.specs.spec.endpoint.Outcome.{Outcome}
use Rattle.dcsctp_spec_lemmas.specs.spec.endpoint.OwnTimers.{acknowledgement_delay, retransmission, heartbeat_interval, heartbeat_timeout, reconfiguration}
use Rattle.dcsctp_spec_lemmas.specs.spec.endpoint.TimeTurns.{Timer, own_timer, t2_timer, handled_timers, loss_deadline, has_come, ExpiryThen, ExpiryTurns, DueTurns, MomentTurns, TimeTurns}
use Rattle.dcsctp_spec_lemmas.specs.spec.endpoint.Turn.{timer_expires, with_clock}
use Rattle.dcsctp_spec_lemmas.specs.spec.queues.Transfer.{Transfer}
use Rattle.dcsctp_theorem_transfer.specs.Expiring.{is_delay_over, is_beat_due, T3IsDue, where_due, inputs_after_t3, inputs_at_t3, CallExpiresT3}
use Rattle.dcsctp_theorem_transfer.proofs.ExpiringBeats.{Waits, IsOpenAs, open_as, after_turn, late_as, by_interval}

-- ---- T3

lost_waits : (e f : Endpoint) (moment : ℕ) (found : Option Transfer) (o : Outcome) → Waits e moment e.error_count f → has_come moment (loss_deadline found) ≡ true → LossTurn f found o
    → Waits e moment (error_counted e.options.max_retransmissions e.error_count) o.after
lost_waits e f moment None o h come turn = absurd (cc)
lost_waits e f moment (Some transfer) o h come turn =
    subst (λ (x : Outcome). Waits e moment (error_counted e.options.max_retransmissions e.error_count) x.after) (sym turn)
    (record {
      goes = record {
        now = h.goes.now;
        core = h.goes.core;
        options = h.goes.options;
        errors = ap (λ (options : Options). error_counted options.max_retransmissions f.error_count) h.goes.options ∙ ap (error_counted e.options.max_retransmissions) h.goes.errors;
        reconfiguration = h.goes.reconfiguration;
        t2 = h.goes.t2;
      };
      interval = h.interval;
      timeout = h.timeout;
    })

abbrev beats : List Timer
beats = own_timer heartbeat_interval ∷ own_timer heartbeat_timeout ∷ own_timer reconfiguration ∷ t2_timer ∷ []

by_loss : (expired : Bool) (e f : Endpoint) (moment : ℕ) (turns : List Transition) → IsOpenAs e.core → T3IsDue e moment → Waits e moment e.error_count f
    → has_come moment (loss_deadline f.queues.transfer) ≡ true → ExpiryTurns (own_timer retransmission ∷ beats) expired f turns
    → Turns f (timer_expires retransmission ∷ inputs_after_t3 e moment) turns
by_loss expired e f moment turns is due waits come time = go turns at_loss
  where
    at_loss : ExpiryThen true (ExpiryTurns beats) f expired (own_timer retransmission) turns
    at_loss =
        subst (λ (b : Bool). ExpiryThen b (ExpiryTurns beats) f expired (own_timer retransmission) turns) (ap (λ (m : ℕ). has_come m (loss_deadline f.queues.transfer)) waits.goes.now ∙ come) time

    go : (ts : List Transition) → ExpiryThen true (ExpiryTurns beats) f expired (own_timer retransmission) ts → Turns f (timer_expires retransmission ∷ inputs_after_t3 e moment) ts
    go [] at = absurd at
    go (t ∷ ts) at =
        let after : Waits e moment (error_counted e.options.max_retransmissions e.error_count) t.outcome.after = lost_waits e f moment f.queues.transfer t.outcome waits come at.0.comes in (
          at.0,
          by_interval (is_beat_due e moment) e t.outcome.after moment ts is due due.errors after
              (subst (λ (b : Bool). ExpiryThen b (ExpiryTurns (own_timer heartbeat_timeout ∷ own_timer reconfiguration ∷ t2_timer ∷ [])) t.outcome.after true (own_timer heartbeat_interval) ts)
              (late_as t.outcome.after moment t.outcome.after.timers.heartbeat_interval e.timers.heartbeat_interval after.goes.now after.interval) at.1),
        )

-- ---- the delay of an acknowledgement

-- Before T3 has expired its deadline is the same.
pub record Stays (e : Endpoint) (moment : ℕ) (f : Endpoint) : Type 0 where
  pub waits : Waits e moment e.error_count f
  pub loss : loss_deadline f.queues.transfer ≡ loss_deadline e.queues.transfer

pub delayed_stays : (e f : Endpoint) (moment : ℕ) (found : Option Transfer) → f.queues.transfer ≡ found → Stays e moment f → Stays e moment (delay_outcome f found).after
delayed_stays e f moment None has h = h
delayed_stays e f moment (Some transfer) has h =
    record {
      waits = record {
        goes = record {
          now = h.waits.goes.now;
          core = h.waits.goes.core;
          options = h.waits.goes.options;
          errors = h.waits.goes.errors;
          reconfiguration = h.waits.goes.reconfiguration;
          t2 = h.waits.goes.t2;
        };
        interval = h.waits.interval;
        timeout = h.waits.timeout;
      };
      loss = sym (ap loss_deadline has) ∙ h.loss;
    }

by_delay : (over : Bool) (e f : Endpoint) (moment : ℕ) (turns : List Transition) → IsOpenAs e.core → T3IsDue e moment → Stays e moment f
    → ExpiryThen over (ExpiryTurns (own_timer retransmission ∷ beats)) f false (own_timer acknowledgement_delay) turns
    → Turns f (where_due over acknowledgement_delay (timer_expires retransmission ∷ inputs_after_t3 e moment)) turns
by_delay false e f moment turns is due stays time = by_loss false e f moment turns is due stays.waits (ap (has_come moment) stays.loss ∙ due.due) time
by_delay true e f moment [] is due stays time = absurd time
by_delay true e f moment (t ∷ ts) is due stays time =
    let after : Stays e moment t.outcome.after = after_turn (Stays e moment) (delay_outcome f f.queues.transfer) t time.0.comes (delayed_stays e f moment f.queues.transfer refl stays) in
    (time.0, by_loss true e t.outcome.after moment ts is due after.waits (ap (has_come moment) after.loss ∙ due.due) time.1)

-- ---- the clock

pub clock_stays : (e : Endpoint) (moment : ℕ) → Stays e moment (with_clock moment e)
clock_stays e moment =
    record { waits = record { goes = record { now = refl; core = refl; options = refl; errors = refl; reconfiguration = refl; t2 = refl }; interval = refl; timeout = refl }; loss = refl }

by_due : (e : Endpoint) (moment : ℕ) (turns : List Transition) → IsOpenAs e.core → T3IsDue e moment → DueTurns (with_clock moment e) turns
    → Turns (with_clock moment e) (where_due (is_delay_over e moment) acknowledgement_delay (timer_expires retransmission ∷ inputs_after_t3 e moment)) turns
by_due e moment turns is due time =
    by_delay (is_delay_over e moment) e (with_clock moment e) moment turns is due (clock_stays e moment)
    (subst (λ (core : Core). ExpiryTurns (handled_timers core) false (with_clock moment e) turns) is.is time)

by_moment : (e : Endpoint) (moment : ℕ) (turns : List Transition) → IsOpenAs e.core → T3IsDue e moment → MomentTurns e moment turns → Turns e (inputs_at_t3 e moment) turns
by_moment e moment [] is due time = absurd time
by_moment e moment (t ∷ ts) is due time =
    let after : t.outcome.after ≡ with_clock moment e = ap (λ (o : Outcome). o.after) time.0.comes in
    let inputs = where_due (is_delay_over e moment) acknowledgement_delay (timer_expires retransmission ∷ inputs_after_t3 e moment) in
    (time.0, subst (λ (f : Endpoint). Turns f inputs ts) (sym after) (by_due e moment ts is due (subst (λ (f : Endpoint). DueTurns f ts) after time.1)))

pub call_expires_t3 : CallExpiresT3
call_expires_t3 e moment turns call due =
    let later : nat_le e.moment moment ≡ true = let h = due.present in grind (arith, nat_tests, h) in
    by_moment e moment turns (open_as e.core due.is_open) due (subst (λ (b : Bool). TimeTurns b e moment turns) later call)
