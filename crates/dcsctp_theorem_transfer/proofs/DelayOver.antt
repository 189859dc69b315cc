-- The call at the deadline of a delayed acknowledgement.
use Rattle.std.specs.Prelude.{nat_le}
use Rattle.std.proofs.Common.{◌≡◌, ℕ, Bool, true, false, List, [], ◌∷◌, ◌++◌, append-nil, refl, sym, subst, ap, ◌∙◌, arith}
use Rattle.std.proofs.lemmas.Bool.Decides.{nat_tests}
use Rattle.dcsctp_spec_lemmas.specs.wire.Content.{SackContent}
use Rattle.dcsctp_spec_lemmas.specs.spec.Packet.{Emission}
use Rattle.dcsctp_spec_lemmas.specs.spec.association.Acts.{flushes}
use Rattle.dcsctp_spec_lemmas.specs.spec.endpoint.CallTurns.{Transition, IsTurn, Turns, events_of}
use Rattle.dcsctp_spec_lemmas.specs.spec.endpoint.DataOutcomes.{delay_outcome}
use Rattle.dcsctp_spec_lemmas.specs.spec.endpoint.Endpoint.{Endpoint, Core}
use Rattle.dcsctp_spec_lemmas.specs.spec.endpoint.Event.{Event, packets_of_events}
use Rattle.dcsctp_spec_lemmas.specs.spec.endpoint.Outcome.{Outcome, still}
use Rattle.dcsctp_spec_lemmas.specs.spec.endpoint.OwnTimers.{acknowledgement_delay, retransmission}
use Rattle.dcsctp_spec_lemmas.specs.spec.endpoint.TimeTurns.{Timer, own_timer, handled_timers, deadline, has_come, after_expiries, ExpiryThen, ExpiryTurns, DueTurns, MomentTurns, TimeTurns, NoneIsDue}
use Rattle.dcsctp_spec_lemmas.specs.spec.endpoint.Turn.{act_input, timer_expires, with_clock}
use Rattle.dcsctp_theorem_transfer.specs.DelayOver.{later_timers, OnlyDelayIsOver, CallSendsDelayedSack}
use Rattle.dcsctp_theorem_transfer.specs.Recovering.{BeginWithThisSack, DelaysSack}
use Rattle.dcsctp_theorem_transfer.proofs.Expiring.{Stays, delayed_stays, clock_stays}
use Rattle.dcsctp_theorem_transfer.proofs.ExpiringBeats.{IsOpenAs, open_as, after_turn, late_as, by_end}
use Rattle.dcsctp_theorem_transfer.proofs.ExpiringPackets.{delayed_silent}
use Rattle.dcsctp_theorem_transfer.proofs.TickingTimers.{within}

-- None of these has a turn.
pass_all : (timers : List Timer) (expired : Bool) (f : Endpoint) (ts : List Transition) → NoneIsDue f timers → ExpiryTurns timers expired f ts → Turns f (after_expiries f expired) ts
pass_all [] expired f ts none time = time
pass_all (timer ∷ timers) expired f ts none time =
    pass_all timers expired f ts none.1 (subst (λ (b : Bool). ExpiryThen b (ExpiryTurns timers) f expired timer ts) none.0 time)

-- They are due no more once the delay is over.
still_none : (e f : Endpoint) (moment : ℕ) → Stays e moment f → NoneIsDue (with_clock moment e) later_timers → NoneIsDue f later_timers
still_none e f moment h none =
    let now : f.moment ≡ moment = h.waits.goes.now in (
      ap (λ (m : ℕ). has_come m (deadline f (own_timer retransmission))) now ∙ ap (has_come moment) h.loss ∙ none.0,
      (
        late_as f moment f.timers.heartbeat_interval e.timers.heartbeat_interval now h.waits.interval ∙ none.1.0,
        (
          late_as f moment f.timers.heartbeat_timeout e.timers.heartbeat_timeout now h.waits.timeout ∙ none.1.1.0,
          (
            late_as f moment f.timers.reconfiguration e.timers.reconfiguration now h.waits.goes.reconfiguration ∙ none.1.1.1.0,
            (late_as f moment f.timers.t2 e.timers.t2 now h.waits.goes.t2 ∙ none.1.1.1.1.0, tt),
          ),
        ),
      ),
    )

module _ (e : Endpoint) (sack : SackContent) (moment : ℕ) (delays : DelaysSack e sack) (only : OnlyDelayIsOver e moment) where
  by_flush : (over : Transition) (ts : List Transition) → IsTurn (with_clock moment e) (timer_expires acknowledgement_delay) over → Turns over.outcome.after (act_input flushes ∷ []) ts
      → BeginWithThisSack sack (packets_of_events (events_of ts))
  by_flush over [] is turns = absurd turns
  by_flush over (t ∷ u ∷ ts) is turns = absurd turns.1
  by_flush over (t ∷ []) is turns =
      subst (λ (l : List (Event Emission)). BeginWithThisSack sack (packets_of_events l)) (sym (append-nil t.outcome.events)) (delays.comes moment over t is turns.0)

  by_over : (ts : List Transition) → ExpiryThen true (ExpiryTurns later_timers) (with_clock moment e) false (own_timer acknowledgement_delay) ts → BeginWithThisSack sack (packets_of_events (events_of ts))
  by_over [] time = absurd time
  by_over (over ∷ ts) time =
      let clock : Endpoint = with_clock moment e in
      let o : over.outcome ≡ delay_outcome clock e.queues.transfer = time.0.comes in
      let stays : Stays e moment over.outcome.after = after_turn (Stays e moment) (delay_outcome clock e.queues.transfer) over o (delayed_stays e clock moment e.queues.transfer refl (clock_stays e moment)) in
      let end : Turns over.outcome.after (act_input flushes ∷ []) ts =
      by_end e over.outcome.after moment e.error_count ts (open_as e.core only.is_open) stays.waits.goes (within e.options.max_retransmissions e.error_count 0 only.errors)
      (pass_all later_timers true over.outcome.after ts (still_none e over.outcome.after moment stays only.others) time.1) in
      subst (λ (l : List (Event Emission)). BeginWithThisSack sack (packets_of_events (l ++ events_of ts))) (sym (ap (λ (x : Outcome). x.events) o ∙ delayed_silent clock e.queues.transfer))
      (by_flush over ts time.0 end)

  by_due : (ts : List Transition) → DueTurns (with_clock moment e) ts → BeginWithThisSack sack (packets_of_events (events_of ts))
  by_due ts time =
      let is : IsOpenAs e.core = open_as e.core only.is_open in
      by_over ts
      (subst (λ (b : Bool). ExpiryThen b (ExpiryTurns later_timers) (with_clock moment e) false (own_timer acknowledgement_delay) ts) only.over
      (subst (λ (core : Core). ExpiryTurns (handled_timers core) false (with_clock moment e) ts) is.is time))

  pub by_moment : (ts : List Transition) → MomentTurns e moment ts → BeginWithThisSack sack (packets_of_events (events_of ts))
  by_moment [] time = absurd time
  by_moment (t ∷ ts) time =
      let o : t.outcome ≡ still (with_clock moment e) = time.0.comes in
      subst (λ (l : List (Event Emission)). BeginWithThisSack sack (packets_of_events (l ++ events_of ts))) (sym (ap (λ (x : Outcome). x.events) o))
      (by_due ts (subst (λ (f : Endpoint). DueTurns f ts) (ap (λ (x : Outcome). x.after) o) time.1))

pub call_sends_delayed_sack : CallSendsDelayedSack
call_sends_delayed_sack e sack moment turns call delays only =
    let later : nat_le e.moment moment ≡ true = let h = only.present in grind (arith, nat_tests, h) in
    by_moment e sack moment delays only turns (subst (λ (b : Bool). TimeTurns b e moment turns) later call)
