-- A socket's next moment is no later than each deadline that counts.
use Rattle.std.proofs.Common.{◌≡◌, ◌≤◌, ℕ, min, max, Option, None, Some, List, [], ◌∷◌, ◌⊎◌, refl, sym, inl, inr, arith}
use Rattle.dcsctp_spec_lemmas.specs.types.declared.tracking.AckState.{AckState}
use Rattle.dcsctp_spec_lemmas.specs.types.declared.tracking.AckState.TheVariants.{Idle, BecomingDelayed, Delayed, Immediate}
use Rattle.dcsctp_spec_lemmas.specs.spec.endpoint.Endpoint.{Endpoint, Core, closed, cookie_wait, cookie_echoed, open_in}
use Rattle.dcsctp_spec_lemmas.specs.spec.endpoint.OwnTimers.{acknowledgement_delay, retransmission}
use Rattle.dcsctp_spec_lemmas.specs.spec.endpoint.TimeTurns.{Timer, t1_timer, own_timer, timers_counted, deadline, deadline_of, delay_deadline, loss_deadline, with_deadline, deadlines_of, deadlines, earliest, next_of}
use Rattle.dcsctp_spec_lemmas.specs.spec.endpoint.Timers.{RunningTimer, running_deadline}
use Rattle.dcsctp_spec_lemmas.specs.spec.queues.Items.{Item}
use Rattle.dcsctp_spec_lemmas.specs.spec.queues.Transfer.{Transfer}
use Rattle.dcsctp_spec_runs.specs.Deadlines.{IsRunning, T1Runs}
use Rattle.dcsctp_theorem_transfer.specs.Deadlines.{AwaitsAnswer, IsOpen, AreSome, HasOutstanding, IsDelayedState, IsDelaying, MeetsDeadline, RunningTimersCount}
use Rattle.dcsctp_theorem_transfer.specs.Delaying.{RunsIfDelayed, DelaysByTimer}
use Rattle.dcsctp_theorem_transfer.specs.Retransmitting.{RunsForItems, RunsT3}

-- It is one of these.
abbrev IsAmong : ℕ → List ℕ → Type 0
IsAmong d [] = ⊥
IsAmong d (first ∷ others) = (d ≡ first) ⊎ IsAmong d others

earliest_first : (first : ℕ) (others : List ℕ) → earliest first others ≤ first
earliest_first first [] = omega arith
earliest_first first (other ∷ others) = let later = earliest_first (min first other) others in omega (arith, later)

earliest_each : (d first : ℕ) (others : List ℕ) → IsAmong d others → earliest first others ≤ d
earliest_each d first [] among = absurd among
earliest_each d first (other ∷ others) (inl is) = let later = earliest_first (min first other) others in omega (arith, later, is)
earliest_each d first (other ∷ others) (inr among) = earliest_each d (min first other) others among

next_by : (now d : ℕ) (all : List ℕ) → IsAmong d all → next_of now all ≤ max d now
next_by now d [] among = absurd among
next_by now d (first ∷ others) (inl is) = let least = earliest_first first others in omega (arith, least, is)
next_by now d (first ∷ others) (inr among) = let least = earliest_each d first others among in omega (arith, least)

-- the deadline of a timer among those of several
data IsOneOf (timer : Timer) : List Timer → Type 0 where
  here : (timers : List Timer) → IsOneOf timer (timer ∷ timers)
  there : (other : Timer) (timers : List Timer) → IsOneOf timer timers → IsOneOf timer (other ∷ timers)

still_among : (d : ℕ) (found : Option ℕ) (others : List ℕ) → IsAmong d others → IsAmong d (with_deadline found others)
still_among d None others among = among
still_among d (Some other) others among = inr among

now_among : (d : ℕ) (found : Option ℕ) (others : List ℕ) → found ≡ Some d → IsAmong d (with_deadline found others)
now_among d None others is = absurd (cc)
now_among d (Some other) others is = inl (let same : other ≡ d = cc in sym same)

deadline_among : (e : Endpoint) (timer : Timer) (d : ℕ) (timers : List Timer) → deadline e timer ≡ Some d → IsOneOf timer timers → IsAmong d (deadlines_of e timers)
deadline_among e timer d _ is (here timers) = now_among d (deadline e timer) (deadlines_of e timers) is
deadline_among e timer d _ is (there other timers one) = still_among d (deadline e other) (deadlines_of e timers) (deadline_among e timer d timers is one)

meets : (e : Endpoint) (timer : Timer) (found : Option ℕ) → deadline e timer ≡ found → IsOneOf timer (timers_counted e.core) → (found ≡ None → ⊥) → MeetsDeadline e found
meets e timer None is one runs = absurd (runs refl)
meets e timer (Some d) is one runs = next_by e.moment d (deadlines e) (deadline_among e timer d (timers_counted e.core) is one)

-- ---- which timers count

t1_counts : (core : Core) → AwaitsAnswer core → IsOneOf t1_timer (timers_counted core)
t1_counts closed awaits = absurd awaits
t1_counts (cookie_wait my) awaits = here []
t1_counts (cookie_echoed my held cookie) awaits = here []
t1_counts (open_in phase my held) awaits = absurd awaits

delay_counts : (core : Core) → IsOpen core → IsOneOf (own_timer acknowledgement_delay) (timers_counted core)
delay_counts closed is = absurd is
delay_counts (cookie_wait my) is = absurd is
delay_counts (cookie_echoed my held cookie) is = absurd is
delay_counts (open_in phase my held) is = here _

t3_counts : (core : Core) → IsOpen core → IsOneOf (own_timer retransmission) (timers_counted core)
t3_counts closed is = absurd is
t3_counts (cookie_wait my) is = absurd is
t3_counts (cookie_echoed my held cookie) is = absurd is
t3_counts (open_in phase my held) is = there (own_timer acknowledgement_delay) _ (here _)

-- ---- which run

t1_there : (core : Core) (t1 : Option RunningTimer) → AwaitsAnswer core → T1Runs core t1 → deadline_of t1 ≡ None → ⊥
t1_there closed t1 awaits runs none = awaits
t1_there (cookie_wait my) None awaits runs none = runs
t1_there (cookie_wait my) (Some timer) awaits runs none = absurd (cc)
t1_there (cookie_echoed my held cookie) None awaits runs none = runs
t1_there (cookie_echoed my held cookie) (Some timer) awaits runs none = absurd (cc)
t1_there (open_in phase my held) t1 awaits runs none = awaits

runs_there : (timer : Option RunningTimer) → IsRunning timer → running_deadline timer ≡ None → ⊥
runs_there None runs none = runs
runs_there (Some timer) runs none = absurd (cc)

items_there : (items : List Item) (timer : Option RunningTimer) → AreSome items → RunsForItems items timer → running_deadline timer ≡ None → ⊥
items_there [] timer some runs none = some
items_there (item ∷ items) timer some runs none = runs_there timer runs none

t3_there : (t : Option Transfer) → HasOutstanding t → RunsT3 t → loss_deadline t ≡ None → ⊥
t3_there None some runs none = some
t3_there (Some t) some runs none = items_there t.retransmission.outstanding.items t.retransmission.timer.running some runs none

state_there : (state : AckState) (timer : Option RunningTimer) → IsDelayedState state → RunsIfDelayed state timer → running_deadline timer ≡ None → ⊥
state_there Idle timer is runs none = is
state_there BecomingDelayed timer is runs none = is
state_there Delayed timer is runs none = runs_there timer runs none
state_there Immediate timer is runs none = is

delay_there : (t : Option Transfer) → IsDelaying t → DelaysByTimer t → delay_deadline t ≡ None → ⊥
delay_there None is runs none = is
delay_there (Some t) is runs none = state_there t.tracker.acknowledgement t.tracker.delay.running is runs none

pub running_timers_count : RunningTimersCount
running_timers_count e t1 t3 delay =
    record {
      connecting = λ awaits. meets e t1_timer (deadline e t1_timer) refl (t1_counts e.core awaits) (t1_there e.core e.timers.t1 awaits t1);
      sending = λ is some. meets e (own_timer retransmission) (deadline e (own_timer retransmission)) refl (t3_counts e.core is) (t3_there e.queues.transfer some t3);
      receiving = λ is delaying. meets e (own_timer acknowledgement_delay) (deadline e (own_timer acknowledgement_delay)) refl (delay_counts e.core is) (delay_there e.queues.transfer delaying delay);
    }
