-- T3 runs wherever something is outstanding, and has no last restart.
use Rattle.std.proofs.Common.{◌≡◌, ℕ, zero, suc, Bool, true, false, Option, None, Some, List, [], ◌∷◌, length, refl, sym, ap, ◌∙◌, subst, inl, inr, slice_get}
use Rattle.std.specs.Prelude.{if◌then◌else◌, nat_lt, not, ◌&&◌, ◌-◌}
use Rattle.std.specs.Option.{option_map, is_some}
use Rattle.dcsctp_spec_lemmas.specs.wire.Content.{SackContent}
use Rattle.dcsctp_spec_lemmas.specs.wire.declared.chunk.sack.GapAckBlock.{GapAckBlock}
use Rattle.dcsctp_spec_lemmas.specs.types.declared.options.Options.{Options}
use Rattle.dcsctp_spec_lemmas.specs.spec.queues.Abandoning.{GivesUpFirst}
use Rattle.dcsctp_spec_lemmas.specs.types.declared.progress.Change.TheVariants.{Miss, Mark}
use Rattle.dcsctp_spec_lemmas.specs.spec.queues.Acknowledging.{covered_items, lossy, missed_until, exiting, rewound, AcknowledgesItems, acknowledged_until, opens, probes_lost, window_after_settling}
use Rattle.dcsctp_spec_lemmas.specs.spec.queues.AtOnce.{empty_stage, timer_restarted, SendsAtOnce}
use Rattle.dcsctp_spec_lemmas.specs.spec.queues.Filling.{Stage, DropsRestOfMessage, ClosesMessage, GivesUpItem, SendsMarked, StepAgain, StepNew, StageSteps, none, more, resent_packet_counted, FillsPacket}
use Rattle.dcsctp_spec_lemmas.specs.spec.queues.Items.{Item, marked_items, changed_between}
use Rattle.dcsctp_spec_lemmas.specs.spec.queues.Outstanding.{tsn_at, acknowledged_count}
use Rattle.dcsctp_spec_lemmas.specs.spec.queues.Retransmission.{RetransmissionState, with_items, counted_again, timer_with, kept_running, after_expiry, is_window_closed, kept_for_peer, new_retransmission}
use Rattle.dcsctp_spec_lemmas.specs.spec.queues.SendQueue.{SendQueueState}
use Rattle.dcsctp_spec_lemmas.specs.spec.queues.Transfer.{Transfer}
use Rattle.dcsctp_spec_lemmas.specs.spec.endpoint.BegunResets.{BegunReset, retransmission_begun}
use Rattle.dcsctp_spec_lemmas.specs.spec.endpoint.FlushOutcomes.{FillsIfAllowed, GivesUpThenForwards, forward_made}
use Rattle.dcsctp_spec_lemmas.specs.spec.endpoint.Timers.{RunningTimer, TimerModel, running_after, timer_after_expiry, backed_off, is_timer_expired, started_timer, may_restart, next_expiries, continued_timer}
use Rattle.dcsctp_spec_lemmas.specs.spec.endpoint.TransferMoves.{timed_transfer, TakesSack}
use Rattle.dcsctp_spec_runs.specs.Deadlines.{IsRunning}
use Rattle.dcsctp_theorem_transfer.specs.Retransmitting.{RunsForItems}

-- ---- a timer without a last restart

abbrev pub HasNoLast : Option RunningTimer → Type 0
HasNoLast None = Unit {0}
HasNoLast (Some timer) = timer.terms.max_restarts ≡ None

pub record IsEndless (timer : TimerModel) : Type 0 where
  pub next : timer.settings.terms.max_restarts ≡ None
  pub now : HasNoLast timer.running

-- T3 of a queue
pub record IsTimed (state : RetransmissionState) : Type 0 where
  pub runs : RunsForItems state.outstanding.items state.timer.running
  pub endless : IsEndless state.timer

running_for : (items : List Item) (timer : Option RunningTimer) → IsRunning timer → RunsForItems items timer
running_for [] timer running = tt
running_for (item ∷ items) timer running = running

-- With something outstanding it runs.
some_running : (items : List Item) (place : ℕ) (item : Item) (timer : Option RunningTimer) → slice_get items place ≡ Some item → RunsForItems items timer → IsRunning timer
some_running [] zero item timer at runs = absurd (cc)
some_running [] (suc place) item timer at runs = absurd (cc)
some_running (first ∷ items) place item timer at runs = runs

stopped : (timer : TimerModel) → IsEndless timer → IsEndless (record timer { running = None })
stopped timer endless = record { next = endless.next; now = tt }

-- Once it is set for these items it runs for them.
pub record IsSet (items : List Item) (timer : TimerModel) : Type 0 where
  pub runs : RunsForItems items timer.running
  pub endless : IsEndless timer

kept_set : (now : ℕ) (items : List Item) (timer : TimerModel) (running : Option RunningTimer) → timer.running ≡ running → IsEndless timer → IsSet items (kept_running now timer)
kept_set now items timer None is endless =
    subst (λ (b : Bool). IsSet items (if b then timer else record timer { running = started_timer now timer.settings })) (sym (ap (λ (r : Option RunningTimer). is_some r) is))
    (record { runs = running_for items _ tt; endless = record { next = endless.next; now = endless.next } })
kept_set now items timer (Some one) is endless =
    subst (λ (b : Bool). IsSet items (if b then timer else record timer { running = started_timer now timer.settings })) (sym (ap (λ (r : Option RunningTimer). is_some r) is))
    (record { runs = running_for items timer.running (subst IsRunning (sym is) tt); endless = endless })

pub timer_set : (now : ℕ) (items : List Item) (timer : TimerModel) → IsEndless timer → IsSet items (timer_with now items timer)
timer_set now [] timer endless = record { runs = tt; endless = stopped timer endless }
timer_set now (item ∷ items) timer endless = kept_set now (item ∷ items) timer timer.running refl endless

-- the same of a queue whose timer is set so
set_timed : (now : ℕ) (state : RetransmissionState) (timer : TimerModel) → IsEndless timer → IsTimed (record state { timer = timer_with now state.outstanding.items timer })
set_timed now state timer endless = let set = timer_set now state.outstanding.items timer endless in record { runs = set.runs; endless = set.endless }

-- ---- what is abandoned

-- The timer stays while messages are abandoned.
drops_same : (now : ℕ) (last : Item) (old new : Stage) → DropsRestOfMessage now last old new → new.queue.timer ≡ old.queue.timer
drops_same now last old new does = ap (λ (s : Stage). s.queue.timer) does.is

closes_same : (now : ℕ) (last : Item) (old new : Stage) (b : Bool) → ClosesMessage now last old new b → new.queue.timer ≡ old.queue.timer
closes_same now last old new true does = ap (λ (s : Stage). s.queue.timer) does
closes_same now last old new false (inl does) = drops_same now last old new does.1
closes_same now last old new false (inr does) = ap (λ (s : Stage). s.queue.timer) does.1

gives_up_same : (now place : ℕ) (old new : Stage) → GivesUpItem now place old new → new.queue.timer ≡ old.queue.timer
gives_up_same now place old new does =
    ap (λ (s : Stage). s.queue.timer) does.is ∙ closes_same now does.last old does.closed does.last.fragment.is_end does.closes

-- It runs, since the abandoned message was outstanding.
gives_up_timed : (now place : ℕ) (old new : Stage) → IsTimed old.queue → GivesUpItem now place old new → IsTimed new.queue
gives_up_timed now place old new h does =
    let same : new.queue.timer ≡ old.queue.timer = gives_up_same now place old new does in
    let running : IsRunning old.queue.timer.running = some_running old.queue.outstanding.items does.last_place does.last old.queue.timer.running does.at h.runs in
    record {
      runs = running_for new.queue.outstanding.items new.queue.timer.running (subst (λ (t : TimerModel). IsRunning t.running) (sym same) running);
      endless = subst IsEndless (sym same) h.endless;
    }

all_given_up : (now : ℕ) (old new : Stage) → IsTimed old.queue → StageSteps (GivesUpFirst now) old new → IsTimed new.queue
all_given_up now old _ h none = h
all_given_up now old new h (more between _ steps last) = gives_up_timed now last.place between new (all_given_up now old between h steps) last.gives_up

pub given_up_timed : (b : Bool) (now : ℕ) (transfer : Transfer) (room : ℕ) (old new : Stage) (next : Option ℕ) (chunks : _) → IsTimed old.queue
    → GivesUpThenForwards b now transfer room old new (forward_made next chunks) → IsTimed new.queue
given_up_timed false now transfer room old new next chunks h does = subst (λ (s : Stage). IsTimed s.queue) (sym does.0) h
given_up_timed true now transfer room old new next chunks h does = all_given_up now old new h does.0.steps

-- ---- a packet

again_same : (now : ℕ) (old new : Stage) → StepAgain now old new → new.queue.timer ≡ old.queue.timer
again_same now old new (inl does) = ap (λ (s : Stage). s.queue.timer) does.1.is
again_same now old new (inr does) = gives_up_same now does.place old new does.gives_up

anew_same : (now : ℕ) (old new : Stage) → StepNew now old new → new.queue.timer ≡ old.queue.timer
anew_same now old new (may, inl does) = ap (λ (s : Stage). s.queue.timer) does.is
anew_same now old new (may, inr does) = ap (λ (s : Stage). s.queue.timer) does.is

steps_same : (Step : Stage → Stage → Type 0) → ((old new : Stage) → Step old new → new.queue.timer ≡ old.queue.timer) → (old new : Stage) → StageSteps Step old new
    → new.queue.timer ≡ old.queue.timer
steps_same Step step old _ none = refl
steps_same Step step old new (more between _ steps last) = step between new last ∙ steps_same Step step old between steps

counted_same : (size : ℕ) (state : RetransmissionState) → (counted_again size state).timer ≡ state.timer
counted_same size state = go (nat_lt 0 size) _ refl
  where
    go : (b : Bool) (one : RetransmissionState) → one.timer ≡ state.timer → (if b then one else state).timer ≡ state.timer
    go true one is = is
    go false one is = refl

fills_timed : (now : ℕ) (old new : Stage) → IsTimed old.queue → FillsPacket now old new → IsTimed new.queue
fills_timed now old new h does =
    let counted : Stage = resent_packet_counted old.room does.fills.resent in
    let same : does.sent.queue.timer ≡ old.queue.timer =
    steps_same (StepNew now) (anew_same now) counted does.sent does.fills.anew
    ∙ counted_same (old.room - does.fills.resent.room) does.fills.resent.queue
    ∙ steps_same (StepAgain now) (again_same now) old does.fills.resent does.fills.again in
    subst (λ (s : Stage). IsTimed s.queue) (sym does.is) (set_timed now does.sent.queue does.sent.queue.timer (subst IsEndless (sym same) h.endless))

pub fills_where_timed : (b : Bool) (now : ℕ) (old new : Stage) → IsTimed old.queue → FillsIfAllowed b now old new → IsTimed new.queue
fills_where_timed true now old new h does = fills_timed now old new h does
fills_where_timed false now old new h (inl same) = subst (λ (s : Stage). IsTimed s.queue) (sym same) h
fills_where_timed false now old new h (inr does) = fills_timed now old new h does

pub begun_timed : (begun : Option BegunReset) (state : RetransmissionState) → IsTimed state → IsTimed (retransmission_begun begun state)
begun_timed None state h = h
begun_timed (Some begun) state h = record { runs = h.runs; endless = h.endless }

-- ---- what is sent at once

restarted_endless : (b : Bool) (timer : TimerModel) → IsEndless timer → IsEndless (timer_restarted b timer)
restarted_endless true timer h = stopped timer h
restarted_endless false timer h = h

pub at_once_timed : (now bytes : ℕ) (waiting : SendQueueState) (old new : RetransmissionState) (tsns : List ℕ) → IsTimed old → SendsAtOnce now bytes waiting old new tsns → IsTimed new
at_once_timed now bytes waiting old new tsns h does =
    let state : RetransmissionState = counted_again (bytes - does.room) does.resent in
    let same : state.timer ≡ old.timer =
    counted_same (bytes - does.room) does.resent
    ∙ steps_same (SendsMarked now) (λ from to step. ap (λ (s : Stage). s.queue.timer) step.is) (empty_stage (record old { fast_retransmit_due = false }) waiting bytes)
    (record (empty_stage does.resent waiting does.room) { tsns = tsns }) does.steps in
    subst IsTimed (sym does.is)
    (set_timed now state (timer_restarted does.sends_first state.timer) (restarted_endless does.sends_first state.timer (subst IsEndless (sym same) h.endless)))

-- ---- what is acknowledged

missed_same : (count limit : ℕ) (newest : Option ℕ) (state : RetransmissionState) → (missed_until count limit newest state).timer ≡ state.timer
missed_same count limit newest state = go (nat_lt (marked_items state.outstanding.items) (marked_items (changed_between (Miss newest) count limit state.outstanding.items)))
  where
    go : (b : Bool) → let items = changed_between (Miss newest) count limit state.outstanding.items in (if b then lossy (with_items items state) else with_items items state).timer ≡ state.timer
    go true = refl
    go false = refl

probes_endless : (b : Bool) (state : RetransmissionState) → IsEndless state.timer → IsEndless (probes_lost b state).timer
probes_endless true state h = stopped state.timer h
probes_endless false state h = h

rewound_endless : (count : ℕ) (timer : TimerModel) → IsEndless timer → IsEndless (rewound count timer)
rewound_endless count timer h = go (nat_lt 0 count)
  where
    go : (b : Bool) → IsEndless (if b then record timer { running = None } else timer)
    go true = stopped timer h
    go false = h

settled_timed : (now window count : ℕ) (state : RetransmissionState) → IsEndless state.timer → IsTimed (window_after_settling now window count state)
settled_timed now window count state h =
    let told : RetransmissionState = record state { peer_window = window } in
    let left : RetransmissionState = probes_lost (opens state told) told in
    set_timed now left (rewound count left.timer) (rewound_endless count left.timer (probes_endless (opens state told) told h))

acknowledged_timed : (now cumulative window : ℕ) (blocks : List GapAckBlock) (old new : RetransmissionState) → IsTimed old → AcknowledgesItems now cumulative window blocks old new → IsTimed new
acknowledged_timed now cumulative window blocks old new h does =
    let count = acknowledged_count old.outstanding cumulative in
    let newest = option_map (tsn_at old.outstanding) does.newest in
    let left : RetransmissionState = acknowledged_until count blocks does.limit newest (exiting cumulative old) in
    let same : left.timer ≡ old.timer = missed_same count does.limit newest (with_items (covered_items count blocks old.outstanding.items) (exiting cumulative old)) in
    subst IsTimed (sym does.is) (settled_timed now window count left (subst IsEndless (sym same) h.endless))

pub measured_timed : (round_trip : Option ℕ) (transfer : Transfer) → IsTimed transfer.retransmission → IsTimed (timed_transfer round_trip transfer).retransmission
measured_timed None transfer h = h
measured_timed (Some round_trip) transfer h = record { runs = h.runs; endless = record { next = h.endless.next; now = h.endless.now } }

pub sack_timed : (now : ℕ) (sack : SackContent) (old new : Transfer) → IsTimed old.retransmission → TakesSack now sack old new → IsTimed new.retransmission
sack_timed now sack old new h does =
    subst (λ (t : Transfer). IsTimed t.retransmission) (sym does.is)
    (measured_timed does.round_trip (record old { retransmission = does.left })
    (acknowledged_timed now sack.cumulative_tsn_ack sack.a_rwnd does.blocks old.retransmission does.left h does.acknowledges))

-- ---- what is lost

-- It goes on once it has expired.
after_running : (now : ℕ) (running : Option RunningTimer) → HasNoLast running → IsRunning running → IsRunning (running_after now running) × HasNoLast (running_after now running)
after_running now None no_last runs = absurd runs
after_running now (Some timer) no_last runs = go (is_timer_expired now timer)
  where
    continues : (most : Option ℕ) → most ≡ None → let left = if may_restart most (next_expiries timer.expiries) then Some (continued_timer now timer) else None in IsRunning left × HasNoLast left
    continues None is = (tt, no_last)
    continues (Some most) is = absurd (cc)

    go : (b : Bool) → let left = if b then timer_after_expiry now timer else Some timer in IsRunning left × HasNoLast left
    go true = continues timer.terms.max_restarts no_last
    go false = (tt, no_last)

after_stopped : (now : ℕ) (running : Option RunningTimer) → HasNoLast running → HasNoLast (running_after now running)
after_stopped now None no_last = tt
after_stopped now (Some timer) no_last = (after_running now (Some timer) no_last tt).1

-- All that was outstanding still is.
marked_runs : (items : List Item) (timer : Option RunningTimer) → RunsForItems items timer → RunsForItems (changed_between Mark 0 (length items) items) timer
marked_runs [] timer runs = tt
marked_runs (item ∷ items) timer runs = running_for (changed_between Mark 0 (length (item ∷ items)) (item ∷ items)) timer runs

expired_runs : (now : ℕ) (items : List Item) (running : Option RunningTimer) → HasNoLast running → RunsForItems items running → RunsForItems items (running_after now running)
expired_runs now [] running no_last runs = tt
expired_runs now (item ∷ items) running no_last runs = (after_running now running no_last runs).0

expired_endless : (b : Bool) (now : ℕ) (timer : TimerModel) → IsEndless timer
    → let after : TimerModel = record timer { running = running_after now timer.running } in IsEndless (if b then backed_off after else after)
expired_endless true now timer h = record { next = h.next; now = after_stopped now timer.running h.now }
expired_endless false now timer h = record { next = h.next; now = after_stopped now timer.running h.now }

expired_running : (b : Bool) (now : ℕ) (timer : TimerModel)
    → let after : TimerModel = record timer { running = running_after now timer.running } in (if b then backed_off after else after).running ≡ running_after now timer.running
expired_running true now timer = refl
expired_running false now timer = refl

pub lost_timed : (now : ℕ) (state : RetransmissionState) → IsTimed state → IsTimed (after_expiry now state)
lost_timed now state h =
    let b : Bool = state.follows_rfc && not state.has_measured && not (is_window_closed state) in
    record {
      runs = subst (λ (r : Option RunningTimer). RunsForItems (changed_between Mark 0 (length state.outstanding.items) state.outstanding.items) r) (sym (expired_running b now state.timer))
          (marked_runs state.outstanding.items (running_after now state.timer.running) (expired_runs now state.outstanding.items state.timer.running h.endless.now h.runs));
      endless = expired_endless b now state.timer h.endless;
    }

-- ---- an association that begins

pub new_timed : (options : Options) (first_tsn window : ℕ) (partial_reliability is_interleaved : Bool) → IsTimed (new_retransmission options first_tsn window partial_reliability is_interleaved)
new_timed options first_tsn window partial_reliability is_interleaved = record { runs = tt; endless = record { next = refl; now = tt } }

pub kept_timed : (now : ℕ) (options : Options) (window : ℕ) (state : RetransmissionState) → IsTimed state → IsTimed (kept_for_peer now options window state)
kept_timed now options window state h =
    let set = timer_set now state.outstanding.items (record state.timer { running = None }) (stopped state.timer h.endless) in
    record { runs = marked_runs state.outstanding.items (timer_with now state.outstanding.items (record state.timer { running = None })).running set.runs; endless = set.endless }
