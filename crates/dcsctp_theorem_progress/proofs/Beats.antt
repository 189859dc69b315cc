-- An Established socket in which nothing waits, while the timers of its heartbeats expire (RFC 9260, section 8.3).
use Rattle.std.specs.Prelude.{nat_le, ◌==◌, if◌then◌else◌}
use Rattle.std.proofs.Common.{◌≡◌, ℕ, suc, Bool, true, false, cond, Option, None, Some, List, [], ◌∷◌, ◌++◌, refl, sym, subst, ap, ◌∙◌, arith}
use Rattle.std.proofs.lemmas.Bool.Decides.{nat_tests}
use Rattle.dcsctp_spec_lemmas.specs.types.declared.association.Held.{Held}
use Rattle.dcsctp_spec_lemmas.specs.types.declared.association.Pair.{Pair}
use Rattle.dcsctp_spec_lemmas.specs.types.declared.ends.AbortReason.TheVariants.{TooManyErrors}
use Rattle.dcsctp_spec_lemmas.specs.spec.association.Acts.{abort_with, flushes}
use Rattle.dcsctp_spec_lemmas.specs.spec.queues.Transfer.{EndpointQueues}
use Rattle.dcsctp_spec_lemmas.specs.spec.endpoint.CallTurns.{Transition, Turns, after_all, events_of}
use Rattle.dcsctp_spec_lemmas.specs.spec.endpoint.DataOutcomes.{FlushTurn, AnswersTo, flush_to_peer}
use Rattle.dcsctp_spec_lemmas.specs.spec.endpoint.Endpoint.{Endpoint, Core, OpenPhase, open_in, held_by_core}
use Rattle.dcsctp_spec_lemmas.specs.spec.endpoint.Event.{Event, connected}
use Rattle.dcsctp_spec_lemmas.specs.spec.endpoint.FlushOutcomes.{FlushAnswers, IsIdle, draft_to}
use Rattle.dcsctp_spec_lemmas.specs.spec.endpoint.HeartbeatOutcomes.{error_counted, is_exhausted, interval_expired, beating, heartbeat_emission, interval_outcome, timeout_outcome}
use Rattle.dcsctp_spec_lemmas.specs.spec.endpoint.Outcome.{Outcome, quiet, sends, still, fits}
use Rattle.dcsctp_spec_lemmas.specs.spec.endpoint.OwnTimers.{acknowledgement_delay, retransmission, heartbeat_interval, heartbeat_timeout, reconfiguration}
use Rattle.dcsctp_spec_lemmas.specs.spec.endpoint.Timers.{RunningTimer}
use Rattle.dcsctp_spec_lemmas.specs.spec.endpoint.TimeTurns.{Timer, own_timer, t2_timer, handled_timers, deadline_of, delay_deadline, loss_deadline, has_come, inputs_behind, after_expiries, unless_exhausted, ExpiryThen, ExpiryTurns, DueTurns, MomentTurns, TimeTurns, AdvanceTurns}
use Rattle.dcsctp_spec_lemmas.specs.spec.endpoint.Turn.{act_input, with_clock}
use Rattle.dcsctp_spec_runs.proofs.FlushLemmas.{flush_is_now}
use Rattle.dcsctp_theorem_progress.specs.Heartbeats.{OnlyBeats}
use Rattle.dcsctp_theorem_progress.specs.Retries.{LeavesRestarts}
use Rattle.dcsctp_theorem_progress.proofs.Retries.{fewer, no_turns}
use Rattle.dcsctp_theorem_progress.proofs.Views.{told_then}

-- ---- what stays

-- It has the same association, options and queues, and only heartbeats' timers run.
pub record Beats (f g : Endpoint) (more : ℕ) : Type 0 where
  pub core : g.core ≡ f.core
  pub options : g.options ≡ f.options
  pub queues : g.queues ≡ f.queues
  pub only : OnlyBeats g more

-- and no connection was told
pub record Beaten (f : Endpoint) (more : ℕ) (turns : List Transition) : Type 0 where
  pub beats : Beats f (after_all f turns) more
  pub told : (n : ℕ) → told_then (events_of turns) n ≡ n

told_append : {P : Type 0} (xs ys : List (Event P)) (n : ℕ) → told_then (xs ++ ys) n ≡ told_then xs (told_then ys n)
told_append [] ys n = refl
told_append (connected ∷ xs) ys n = ap suc (told_append xs ys n)
told_append (event ∷ xs) ys n = told_append xs ys n

beats_then : (f g h : Endpoint) (more less : ℕ) → Beats f g more → Beats g h less → Beats f h less
beats_then f g h more less a b = record { core = b.core ∙ a.core; options = b.options ∙ a.options; queues = b.queues ∙ a.queues; only = b.only }

-- a turn, and those after it
beaten_then : (f : Endpoint) (t : Transition) (ts : List Transition) (more less : ℕ) → Beats f t.outcome.after more → ((n : ℕ) → told_then t.outcome.events n ≡ n) → Beaten t.outcome.after less ts → Beaten f less (t ∷ ts)
beaten_then f t ts more less first none rest =
    record {
      beats = beats_then f t.outcome.after (after_all t.outcome.after ts) more less first rest.beats;
      told = λ n. told_append t.outcome.events (events_of ts) n ∙ ap (told_then t.outcome.events) (rest.told n) ∙ none n;
    }

-- ---- errors

pub one_more_error : (limit : Option ℕ) (count more : ℕ) → LeavesRestarts limit count (suc more) → LeavesRestarts limit (error_counted limit count) more
one_more_error None count more h = tt
one_more_error (Some limit) count more h = omega (arith, h)

pub not_exhausted : (limit : Option ℕ) (count more : ℕ) → LeavesRestarts limit count more → is_exhausted limit count ≡ false
not_exhausted None count more h = refl
not_exhausted (Some limit) count more h = grind (arith, nat_tests, h)

less_beats : (f : Endpoint) (more : ℕ) → OnlyBeats f (suc more) → OnlyBeats f more
less_beats f more h =
    record { delay = h.delay; loss = h.loss; reconfiguration = h.reconfiguration; t2 = h.t2; errors = fewer f.options.max_retransmissions f.error_count more h.errors }

-- ---- the flush behind

same_beats : (f : Endpoint) (more : ℕ) → OnlyBeats f more → Beats f f more
same_beats f more h = record { core = refl; options = refl; queues = refl; only = h }

none_beaten : (f : Endpoint) (more : ℕ) → OnlyBeats f more → Beaten f more []
none_beaten f more h = record { beats = same_beats f more h; told = λ n. refl }

flush_rests : (f : Endpoint) (phase : OpenPhase) (mine : Pair) (held : Held) (o : Outcome) → f.core ≡ open_in phase mine held → IsIdle f → FlushTurn f o → o ≡ quiet f [] []
flush_rests f phase mine held o is idle turn =
    let answers : FlushAnswers f (draft_to held) turn.0 = subst (λ (core : Core). AnswersTo f (held_by_core core) turn.0) is turn.1 in
    turn.2
    ∙ ap (λ (core : Core). flush_to_peer f (held_by_core core) turn.0) is
    ∙ flush_is_now f [] [] (held.capabilities.zero_checksum_method.0 == 0) held.peer.tag [] turn.0 idle answers

by_flush : (f : Endpoint) (phase : OpenPhase) (mine : Pair) (held : Held) (more : ℕ) (turns : List Transition) → f.core ≡ open_in phase mine held → IsIdle f → OnlyBeats f more
    → Turns f (act_input flushes ∷ []) turns → Beaten f more turns
by_flush f phase mine held more [] is idle h turns = absurd turns
by_flush f phase mine held more (t ∷ u ∷ ts) is idle h turns = absurd turns.1
by_flush f phase mine held more (t ∷ []) is idle h turns =
    let o : t.outcome ≡ quiet f [] [] = flush_rests f phase mine held t.outcome is idle turns.0.comes in
    let after : f ≡ t.outcome.after = sym (ap (λ (x : Outcome). x.after) o) in
    beaten_then f t [] more more (subst (λ (g : Endpoint). Beats f g more) after (same_beats f more h)) (λ n. ap (λ (x : Outcome). told_then x.events n) o)
    (subst (λ (g : Endpoint). Beaten g more []) after (none_beaten f more h))

by_end : (expired : Bool) (f : Endpoint) (phase : OpenPhase) (mine : Pair) (held : Held) (more : ℕ) (turns : List Transition) → f.core ≡ open_in phase mine held → IsIdle f → OnlyBeats f more
    → Turns f (after_expiries f expired) turns → Beaten f more turns
by_end false f phase mine held more turns is idle h end = subst (Beaten f more) (sym (no_turns f turns end)) (none_beaten f more h)
by_end true f phase mine held more turns is idle h end =
    let at_core : Turns f (unless_exhausted f (act_input flushes ∷ [])) turns = subst (λ (core : Core). Turns f (inputs_behind f core) turns) is end in
    by_flush f phase mine held more turns is idle h
    (subst (λ (b : Bool). Turns f (if b then act_input (abort_with TooManyErrors) ∷ [] else act_input flushes ∷ []) turns)
    (not_exhausted f.options.max_retransmissions f.error_count more h.errors) at_core)

-- ---- the timers in turn

pub idle_still : (f g : Endpoint) → g.queues ≡ f.queues → IsIdle f → IsIdle g
idle_still f g same idle = subst (λ (queues : EndpointQueues). IsIdle (record g { queues = queues })) (sym same) idle

-- Neither a request nor T2 is due.
by_others : (expired : Bool) (f : Endpoint) (phase : OpenPhase) (mine : Pair) (held : Held) (more : ℕ) (turns : List Transition) → f.core ≡ open_in phase mine held → IsIdle f → OnlyBeats f more
    → ExpiryTurns (own_timer reconfiguration ∷ t2_timer ∷ []) expired f turns → Beaten f more turns
by_others expired f phase mine held more turns is idle h time =
    let no_request : has_come f.moment (deadline_of f.timers.reconfiguration) ≡ false = ap (λ (t : Option RunningTimer). has_come f.moment (deadline_of t)) h.reconfiguration in
    let no_t2 : has_come f.moment (deadline_of f.timers.t2) ≡ false = ap (λ (t : Option RunningTimer). has_come f.moment (deadline_of t)) h.t2 in
    let at_t2 : ExpiryTurns (t2_timer ∷ []) expired f turns =
    subst (λ (b : Bool). ExpiryThen b (ExpiryTurns (t2_timer ∷ [])) f expired (own_timer reconfiguration) turns) no_request time in
    let end : Turns f (after_expiries f expired) turns = subst (λ (b : Bool). ExpiryThen b (ExpiryTurns []) f expired t2_timer turns) no_t2 at_t2 in
    by_end expired f phase mine held more turns is idle h end

-- An answer stayed away.
missed_beats : (f : Endpoint) (more : ℕ) → OnlyBeats f (suc more) → Beats f (timeout_outcome f).after more
missed_beats f more h =
    record {
      core = refl;
      options = refl;
      queues = refl;
      only = record { delay = h.delay; loss = h.loss; reconfiguration = h.reconfiguration; t2 = h.t2; errors = one_more_error f.options.max_retransmissions f.error_count more h.errors };
    }

after_turn : (f : Endpoint) (o : Outcome) (t : Transition) (more : ℕ) → t.outcome ≡ o → Beats f o.after more → Beats f t.outcome.after more
after_turn f o t more is h = subst (λ (x : Outcome). Beats f x.after more) (sym is) h

by_timeout : (due expired : Bool) (f : Endpoint) (phase : OpenPhase) (mine : Pair) (held : Held) (more : ℕ) (turns : List Transition) → f.core ≡ open_in phase mine held → IsIdle f → OnlyBeats f (suc more)
    → ExpiryThen due (ExpiryTurns (own_timer reconfiguration ∷ t2_timer ∷ [])) f expired (own_timer heartbeat_timeout) turns → Beaten f more turns
by_timeout false expired f phase mine held more turns is idle h time = by_others expired f phase mine held more turns is idle (less_beats f more h) time
by_timeout true expired f phase mine held more [] is idle h time = absurd time
by_timeout true expired f phase mine held more (t ∷ ts) is idle h time =
    let o : t.outcome ≡ timeout_outcome f = time.0.comes in
    let first : Beats f t.outcome.after more = after_turn f (timeout_outcome f) t more o (missed_beats f more h) in
    beaten_then f t ts more more first (λ n. ap (λ (x : Outcome). told_then x.events n) o)
    (by_others true t.outcome.after phase mine held more ts (first.core ∙ is) (idle_still f t.outcome.after first.queues idle) first.only time.1)

-- A HEARTBEAT goes out, if it fits.
abbrev beat_by : Bool → Endpoint → Held → Outcome
beat_by fitting f held =
    let after : Endpoint = beating (interval_expired f) in
    cond fitting (sends after [] [] (heartbeat_emission held after.heartbeat_counter)) (quiet after [] [])

beat_beats : (fitting : Bool) (f : Endpoint) (held : Held) (more : ℕ) → OnlyBeats f more → Beats f (beat_by fitting f held).after more
beat_beats true f held more h =
    record { core = refl; options = refl; queues = refl; only = record { delay = h.delay; loss = h.loss; reconfiguration = h.reconfiguration; t2 = h.t2; errors = h.errors } }
beat_beats false f held more h =
    record { core = refl; options = refl; queues = refl; only = record { delay = h.delay; loss = h.loss; reconfiguration = h.reconfiguration; t2 = h.t2; errors = h.errors } }

beat_tells_none : (fitting : Bool) (f : Endpoint) (held : Held) (n : ℕ) → told_then (beat_by fitting f held).events n ≡ n
beat_tells_none true f held n = refl
beat_tells_none false f held n = refl

by_interval : (due : Bool) (f : Endpoint) (phase : OpenPhase) (mine : Pair) (held : Held) (more : ℕ) (turns : List Transition) → f.core ≡ open_in phase mine held → IsIdle f → OnlyBeats f (suc more)
    → ExpiryThen due (ExpiryTurns (own_timer heartbeat_timeout ∷ own_timer reconfiguration ∷ t2_timer ∷ [])) f false (own_timer heartbeat_interval) turns → Beaten f more turns
by_interval false f phase mine held more turns is idle h time =
    by_timeout (has_come f.moment (deadline_of f.timers.heartbeat_timeout)) false f phase mine held more turns is idle h time
by_interval true f phase mine held more [] is idle h time = absurd time
by_interval true f phase mine held more (t ∷ ts) is idle h time =
    let after : Endpoint = beating (interval_expired f) in
    let fitting : Bool = fits after (heartbeat_emission held after.heartbeat_counter) in
    let o : t.outcome ≡ beat_by fitting f held = time.0.comes ∙ ap (interval_outcome f) is in
    let first : Beats f t.outcome.after (suc more) = after_turn f (beat_by fitting f held) t (suc more) o (beat_beats fitting f held (suc more) h) in
    beaten_then f t ts (suc more) more first (λ n. ap (λ (x : Outcome). told_then x.events n) o ∙ beat_tells_none fitting f held n)
    (by_timeout (has_come t.outcome.after.moment (deadline_of t.outcome.after.timers.heartbeat_timeout)) true t.outcome.after phase mine held more ts (first.core ∙ is)
    (idle_still f t.outcome.after first.queues idle) first.only time.1)

by_due : (f : Endpoint) (phase : OpenPhase) (mine : Pair) (held : Held) (more : ℕ) (turns : List Transition) → f.core ≡ open_in phase mine held → IsIdle f → OnlyBeats f (suc more) → DueTurns f turns → Beaten f more turns
by_due f phase mine held more turns is idle h time =
    let beats : List Timer = own_timer heartbeat_interval ∷ own_timer heartbeat_timeout ∷ own_timer reconfiguration ∷ t2_timer ∷ [] in
    let at_core : ExpiryTurns (own_timer acknowledgement_delay ∷ own_timer retransmission ∷ beats) false f turns = subst (λ (core : Core). ExpiryTurns (handled_timers core) false f turns) is time in
    let no_delay : has_come f.moment (delay_deadline f.queues.transfer) ≡ false = ap (has_come f.moment) h.delay in
    let no_loss : has_come f.moment (loss_deadline f.queues.transfer) ≡ false = ap (has_come f.moment) h.loss in
    let at_loss : ExpiryTurns (own_timer retransmission ∷ beats) false f turns =
    subst (λ (b : Bool). ExpiryThen b (ExpiryTurns (own_timer retransmission ∷ beats)) f false (own_timer acknowledgement_delay) turns) no_delay at_core in
    let at_interval : ExpiryTurns beats false f turns = subst (λ (b : Bool). ExpiryThen b (ExpiryTurns beats) f false (own_timer retransmission) turns) no_loss at_loss in
    by_interval (has_come f.moment (deadline_of f.timers.heartbeat_interval)) f phase mine held more turns is idle h at_interval

-- ---- a moment

clock_beats : (f : Endpoint) (moment more : ℕ) → OnlyBeats f more → Beats f (with_clock moment f) more
clock_beats f moment more h =
    record { core = refl; options = refl; queues = refl; only = record { delay = h.delay; loss = h.loss; reconfiguration = h.reconfiguration; t2 = h.t2; errors = h.errors } }

by_moment : (f : Endpoint) (phase : OpenPhase) (mine : Pair) (held : Held) (moment more : ℕ) (turns : List Transition) → f.core ≡ open_in phase mine held → IsIdle f → OnlyBeats f (suc more) → MomentTurns f moment turns → Beaten f more turns
by_moment f phase mine held moment more [] is idle h time = absurd time
by_moment f phase mine held moment more (t ∷ ts) is idle h time =
    let o : t.outcome ≡ still (with_clock moment f) = time.0.comes in
    let first : Beats f t.outcome.after (suc more) = after_turn f (still (with_clock moment f)) t (suc more) o (clock_beats f moment (suc more) h) in
    beaten_then f t ts (suc more) more first (λ n. ap (λ (x : Outcome). told_then x.events n) o)
    (by_due t.outcome.after phase mine held more ts (first.core ∙ is) (idle_still f t.outcome.after first.queues idle) first.only time.1)

beaten_by : (later : Bool) (f : Endpoint) (phase : OpenPhase) (mine : Pair) (held : Held) (moment more : ℕ) (turns : List Transition) → f.core ≡ open_in phase mine held → IsIdle f → OnlyBeats f (suc more)
    → TimeTurns later f moment turns → Beaten f more turns
beaten_by true f phase mine held moment more turns is idle h time = by_moment f phase mine held moment more turns is idle h time
beaten_by false f phase mine held moment more turns is idle h time = subst (Beaten f more) (sym time) (none_beaten f more (less_beats f more h))

-- In a moment it misses one answer at most.
pub beaten : (f : Endpoint) (phase : OpenPhase) (mine : Pair) (held : Held) (moment more : ℕ) (turns : List Transition) → f.core ≡ open_in phase mine held → IsIdle f → OnlyBeats f (suc more)
    → AdvanceTurns f moment turns → Beaten f more turns
beaten f phase mine held moment more turns is idle h time = beaten_by (nat_le f.moment moment) f phase mine held moment more turns is idle h time
