-- An Established socket, maybe with data in flight, in rounds whose packets are lost: what stays, and what it sends after its timers.
use Rattle.std.specs.Prelude.{if◌then◌else◌}
use Rattle.std.proofs.Common.{◌≡◌, ℕ, suc, Bool, true, false, Option, None, List, [], ◌∷◌, ◌++◌, refl, sym, subst, ap, ◌∙◌}
use Rattle.dcsctp_spec_lemmas.specs.types.declared.association.Held.{Held}
use Rattle.dcsctp_spec_lemmas.specs.types.declared.association.Pair.{Pair}
use Rattle.dcsctp_spec_lemmas.specs.types.declared.ends.AbortReason.TheVariants.{TooManyErrors}
use Rattle.dcsctp_spec_lemmas.specs.types.declared.options.Options.{Options}
use Rattle.dcsctp_spec_lemmas.specs.spec.Packet.{Emission}
use Rattle.dcsctp_spec_lemmas.specs.spec.association.Acts.{abort_with, flushes}
use Rattle.dcsctp_spec_lemmas.specs.spec.endpoint.BegunResets.{BegunReset, after_begun}
use Rattle.dcsctp_spec_lemmas.specs.spec.endpoint.CallTurns.{Transition, Turns, after_all, events_of}
use Rattle.dcsctp_spec_lemmas.specs.spec.endpoint.DataOutcomes.{FlushTurn, AnswersTo, flush_to_peer}
use Rattle.dcsctp_spec_lemmas.specs.spec.endpoint.Endpoint.{Endpoint, Core, open_in, established, held_by_core}
use Rattle.dcsctp_spec_lemmas.specs.spec.endpoint.Event.{Event, packets_of_events}
use Rattle.dcsctp_spec_lemmas.specs.spec.endpoint.FlushOutcomes.{Answer, FlushAnswers, first_ask, packets_allowed, flush_of, draft_to}
use Rattle.dcsctp_spec_lemmas.specs.spec.endpoint.Outcome.{Outcome}
use Rattle.dcsctp_spec_lemmas.specs.spec.endpoint.TimeTurns.{inputs_behind, after_expiries, unless_exhausted}
use Rattle.dcsctp_spec_lemmas.specs.spec.endpoint.Turn.{act_input}
use Rattle.dcsctp_spec_lemmas.specs.spec.queues.Tracker.{TrackerState, owes_acknowledgement, is_acknowledgement_due, delayed_acknowledgement}
use Rattle.dcsctp_spec_lemmas.proofs.FlushKeeps.{Keeps, begun_by, flush_keeps}
use Rattle.dcsctp_delivery_directions.specs.sending.Losing.{AreOpen}
use Rattle.dcsctp_delivery_directions.proofs.sending.OpenStreams.{flush_asks_none, flush_open}
use Rattle.dcsctp_theorem_progress.specs.Retries.{LeavesRestarts}
use Rattle.dcsctp_theorem_progress.proofs.Beats.{not_exhausted}
use Rattle.dcsctp_theorem_progress.proofs.Constant.{Tracks, flush_tracks}
use Rattle.dcsctp_theorem_sockets.proofs.Bursts.{packets_of_events-append}
use Rattle.dcsctp_theorem_progress.proofs.Carried.{CarriesTo, all_both}
use Rattle.dcsctp_theorem_progress.proofs.Flows.{IsOfKind, AllCarryTo, told-append}
use Rattle.dcsctp_theorem_progress.proofs.Flushes.{Stays, flush_stays}
use Rattle.dcsctp_theorem_progress.proofs.FlushTimers.{Leaves, flush_leaves}
use Rattle.dcsctp_theorem_progress.proofs.Retries.{fewer, no_turns}
use Rattle.dcsctp_theorem_progress.proofs.Views.{told_then}

-- ---- what stays

-- No stream is to be reset, neither a request nor T2 runs, and that many errors more end nothing.
pub record Endures (e : Endpoint) (more : ℕ) : Type 0 where
  pub unpaused : AreOpen e.queues.queue.streams
  pub reconfiguration : e.timers.reconfiguration ≡ None
  pub t2 : e.timers.t2 ≡ None
  pub errors : LeavesRestarts e.options.max_retransmissions e.error_count more

-- What is in flight is of the kind that was negotiated, and the peer takes what these events send.
pub record FlowsOn (held : Held) (e : Endpoint) (events : List (Event Emission)) : Type 0 where
  pub kind : IsOfKind held e
  pub sent : AllCarryTo held (packets_of_events events)

-- All that was received is acknowledged.
pub record IsAcknowledged (tracker : TrackerState) : Type 0 where
  pub owes : owes_acknowledgement tracker ≡ false
  pub due : is_acknowledgement_due tracker ≡ false
  pub delay : delayed_acknowledgement tracker ≡ None

-- The association, the options and the tie tag stay, it endures so many errors more, and no connection is told. If data flows as was
-- negotiated, it still does. If all that was received is acknowledged, what tracks it stays.
pub record Endured (held : Held) (e after : Endpoint) (events : List (Event Emission)) (more : ℕ) : Type 0 where
  pub core : after.core ≡ e.core
  pub options : after.options ≡ e.options
  pub tie : after.tie ≡ e.tie
  pub endures : Endures after more
  pub told : (n : ℕ) → told_then events n ≡ n
  pub flows : IsOfKind held e → FlowsOn held after events
  pub tracks : (tracker : TrackerState) → IsAcknowledged tracker → Tracks e tracker → Tracks after tracker

abbrev pub EnduredAlong : Held → Endpoint → List Transition → ℕ → Type 0
EnduredAlong held e turns more = Endured held e (after_all e turns) (events_of turns) more

abbrev pub EnduredTurn : Held → Endpoint → Outcome → ℕ → Type 0
EnduredTurn held e o more = Endured held e o.after o.events more

flows_then : (held : Held) (between after : Endpoint) (xs ys : List (Event Emission)) → FlowsOn held between xs → FlowsOn held after ys → FlowsOn held after (xs ++ ys)
flows_then held between after xs ys first rest =
    record {
      kind = rest.kind;
      sent = subst (AllCarryTo held) (sym (packets_of_events-append xs ys)) (all_both (CarriesTo held) (packets_of_events xs) (packets_of_events ys) first.sent rest.sent);
    }

pub endured_then : (held : Held) (e : Endpoint) (t : Transition) (ts : List Transition) (more less : ℕ) → EnduredTurn held e t.outcome more → EnduredAlong held t.outcome.after ts less → EnduredAlong held e (t ∷ ts) less
endured_then held e t ts more less first rest =
    record {
      core = rest.core ∙ first.core;
      options = rest.options ∙ first.options;
      tie = rest.tie ∙ first.tie;
      endures = rest.endures;
      told = λ n. told-append t.outcome.events (events_of ts) n ∙ ap (told_then (events_of ts)) (first.told n) ∙ rest.told n;
      flows = λ kind. (let now : FlowsOn held t.outcome.after t.outcome.events = first.flows kind in
          flows_then held t.outcome.after (after_all t.outcome.after ts) t.outcome.events (events_of ts) now (rest.flows now.kind));
      tracks = λ tracker acknowledged now. rest.tracks tracker acknowledged (first.tracks tracker acknowledged now);
    }

pub none_endured : (held : Held) (e : Endpoint) (more : ℕ) → Endures e more → EnduredAlong held e [] more
none_endured held e more h =
    record {
      core = refl;
      options = refl;
      tie = refl;
      endures = h;
      told = λ n. refl;
      flows = λ kind. record { kind = kind; sent = tt };
      tracks = λ tracker acknowledged now. now;
    }

pub less_errors : (e : Endpoint) (more : ℕ) → Endures e (suc more) → Endures e more
less_errors e more h = record { unpaused = h.unpaused; reconfiguration = h.reconfiguration; t2 = h.t2; errors = fewer e.options.max_retransmissions e.error_count more h.errors }

pub as_outcome : (held : Held) (e : Endpoint) (o p : Outcome) (more : ℕ) → o ≡ p → EnduredTurn held e p more → EnduredTurn held e o more
as_outcome held e o p more is h = subst (λ (x : Outcome). EnduredTurn held e x more) (sym is) h

-- ---- the flush after the timers

flush_endures : (held : Held) (mine : Pair) (e : Endpoint) (o : Outcome) (more : ℕ) → e.core ≡ open_in established mine held → Endures e more → FlushTurn e o → EnduredTurn held e o more
flush_endures held mine e o more is h turn =
    let answers : List Answer = turn.0 in
    let n : ℕ = packets_allowed e.options.max_burst e.core in
    let allowed : FlushAnswers e (draft_to held) answers = subst (λ (core : Core). AnswersTo e (held_by_core core) answers) is turn.1 in
    let so : o ≡ flush_of e (draft_to held) answers = turn.2 ∙ ap (λ (core : Core). flush_to_peer e (held_by_core core) answers) is in
    let none : begun_by answers ≡ None = flush_asks_none first_ask n e (draft_to held) answers allowed h.unpaused in
    let keeps : Keeps (begun_by answers) e (flush_of e (draft_to held) answers) = flush_keeps first_ask n e (draft_to held) answers allowed in
    let leaves : Leaves e (flush_of e (draft_to held) answers) = flush_leaves first_ask n e (draft_to held) answers none allowed in
    as_outcome held e o (flush_of e (draft_to held) answers) more so
    (record {
      core = keeps.core ∙ ap (λ (b : Option BegunReset). (after_begun b e).core) none;
      options = keeps.options;
      tie = leaves.tie;
      endures = record {
        unpaused = flush_open first_ask n e (draft_to held) answers allowed h.unpaused;
        reconfiguration = leaves.reconfiguration ∙ h.reconfiguration;
        t2 = leaves.t2 ∙ h.t2;
        errors = subst (λ (k : ℕ). LeavesRestarts (flush_of e (draft_to held) answers).after.options.max_retransmissions k more) (sym leaves.errors)
            (subst (λ (x : Options). LeavesRestarts x.max_retransmissions e.error_count more) (sym keeps.options) h.errors);
      };
      told = leaves.told;
      flows = λ kind. (let s : Stays held e (flush_of e (draft_to held) answers) =
          flush_stays held e (draft_to held) answers (record { kind = kind; unpaused = h.unpaused }) (record { checked = refl; header = refl; contents = tt }) allowed in
          record { kind = s.flows.kind; sent = s.tells.sent });
      tracks = λ tracker acknowledged now. flush_tracks first_ask n e (draft_to held) answers tracker allowed now acknowledged.owes acknowledged.due;
    })

by_flush : (held : Held) (mine : Pair) (e : Endpoint) (more : ℕ) (turns : List Transition) → e.core ≡ open_in established mine held → Endures e more → Turns e (act_input flushes ∷ []) turns → EnduredAlong held e turns more
by_flush held mine e more [] is h turns = absurd turns
by_flush held mine e more (t ∷ u ∷ ts) is h turns = absurd turns.1
by_flush held mine e more (t ∷ []) is h turns =
    let o : EnduredTurn held e t.outcome more = flush_endures held mine e t.outcome more is h turns.0.comes in
    endured_then held e t [] more more o (none_endured held t.outcome.after more o.endures)

pub by_end : (expired : Bool) (held : Held) (mine : Pair) (e : Endpoint) (more : ℕ) (turns : List Transition) → e.core ≡ open_in established mine held → Endures e more
    → Turns e (after_expiries e expired) turns → EnduredAlong held e turns more
by_end false held mine e more turns is h end = subst (λ (ts : List Transition). EnduredAlong held e ts more) (sym (no_turns e turns end)) (none_endured held e more h)
by_end true held mine e more turns is h end =
    let at_core : Turns e (unless_exhausted e (act_input flushes ∷ [])) turns = subst (λ (core : Core). Turns e (inputs_behind e core) turns) is end in
    by_flush held mine e more turns is h
    (subst (λ (b : Bool). Turns e (if b then act_input (abort_with TooManyErrors) ∷ [] else act_input flushes ∷ []) turns)
    (not_exhausted e.options.max_retransmissions e.error_count more h.errors) at_core)
