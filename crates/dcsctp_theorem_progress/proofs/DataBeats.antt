-- An Established socket, maybe with data in flight, while its timers expire and nothing comes: of a delayed SACK, T3, and those of
-- heartbeats (RFC 9260, sections 6.2, 6.3.3 and 8.3).
use Rattle.std.specs.Prelude.{nat_le}
use Rattle.std.proofs.Common.{◌≡◌, ℕ, suc, Bool, true, false, cond, Option, None, Some, List, [], ◌∷◌, refl, sym, subst, ap, ◌∙◌}
use Rattle.dcsctp_spec_lemmas.specs.types.declared.association.Held.{Held}
use Rattle.dcsctp_spec_lemmas.specs.types.declared.association.Pair.{Pair}
use Rattle.dcsctp_spec_lemmas.specs.spec.queues.Tracker.{TrackerState, delay_over, delayed_acknowledgement}
use Rattle.dcsctp_spec_lemmas.specs.spec.queues.Transfer.{Transfer, EndpointQueues}
use Rattle.dcsctp_spec_lemmas.specs.spec.endpoint.CallTurns.{Transition, Turns}
use Rattle.dcsctp_spec_lemmas.specs.spec.endpoint.DataOutcomes.{LossTurn, delay_outcome, with_transfer}
use Rattle.dcsctp_spec_lemmas.specs.spec.endpoint.Endpoint.{Endpoint, Core, open_in, established, held_by_core}
use Rattle.dcsctp_spec_lemmas.specs.spec.Packet.{Emission}
use Rattle.dcsctp_spec_lemmas.specs.spec.endpoint.Event.{Event, packets_of_events}
use Rattle.dcsctp_spec_lemmas.specs.spec.endpoint.HeartbeatOutcomes.{error_counted, interval_expired, beating, heartbeat_emission, interval_outcome, timeout_outcome}
use Rattle.dcsctp_spec_lemmas.specs.spec.endpoint.Outcome.{Outcome, quiet, sends, still, fits}
use Rattle.dcsctp_spec_lemmas.specs.spec.endpoint.OwnTimers.{acknowledgement_delay, retransmission, heartbeat_interval, heartbeat_timeout, reconfiguration}
use Rattle.dcsctp_spec_lemmas.specs.spec.endpoint.Timers.{RunningTimer}
use Rattle.dcsctp_spec_lemmas.specs.spec.endpoint.TransferMoves.{lost_all}
use Rattle.dcsctp_spec_lemmas.specs.spec.endpoint.TimeTurns.{Timer, own_timer, t2_timer, handled_timers, deadline_of, delay_deadline, loss_deadline, has_come, after_expiries, ExpiryThen, ExpiryTurns, DueTurns, MomentTurns, TimeTurns, AdvanceTurns}
use Rattle.dcsctp_spec_lemmas.specs.spec.endpoint.Turn.{with_clock}
use Rattle.dcsctp_theorem_progress.proofs.Beats.{one_more_error}
use Rattle.dcsctp_theorem_progress.proofs.Enduring.{Endures, FlowsOn, IsAcknowledged, EnduredTurn, EnduredAlong, endured_then, none_endured, less_errors, as_outcome, by_end}
use Rattle.dcsctp_theorem_progress.proofs.Carried.{heartbeat_sendable}
use Rattle.dcsctp_theorem_progress.proofs.Constant.{Tracks}
use Rattle.dcsctp_theorem_progress.proofs.FlightKinds.{SameKind}
use Rattle.dcsctp_theorem_progress.proofs.Flows.{IsOfKind, AllCarryTo}

-- ---- the timers in turn, the last ones first

abbrev last_timers : List Timer
last_timers = own_timer reconfiguration ∷ t2_timer ∷ []

abbrev beat_timers : List Timer
beat_timers = own_timer heartbeat_timeout ∷ last_timers

abbrev loss_timers : List Timer
loss_timers = own_timer heartbeat_interval ∷ beat_timers

-- Neither a request nor T2 is due.
by_others : (expired : Bool) (held : Held) (mine : Pair) (e : Endpoint) (more : ℕ) (turns : List Transition) → e.core ≡ open_in established mine held → Endures e more
    → ExpiryTurns last_timers expired e turns → EnduredAlong held e turns more
by_others expired held mine e more turns is h time =
    let no_request : has_come e.moment (deadline_of e.timers.reconfiguration) ≡ false = ap (λ (t : Option RunningTimer). has_come e.moment (deadline_of t)) h.reconfiguration in
    let no_t2 : has_come e.moment (deadline_of e.timers.t2) ≡ false = ap (λ (t : Option RunningTimer). has_come e.moment (deadline_of t)) h.t2 in
    let at_t2 : ExpiryTurns (t2_timer ∷ []) expired e turns =
    subst (λ (b : Bool). ExpiryThen b (ExpiryTurns (t2_timer ∷ [])) e expired (own_timer reconfiguration) turns) no_request time in
    let end : Turns e (after_expiries e expired) turns = subst (λ (b : Bool). ExpiryThen b (ExpiryTurns []) e expired t2_timer turns) no_t2 at_t2 in
    by_end expired held mine e more turns is h end

same_flows : (held : Held) (e f : Endpoint) (events : List (Event Emission)) → f.core ≡ e.core → f.queues ≡ e.queues → AllCarryTo held (packets_of_events events) → IsOfKind held e → FlowsOn held f events
same_flows held e f events core queues sent h =
    record {
      kind = record {
        peer = ap held_by_core core ∙ h.peer;
        transfer = h.transfer;
        known = ap (λ (q : EndpointQueues). q.transfer) queues ∙ h.known;
        interleaves = h.interleaves;
        abandons = h.abandons;
      };
      sent = sent;
    }

same_tracks : (e f : Endpoint) (tracker : TrackerState) → f.queues ≡ e.queues → Tracks e tracker → Tracks f tracker
same_tracks e f tracker queues h = record { transfer = h.transfer; known = ap (λ (q : EndpointQueues). q.transfer) queues ∙ h.known; same = h.same }

-- A turn that leaves the association, the queues, and all timers but those of heartbeats.
still_endured : (held : Held) (e f : Endpoint) (more : ℕ) → f.core ≡ e.core → f.options ≡ e.options → f.tie ≡ e.tie → f.queues ≡ e.queues → Endures f more → EnduredTurn held e (still f) more
still_endured held e f more core options tie queues h =
    record {
      core = core;
      options = options;
      tie = tie;
      endures = h;
      told = λ n. refl;
      flows = λ kind. same_flows held e f [] core queues tt kind;
      tracks = λ tracker acknowledged now. same_tracks e f tracker queues now;
    }

-- A HEARTBEAT wasn't answered.
missed : (held : Held) (e : Endpoint) (more : ℕ) → Endures e (suc more) → EnduredTurn held e (timeout_outcome e) more
missed held e more h =
    still_endured held e (timeout_outcome e).after more refl refl refl refl
    (record { unpaused = h.unpaused; reconfiguration = h.reconfiguration; t2 = h.t2; errors = one_more_error e.options.max_retransmissions e.error_count more h.errors })

by_timeout : (due expired : Bool) (held : Held) (mine : Pair) (e : Endpoint) (more : ℕ) (turns : List Transition) → e.core ≡ open_in established mine held → Endures e (suc more)
    → ExpiryThen due (ExpiryTurns last_timers) e expired (own_timer heartbeat_timeout) turns → EnduredAlong held e turns more
by_timeout false expired held mine e more turns is h time = by_others expired held mine e more turns is (less_errors e more h) time
by_timeout true expired held mine e more [] is h time = absurd time
by_timeout true expired held mine e more (t ∷ ts) is h time =
    let o : EnduredTurn held e t.outcome more = as_outcome held e t.outcome (timeout_outcome e) more time.0.comes (missed held e more h) in
    endured_then held e t ts more more o (by_others true held mine t.outcome.after more ts (o.core ∙ is) o.endures time.1)

-- A HEARTBEAT goes out, if it fits.
abbrev beat_by : Bool → Endpoint → Held → Outcome
beat_by fitting e held =
    let after : Endpoint = beating (interval_expired e) in
    cond fitting (sends after [] [] (heartbeat_emission held after.heartbeat_counter)) (quiet after [] [])

beat_endures : (fitting : Bool) (held : Held) (e : Endpoint) (more : ℕ) → Endures e more → EnduredTurn held e (beat_by fitting e held) more
beat_endures true held e more h =
    let o : Outcome = beat_by true e held in
    record {
      core = refl;
      options = refl;
      tie = refl;
      endures = record { unpaused = h.unpaused; reconfiguration = h.reconfiguration; t2 = h.t2; errors = h.errors };
      told = λ n. refl;
      flows = λ kind. same_flows held e o.after o.events refl refl
          (record { checked = refl; header = refl; contents = (record { sendable = heartbeat_sendable (beating (interval_expired e)).heartbeat_counter; allowed = tt }, tt) }, tt) kind;
      tracks = λ tracker acknowledged now. same_tracks e o.after tracker refl now;
    }
beat_endures false held e more h =
    still_endured held e (beat_by false e held).after more refl refl refl refl (record { unpaused = h.unpaused; reconfiguration = h.reconfiguration; t2 = h.t2; errors = h.errors })

by_interval : (due expired : Bool) (held : Held) (mine : Pair) (e : Endpoint) (more : ℕ) (turns : List Transition) → e.core ≡ open_in established mine held → Endures e (suc more)
    → ExpiryThen due (ExpiryTurns beat_timers) e expired (own_timer heartbeat_interval) turns → EnduredAlong held e turns more
by_interval false expired held mine e more turns is h time = by_timeout (has_come e.moment (deadline_of e.timers.heartbeat_timeout)) expired held mine e more turns is h time
by_interval true expired held mine e more [] is h time = absurd time
by_interval true expired held mine e more (t ∷ ts) is h time =
    let after : Endpoint = beating (interval_expired e) in
    let fitting : Bool = fits after (heartbeat_emission held after.heartbeat_counter) in
    let o : EnduredTurn held e t.outcome (suc more) =
    as_outcome held e t.outcome (beat_by fitting e held) (suc more) (time.0.comes ∙ ap (interval_outcome e) is) (beat_endures fitting held e (suc more) h) in
    endured_then held e t ts (suc more) more o
    (by_timeout (has_come t.outcome.after.moment (deadline_of t.outcome.after.timers.heartbeat_timeout)) true held mine t.outcome.after more ts (o.core ∙ is) o.endures time.1)

-- ---- what is in flight, and what was received

one_transfer : (x y : Transfer) → Some x ≡ Some y → x ≡ y
one_transfer x y is = cc

-- What is in flight stays of its kind.
left_flows : (held : Held) (e : Endpoint) (transfer left : Transfer) → e.queues.transfer ≡ Some transfer → SameKind transfer.retransmission left.retransmission → IsOfKind held e → IsOfKind held (with_transfer e left)
left_flows held e transfer left known same h =
    let this : h.transfer ≡ transfer = one_transfer h.transfer transfer (sym h.known ∙ known) in
    record {
      peer = h.peer;
      transfer = left;
      known = refl;
      interleaves = same.0 ∙ ap (λ (t : Transfer). t.retransmission.outstanding.is_interleaved) (sym this) ∙ h.interleaves;
      abandons = same.1 ∙ ap (λ (t : Transfer). t.retransmission.partial_reliability) (sym this) ∙ h.abandons;
    }

-- T3 expires: all that is in flight is sent again.
abbrev after_loss : Endpoint → Transfer → Endpoint
after_loss e transfer = record (with_transfer e (lost_all e.moment transfer)) { error_count = error_counted e.options.max_retransmissions e.error_count }

lost_endures : (found : Option Transfer) (held : Held) (e : Endpoint) (o : Outcome) (more : ℕ) → e.queues.transfer ≡ found → LossTurn e found o → Endures e (suc more) → EnduredTurn held e o more
lost_endures None held e o more known turn h = as_outcome held e o (still e) more turn (still_endured held e e more refl refl refl refl (less_errors e more h))
lost_endures (Some transfer) held e o more known turn h =
    as_outcome held e o (still (after_loss e transfer)) more turn
    (record {
      core = refl;
      options = refl;
      tie = refl;
      endures = record { unpaused = h.unpaused; reconfiguration = h.reconfiguration; t2 = h.t2; errors = one_more_error e.options.max_retransmissions e.error_count more h.errors };
      told = λ n. refl;
      flows = λ kind. (let left : IsOfKind held (with_transfer e (lost_all e.moment transfer)) = left_flows held e transfer (lost_all e.moment transfer) known (refl, refl) kind in
          same_flows held (with_transfer e (lost_all e.moment transfer)) (after_loss e transfer) [] refl refl tt left);
      tracks = λ tracker acknowledged now. record {
        transfer = lost_all e.moment transfer;
        known = refl;
        same = ap (λ (t : Transfer). t.tracker) (one_transfer transfer now.transfer (sym known ∙ now.known)) ∙ now.same;
      };
    })

by_loss : (due expired : Bool) (held : Held) (mine : Pair) (e : Endpoint) (more : ℕ) (turns : List Transition) → e.core ≡ open_in established mine held → Endures e (suc (suc more))
    → ExpiryThen due (ExpiryTurns loss_timers) e expired (own_timer retransmission) turns → EnduredAlong held e turns more
by_loss false expired held mine e more turns is h time =
    by_interval (has_come e.moment (deadline_of e.timers.heartbeat_interval)) expired held mine e more turns is (less_errors e (suc more) h) time
by_loss true expired held mine e more [] is h time = absurd time
by_loss true expired held mine e more (t ∷ ts) is h time =
    let o : EnduredTurn held e t.outcome (suc more) = lost_endures e.queues.transfer held e t.outcome (suc more) refl time.0.comes h in
    endured_then held e t ts (suc more) more o
    (by_interval (has_come t.outcome.after.moment (deadline_of t.outcome.after.timers.heartbeat_interval)) true held mine t.outcome.after more ts (o.core ∙ is) o.endures time.1)

-- No acknowledgement is delayed where all is acknowledged.
none_delayed : (e : Endpoint) (tracker : TrackerState) → IsAcknowledged tracker → Tracks e tracker → has_come e.moment (delay_deadline e.queues.transfer) ≡ false
none_delayed e tracker acknowledged now =
    ap (λ (found : Option Transfer). has_come e.moment (delay_deadline found)) now.known
    ∙ ap (λ (found : TrackerState). has_come e.moment (delayed_acknowledgement found)) now.same ∙ ap (has_come e.moment) acknowledged.delay

not_both : (b : Bool) → b ≡ true → b ≡ false → ⊥
not_both true is not = absurd (cc)
not_both false is not = absurd (cc)

-- The delay of an acknowledgement is over.
delay_endures : (found : Option Transfer) (held : Held) (e : Endpoint) (more : ℕ) → e.queues.transfer ≡ found → has_come e.moment (delay_deadline e.queues.transfer) ≡ true → Endures e more
    → EnduredTurn held e (delay_outcome e found) more
delay_endures None held e more known come h = still_endured held e e more refl refl refl refl h
delay_endures (Some transfer) held e more known come h =
    let left : Transfer = record transfer { tracker = delay_over transfer.tracker } in
    record {
      core = refl;
      options = refl;
      tie = refl;
      endures = record { unpaused = h.unpaused; reconfiguration = h.reconfiguration; t2 = h.t2; errors = h.errors };
      told = λ n. refl;
      flows = λ kind. record { kind = left_flows held e transfer left known (refl, refl) kind; sent = tt };
      tracks = λ tracker acknowledged now. absurd (not_both _ come (none_delayed e tracker acknowledged now));
    }

by_delay : (due : Bool) (held : Held) (mine : Pair) (e : Endpoint) (more : ℕ) (turns : List Transition) → has_come e.moment (delay_deadline e.queues.transfer) ≡ due → e.core ≡ open_in established mine held → Endures e (suc (suc more))
    → ExpiryThen due (ExpiryTurns (own_timer retransmission ∷ loss_timers)) e false (own_timer acknowledgement_delay) turns → EnduredAlong held e turns more
by_delay false held mine e more turns come is h time = by_loss (has_come e.moment (loss_deadline e.queues.transfer)) false held mine e more turns is h time
by_delay true held mine e more [] come is h time = absurd time
by_delay true held mine e more (t ∷ ts) come is h time =
    let o : EnduredTurn held e t.outcome (suc (suc more)) =
    as_outcome held e t.outcome (delay_outcome e e.queues.transfer) (suc (suc more)) time.0.comes (delay_endures e.queues.transfer held e (suc (suc more)) refl come h) in
    endured_then held e t ts (suc (suc more)) more o
    (by_loss (has_come t.outcome.after.moment (loss_deadline t.outcome.after.queues.transfer)) true held mine t.outcome.after more ts (o.core ∙ is) o.endures time.1)

by_due : (held : Held) (mine : Pair) (e : Endpoint) (more : ℕ) (turns : List Transition) → e.core ≡ open_in established mine held → Endures e (suc (suc more)) → DueTurns e turns → EnduredAlong held e turns more
by_due held mine e more turns is h time =
    by_delay (has_come e.moment (delay_deadline e.queues.transfer)) held mine e more turns refl is h (subst (λ (core : Core). ExpiryTurns (handled_timers core) false e turns) is time)

-- ---- a moment

by_moment : (held : Held) (mine : Pair) (e : Endpoint) (moment more : ℕ) (turns : List Transition) → e.core ≡ open_in established mine held → Endures e (suc (suc more)) → MomentTurns e moment turns → EnduredAlong held e turns more
by_moment held mine e moment more [] is h time = absurd time
by_moment held mine e moment more (t ∷ ts) is h time =
    let moved : EnduredTurn held e (still (with_clock moment e)) (suc (suc more)) =
    still_endured held e (with_clock moment e) (suc (suc more)) refl refl refl refl (record { unpaused = h.unpaused; reconfiguration = h.reconfiguration; t2 = h.t2; errors = h.errors }) in
    let o : EnduredTurn held e t.outcome (suc (suc more)) = as_outcome held e t.outcome (still (with_clock moment e)) (suc (suc more)) time.0.comes moved in
    endured_then held e t ts (suc (suc more)) more o (by_due held mine t.outcome.after more ts (o.core ∙ is) o.endures time.1)

endured_by : (later : Bool) (held : Held) (mine : Pair) (e : Endpoint) (moment more : ℕ) (turns : List Transition) → e.core ≡ open_in established mine held → Endures e (suc (suc more))
    → TimeTurns later e moment turns → EnduredAlong held e turns more
endured_by true held mine e moment more turns is h time = by_moment held mine e moment more turns is h time
endured_by false held mine e moment more turns is h time =
    subst (λ (ts : List Transition). EnduredAlong held e ts more) (sym time) (none_endured held e more (less_errors e more (less_errors e (suc more) h)))

-- In a moment T3 expires once at most, and one answer at most is missed.
pub endured : (held : Held) (mine : Pair) (e : Endpoint) (moment more : ℕ) (turns : List Transition) → e.core ≡ open_in established mine held → Endures e (suc (suc more))
    → AdvanceTurns e moment turns → EnduredAlong held e turns more
endured held mine e moment more turns is h time = endured_by (nat_le e.moment moment) held mine e moment more turns is h time
