-- A socket that awaits a COOKIE ACK, and to which data may have come: the delay of an acknowledgement may end, and when T1-cookie expires
-- the COOKIE ECHO goes again, with a SACK and data behind it.
use Rattle.std.specs.Option.{option_map}
use Rattle.std.proofs.Common.{◌≡◌, ℕ, Bool, true, false, cond, List, [], ◌∷◌, length, refl, sym, subst, ap, ◌∙◌}
use Rattle.std.proofs.lemmas.List.{append-nil}
use Rattle.dcsctp_spec_lemmas.specs.types.declared.association.Held.{Held}
use Rattle.dcsctp_spec_lemmas.specs.types.declared.association.Pair.{Pair}
use Rattle.dcsctp_spec_lemmas.specs.types.declared.options.Options.{Options}
use Rattle.dcsctp_spec_lemmas.specs.spec.Packet.{Content, cookie_echo, Emission}
use Rattle.dcsctp_spec_lemmas.specs.spec.association.Acts.{t1_expires}
use Rattle.dcsctp_spec_lemmas.specs.spec.queues.Tracker.{delay_over}
use Rattle.dcsctp_spec_lemmas.specs.spec.queues.Transfer.{Transfer}
use Rattle.dcsctp_spec_lemmas.specs.spec.endpoint.DataOutcomes.{delay_outcome, with_transfer}
use Rattle.dcsctp_spec_lemmas.specs.spec.endpoint.Endpoint.{Endpoint, Core, cookie_echoed}
use Rattle.dcsctp_spec_lemmas.specs.spec.endpoint.Event.{Event, packets_of_events}
use Rattle.dcsctp_spec_lemmas.specs.spec.endpoint.Timers.{continued_timer}
use Rattle.dcsctp_spec_lemmas.specs.spec.endpoint.Outcome.{Outcome, still, quiet, behind, fits}
use Rattle.dcsctp_spec_lemmas.specs.spec.endpoint.FlushOutcomes.{Answer, FlushAnswers, first_ask, packets_allowed, flush_answered, flush_of}
use Rattle.dcsctp_spec_lemmas.specs.spec.endpoint.HandshakeOutcomes.{echo_emission, EchoAnswers}
use Rattle.dcsctp_spec_lemmas.specs.spec.endpoint.HeartbeatOutcomes.{is_exhausted}
use Rattle.dcsctp_spec_lemmas.specs.spec.endpoint.OwnTimers.{acknowledgement_delay}
use Rattle.dcsctp_spec_lemmas.specs.spec.endpoint.TimerOutcomes.{T1AgainTurn, AgainAnswers, t1_again_with_flush, endpoint_with_t1_continued}
use Rattle.dcsctp_spec_lemmas.specs.spec.endpoint.TimeTurns.{t1_timer, own_timer, handled_timers, deadline_of, delay_deadline, has_come, has_restart, expiry_input, after_expiries, FirstThen, ExpiryThen, ExpiryTurns, DueTurns, MomentTurns, TimeTurns, AdvanceTurns}
use Rattle.dcsctp_spec_lemmas.specs.spec.endpoint.Turn.{act_input, time_passes, with_clock}
use Rattle.dcsctp_spec_lemmas.specs.spec.endpoint.CallTurns.{Transition, transition, Turns, after_all, events_of}
use Rattle.dcsctp_spec_lemmas.proofs.FlushKeeps.{flush_keeps}
use Rattle.dcsctp_theorem_progress.specs.LostInits.{DueT1}
use Rattle.dcsctp_theorem_sockets.proofs.HandshakeReads.{turned_as}
use Rattle.dcsctp_theorem_sockets.proofs.HandshakeTurns.{Good}
use Rattle.dcsctp_theorem_progress.proofs.Views.{told_then}
use Rattle.dcsctp_theorem_progress.proofs.Retries.{no_turns}
use Rattle.dcsctp_theorem_progress.proofs.Carrying.{one_allowed}
use Rattle.dcsctp_theorem_progress.proofs.Flows.{Flows, AreCarriedFor, AllCarryTo}
use Rattle.dcsctp_theorem_progress.proofs.Flushes.{Fronts, front_draft, flush_fronts}
use Rattle.dcsctp_theorem_progress.proofs.Constant.{SameClock, flush_same}
use Rattle.dcsctp_theorem_progress.proofs.Cookies.{bytes_fit, nothing_behind}
use Rattle.dcsctp_theorem_progress.proofs.Received.{flows_with}

-- It awaits a COOKIE ACK, data may wait, and data may have come.
pub record EchoesOn (e : Endpoint) (p : Pair) (held : Held) (bytes : List ℕ) : Type 0 where
  pub core : e.core ≡ cookie_echoed p held bytes
  pub size : length bytes ≡ 56
  pub flows : Flows held e
  pub errors : is_exhausted e.options.max_retransmissions e.error_count ≡ false

-- It still does.
pub record WaitedOn (e : Endpoint) (held : Held) (after : Endpoint) (events : List (Event Emission)) : Type 0 where
  pub core : after.core ≡ e.core
  pub options : after.options ≡ e.options
  pub asked : after.shutdown_asked ≡ e.shutdown_asked
  pub moment : after.moment ≡ e.moment
  pub errors : after.error_count ≡ e.error_count
  pub flows : Flows held after
  pub told : (n : ℕ) → told_then events n ≡ n

-- The COOKIE ECHO goes first, and in the only packet.
pub record SentFirst (held : Held) (bytes : List ℕ) (events : List (Event Emission)) : Type 0 where
  pub more : List Content
  pub carried : AreCarriedFor held more
  pub rest : List Emission
  pub others : AllCarryTo held rest
  pub packets : packets_of_events events ≡ record { with_checksum = true; packet = record { tag = held.peer.tag; contents = cookie_echo bytes ∷ more } } ∷ rest
  pub alone : rest ≡ []

-- and T1 continues
pub record EchoedOn (e : Endpoint) (held : Held) (bytes : List ℕ) (after : Endpoint) (events : List (Event Emission)) : Type 0 where
  pub waited : WaitedOn e held after events
  pub t1 : after.timers.t1 ≡ option_map (continued_timer e.moment) e.timers.t1
  pub sends : SentFirst held bytes events

-- or T1 runs on
pub record RestedOn (e : Endpoint) (held : Held) (after : Endpoint) (events : List (Event Emission)) : Type 0 where
  pub waited : WaitedOn e held after events
  pub t1 : after.timers.t1 ≡ e.timers.t1
  pub silent : packets_of_events events ≡ []

abbrev EchoedAlong : Endpoint → Held → List ℕ → List Transition → Type 0
EchoedAlong e held bytes turns = EchoedOn e held bytes (after_all e turns) (events_of turns)

abbrev RestedAlong : Endpoint → Held → List Transition → Type 0
RestedAlong e held turns = RestedOn e held (after_all e turns) (events_of turns)

-- ---- T1 expires

again_sends : (e : Endpoint) (p : Pair) (held : Held) (bytes : List ℕ) (o : Outcome) → EchoesOn e p held bytes → Good e.options → T1AgainTurn e o → EchoedOn e held bytes o.after o.events
again_sends e p held bytes o at good turn =
    let after : Endpoint = endpoint_with_t1_continued e in
    let tag : ℕ = held.peer.tag in
    let answers : List Answer = turn.0 in
    let n : ℕ = packets_allowed after.options.max_burst after.core in
    let large : fits after (echo_emission tag bytes) ≡ true = bytes_fit after tag bytes at.size good.allow.mtu in
    let at_core : AgainAnswers after (cookie_echoed p held bytes) answers = subst (λ (core : Core). AgainAnswers after core answers) at.core turn.1 in
    let allowed : FlushAnswers after (front_draft true tag (cookie_echo bytes)) answers = subst (λ (b : Bool). EchoAnswers b after tag bytes answers) large at_core in
    let flows : Flows held after = record {
      kind = record { peer = at.flows.kind.peer; transfer = at.flows.kind.transfer; known = at.flows.kind.known; interleaves = at.flows.kind.interleaves; abandons = at.flows.kind.abandons };
      unpaused = at.flows.unpaused;
    } in
    let draft : Emission = front_draft true tag (cookie_echo bytes) in
    let f : Fronts held after true tag (cookie_echo bytes) (flush_of after draft answers) = flush_fronts held after true tag (cookie_echo bytes) answers good.allow.burst flows allowed in
    let none : f.rest ≡ [] = f.alone (ap (packets_allowed e.options.max_burst) at.core ∙ one_allowed e.options.max_burst p held bytes good.allow.burst) in
    let same : SameClock after (flush_of after draft answers).after = flush_same first_ask n after draft answers allowed in
    let so : o ≡ behind [] [] (flush_of after draft answers) =
    turn.2 ∙ ap (t1_again_with_flush (flush_answered answers) e) at.core
    ∙ ap (λ (b : Bool). cond b (flush_answered answers after [] [] true tag (cookie_echo bytes ∷ [])) (quiet after [] [])) large in
    subst (λ (x : Outcome). EchoedOn e held bytes x.after x.events) (sym so)
    (record {
      waited = record { core = f.core; options = f.options; asked = f.asked; moment = same.moment; errors = same.errors; flows = f.flows; told = f.told };
      t1 = (flush_keeps first_ask n after draft answers allowed).t1;
      sends = record { more = f.more; carried = f.carried; rest = f.rest; others = f.others; packets = f.packets; alone = none };
    })

by_t1 : (e : Endpoint) (p : Pair) (held : Held) (bytes : List ℕ) (turns : List Transition) → EchoesOn e p held bytes → Good e.options
    → FirstThen (ExpiryTurns [] true) e (act_input (t1_expires true)) turns → EchoedAlong e held bytes turns
by_t1 e p held bytes [] at good h = absurd h
by_t1 e p held bytes (t ∷ ts) at good h =
    let o : EchoedOn e held bytes t.outcome.after t.outcome.events = again_sends e p held bytes t.outcome at good h.0.comes in
    let none : ts ≡ [] =
    nothing_behind t.outcome.after p held bytes ts (o.waited.core ∙ at.core)
    (ap (λ (x : ℕ). is_exhausted t.outcome.after.options.max_retransmissions x) o.waited.errors ∙ ap (λ (y : Options). is_exhausted y.max_retransmissions e.error_count) o.waited.options ∙ at.errors) h.1 in
    subst (λ (us : List Transition). EchoedAlong e held bytes (t ∷ us)) (sym none)
    (subst (λ (es : List (Event Emission)). EchoedOn e held bytes t.outcome.after es) (sym (append-nil t.outcome.events)) o)

t1_turns : (expired : Bool) (e : Endpoint) (p : Pair) (held : Held) (bytes : List ℕ) (turns : List Transition) → EchoesOn e p held bytes → Good e.options → has_come e.moment (deadline_of e.timers.t1) ≡ true
    → has_restart e.timers.t1 ≡ true → ExpiryTurns (t1_timer ∷ []) expired e turns → EchoedAlong e held bytes turns
t1_turns expired e p held bytes turns at good come again h =
    let at_come : FirstThen (ExpiryTurns [] true) e (expiry_input e t1_timer) turns = subst (λ (b : Bool). ExpiryThen b (ExpiryTurns []) e expired t1_timer turns) come h in
    by_t1 e p held bytes turns at good (subst (λ (b : Bool). FirstThen (ExpiryTurns [] true) e (act_input (t1_expires b)) turns) again at_come)

-- ---- it doesn't

end_turns : (expired : Bool) (e : Endpoint) (p : Pair) (held : Held) (bytes : List ℕ) (turns : List Transition) → EchoesOn e p held bytes → Turns e (after_expiries e expired) turns → turns ≡ []
end_turns false e p held bytes turns at h = no_turns e turns h
end_turns true e p held bytes turns at h = nothing_behind e p held bytes turns at.core at.errors h

rested : (e : Endpoint) (p : Pair) (held : Held) (bytes : List ℕ) → EchoesOn e p held bytes → RestedAlong e held []
rested e p held bytes at = record { waited = record { core = refl; options = refl; asked = refl; moment = refl; errors = refl; flows = at.flows; told = λ n. refl }; t1 = refl; silent = refl }

no_t1_turns : (expired : Bool) (e : Endpoint) (p : Pair) (held : Held) (bytes : List ℕ) (turns : List Transition) → EchoesOn e p held bytes → has_come e.moment (deadline_of e.timers.t1) ≡ false
    → ExpiryTurns (t1_timer ∷ []) expired e turns → RestedAlong e held turns
no_t1_turns expired e p held bytes turns at waits h =
    let end : Turns e (after_expiries e expired) turns = subst (λ (b : Bool). ExpiryThen b (ExpiryTurns []) e expired t1_timer turns) waits h in
    subst (RestedAlong e held) (sym (end_turns expired e p held bytes turns at end)) (rested e p held bytes at)

-- ---- the delay of an acknowledgement before

-- once it is over
abbrev undelayed : Endpoint → Transfer → Endpoint
undelayed e transfer = with_transfer e (record transfer { tracker = delay_over transfer.tracker })

undelayed_echoes : (e : Endpoint) (p : Pair) (held : Held) (bytes : List ℕ) (at : EchoesOn e p held bytes) → EchoesOn (undelayed e at.flows.kind.transfer) p held bytes
undelayed_echoes e p held bytes at = record { core = at.core; size = at.size; flows = flows_with held e at.flows _ (refl, refl); errors = at.errors }

delay_is : (e : Endpoint) (p : Pair) (held : Held) (bytes : List ℕ) (at : EchoesOn e p held bytes) (o : Outcome) → o ≡ delay_outcome e e.queues.transfer → o ≡ still (undelayed e at.flows.kind.transfer)
delay_is e p held bytes at o comes = comes ∙ ap (delay_outcome e) at.flows.kind.known

due_turns : (delayed : Bool) (e : Endpoint) (p : Pair) (held : Held) (bytes : List ℕ) (turns : List Transition) → EchoesOn e p held bytes → Good e.options → has_come e.moment (deadline_of e.timers.t1) ≡ true
    → has_restart e.timers.t1 ≡ true → ExpiryThen delayed (ExpiryTurns (t1_timer ∷ [])) e false (own_timer acknowledgement_delay) turns → EchoedAlong e held bytes turns
due_turns false e p held bytes turns at good come again h = t1_turns false e p held bytes turns at good come again h
due_turns true e p held bytes [] at good come again h = absurd h
due_turns true e p held bytes (t ∷ ts) at good come again h =
    let f : Endpoint = undelayed e at.flows.kind.transfer in
    let o : t.outcome ≡ still f = delay_is e p held bytes at t.outcome h.0.comes in
    let last : EchoedAlong f held bytes ts =
    t1_turns true f p held bytes ts (undelayed_echoes e p held bytes at) good come again (subst (λ (x : Outcome). ExpiryTurns (t1_timer ∷ []) true x.after ts) o h.1) in
    subst (λ (x : Outcome). EchoedAlong e held bytes (transition t.input x ∷ ts)) (sym o)
    (record {
      waited = record {
        core = last.waited.core;
        options = last.waited.options;
        asked = last.waited.asked;
        moment = last.waited.moment;
        errors = last.waited.errors;
        flows = last.waited.flows;
        told = last.waited.told;
      };
      t1 = last.t1;
      sends = last.sends;
    })

quiet_turns : (delayed : Bool) (e : Endpoint) (p : Pair) (held : Held) (bytes : List ℕ) (turns : List Transition) → EchoesOn e p held bytes → has_come e.moment (deadline_of e.timers.t1) ≡ false
    → ExpiryThen delayed (ExpiryTurns (t1_timer ∷ [])) e false (own_timer acknowledgement_delay) turns → RestedAlong e held turns
quiet_turns false e p held bytes turns at waits h = no_t1_turns false e p held bytes turns at waits h
quiet_turns true e p held bytes [] at waits h = absurd h
quiet_turns true e p held bytes (t ∷ ts) at waits h =
    let f : Endpoint = undelayed e at.flows.kind.transfer in
    let o : t.outcome ≡ still f = delay_is e p held bytes at t.outcome h.0.comes in
    let last : RestedAlong f held ts = no_t1_turns true f p held bytes ts (undelayed_echoes e p held bytes at) waits (subst (λ (x : Outcome). ExpiryTurns (t1_timer ∷ []) true x.after ts) o h.1) in
    subst (λ (x : Outcome). RestedAlong e held (transition t.input x ∷ ts)) (sym o)
    (record {
      waited = record {
        core = last.waited.core;
        options = last.waited.options;
        asked = last.waited.asked;
        moment = last.waited.moment;
        errors = last.waited.errors;
        flows = last.waited.flows;
        told = last.waited.told;
      };
      t1 = last.t1;
      silent = last.silent;
    })

-- ---- a moment

clocked : (e : Endpoint) (p : Pair) (held : Held) (bytes : List ℕ) (moment : ℕ) → EchoesOn e p held bytes → EchoesOn (with_clock moment e) p held bytes
clocked e p held bytes moment at =
    record {
      core = at.core;
      size = at.size;
      flows = record {
        kind = record { peer = at.flows.kind.peer; transfer = at.flows.kind.transfer; known = at.flows.kind.known; interleaves = at.flows.kind.interleaves; abandons = at.flows.kind.abandons };
        unpaused = at.flows.unpaused;
      };
      errors = at.errors;
    }

-- those after the clock has moved
after_clock : (e : Endpoint) (p : Pair) (held : Held) (bytes : List ℕ) (ts : List Transition) → EchoesOn e p held bytes → DueTurns e ts
    → ExpiryThen (has_come e.moment (delay_deadline e.queues.transfer)) (ExpiryTurns (t1_timer ∷ [])) e false (own_timer acknowledgement_delay) ts
after_clock e p held bytes ts at h = subst (λ (core : Core). ExpiryTurns (handled_timers core) false e ts) at.core h

again_by : (e : Endpoint) (p : Pair) (held : Held) (bytes : List ℕ) (moment : ℕ) (turns : List Transition) → EchoesOn e p held bytes → Good e.options → DueT1 e moment
    → MomentTurns e moment turns → EchoedOn (with_clock moment e) held bytes (after_all e turns) (events_of turns)
again_by e p held bytes moment [] at good t1 h = absurd h
again_by e p held bytes moment (t ∷ ts) at good t1 h =
    let f : Endpoint = with_clock moment e in
    let first : t ≡ transition (time_passes moment) (still f) = turned_as t (time_passes moment) (still f) h.0.is h.0.comes in
    let there : EchoesOn f p held bytes = clocked e p held bytes moment at in
    let rest : DueTurns f ts = subst (λ (x : Transition). DueTurns x.outcome.after ts) first h.1 in
    subst (λ (x : Transition). EchoedOn f held bytes (after_all e (x ∷ ts)) (events_of (x ∷ ts))) (sym first)
    (due_turns (has_come f.moment (delay_deadline f.queues.transfer)) f p held bytes ts there good t1.come t1.again (after_clock f p held bytes ts there rest))

-- When T1 is due the COOKIE ECHO goes again.
pub echo_goes_again : (e : Endpoint) (p : Pair) (held : Held) (bytes : List ℕ) (moment : ℕ) (turns : List Transition) → EchoesOn e p held bytes → Good e.options → DueT1 e moment → AdvanceTurns e moment turns
    → EchoedOn (with_clock moment e) held bytes (after_all e turns) (events_of turns)
echo_goes_again e p held bytes moment turns at good t1 h = again_by e p held bytes moment turns at good t1 (subst (λ (b : Bool). TimeTurns b e moment turns) t1.present h)

-- When it isn't, nothing goes.
pub rests_on : (e : Endpoint) (p : Pair) (held : Held) (bytes : List ℕ) (moment : ℕ) (turns : List Transition) → EchoesOn e p held bytes → has_come moment (deadline_of e.timers.t1) ≡ false
    → MomentTurns e moment turns → RestedOn (with_clock moment e) held (after_all e turns) (events_of turns)
rests_on e p held bytes moment [] at waits h = absurd h
rests_on e p held bytes moment (t ∷ ts) at waits h =
    let f : Endpoint = with_clock moment e in
    let first : t ≡ transition (time_passes moment) (still f) = turned_as t (time_passes moment) (still f) h.0.is h.0.comes in
    let there : EchoesOn f p held bytes = clocked e p held bytes moment at in
    let rest : DueTurns f ts = subst (λ (x : Transition). DueTurns x.outcome.after ts) first h.1 in
    subst (λ (x : Transition). RestedOn f held (after_all e (x ∷ ts)) (events_of (x ∷ ts))) (sym first)
    (quiet_turns (has_come f.moment (delay_deadline f.queues.transfer)) f p held bytes ts there waits (after_clock f p held bytes ts there rest))
