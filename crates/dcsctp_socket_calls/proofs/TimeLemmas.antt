-- The turns of `advance_time`, from what the handlers of the timers say.
use Rattle.std.proofs.Common.{◌≡◌, ◌≤◌, ◌<◌, ℕ, Bool, true, List, [], ◌∷◌, refl, sym, subst, arith}
use Rattle.std.proofs.lemmas.List.{append-nil}
use Rattle.std.specs.Prelude.{nat_le}
use Rattle.rand_core.specs.Stream.{Stream}
use Rattle.dcsctp_core.specs.types.Settings.{ports_of}
use Rattle.dcsctp_core.specs.spec.endpoint.Event.{Event}
use Rattle.dcsctp_core.specs.spec.endpoint.Endpoint.{Endpoint, Core, closed, cookie_wait, cookie_echoed, open_in}
use Rattle.dcsctp_core.specs.spec.endpoint.Outcome.{still}
use Rattle.dcsctp_core.specs.spec.endpoint.Turn.{time_passes, with_clock}
use Rattle.dcsctp_core.specs.spec.endpoint.CallTurns.{Transition, transition}
use Rattle.dcsctp_core.specs.spec.endpoint.TimeTurns.{t1_timer, handled_timers, timers_counted, deadlines_of, next_of, DueTurns, TimeTurns, AdvanceTurns, AwaitsNoCookieAck, NoneIsDue, Waits}
use Rattle.dcsctp_spec_laws.proofs.TimerLemmas.{none_is_due}
use Rattle.dcsctp_core.specs.declared.context.Context.{Context}
use Rattle.dcsctp_core.specs.View.{View, view_of, endpoint_of, core_of, call_start, MovesAll}
use Rattle.dcsctp_core.proofs.Moving.{moves_then}
use Rattle.dcsctp_core.specs.types.Schedule.{advance_call}
use Rattle.dcsctp_socket_calls.specs.Parts.{TurnsMove, CutsTurns, TurnsOf, MovesByCall}
use Rattle.dcsctp_socket_calls.proofs.CallLemmas.{adds_begun}

-- ---- the call

-- the turns of a moment that isn't earlier
abbrev pub moment_turns : Endpoint → ℕ → List Transition → List Transition
moment_turns e moment due = transition (time_passes moment) (still (with_clock moment e)) ∷ due

pub moment_are : (e : Endpoint) (moment : ℕ) (due : List Transition) → e.moment ≤ moment → DueTurns (with_clock moment e) due → AdvanceTurns e moment (moment_turns e moment due)
moment_are e moment due later are =
    subst (λ (b : Bool). TimeTurns b e moment (moment_turns e moment due)) (let is : true ≡ nat_le e.moment moment = grind arith in is)
    (record { is = refl; comes = refl }, are)

pub clock_moves : {R : Type 0} (stream : R → Stream) (a : View R) (moment : ℕ) → MovesAll stream a (transition (time_passes moment) (still (with_clock moment a.endpoint)) ∷ []) (record a { endpoint = with_clock moment a.endpoint })
clock_moves stream a moment =
    record { endpoint = refl; events = sym (append-nil a.events); words = sym (append-nil a.words); pairs = sym (append-nil a.pairs); drawn = refl }

-- the view as a call begins, with its clock moved
abbrev pub view_at : {R : Type 0} → ℕ → View R → View R
view_at moment view = record view { endpoint = with_clock moment view.endpoint }

-- The clock was moved, and what was due had its turns.
pub time_moves : {R : Type 0} (stream : R → Stream) (old start new : Context R) (moment : ℕ) → view_of start ≡ call_start (view_of old) → start.moment ≤ moment
    → TurnsMove stream DueTurns (view_of (record start { moment = moment })) (view_of new)
    → MovesByCall stream (TurnsOf (advance_call moment)) (view_of old) (view_of new)
time_moves {R = R} stream old start new moment begins later m =
    let a : View R = call_start (view_of old) in
    let here : View R = view_at moment a in
    let moved : TurnsMove stream DueTurns here (view_of new) = subst (λ (v : View R). TurnsMove stream DueTurns (view_at moment v) (view_of new)) begins m in
    record {
      turns = moment_turns a.endpoint moment moved.turns;
      are = moment_are a.endpoint moment moved.turns (subst (λ (v : View R). v.endpoint.moment ≤ moment) begins later) moved.are;
      moves = moves_then stream a here (view_of new) (transition (time_passes moment) (still (with_clock moment a.endpoint)) ∷ []) moved.turns refl (clock_moves stream a moment) moved.moves;
    }

-- An allocation failed in what was due.
pub time_cut : {R : Type 0} (old start : Context R) (moment : ℕ) (es : List (Event (List ℕ))) → view_of start ≡ call_start (view_of old) → start.moment ≤ moment
    → CutsTurns DueTurns (view_of (record start { moment = moment })) es
    → CutsTurns (TurnsOf (advance_call moment)) (view_of old) es
time_cut {R = R} old start moment es begins later cut =
    let a : View R = call_start (view_of old) in
    let here : View R = view_at moment a in
    let moved : CutsTurns DueTurns here es = subst (λ (v : View R). CutsTurns DueTurns (view_at moment v) es) begins cut in
    record {
      turns = moment_turns a.endpoint moment moved.turns;
      are = moment_are a.endpoint moment moved.turns (subst (λ (v : View R). v.endpoint.moment ≤ moment) begins later) moved.are;
      adds = adds_begun (ports_of a.endpoint.options) (transition (time_passes moment) (still (with_clock moment a.endpoint))) moved.turns a.events es refl moved.adds;
    }

-- ---- where nothing is due

-- What waits in a phase has no deadline but those that are listed.
none_due_in : (e : Endpoint) (moment : ℕ) (core : Core) → AwaitsNoCookieAck core → e.moment ≤ moment → moment < next_of e.moment (deadlines_of e (timers_counted core)) → NoneIsDue (with_clock moment e) (handled_timers core)
none_due_in e moment closed phase present next = none_is_due moment e [] present next
none_due_in e moment (cookie_wait my) phase present next = none_is_due moment e (t1_timer ∷ []) present next
none_due_in e moment (cookie_echoed my held cookie) phase present next = absurd phase
none_due_in e moment (open_in phase my held) told present next = none_is_due moment e (handled_timers (open_in phase my held)) present next

none_in : (e : Endpoint) (moment : ℕ) → Waits e moment → NoneIsDue (with_clock moment e) (handled_timers e.core)
none_in e moment waits = none_due_in e moment e.core waits.phase waits.present waits.next

-- A socket that waits has nothing to do.
pub waits_rest : {R : Type 0} (old start : Context R) (moment : ℕ) → view_of start ≡ call_start (view_of old) → Waits (endpoint_of old) moment
    → NoneIsDue (endpoint_of (record start { moment = moment })) (handled_timers (core_of start.state))
waits_rest {R = R} old start moment begins waits =
    subst (λ (v : View R). NoneIsDue (with_clock moment v.endpoint) (handled_timers v.endpoint.core)) (sym begins)
    (none_in (endpoint_of old) moment waits)
