-- The turns of a moment at which nothing is due.
use Rattle.std.proofs.Common.{◌≡◌, ◌≤◌, ◌<◌, ℕ, Bool, true, false, List, [], ◌∷◌, refl, sym, subst, arith}
use Rattle.std.proofs.lemmas.List.{append-nil}
use Rattle.std.specs.Prelude.{nat_le}
use Rattle.rand_core.specs.Stream.{Stream}
use Rattle.dcsctp_core.specs.spec.endpoint.Endpoint.{Endpoint}
use Rattle.dcsctp_core.specs.spec.endpoint.Outcome.{still}
use Rattle.dcsctp_core.specs.spec.endpoint.Turn.{time_passes, with_clock}
use Rattle.dcsctp_core.specs.spec.endpoint.CallTurns.{Transition, transition}
use Rattle.dcsctp_core.specs.spec.endpoint.TimeTurns.{Timer, handled_timers, DueTurns, ExpiryThen, ExpiryTurns, TimeTurns, NoneIsDue}
use Rattle.dcsctp_core.specs.declared.context.Context.{Context}
use Rattle.dcsctp_core.specs.View.{View, view_of, endpoint_of, core_of, call_start, MovesAll}
use Rattle.dcsctp_core.specs.types.Schedule.{advance_call}
use Rattle.dcsctp_socket_calls.specs.Parts.{TurnsOf, MovesByCall}
use Rattle.dcsctp_socket_calls.proofs.TimeLemmas.{moment_turns, moment_are, clock_moves, view_at}

none_expires : (e : Endpoint) (timers : List Timer) → NoneIsDue e timers → ExpiryTurns timers false e []
none_expires e [] none = tt
none_expires e (timer ∷ timers) none =
    subst (λ due. ExpiryThen due (ExpiryTurns timers) e false timer []) (sym none.0) (none_expires e timers none.1)

-- Nothing is due, and the clock was moved.
pub clock_time_moves : {R : Type 0} (stream : R → Stream) (old start : Context R) (moment : ℕ) → view_of start ≡ call_start (view_of old) → start.moment ≤ moment
    → NoneIsDue (with_clock moment (endpoint_of old)) (handled_timers (core_of old.state)) → MovesByCall stream (TurnsOf (advance_call moment)) (view_of old) (view_of (record start { moment = moment }))
clock_time_moves {R = R} stream old start moment begins later none =
    let a : View R = call_start (view_of old) in
    let moved : MovesByCall stream (TurnsOf (advance_call moment)) (view_of old) (view_at moment a) =
    record {
      turns = moment_turns a.endpoint moment [];
      are = moment_are a.endpoint moment [] (subst (λ (v : View R). v.endpoint.moment ≤ moment) begins later) (none_expires (with_clock moment a.endpoint) (handled_timers a.endpoint.core) none);
      moves = clock_moves stream a moment;
    } in
    subst (λ (v : View R). MovesByCall stream (TurnsOf (advance_call moment)) (view_of old) (view_at moment v)) (sym begins) moved

-- The moment is an earlier one.
pub early_time_moves : {R : Type 0} (stream : R → Stream) (old start : Context R) (moment : ℕ) → view_of start ≡ call_start (view_of old) → moment < start.moment
    → MovesByCall stream (TurnsOf (advance_call moment)) (view_of old) (view_of start)
early_time_moves {R = R} stream old start moment begins earlier =
    let a : View R = call_start (view_of old) in
    let before : moment < a.endpoint.moment = subst (λ (v : View R). moment < v.endpoint.moment) begins earlier in
    let is : false ≡ nat_le a.endpoint.moment moment = grind arith in
    let stays : MovesByCall stream (TurnsOf (advance_call moment)) (view_of old) a =
    record {
      turns = [];
      are = subst (λ (b : Bool). TimeTurns b a.endpoint moment []) is refl;
      moves = record { endpoint = refl; events = sym (append-nil a.events); words = sym (append-nil a.words); pairs = sym (append-nil a.pairs); drawn = refl };
    } in
    subst (MovesByCall stream (TurnsOf (advance_call moment)) (view_of old)) (sym begins) stays
