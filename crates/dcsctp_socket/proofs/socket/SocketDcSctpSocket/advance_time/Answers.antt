use Rattle.std.proofs.Common.{subst}
use Rattle.dcsctp_core.specs.declared.context.Context.{Context}
use Rattle.dcsctp_core.specs.Timeout.{ListsDeadlines}
use Rattle.dcsctp_core.specs.View.{endpoint_of, view_of}
use Rattle.dcsctp_core.specs.types.Schedule.{advance_call}
use Rattle.dcsctp_core.specs.api.Calls.{NoAnswer}
use Rattle.dcsctp_core.specs.api.Time.{AdvancesClock}
use Rattle.dcsctp_socket_calls.specs.Parts.{TurnsOf, CutsCall, MovesByCall, MakesCallOfUser}
use Rattle.dcsctp_socket.specs.SocketView.{SocketView, user_view_of}
use Rattle.dcsctp_socket.proofs.AnsweredCalls.{user_calls}
use Rattle.dcsctp_socket.proofs.SoundCalls.{clock_sound, clock_told, OnlyClock, user_call_sound}
use Rattle.dcsctp_socket.proofs.socket.SocketDcSctpSocket.advance_time.Goals as goal

pub returns-clause-call : goal.returns-clause-call
returns-clause-call g c =
    subst (λ (s : SocketView g.row.R.Denot). AdvancesClock (user_view_of g.R.Rng.stream s) c.args.now c.settled.result (user_view_of g.R.Rng.stream (record { view = view_of c.advance_time-outcome.new.context; failed = c.settled.new.failed })))
    c.self.view_is
    (user_calls g.R.Rng.stream c.self.inside.context.value c.advance_time-outcome.new.context c.self.inside.failed c.settled.new.failed c.if-self.false (advance_call c.args.now) NoAnswer c.advance_time-outcome.result c.settled.result
    (subst (λ (x : Context g.row.R.Denot). MakesCallOfUser g.R.Rng.stream (advance_call c.args.now) NoAnswer x c.advance_time-outcome.result c.advance_time-outcome.new.context) c.deref_mut-2.ensures.value c.advance_time-outcome.ensures.turn)
    c.settled.ensures)

pub invariant_of-self-2 : goal.invariant_of-self-2
invariant_of-self-2 g c = (
  λ goes_on.
      user_call_sound c.calls_keep_soundness.ensures g.R.Rng.stream c.self.inside.context.value c.advance_time-outcome.new.context c.self.inside.failed c.settled.new.failed (c.self.invariant.0 c.if-self.false) goes_on
      c.advance_time-outcome.result c.settled.result c.settled.ensures NoAnswer (CutsCall (TurnsOf (advance_call c.args.now))) (advance_call c.args.now)
      (subst (λ (x : Context g.row.R.Denot). MakesCallOfUser g.R.Rng.stream (advance_call c.args.now) NoAnswer x c.advance_time-outcome.result c.advance_time-outcome.new.context) c.deref_mut-2.ensures.value c.advance_time-outcome.ensures.turn),
  subst (λ (x : Context g.row.R.Denot). ListsDeadlines (endpoint_of x) c.list_deadlines.new.deadlines) c.deref-2.ensures c.list_deadlines.ensures,
)

pub invariant_of-self : goal.invariant_of-self
invariant_of-self g c =
    let moved : MovesByCall g.R.Rng.stream (TurnsOf (advance_call c.args.now)) (view_of c.self.inside.context.value) (view_of c.move_clock.new.context) =
    subst (λ (x : Context g.row.R.Denot). MovesByCall g.R.Rng.stream (TurnsOf (advance_call c.args.now)) (view_of x) (view_of c.move_clock.new.context)) c.deref_mut.ensures.value c.move_clock.ensures.turn in (
      λ goes_on. clock_sound c.calls_keep_soundness.ensures g.R.Rng.stream c.self.inside.context.value c.move_clock.new.context (c.self.invariant.0 c.if-self.false) c.args.now moved,
      clock_told c.self.inside.context.value c.move_clock.new.context c.args.now c.self.inside.deadlines
          (subst (λ (x : Context g.row.R.Denot). OnlyClock x c.args.now c.move_clock.new.context) c.deref_mut.ensures.value c.move_clock.ensures.only) c.self.invariant.1,
    )
