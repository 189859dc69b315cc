use Rattle.std.proofs.Common.{subst}
use Rattle.dcsctp_core.specs.declared.context.Context.{Context}
use Rattle.dcsctp_core.specs.Timeout.{ListsDeadlines}
use Rattle.dcsctp_core.specs.View.{endpoint_of, view_of}
use Rattle.dcsctp_core.specs.types.Schedule.{close_call}
use Rattle.dcsctp_core.specs.api.Calls.{ClosesSocket, NoAnswer}
use Rattle.dcsctp_socket_calls.specs.Parts.{TurnsOf, CutsCall, MakesCallOfUser}
use Rattle.dcsctp_socket.specs.SocketView.{SocketView, user_view_of}
use Rattle.dcsctp_socket.proofs.AnsweredCalls.{user_calls}
use Rattle.dcsctp_socket.proofs.SoundCalls.{user_call_sound}
use Rattle.dcsctp_socket.proofs.socket.SocketDcSctpSocket.close.Goals as goal

pub returns-clause-call : goal.returns-clause-call
returns-clause-call g c =
    subst (λ (s : SocketView g.row.R.Denot). ClosesSocket (user_view_of g.R.Rng.stream s) c.settled.result (user_view_of g.R.Rng.stream (record { view = view_of c.close-outcome.new.context; failed = c.settled.new.failed })))
    c.self.view_is
    (user_calls g.R.Rng.stream c.self.inside.context.value c.close-outcome.new.context c.self.inside.failed c.settled.new.failed c.if-self.false close_call NoAnswer c.close-outcome.result c.settled.result
    (subst (λ (x : Context g.row.R.Denot). MakesCallOfUser g.R.Rng.stream close_call NoAnswer x c.close-outcome.result c.close-outcome.new.context) c.deref_mut.ensures.value c.close-outcome.ensures.turn)
    c.settled.ensures)

pub invariant_of-self : goal.invariant_of-self
invariant_of-self g c = (
  λ goes_on.
      user_call_sound c.calls_keep_soundness.ensures g.R.Rng.stream c.self.inside.context.value c.close-outcome.new.context c.self.inside.failed c.settled.new.failed (c.self.invariant.0 c.if-self.false) goes_on
      c.close-outcome.result c.settled.result c.settled.ensures NoAnswer (CutsCall (TurnsOf close_call)) close_call
      (subst (λ (x : Context g.row.R.Denot). MakesCallOfUser g.R.Rng.stream close_call NoAnswer x c.close-outcome.result c.close-outcome.new.context) c.deref_mut.ensures.value c.close-outcome.ensures.turn),
  subst (λ (x : Context g.row.R.Denot). ListsDeadlines (endpoint_of x) c.list_deadlines.new.deadlines) c.deref.ensures c.list_deadlines.ensures,
)
