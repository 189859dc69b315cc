use Rattle.std.proofs.Common.{subst}
use Rattle.dcsctp_core.specs.declared.context.Context.{Context}
use Rattle.dcsctp_core.specs.Timeout.{ListsDeadlines}
use Rattle.dcsctp_core.specs.View.{endpoint_of, view_of}
use Rattle.dcsctp_core.specs.types.Schedule.{connect_call}
use Rattle.dcsctp_core.specs.api.Calls.{Connects, NoAnswer}
use Rattle.dcsctp_socket_calls.specs.Parts.{TurnsOf, DrewAlone, MakesAnsweredCall}
use Rattle.dcsctp_socket.specs.SocketView.{SocketView, user_view_of}
use Rattle.dcsctp_socket.proofs.AnsweredCalls.{connects}
use Rattle.dcsctp_socket.proofs.SoundCalls.{user_call_sound}
use Rattle.dcsctp_socket.proofs.socket.SocketDcSctpSocket.connect.Goals as goal

pub returns-clause-call : goal.returns-clause-call
returns-clause-call g c =
    subst (λ (s : SocketView g.row.R.Denot). Connects (user_view_of g.R.Rng.stream s) c.settled.result (user_view_of g.R.Rng.stream (record { view = view_of c.connect-outcome.new.context; failed = c.settled.new.failed })))
    c.self.view_is
    (connects g.R.Rng.stream c.self.inside.context.value c.connect-outcome.new.context c.self.inside.failed c.settled.new.failed c.if-self.false c.connect-outcome.result c.settled.result
    (subst (λ (x : Context g.row.R.Denot). MakesAnsweredCall g.R.Rng.stream NoAnswer (TurnsOf connect_call) DrewAlone x c.connect-outcome.result c.connect-outcome.new.context) c.deref_mut.ensures.value c.connect-outcome.ensures.turn)
    c.settled.ensures)

pub invariant_of-self : goal.invariant_of-self
invariant_of-self g c = (
  λ goes_on.
      user_call_sound c.calls_keep_soundness.ensures g.R.Rng.stream c.self.inside.context.value c.connect-outcome.new.context c.self.inside.failed c.settled.new.failed (c.self.invariant.0 c.if-self.false) goes_on
      c.connect-outcome.result c.settled.result c.settled.ensures NoAnswer DrewAlone connect_call
      (subst (λ (x : Context g.row.R.Denot). MakesAnsweredCall g.R.Rng.stream NoAnswer (TurnsOf connect_call) DrewAlone x c.connect-outcome.result c.connect-outcome.new.context) c.deref_mut.ensures.value c.connect-outcome.ensures.turn),
  subst (λ (x : Context g.row.R.Denot). ListsDeadlines (endpoint_of x) c.list_deadlines.new.deadlines) c.deref.ensures c.list_deadlines.ensures,
)
