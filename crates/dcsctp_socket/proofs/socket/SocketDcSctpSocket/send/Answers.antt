use Rattle.std.proofs.Common.{subst}
use Rattle.dcsctp_core.specs.declared.context.Context.{Context}
use Rattle.dcsctp_core.specs.Timeout.{ListsDeadlines}
use Rattle.dcsctp_core.specs.View.{endpoint_of, view_of}
use Rattle.dcsctp_core.specs.types.Schedule.{send_call}
use Rattle.dcsctp_core.specs.types.queues.Messages.{message_content}
use Rattle.dcsctp_core.specs.api.Messages.{IsSendAnswer, SendsMessage}
use Rattle.dcsctp_socket_calls.specs.Parts.{TurnsOf, CutsCall, MakesCallOfUser}
use Rattle.dcsctp_socket.specs.SocketView.{SocketView, user_view_of}
use Rattle.dcsctp_socket.proofs.AnsweredCalls.{user_calls}
use Rattle.dcsctp_socket.proofs.SoundCalls.{user_call_sound}
use Rattle.dcsctp_socket.proofs.socket.SocketDcSctpSocket.send.Goals as goal

pub returns : goal.returns
returns g c =
    subst (λ (s : SocketView g.row.R.Denot). SendsMessage (message_content c.args.message) c.args.options.now (user_view_of g.R.Rng.stream s) c.settled.result (user_view_of g.R.Rng.stream (record { view = view_of c.send-outcome.new.context; failed = c.settled.new.failed })))
    c.self.view_is
    (user_calls g.R.Rng.stream c.self.inside.context.value c.send-outcome.new.context c.self.inside.failed c.settled.new.failed c.if-self.false (send_call (message_content c.args.message) c.args.options.now) (IsSendAnswer (endpoint_of c.self.inside.context.value) (message_content c.args.message)) c.send-outcome.result c.settled.result
    (subst (λ (x : Context g.row.R.Denot). MakesCallOfUser g.R.Rng.stream (send_call (message_content c.args.message) c.args.options.now) (IsSendAnswer (endpoint_of x) (message_content c.args.message)) x c.send-outcome.result c.send-outcome.new.context) c.deref_mut.ensures.value c.send-outcome.ensures)
    c.settled.ensures)

pub invariant_of-self : goal.invariant_of-self
invariant_of-self g c = (
  λ goes_on.
      user_call_sound c.calls_keep_soundness.ensures g.R.Rng.stream c.self.inside.context.value c.send-outcome.new.context c.self.inside.failed c.settled.new.failed (c.self.invariant.0 c.if-self.false) goes_on
      c.send-outcome.result c.settled.result c.settled.ensures (IsSendAnswer (endpoint_of c.self.inside.context.value) (message_content c.args.message)) (CutsCall (TurnsOf (send_call (message_content c.args.message) c.args.options.now))) (send_call (message_content c.args.message) c.args.options.now)
      (subst (λ (x : Context g.row.R.Denot). MakesCallOfUser g.R.Rng.stream (send_call (message_content c.args.message) c.args.options.now) (IsSendAnswer (endpoint_of x) (message_content c.args.message)) x c.send-outcome.result c.send-outcome.new.context) c.deref_mut.ensures.value c.send-outcome.ensures),
  subst (λ (x : Context g.row.R.Denot). ListsDeadlines (endpoint_of x) c.list_deadlines.new.deadlines) c.deref.ensures c.list_deadlines.ensures,
)
