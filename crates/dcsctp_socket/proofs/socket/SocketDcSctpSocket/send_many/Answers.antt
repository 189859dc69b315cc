use Rattle.std.proofs.Common.{subst, map}
use Rattle.dcsctp_core.specs.declared.context.Context.{Context}
use Rattle.dcsctp_core.specs.Timeout.{ListsDeadlines}
use Rattle.dcsctp_core.specs.View.{endpoint_of, view_of}
use Rattle.dcsctp_core.specs.types.Schedule.{send_many_call}
use Rattle.dcsctp_core.specs.types.queues.Messages.{message_content}
use Rattle.dcsctp_core.specs.api.Messages.{IsSendManyAnswer, SendsMany}
use Rattle.dcsctp_socket_calls.specs.Parts.{TurnsOf, CutsCall, MakesCallOfUser}
use Rattle.dcsctp_socket.specs.SocketView.{SocketView, user_view_of}
use Rattle.dcsctp_socket.proofs.AnsweredCalls.{user_calls}
use Rattle.dcsctp_socket.proofs.SoundCalls.{user_call_sound}
use Rattle.dcsctp_socket.proofs.socket.SocketDcSctpSocket.send_many.Goals as goal

pub returns : goal.returns
returns g c =
    subst (λ (s : SocketView g.row.R.Denot). SendsMany (map message_content c.args.messages.items) c.args.options.now (user_view_of g.R.Rng.stream s) c.settled.result (user_view_of g.R.Rng.stream (record { view = view_of c.send_many-outcome.new.context; failed = c.settled.new.failed })))
    c.self.view_is
    (user_calls g.R.Rng.stream c.self.inside.context.value c.send_many-outcome.new.context c.self.inside.failed c.settled.new.failed c.if-self.false (send_many_call (map message_content c.args.messages.items) c.args.options.now) (IsSendManyAnswer (endpoint_of c.self.inside.context.value) (map message_content c.args.messages.items) c.args.options.now) c.send_many-outcome.result c.settled.result
    (subst (λ (x : Context g.row.R.Denot). MakesCallOfUser g.R.Rng.stream (send_many_call (map message_content c.args.messages.items) c.args.options.now) (IsSendManyAnswer (endpoint_of x) (map message_content c.args.messages.items) c.args.options.now) x c.send_many-outcome.result c.send_many-outcome.new.context) c.deref_mut.ensures.value c.send_many-outcome.ensures)
    c.settled.ensures)

pub invariant_of-self : goal.invariant_of-self
invariant_of-self g c = (
  λ goes_on.
      user_call_sound c.calls_keep_soundness.ensures g.R.Rng.stream c.self.inside.context.value c.send_many-outcome.new.context c.self.inside.failed c.settled.new.failed (c.self.invariant.0 c.if-self.false) goes_on
      c.send_many-outcome.result c.settled.result c.settled.ensures (IsSendManyAnswer (endpoint_of c.self.inside.context.value) (map message_content c.args.messages.items) c.args.options.now) (CutsCall (TurnsOf (send_many_call (map message_content c.args.messages.items) c.args.options.now))) (send_many_call (map message_content c.args.messages.items) c.args.options.now)
      (subst (λ (x : Context g.row.R.Denot). MakesCallOfUser g.R.Rng.stream (send_many_call (map message_content c.args.messages.items) c.args.options.now) (IsSendManyAnswer (endpoint_of x) (map message_content c.args.messages.items) c.args.options.now) x c.send_many-outcome.result c.send_many-outcome.new.context) c.deref_mut.ensures.value c.send_many-outcome.ensures),
  subst (λ (x : Context g.row.R.Denot). ListsDeadlines (endpoint_of x) c.list_deadlines.new.deadlines) c.deref.ensures c.list_deadlines.ensures,
)
