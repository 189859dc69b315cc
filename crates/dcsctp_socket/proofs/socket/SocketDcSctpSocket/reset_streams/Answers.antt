use Rattle.std.proofs.Common.{subst}
use Rattle.dcsctp_core.specs.declared.context.Context.{Context}
use Rattle.dcsctp_core.specs.Timeout.{ListsDeadlines}
use Rattle.dcsctp_core.specs.View.{endpoint_of, view_of}
use Rattle.dcsctp_core.specs.types.Ids.{stream_numbers}
use Rattle.dcsctp_core.specs.types.Schedule.{reset_call}
use Rattle.dcsctp_core.specs.api.Resets.{IsResetAnswer, ResetsOwn}
use Rattle.dcsctp_socket_calls.specs.Parts.{TurnsOf, CutsCall, MakesCallOfUser}
use Rattle.dcsctp_socket.specs.SocketView.{SocketView, user_view_of}
use Rattle.dcsctp_socket.proofs.AnsweredCalls.{user_calls}
use Rattle.dcsctp_socket.proofs.SoundCalls.{user_call_sound}
use Rattle.dcsctp_socket.proofs.socket.SocketDcSctpSocket.reset_streams.Goals as goal

pub returns-clause-call : goal.returns-clause-call
returns-clause-call g c =
    subst (λ (s : SocketView g.row.R.Denot). ResetsOwn (stream_numbers c.args.stream_ids.now) (user_view_of g.R.Rng.stream s) c.settled.result (user_view_of g.R.Rng.stream (record { view = view_of c.reset_streams-outcome.new.context; failed = c.settled.new.failed })))
    c.self.view_is
    (user_calls g.R.Rng.stream c.self.inside.context.value c.reset_streams-outcome.new.context c.self.inside.failed c.settled.new.failed c.if-self.false (reset_call (stream_numbers c.args.stream_ids.now)) (IsResetAnswer (endpoint_of c.self.inside.context.value)) c.reset_streams-outcome.result c.settled.result
    (subst (λ (x : Context g.row.R.Denot). MakesCallOfUser g.R.Rng.stream (reset_call (stream_numbers c.args.stream_ids.now)) (IsResetAnswer (endpoint_of x)) x c.reset_streams-outcome.result c.reset_streams-outcome.new.context) c.deref_mut.ensures.value c.reset_streams-outcome.ensures.call)
    c.settled.ensures)

pub invariant_of-self : goal.invariant_of-self
invariant_of-self g c = (
  λ goes_on.
      user_call_sound c.calls_keep_soundness.ensures g.R.Rng.stream c.self.inside.context.value c.reset_streams-outcome.new.context c.self.inside.failed c.settled.new.failed (c.self.invariant.0 c.if-self.false) goes_on
      c.reset_streams-outcome.result c.settled.result c.settled.ensures (IsResetAnswer (endpoint_of c.self.inside.context.value)) (CutsCall (TurnsOf (reset_call (stream_numbers c.args.stream_ids.now)))) (reset_call (stream_numbers c.args.stream_ids.now))
      (subst (λ (x : Context g.row.R.Denot). MakesCallOfUser g.R.Rng.stream (reset_call (stream_numbers c.args.stream_ids.now)) (IsResetAnswer (endpoint_of x)) x c.reset_streams-outcome.result c.reset_streams-outcome.new.context) c.deref_mut.ensures.value c.reset_streams-outcome.ensures.call),
  subst (λ (x : Context g.row.R.Denot). ListsDeadlines (endpoint_of x) c.list_deadlines.new.deadlines) c.deref.ensures c.list_deadlines.ensures,
)
