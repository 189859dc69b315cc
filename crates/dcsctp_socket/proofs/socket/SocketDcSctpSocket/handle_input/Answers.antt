use Rattle.std.proofs.Common.{subst}
use Rattle.dcsctp_core.specs.declared.context.Context.{Context}
use Rattle.dcsctp_core.specs.Timeout.{ListsDeadlines}
use Rattle.dcsctp_core.specs.View.{endpoint_of, view_of}
use Rattle.dcsctp_core.specs.api.Calls.{HandlesInput, NoAnswer}
use Rattle.dcsctp_socket_calls.specs.Parts.{InputTurns, FirstOfInput, CutsCall, MakesAnsweredCall}
use Rattle.dcsctp_socket.specs.SocketView.{SocketView, user_view_of}
use Rattle.dcsctp_socket.proofs.AnsweredCalls.{handles_input}
use Rattle.dcsctp_socket.proofs.SoundCalls.{input_sound}
use Rattle.dcsctp_socket.proofs.socket.SocketDcSctpSocket.handle_input.Goals as goal

pub returns : goal.returns
returns g c =
    subst (λ (s : SocketView g.row.R.Denot). HandlesInput (user_view_of g.R.Rng.stream s) c.args.packet.now c.settled.result (user_view_of g.R.Rng.stream (record { view = view_of c.handle_input-outcome.new.context; failed = c.settled.new.failed })))
    c.self.view_is
    (handles_input g.R.Rng.stream c.self.inside.context.value c.handle_input-outcome.new.context c.self.inside.failed c.settled.new.failed c.if-self.false c.args.packet.now c.handle_input-outcome.result c.settled.result
    (subst (λ (x : Context g.row.R.Denot). MakesAnsweredCall g.R.Rng.stream NoAnswer (InputTurns c.args.packet.now) (CutsCall (FirstOfInput c.args.packet.now)) x c.handle_input-outcome.result c.handle_input-outcome.new.context) c.deref_mut.ensures.value c.handle_input-outcome.ensures)
    c.settled.ensures)

pub invariant_of-self : goal.invariant_of-self
invariant_of-self g c = (
  λ goes_on.
      input_sound c.calls_keep_soundness.ensures g.R.Rng.stream c.self.inside.context.value c.handle_input-outcome.new.context c.self.inside.failed c.settled.new.failed (c.self.invariant.0 c.if-self.false) goes_on
      c.handle_input-outcome.result c.settled.result c.settled.ensures NoAnswer (CutsCall (FirstOfInput c.args.packet.now)) c.args.packet.now
      (subst (λ (x : Context g.row.R.Denot). MakesAnsweredCall g.R.Rng.stream NoAnswer (InputTurns c.args.packet.now) (CutsCall (FirstOfInput c.args.packet.now)) x c.handle_input-outcome.result c.handle_input-outcome.new.context) c.deref_mut.ensures.value c.handle_input-outcome.ensures),
  subst (λ (x : Context g.row.R.Denot). ListsDeadlines (endpoint_of x) c.list_deadlines.new.deadlines) c.deref.ensures c.list_deadlines.ensures,
)
