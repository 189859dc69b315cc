use Rattle.std.proofs.Common.{subst}
use Rattle.dcsctp_core.specs.declared.context.Context.{Context}
use Rattle.dcsctp_core.specs.Timeout.{ListsDeadlines}
use Rattle.dcsctp_core.specs.View.{endpoint_of, view_of}
use Rattle.dcsctp_core.specs.types.Schedule.{hand_over_call}
use Rattle.dcsctp_core.specs.api.Handover.{IsHandoverAnswer, HandsOver}
use Rattle.dcsctp_socket_calls.specs.Parts.{TurnsOf, BeganAlone, MakesAnsweredCall}
use Rattle.dcsctp_socket.specs.SocketView.{SocketView, user_view_of}
use Rattle.dcsctp_socket.proofs.AnsweredCalls.{hands_over}
use Rattle.dcsctp_socket.proofs.SoundCalls.{user_call_sound}
use Rattle.dcsctp_socket.proofs.socket.SocketDcSctpSocket.get_handover_state_and_close.Goals as goal

pub returns-clause-call : goal.returns-clause-call
returns-clause-call g c =
    subst (λ (s : SocketView g.row.R.Denot). HandsOver (user_view_of g.R.Rng.stream s) c.settled.result (user_view_of g.R.Rng.stream (record { view = view_of c.get_handover_state_and_close-outcome.new.context; failed = c.settled.new.failed })))
    c.self.view_is
    (hands_over g.R.Rng.stream c.self.inside.context.value c.get_handover_state_and_close-outcome.new.context c.self.inside.failed c.settled.new.failed c.if-self.false c.get_handover_state_and_close-outcome.result c.settled.result
    (subst (λ (x : Context g.row.R.Denot). MakesAnsweredCall g.R.Rng.stream (IsHandoverAnswer (endpoint_of x)) (TurnsOf hand_over_call) BeganAlone x c.get_handover_state_and_close-outcome.result c.get_handover_state_and_close-outcome.new.context) c.deref_mut.ensures.value c.get_handover_state_and_close-outcome.ensures.call)
    c.settled.ensures)

pub invariant_of-self : goal.invariant_of-self
invariant_of-self g c = (
  λ goes_on.
      user_call_sound c.calls_keep_soundness.ensures g.R.Rng.stream c.self.inside.context.value c.get_handover_state_and_close-outcome.new.context c.self.inside.failed c.settled.new.failed (c.self.invariant.0 c.if-self.false) goes_on
      c.get_handover_state_and_close-outcome.result c.settled.result c.settled.ensures (IsHandoverAnswer (endpoint_of c.self.inside.context.value)) BeganAlone hand_over_call
      (subst (λ (x : Context g.row.R.Denot). MakesAnsweredCall g.R.Rng.stream (IsHandoverAnswer (endpoint_of x)) (TurnsOf hand_over_call) BeganAlone x c.get_handover_state_and_close-outcome.result c.get_handover_state_and_close-outcome.new.context) c.deref_mut.ensures.value c.get_handover_state_and_close-outcome.ensures.call),
  subst (λ (x : Context g.row.R.Denot). ListsDeadlines (endpoint_of x) c.list_deadlines.new.deadlines) c.deref.ensures c.list_deadlines.ensures,
)
