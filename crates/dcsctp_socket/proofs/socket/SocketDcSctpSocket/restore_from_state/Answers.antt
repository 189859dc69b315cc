use Rattle.std.proofs.Common.{subst, ◌≡◌, true, sym}
use Rattle.dcsctp_core.specs.declared.context.Context.{Context}
use Rattle.dcsctp_core.specs.Timeout.{ListsDeadlines}
use Rattle.dcsctp_core.specs.View.{core_of, endpoint_of, view_of}
use Rattle.dcsctp_core.specs.types.Snapshot.{snapshot, is_valid_snapshot}
use Rattle.dcsctp_core.specs.api.Handover.{IsRestoreAnswer, RestoresSocket}
use Rattle.dcsctp_socket_calls.specs.Parts.{RestoringTurns, FirstOfRestore, CutsCall, MakesAnsweredCall}
use Rattle.dcsctp_socket.specs.SocketView.{SocketView, user_view_of}
use Rattle.dcsctp_socket.proofs.AnsweredCalls.{restores}
use Rattle.dcsctp_socket.proofs.SoundCalls.{restore_sound}
use Rattle.dcsctp_socket.proofs.socket.SocketDcSctpSocket.restore_from_state.Goals as goal

pub returns-clause-call : goal.returns-clause-call
returns-clause-call g c =
    subst (λ (s : SocketView g.row.R.Denot). RestoresSocket (snapshot c.args.state.now) (user_view_of g.R.Rng.stream s) c.settled.result (user_view_of g.R.Rng.stream (record { view = view_of c.restore_from_state-outcome.new.context; failed = c.settled.new.failed })))
    c.self.view_is
    (restores g.R.Rng.stream c.self.inside.context.value c.restore_from_state-outcome.new.context c.self.inside.failed c.settled.new.failed c.if-self.false (snapshot c.args.state.now) c.restore_from_state-outcome.result c.settled.result
    (subst (λ (x : Context g.row.R.Denot). MakesAnsweredCall g.R.Rng.stream (IsRestoreAnswer (core_of x.state)) (RestoringTurns (snapshot c.args.state.now)) (CutsCall (FirstOfRestore (snapshot c.args.state.now))) x c.restore_from_state-outcome.result c.restore_from_state-outcome.new.context) c.deref_mut.ensures.value c.restore_from_state-outcome.ensures.call)
    c.settled.ensures)

pub invariant_of-self : goal.invariant_of-self
invariant_of-self g c = (
  λ goes_on.
      restore_sound c.calls_keep_soundness.ensures g.R.Rng.stream c.self.inside.context.value c.restore_from_state-outcome.new.context c.self.inside.failed c.settled.new.failed (c.self.invariant.0 c.if-self.false) goes_on
      c.restore_from_state-outcome.result c.settled.result c.settled.ensures (IsRestoreAnswer (core_of c.self.inside.context.value.state)) (CutsCall (FirstOfRestore (snapshot c.args.state.now))) (snapshot c.args.state.now)
      (subst (λ (s : SocketView g.row.R.Denot). is_valid_snapshot s.view.endpoint.options (snapshot c.args.state.now) ≡ true) (sym c.self.view_is) c.requires)
      (subst (λ (x : Context g.row.R.Denot). MakesAnsweredCall g.R.Rng.stream (IsRestoreAnswer (core_of x.state)) (RestoringTurns (snapshot c.args.state.now)) (CutsCall (FirstOfRestore (snapshot c.args.state.now))) x c.restore_from_state-outcome.result c.restore_from_state-outcome.new.context) c.deref_mut.ensures.value c.restore_from_state-outcome.ensures.call),
  subst (λ (x : Context g.row.R.Denot). ListsDeadlines (endpoint_of x) c.list_deadlines.new.deadlines) c.deref.ensures c.list_deadlines.ensures,
)
