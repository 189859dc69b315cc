use Rattle.dcsctp_core.specs.types.Snapshot.{snapshot}
use Rattle.dcsctp_core.specs.View.{view_of}
use Rattle.dcsctp_socket_calls.proofs.HandoverLemmas.{works_refused, works_handed_over}
use Rattle.dcsctp_socket_calls.proofs.handover.get_handover_state_and_close.Goals as goal

pub returns-then-not-is_ready-clause-call : goal.returns-then-not-is_ready-clause-call
returns-then-not-is_ready-clause-call g c =
    works_refused g.R.Rng.stream (view_of c.args.context.now) (view_of c.begin_call.new.self) c.is_ready.result c.get_handover_readiness-readiness.result.0
    c.begin_call.ensures c.get_handover_readiness-readiness.ensures.reasons c.is_ready.ensures c.if-not-is_ready.true

pub returns-clause-call : goal.returns-clause-call
returns-clause-call g c =
    works_handed_over g.R.Rng.stream (view_of c.args.context.now) (view_of c.begin_call.new.self) (view_of c.hand_over.new.context) c.is_ready.result
    c.get_handover_readiness-readiness.result.0 (snapshot c.in_ok-state.state)
    c.snapshots_are_valid.ensures c.requires c.get_handover_readiness-readiness.ensures.below
    c.begin_call.ensures c.get_handover_readiness-readiness.ensures.reasons c.is_ready.ensures c.if-not-is_ready.false c.in_ok-state.ensures c.in_ok-hand_over.ensures
