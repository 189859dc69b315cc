use Rattle.std.proofs.lemmas.Result.{err_from_is_err_and}
use Rattle.dcsctp_core.specs.types.Snapshot.{snapshot}
use Rattle.dcsctp_core.specs.View.{view_of}
use Rattle.dcsctp_socket_calls.proofs.HandoverLemmas.{works_restored, works_restore_cut}
use Rattle.dcsctp_socket_calls.proofs.handover.restore_from_state.Goals as goal

pub returns-in_err-send_buffered_packets-in-Connected-clause-call : goal.returns-in_err-send_buffered_packets-in-Connected-clause-call
returns-in_err-send_buffered_packets-in-Connected-clause-call g c =
    rw (err_from_is_err_and c.from_residual-in_err-send_buffered_packets-in-Connected.result c.from_residual-in_err-send_buffered_packets-in-Connected.ensures.1).1
    (works_restore_cut g.R.Rng.stream (view_of c.args.context.now) (view_of c.begin_call.new.self) (view_of c.restore.new.context) c.is_closed.result (snapshot c.args.state.now) _
    c.begin_call.ensures c.is_closed.ensures c.if-not-is_closed.false c.in-Connected.is c.in_ok-restore-in-Connected.ensures c.in_err-send_buffered_packets-in-Connected.ensures)

pub returns-in_ok-send_buffered_packets-in-Connected-clause-call : goal.returns-in_ok-send_buffered_packets-in-Connected-clause-call
returns-in_ok-send_buffered_packets-in-Connected-clause-call g c =
    works_restored g.R.Rng.stream (view_of c.args.context.now) (view_of c.begin_call.new.self) (view_of c.restore.new.context) (view_of c.send_buffered_packets.new.self) c.is_closed.result
    (snapshot c.args.state.now)
    c.begin_call.ensures c.is_closed.ensures c.if-not-is_closed.false c.in-Connected.is c.in_ok-restore-in-Connected.ensures c.in_ok-send_buffered_packets-in-Connected.ensures
