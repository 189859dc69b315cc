use Rattle.std.proofs.lemmas.Result.{err_from_is_err_and}
use Rattle.dcsctp_core.specs.View.{view_of}
use Rattle.dcsctp_core_data.proofs.EndLemmas.{acknowledges_done, acknowledges_cut, answers_cut}
use Rattle.dcsctp_core_data.proofs.packet_end.acknowledge.Goals as goal

pub returns-in_err-packet-in-Some : goal.returns-in_err-packet-in-Some
returns-in_err-packet-in-Some g c =
    rw (err_from_is_err_and c.from_residual.result c.from_residual.ensures.1).1
    (λ due. answers_cut (view_of c.args.context.now))

pub returns-in_err-acknowledge-in-Some : goal.returns-in_err-acknowledge-in-Some
returns-in_err-acknowledge-in-Some g c =
    rw (err_from_is_err_and c.from_residual-in_err-acknowledge-in-Some.result c.from_residual-in_err-acknowledge-in-Some.ensures.1).1
    (λ due. answers_cut (view_of c.args.context.now))

pub returns-in_err-send_buffered_packets_with-in-Some : goal.returns-in_err-send_buffered_packets_with-in-Some
returns-in_err-send_buffered_packets_with-in-Some g c =
    rw (err_from_is_err_and c.from_residual-in_err-send_buffered_packets_with-in-Some.result c.from_residual-in_err-send_buffered_packets_with-in-Some.ensures.1).1
    (λ due. acknowledges_cut g.R.Rng.stream c.args.context.now c.in-Some.tcb.now c.acknowledge.new.self _ c.acknowledge.new.packet c.send_buffered_packets_with.new.self
    c.in-Some.ensures due c.in_ok-packet-in-Some.ensures c.in_ok-acknowledge-in-Some.ensures.ok c.in_err-send_buffered_packets_with-in-Some.ensures)

pub returns-in_ok-send_buffered_packets_with-in-Some : goal.returns-in_ok-send_buffered_packets_with-in-Some
returns-in_ok-send_buffered_packets_with-in-Some g c =
    λ due. acknowledges_done g.R.Rng.stream c.args.context.now c.in-Some.tcb.now c.acknowledge.new.self _ c.acknowledge.new.packet c.send_buffered_packets_with.new.self
    c.in-Some.ensures due c.in_ok-packet-in-Some.ensures c.in_ok-acknowledge-in-Some.ensures.ok c.in_ok-send_buffered_packets_with-in-Some.ensures
