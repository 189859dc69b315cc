use Rattle.dcsctp_api.specs.spec.queues.Retransmission.{timer_with}
use Rattle.dcsctp_send_retransmission.proofs.HaltingLemmas.{fills_up_timed}
use Rattle.dcsctp_send_retransmission.proofs.retransmission_queue.RetransmissionQueue.get_chunks_to_send.Goals as goal

pub returns-clause-fills : goal.returns-clause-fills
returns-clause-fills c =
    let filled = c.fill_packet-filled.new.self in
    rw c.keep_timer.ensures (fills_up_timed c.fill_packet-filled.result c.args.now c.args.bytes filled (timer_with c.args.now filled.outstanding.items filled.timer) c.fill_packet-filled.new.queue c.fill_packet-filled.ensures.fills)

pub returns-clause-fresh : goal.returns-clause-fresh
returns-clause-fresh c =
    let fresh = rw c.empty_list-tsns.ensures.kept at c.fill_packet-filled.ensures.fresh in
    rw c.keep_timer.ensures fresh

pub returns-clause-steps : goal.returns-clause-steps
returns-clause-steps c =
    let fills = rw c.empty_list-tsns.ensures.kept at c.fill_packet-filled.ensures.steps in
    record { sent = c.fill_packet-filled.new.self; fills = fills; is = c.keep_timer.ensures }
