use Rattle.std.proofs.Common.{Bool, if◌then◌else◌, ◌∙◌, ap, sym}
use Rattle.dcsctp_send_retransmission.specs.spec.queues.Retransmission.{RetransmissionState, after_expiry}
use Rattle.dcsctp_send_retransmission.specs.spec.queues.Transfer.{Transfer}
use Rattle.dcsctp_transfer.proofs.SacksLemmas.{lost_by}
use Rattle.dcsctp_transfer.proofs.transfer.Transfer.expire_retransmission.Goals as goal

pub returns-clause-left : goal.returns-clause-left
returns-clause-left c =
    let inside = c.self.inside in
    let with_queue : RetransmissionState → Transfer =
    λ queue. record { retransmission = queue; timeout = inside.rto; tracker = inside.data_tracker; reassembly = inside.reassembly_queue } in
    rw (← c.self.view_is)
    (ap with_queue (c.handle_timeout.ensures.left ∙ ap (λ (b : Bool). if b then after_expiry c.args.now inside.retransmission_queue else inside.retransmission_queue) (sym c.handle_timeout.ensures.answer))
    ∙ lost_by c.handle_timeout.result c.args.now (with_queue inside.retransmission_queue))
