use Rattle.dcsctp_send_retransmission.proofs.HandoverLemmas.{given_further}
use Rattle.dcsctp_send_retransmission.proofs.outstanding.Outstanding.handover_data.Goals as goal

pub loop-place-preserved : goal.loop-place-preserved
loop-place-preserved c =
    rw c.in_ok-push.ensures.items (given_further _ _ _ _ _ _ c.loop-place.invariant c.item.ensures c.in_ok-part.ensures)
