use Rattle.std.proofs.Common.{◌≡◌, Some, slice_get, ap, sym}
use Rattle.dcsctp_api.specs.spec.queues.Items.{Item}
use Rattle.dcsctp_api.specs.spec.queues.Outstanding.{distance_to}
use Rattle.dcsctp_send_retransmission.proofs.retransmission_queue.RetransmissionQueue.chunk.Goals as goal

pub returns-then-place-len-clause-found : goal.returns-then-place-len-clause-found
returns-then-place-len-clause-found c =
    let at : slice_get c.args.self.now.outstanding.items (distance_to c.args.self.now.outstanding c.args.tsn) ≡ Some c.item.result.now =
    rw (← c.self.view_is, ← c.distance_to-place.ensures.value) c.item.ensures in
    record { item = c.item.result.now; at = at; is = sym (ap (λ (i : Item). i.fragment) c.behind-self.view_is) }
