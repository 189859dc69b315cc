use Rattle.std.proofs.Common.{◌≡◌, Some, slice_get, take, add-one, append_assoc}
use Rattle.std.proofs.lemmas.Result.{err_from_is_err_and}
use Rattle.dcsctp_send_queue.specs.Telling.{contents}
use Rattle.dcsctp_api.specs.spec.queues.Acknowledging.{delivered_events}
use Rattle.dcsctp_send_retransmission.proofs.QueueLemmas.{told_of, delivered_further, front_further}
use Rattle.dcsctp_send_retransmission.proofs.retransmission_queue.RetransmissionQueue.tell_delivered.Goals as goal

pub loop-place-preserved : goal.loop-place-preserved
loop-place-preserved c =
    let at : slice_get c.args.self.now.outstanding.items c.loop-place.place ≡ Some c.item.result.now = rw (← c.self.view_is) c.item.ensures in
    let further = delivered_further c.args.self.now.outstanding.items c.loop-place.place c.item.result.now at in
    rw (c.in_ok-tell_of.ensures.ok, c.loop-place.invariant, add-one, further) (append_assoc (contents c.args.events.now) (delivered_events (take c.loop-place.place c.args.self.now.outstanding.items)) (told_of c.item.result.now))

pub returns-in_err-tell_of-clause-err : goal.returns-in_err-tell_of-clause-err
returns-in_err-tell_of-clause-err c =
    let at : slice_get c.args.self.now.outstanding.items c.loop-place.place ≡ Some c.item.result.now = rw (← c.self.view_is) c.item.ensures in
    rw (err_from_is_err_and c.from_residual.result c.from_residual.ensures.1).1
    (front_further c.args.self.now.outstanding.items c.loop-place.place c.args.count c.item.result.now (contents c.args.events.now) (contents c.loop-place.events) (contents c.tell_of.new.events) c.loop-place-test.true at c.loop-place.invariant c.in_err-tell_of.ensures.err)
