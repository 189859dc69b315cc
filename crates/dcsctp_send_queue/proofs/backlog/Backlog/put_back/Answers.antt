use Rattle.std.proofs.Common.{ap, ◌∙◌, length, refl, arith}
use Rattle.dcsctp_api.specs.types.queues.SendStreams.{stream_put_back}
use Rattle.dcsctp_api.specs.spec.queues.SendQueue.{SendQueueState}
use Rattle.dcsctp_send_queue.proofs.Mapped.{length-mapped_to}
use Rattle.dcsctp_send_queue.proofs.PuttingBackLemmas.{put_back_none, put_back_step, put_back_all, size_none, sent_step}
use Rattle.dcsctp_send_queue.specs.Backlog.{queue_of}
use Rattle.dcsctp_send_queue.proofs.backlog.Backlog.put_back.Goals as goal

pub loop-place-init : goal.loop-place-init
loop-place-init c = record { queue = put_back_none (queue_of c.args.self.now); sent = size_none c.args.self.now.streams }

pub put_back-more-requires : goal.put_back-more-requires
put_back-more-requires c =
    let len = ap (λ (q : SendQueueState). length q.streams) c.loop-place.invariant.queue ∙ length-mapped_to c.loop-place.place stream_put_back c.args.self.now.streams in
    omega (arith, len)

pub loop-place-preserved : goal.loop-place-preserved
loop-place-preserved c =
    let queue = c.loop-place.invariant.queue in
    record {
      queue = put_back_step (queue_of c.args.self.now) (queue_of c.loop-place.self) c.loop-place.place _ c.put_back-more.new.self queue c.put_back-more.ensures.left refl (omega arith);
      sent = sent_step (queue_of c.args.self.now) (queue_of c.loop-place.self) c.loop-place.place _ c.put_back-more.result c.loop-place.sent c.saturating_add-sent.result queue
          c.put_back-more.ensures.sent c.loop-place.invariant.sent c.saturating_add-sent.ensures refl (omega arith);
    }

pub returns-clause-back : goal.returns-clause-back
returns-clause-back c =
    put_back_all (queue_of c.args.self.now) (queue_of c.loop-place.self) c.loop-place.place c.loop-place.sent c.saturating_add-self.result c.loop-place.invariant.queue c.loop-place.invariant.sent
    c.saturating_add-self.ensures (omega arith)
