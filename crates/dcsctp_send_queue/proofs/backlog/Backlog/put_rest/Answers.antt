use Rattle.std.proofs.Common.{refl, ap}
use Rattle.dcsctp_api.specs.spec.queues.QueuedParts.{with_rest}
use Rattle.dcsctp_api.specs.spec.queues.SendQueue.{SendQueueState, stream_changed, used_streams}
use Rattle.dcsctp_send_queue.proofs.HeldLemmas.{held-set}
use Rattle.dcsctp_send_queue.proofs.ResetLemmas.{change_used}
use Rattle.dcsctp_send_queue.proofs.RestoringLemmas.{put_rest_is}
use Rattle.dcsctp_send_queue.specs.Backlog.{queue_of}
use Rattle.dcsctp_send_queue.proofs.backlog.Backlog.put_rest.Goals as goal

pub returns-clause-ok : goal.returns-clause-ok
returns-clause-ok c =
    put_rest_is (queue_of c.args.self.now) (queue_of c.use_stream.new.self) c.push_rest.new.self (stream_changed c.args.stream_id.0 (with_rest c.args.message c.args.rest) (used_streams (queue_of c.args.self.now) c.args.stream_id.0))
    c.saturating_add-self.result c.args.rest (ap (λ (q : SendQueueState). q.total_amount) c.in_ok-place.ensures.ok) c.saturating_add-self.ensures
    (change_used (queue_of c.args.self.now) (queue_of c.use_stream.new.self) c.in_ok-place.place c.args.stream_id.0 (with_rest c.args.message c.args.rest) c.push_rest.new.self
    c.in_ok-place.ensures.ok c.in_ok-place.ensures.ascending c.in_ok-place.ensures.place c.in_ok-push_rest.ensures.ok)

pub returns-clause-held : goal.returns-clause-held
returns-clause-held c held = rw c.in_ok-push_rest.ensures.ok (held-set _ c.in_ok-place.place _ _ (c.in_ok-place.ensures.held held) refl (λ goes. goes))
