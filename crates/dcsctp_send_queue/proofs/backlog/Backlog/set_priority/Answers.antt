use Rattle.dcsctp_api.specs.spec.queues.SendQueue.{with_priority}
use Rattle.std.proofs.Common.{refl}
use Rattle.dcsctp_send_queue.proofs.HeldLemmas.{held-set}
use Rattle.dcsctp_send_queue.proofs.ResetLemmas.{change_used}
use Rattle.dcsctp_send_queue.specs.Backlog.{queue_of}
use Rattle.dcsctp_send_queue.proofs.backlog.Backlog.set_priority.Goals as goal

pub returns-clause-ok : goal.returns-clause-ok
returns-clause-ok c =
    change_used (queue_of c.args.self.now) (queue_of c.use_stream.new.self) c.in_ok-place.place c.args.stream_id.0 (with_priority c.args.priority) c.set_priority.new.self
    c.in_ok-place.ensures.ok c.in_ok-place.ensures.ascending c.in_ok-place.ensures.place c.set_priority.ensures

pub returns-clause-held : goal.returns-clause-held
returns-clause-held c held = rw c.set_priority.ensures (held-set _ c.in_ok-place.place _ _ (c.in_ok-place.ensures.held held) refl (λ goes. goes))
