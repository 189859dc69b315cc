use Rattle.dcsctp_api.specs.spec.queues.QueuedParts.{stream_restored}
use Rattle.std.proofs.Common.{refl}
use Rattle.dcsctp_send_queue.proofs.HeldLemmas.{held-set}
use Rattle.dcsctp_send_queue.proofs.ResetLemmas.{change_used}
use Rattle.dcsctp_send_queue.specs.Backlog.{queue_of}
use Rattle.dcsctp_send_queue.proofs.backlog.Backlog.restore_stream.Goals as goal

pub returns-clause-ok : goal.returns-clause-ok
returns-clause-ok c =
    change_used (queue_of c.args.self.now) (queue_of c.use_stream.new.self) c.in_ok-place.place c.args.named.now.id (stream_restored c.args.named.now) c.restore.new.self
    c.in_ok-place.ensures.ok c.in_ok-place.ensures.ascending c.in_ok-place.ensures.place c.restore.ensures

pub returns-clause-held : goal.returns-clause-held
returns-clause-held c held = rw c.restore.ensures (held-set _ c.in_ok-place.place _ _ (c.in_ok-place.ensures.held held) refl (λ goes. goes))
