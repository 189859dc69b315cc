use Rattle.std.proofs.Common.{refl, ap, ◌∙◌}
use Rattle.std.specs.List.{insert}
use Rattle.dcsctp_api.specs.types.queues.SendStreams.{with_message}
use Rattle.dcsctp_send_queue.proofs.UsedLemmas.{set-changed, insert-changed}
use Rattle.dcsctp_send_queue.proofs.HeldLemmas.{held-set, held-insert}
use Rattle.dcsctp_send_queue.specs.Backlog.{queue_of}
use Rattle.dcsctp_send_queue.proofs.backlog.Backlog.put.Goals as goal

pub returns-in_ok-push-in-Ok-clause-ok : goal.returns-in_ok-push-in-Ok-clause-ok
returns-in_ok-push-in-Ok-clause-ok c =
    ap (λ s. record (queue_of c.args.self.now) { streams = s })
    (c.in_ok-push-in-Ok.ensures.ok ∙ set-changed (queue_of c.args.self.now) c.in-Ok.place c.args.stream_id.0 (with_message c.args.message) c.in-Ok.ensures.ascending c.in-Ok.ensures.found)

pub returns-in_ok-insert-in-Err-clause-ok : goal.returns-in_ok-insert-in-Err-clause-ok
returns-in_ok-insert-in-Err-clause-ok c =
    ap (λ s. record (queue_of c.args.self.now) { streams = s })
    (c.in_ok-insert-in-Err.ensures.ok
    ∙ (ap (λ u. insert c.args.self.now.streams c.in-Err.place u) (c.in_ok-push-in-Err.ensures.ok ∙ ap (λ u. with_message c.args.message u) c.new_stream-stream.ensures)
    ∙ insert-changed (queue_of c.args.self.now) c.in-Err.place c.args.stream_id.0 (with_message c.args.message) c.in-Err.ensures.found))

pub returns-in_ok-push-in-Ok-clause-held : goal.returns-in_ok-push-in-Ok-clause-held
returns-in_ok-push-in-Ok-clause-held c held = rw c.in_ok-push-in-Ok.ensures.ok (held-set _ c.in-Ok.place _ _ held refl (λ goes. goes))

pub returns-in_ok-insert-in-Err-clause-held : goal.returns-in_ok-insert-in-Err-clause-held
returns-in_ok-insert-in-Err-clause-held c held = rw c.in_ok-insert-in-Err.ensures.ok (held-insert _ _ _ _ held c.in-Err.ensures.found.0)
