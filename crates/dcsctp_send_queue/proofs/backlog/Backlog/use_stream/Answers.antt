use Rattle.std.proofs.Common.{ap, ◌∙◌}
use Rattle.std.specs.List.{insert}
use Rattle.dcsctp_api.specs.types.queues.SendStreams.{unused_stream}
use Rattle.dcsctp_send_queue.proofs.PlaceLemmas.{IsAscending-insert}
use Rattle.dcsctp_send_queue.proofs.UsedLemmas.{insert-used}
use Rattle.dcsctp_send_queue.proofs.HeldLemmas.{held-insert}
use Rattle.dcsctp_send_queue.specs.Backlog.{queue_of}
use Rattle.dcsctp_send_queue.proofs.backlog.Backlog.use_stream.Goals as goal

pub returns-in_ok-insert-in-Err-clause-ok : goal.returns-in_ok-insert-in-Err-clause-ok
returns-in_ok-insert-in-Err-clause-ok c =
    ap (λ s. record (queue_of c.args.self.now) { streams = s })
    (c.in_ok-insert-in-Err.ensures.ok ∙ (ap (λ u. insert c.args.self.now.streams c.in-Err.place u) c.new_stream-stream.ensures
    ∙ insert-used (queue_of c.args.self.now) c.in-Err.place c.args.stream_id.0 c.in-Err.ensures.found))

pub returns-in_ok-insert-in-Err-clause-ascending : goal.returns-in_ok-insert-in-Err-clause-ascending
returns-in_ok-insert-in-Err-clause-ascending c =
    rw (c.in_ok-insert-in-Err.ensures.ok, c.new_stream-stream.ensures)
    (IsAscending-insert c.args.self.now.streams c.in-Err.place (unused_stream c.args.stream_id.0 c.args.self.now.default_priority c.args.self.now.default_threshold) c.in-Err.ensures.ascending c.in-Err.ensures.found)

pub returns-in_ok-insert-in-Err-clause-held : goal.returns-in_ok-insert-in-Err-clause-held
returns-in_ok-insert-in-Err-clause-held c held = rw c.in_ok-insert-in-Err.ensures.ok (held-insert _ _ _ _ held c.in-Err.ensures.found.0)
