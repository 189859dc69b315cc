use Rattle.std.proofs.Common.{sym, ◌∙◌}
use Rattle.dcsctp_api.specs.types.SnapshotItems.{queued_part}
use Rattle.dcsctp_send_queue.proofs.RestoringLemmas.{restored_can}
use Rattle.dcsctp_send_queue.specs.Backlog.{queue_of}
use Rattle.dcsctp_send_queue.proofs.backlog.Backlog.restore_message.Goals as goal

pub go_on_again-requires : goal.go_on_again-requires
go_on_again-requires c =
    restored_can c.args.now _ (queued_part c.args.part.now) (queue_of c.args.self.now) (queue_of c.put_rest.new.self) c.in_ok-message.message c.progress_again.result
    (sym c.goes_on-goes_on.ensures ∙ c.if-goes_on.true) c.requires c.in_ok-message.ensures c.progress_again.ensures c.in_ok-put_rest.ensures.ok
