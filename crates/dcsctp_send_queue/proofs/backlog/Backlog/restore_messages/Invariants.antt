use Rattle.std.proofs.Common.{◌≡◌, drop, map}
use Rattle.dcsctp_api.specs.types.SnapshotItems.{queued_part}
use Rattle.dcsctp_api.specs.spec.queues.QueuedParts.{messages_restored}
use Rattle.dcsctp_send_queue.specs.Backlog.{queue_of, HasHeldStream}
use Rattle.dcsctp_send_queue.proofs.backlog.Backlog.restore_messages.Given as goal

-- With the messages that are left, all are restored.
abbrev pub invariant-loop-part : goal.invariant-loop-part
invariant-loop-part l =
    record {
      queue : messages_restored l.now (map queued_part (drop l.part-index l.parts)) (queue_of l.self) ≡ messages_restored l.now (map queued_part l.parts) (queue_of l.initial.self);
      held : HasHeldStream l.initial.self → HasHeldStream l.self;
    }
