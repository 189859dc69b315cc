use Rattle.std.proofs.Common.{◌≡◌, drop}
use Rattle.dcsctp_api.specs.spec.queues.QueuedParts.{streams_restored}
use Rattle.dcsctp_send_queue.specs.Backlog.{queue_of, HasHeldStream}
use Rattle.dcsctp_send_queue.proofs.backlog.Backlog.restore_streams.Given as goal

-- With the streams that are left, all are restored.
abbrev pub invariant-loop-named : goal.invariant-loop-named
invariant-loop-named l =
    record {
      queue : streams_restored (drop l.named-index l.list) (queue_of l.self) ≡ streams_restored l.list (queue_of l.initial.self);
      held : HasHeldStream l.initial.self → HasHeldStream l.self;
    }
