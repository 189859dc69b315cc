use Rattle.std.proofs.Common.{◌≡◌, take, map}
use Rattle.std.specs.List.{flat_map}
use Rattle.dcsctp_api.specs.types.SnapshotItems.{queued_part}
use Rattle.dcsctp_api.specs.spec.queues.QueuedParts.{messages_given}
use Rattle.dcsctp_send_queue.proofs.backlog.Backlog.handover_messages.Given as goal

-- The messages of the streams so far.
abbrev pub invariant-loop-place : goal.invariant-loop-place
invariant-loop-place l = map queued_part l.all.items ≡ flat_map (messages_given l.now) (take l.place l.self.streams)
