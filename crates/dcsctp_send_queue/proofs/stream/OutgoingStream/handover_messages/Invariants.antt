use Rattle.std.proofs.Common.{◌≡◌, take, map}
use Rattle.dcsctp_api.specs.types.SnapshotItems.{queued_part}
use Rattle.dcsctp_api.specs.spec.queues.QueuedParts.{whole_message}
use Rattle.dcsctp_send_queue.proofs.stream.OutgoingStream.handover_messages.Given as goal

-- The messages so far.
abbrev pub invariant-loop-place : goal.invariant-loop-place
invariant-loop-place l =
    map queued_part l.parts.items ≡ map (whole_message l.now l.self-inside.id.0) (take l.place l.self-inside.messages.items)
