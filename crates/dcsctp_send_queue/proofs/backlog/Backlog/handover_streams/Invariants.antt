use Rattle.std.proofs.Common.{◌≡◌, take, map}
use Rattle.dcsctp_api.specs.spec.queues.QueuedParts.{stream_given}
use Rattle.dcsctp_send_queue.proofs.backlog.Backlog.handover_streams.Given as goal

-- The streams so far.
abbrev pub invariant-loop-place : goal.invariant-loop-place
invariant-loop-place l = l.list.items ≡ map stream_given (take l.place l.self.streams)
