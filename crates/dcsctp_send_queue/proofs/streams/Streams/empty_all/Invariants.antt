use Rattle.std.proofs.Common.{◌≡◌}
use Rattle.dcsctp_api.specs.spec.queues.QueuedParts.{emptied_stream}
use Rattle.dcsctp_send_queue.proofs.Mapped.{mapped_to}
use Rattle.dcsctp_send_queue.proofs.streams.Streams.empty_all.Given as goal

abbrev pub invariant-loop-place : goal.invariant-loop-place
invariant-loop-place l = l.self ≡ mapped_to l.place emptied_stream l.initial.self
