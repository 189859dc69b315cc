use Rattle.std.proofs.Common.{◌≡◌}
use Rattle.dcsctp_api.specs.types.queues.SendStreams.{renumbered_stream}
use Rattle.dcsctp_send_queue.proofs.Mapped.{mapped_to}
use Rattle.dcsctp_send_queue.proofs.streams.Streams.begin_all_anew.Given as goal

abbrev pub invariant-loop-place : goal.invariant-loop-place
invariant-loop-place l = l.self ≡ mapped_to l.place renumbered_stream l.initial.self
