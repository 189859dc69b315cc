use Rattle.std.proofs.Common.{◌≡◌}
use Rattle.dcsctp_api.specs.spec.queues.SendQueue.{renumbered_under_way}
use Rattle.dcsctp_send_queue.proofs.Mapped.{mapped_to}
use Rattle.dcsctp_send_queue.specs.Backlog.{queue_of}
use Rattle.dcsctp_send_queue.proofs.backlog.Backlog.number_all_anew.Given as goal

-- The messages under way of the streams so far have other numbers.
abbrev pub invariant-loop-place : goal.invariant-loop-place
invariant-loop-place l =
    queue_of l.self ≡ record (queue_of l.initial.self) { is_interleaved = l.is_interleaved; streams = mapped_to l.place (renumbered_under_way l.is_interleaved) l.initial.self.streams }
