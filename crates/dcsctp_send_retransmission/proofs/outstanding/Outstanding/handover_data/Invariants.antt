use Rattle.std.proofs.Common.{◌≡◌, take, map}
use Rattle.dcsctp_api.specs.types.SnapshotItems.{outstanding_part}
use Rattle.dcsctp_api.specs.spec.queues.OutstandingParts.{outstanding_given}
use Rattle.dcsctp_send_retransmission.proofs.outstanding.Outstanding.handover_data.Given as goal

-- The items so far.
abbrev pub invariant-loop-place : goal.invariant-loop-place
invariant-loop-place l = map outstanding_part l.parts.items ≡ map (outstanding_given l.now) (take l.place l.self.items)
