use Rattle.std.proofs.Common.{take}
use Rattle.dcsctp_api.specs.spec.queues.Reports.{IsNewlyAcknowledged, IsLastPlace}
use Rattle.dcsctp_send_retransmission.proofs.outstanding.Outstanding.newest_reported.Given as goal

abbrev pub invariant-loop-block : goal.invariant-loop-block
invariant-loop-block l = IsLastPlace (IsNewlyAcknowledged l.count (take l.block-index l.blocks)) l.self.items l.newest
