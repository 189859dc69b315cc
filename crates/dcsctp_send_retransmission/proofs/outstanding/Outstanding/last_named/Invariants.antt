use Rattle.std.proofs.Common.{take}
use Rattle.dcsctp_api.specs.spec.queues.Reports.{NamesItem, IsLastPlace}
use Rattle.dcsctp_send_retransmission.proofs.outstanding.Outstanding.last_named.Given as goal

abbrev pub invariant-loop-block : goal.invariant-loop-block
invariant-loop-block l = IsLastPlace (λ place item. NamesItem l.count (take l.block-index l.blocks) place) l.self.items l.last
