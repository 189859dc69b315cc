use Rattle.std.proofs.Common.{◌≡◌, take}
use Rattle.dcsctp_api.specs.spec.queues.Outstanding.{reported_items}
use Rattle.dcsctp_send_retransmission.proofs.outstanding.Outstanding.acknowledge_blocks.Given as goal

abbrev pub invariant-loop-block : goal.invariant-loop-block
invariant-loop-block l = l.self ≡ record l.initial.self { items = reported_items l.count (take l.block-index l.blocks) l.initial.self.items }
