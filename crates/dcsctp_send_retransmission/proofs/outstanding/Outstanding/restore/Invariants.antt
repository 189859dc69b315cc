use Rattle.std.proofs.Common.{◌≡◌, take, map}
use Rattle.dcsctp_api.specs.types.SnapshotItems.{outstanding_part}
use Rattle.dcsctp_api.specs.spec.queues.OutstandingParts.{item_again}
use Rattle.dcsctp_send_retransmission.proofs.outstanding.Outstanding.restore.Given as goal

-- The items so far.
abbrev pub invariant-loop-place : goal.invariant-loop-place
invariant-loop-place l =
    l.self ≡ record l.initial.self { first_tsn = l.first_tsn; items = map (item_again l.now l.was_reset) (map outstanding_part (take l.place l.parts)) }
