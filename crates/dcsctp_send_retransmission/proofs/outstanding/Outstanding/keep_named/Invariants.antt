use Rattle.std.proofs.Common.{◌≡◌}
use Rattle.dcsctp_send_retransmission.proofs.outstanding.Outstanding.keep_named.Given as goal

abbrev pub invariant-loop-block : goal.invariant-loop-block
invariant-loop-block l = l.self ≡ l.initial.self
