use Rattle.std.proofs.Common.{◌≡◌, ◌++◌, map}
use Rattle.dcsctp_send_retransmission.specs.Forwarding.{messages_entry}
use Rattle.dcsctp_send_retransmission.specs.Skipping.{mid_entry}
use Rattle.dcsctp_send_retransmission.proofs.retransmission_queue.forwarding.messages_of.Given as goal

abbrev pub invariant-loop-key : goal.invariant-loop-key
invariant-loop-key l = map messages_entry l.messages.items ++ map mid_entry l.key-iterator ≡ map mid_entry l.numbers.entries
