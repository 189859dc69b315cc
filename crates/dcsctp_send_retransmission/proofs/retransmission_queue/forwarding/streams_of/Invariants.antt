use Rattle.std.proofs.Common.{◌≡◌, ◌++◌, map}
use Rattle.dcsctp_send_retransmission.specs.Forwarding.{stream_entry}
use Rattle.dcsctp_send_retransmission.specs.Skipping.{ssn_entry}
use Rattle.dcsctp_send_retransmission.proofs.retransmission_queue.forwarding.streams_of.Given as goal

abbrev pub invariant-loop-key : goal.invariant-loop-key
invariant-loop-key l = map stream_entry l.streams.items ++ map ssn_entry l.key-iterator ≡ map ssn_entry l.numbers.entries
