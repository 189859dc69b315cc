use Rattle.std.proofs.Common.{◌≡◌, take}
use Rattle.std.specs.List.{flat_map}
use Rattle.dcsctp_send_retransmission.specs.SkippedBytes.{messages_bytes}
use Rattle.dcsctp_send_retransmission.proofs.forward_tsn.all_messages_bytes.Given as goal

abbrev pub invariant-loop-entry : goal.invariant-loop-entry
invariant-loop-entry l = l.bytes.items ≡ flat_map messages_bytes (take l.entry-index l.messages)
