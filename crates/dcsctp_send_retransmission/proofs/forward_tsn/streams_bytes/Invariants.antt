use Rattle.std.proofs.Common.{◌≡◌, take}
use Rattle.std.specs.List.{flat_map}
use Rattle.dcsctp_send_retransmission.specs.SkippedBytes.{skipped_stream_bytes}
use Rattle.dcsctp_send_retransmission.proofs.forward_tsn.streams_bytes.Given as goal

abbrev pub invariant-loop-entry : goal.invariant-loop-entry
invariant-loop-entry l = l.bytes.items ≡ flat_map skipped_stream_bytes (take l.entry-index l.streams)
