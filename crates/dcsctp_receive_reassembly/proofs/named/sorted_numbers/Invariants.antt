use Rattle.std.proofs.Common.{◌≡◌, take}
use Rattle.dcsctp_api.specs.types.Ids.{stream_numbers}
use Rattle.dcsctp_receive_reassembly.proofs.named.sorted_numbers.Given as goal

abbrev pub invariant-loop-id : goal.invariant-loop-id
invariant-loop-id l = l.numbers.items ≡ stream_numbers (take l.id-index l.streams)
