use Rattle.std.proofs.Common.{◌≡◌, take}
use Rattle.std.specs.List.{flat_map}
use Rattle.std.specs.Int.{w32, to_be_bytes}
use Rattle.dcsctp_receive_tracker.proofs.data_tracker.tsn_bytes.Given as goal

abbrev pub invariant-loop-tsn : goal.invariant-loop-tsn
invariant-loop-tsn l = l.bytes.items ≡ flat_map (to_be_bytes w32) (take l.tsn-index l.listed)
