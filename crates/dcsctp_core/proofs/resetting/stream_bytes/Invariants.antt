use Rattle.std.proofs.Common.{◌≡◌, take}
use Rattle.std.specs.List.{flat_map, AllByRecursion}
use Rattle.std.specs.Int.{w16, to_be_bytes}
use Rattle.dcsctp_transfer.specs.types.Ids.{stream_numbers}
use Rattle.dcsctp_core.specs.Resetting.{IsStream}
use Rattle.dcsctp_core.proofs.resetting.stream_bytes.Given as goal

-- the streams so far, each of which fits its field
abbrev pub invariant-loop-stream : goal.invariant-loop-stream
invariant-loop-stream l = record {
  bytes : l.bytes.items ≡ flat_map (to_be_bytes w16) (stream_numbers (take l.stream-index l.streams));
  fit : AllByRecursion IsStream (stream_numbers (take l.stream-index l.streams));
}
