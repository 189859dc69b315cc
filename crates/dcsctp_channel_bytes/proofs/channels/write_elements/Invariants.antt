use Rattle.std.proofs.Common.{◌≡◌, ◌++◌, take}
use Rattle.std.specs.List.{flat_map, AllByRecursion}
use Rattle.dcsctp_channel_bytes.specs.Channels.{channel_bytes, FitsChannel}
use Rattle.dcsctp_channel_bytes.proofs.channels.write_elements.Given as goal

abbrev pub invariant-loop-channel : goal.invariant-loop-channel
invariant-loop-channel l = record {
  bytes : l.out.items ≡ l.fn.out.items ++ flat_map channel_bytes (take l.channel-index l.channels);
  fits : AllByRecursion FitsChannel (take l.channel-index l.channels);
}
