use Rattle.std.proofs.Common.{◌≡◌, ◌++◌, map}
use Rattle.dcsctp_channel_calls.specs.Handover.{carried_channel}
use Rattle.dcsctp_channels.proofs.handover.all_carried.Given as goal

-- The channels so far, and those that are left, are all.
abbrev pub invariant-loop-stream : goal.invariant-loop-stream
invariant-loop-stream l = record { all : l.channels.items ++ map carried_channel l.stream-iterator ≡ map carried_channel l.layer.table.channels.entries }
