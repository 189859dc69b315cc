use Rattle.std.proofs.Common.{◌≡◌, ◌++◌}
use Rattle.std.specs.Map.{keys_of}
use Rattle.dcsctp_channel_calls.specs.api.types.Ids.{stream_numbers}
use Rattle.dcsctp_channels.proofs.notices.all_streams.Given as goal

-- The streams so far, and those that are left, are all.
abbrev pub invariant-loop-stream : goal.invariant-loop-stream
invariant-loop-stream l = record { all : stream_numbers l.streams.items ++ keys_of l.stream-iterator ≡ keys_of l.layer.table.channels.entries }
