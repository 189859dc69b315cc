use Rattle.std.proofs.Common.{◌≡◌}
use Rattle.std.specs.List.{list_all}
use Rattle.dcsctp_channel_calls.specs.Handover.{has_settled}
use Rattle.dcsctp_channels.proofs.handover.all_settled.Given as goal

-- Those that are left decide.
abbrev pub invariant-loop-stream : goal.invariant-loop-stream
invariant-loop-stream l = list_all (has_settled l.count) l.stream-iterator ≡ list_all (has_settled l.count) l.layer.table.channels.entries
