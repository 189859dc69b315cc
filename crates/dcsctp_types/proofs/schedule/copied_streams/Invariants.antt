use Rattle.std.proofs.Common.{◌≡◌, take}
use Rattle.dcsctp_types.specs.Ids.{stream_numbers}
use Rattle.dcsctp_types.proofs.schedule.copied_streams.Given as goal

abbrev pub invariant-loop-id : goal.invariant-loop-id
invariant-loop-id l = stream_numbers l.copies.items ≡ stream_numbers (take l.id-index l.ids.items)
