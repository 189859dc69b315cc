use Rattle.std.proofs.Common.{◌≡◌, take}
use Rattle.dcsctp_core.specs.types.Ids.{stream_numbers}
use Rattle.dcsctp_session.proofs.copying.stream_ids.Given as goal

abbrev pub invariant-loop-number : goal.invariant-loop-number
invariant-loop-number l = stream_numbers l.ids.items ≡ take l.number-index l.numbers
