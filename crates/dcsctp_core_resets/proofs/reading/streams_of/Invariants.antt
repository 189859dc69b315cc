use Rattle.std.proofs.Common.{◌≡◌, take}
use Rattle.dcsctp_core.specs.types.Ids.{stream_numbers}
use Rattle.dcsctp_core.specs.spec.Reconfiguration.{streams_of_bytes}
use Rattle.dcsctp_core_resets.proofs.reading.streams_of.Given as goal

-- the streams so far
abbrev pub invariant-loop-index : goal.invariant-loop-index
invariant-loop-index l = stream_numbers l.streams.items ≡ take l.index (streams_of_bytes l.request.streams.now)
