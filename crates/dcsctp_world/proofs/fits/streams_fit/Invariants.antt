use Rattle.std.proofs.Common.{◌<◌, ◌^◌, take}
use Rattle.std.specs.List.{AllByRecursion}
use Rattle.dcsctp_core.specs.types.Ids.{stream_numbers}
use Rattle.dcsctp_world.proofs.fits.streams_fit.Given as goal

abbrev pub invariant-loop-stream_id : goal.invariant-loop-stream_id
invariant-loop-stream_id l = AllByRecursion (λ id. id < 2 ^ 16) (stream_numbers (take l.stream_id-index l.stream_ids))
