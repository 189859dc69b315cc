use Rattle.std.proofs.Common.{◌≡◌, length, map}
use Rattle.dcsctp_api.specs.types.queues.SendStreams.{rolled_back}
use Rattle.dcsctp_send_queue.specs.Pausing.{handed_out_ids}
use Rattle.dcsctp_send_queue.proofs.streams.Streams.roll_back_all.Given as goal

abbrev pub invariant-loop-place : goal.invariant-loop-place
invariant-loop-place l = map rolled_back l.self ≡ map rolled_back l.initial.self

abbrev pub decreases-loop-place : goal.decreases-loop-place
decreases-loop-place l = length (handed_out_ids l.self)
