use Rattle.std.proofs.Common.{◌≡◌, length, map}
use Rattle.dcsctp_api.specs.types.queues.SendStreams.{committed_stream}
use Rattle.dcsctp_send_queue.specs.Pausing.{handed_out_ids}
use Rattle.dcsctp_send_queue.proofs.streams.Streams.commit_all.Given as goal

abbrev pub invariant-loop-place : goal.invariant-loop-place
invariant-loop-place l = map committed_stream l.self ≡ map committed_stream l.initial.self

abbrev pub decreases-loop-place : goal.decreases-loop-place
decreases-loop-place l = length (handed_out_ids l.self)
