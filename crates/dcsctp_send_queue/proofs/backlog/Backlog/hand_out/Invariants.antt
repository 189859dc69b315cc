use Rattle.std.proofs.Common.{◌≡◌, take}
use Rattle.dcsctp_api.specs.types.Ids.{stream_numbers}
use Rattle.dcsctp_api.specs.spec.queues.OwnResets.{handing_out}
use Rattle.dcsctp_send_queue.specs.Backlog.{queue_of}
use Rattle.dcsctp_send_queue.proofs.backlog.Backlog.hand_out.Given as goal

abbrev pub invariant-loop-id : goal.invariant-loop-id
invariant-loop-id l = (queue_of l.self) ≡ record (queue_of l.initial.self) { streams = handing_out (stream_numbers (take l.id-index l.ids)) l.initial.self.streams }
