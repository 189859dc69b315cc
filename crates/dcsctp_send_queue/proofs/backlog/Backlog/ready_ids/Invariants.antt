use Rattle.std.proofs.Common.{◌≡◌, take}
use Rattle.dcsctp_send_queue.specs.Pausing.{ready_ids}
use Rattle.dcsctp_send_queue.proofs.backlog.Backlog.ready_ids.Given as goal

-- The ready streams so far.
abbrev pub invariant-loop-place : goal.invariant-loop-place
invariant-loop-place l = l.ids.items ≡ take l.place (ready_ids l.self.streams)
