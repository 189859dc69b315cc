use Rattle.std.proofs.Common.{◌≡◌, ◌-◌, ◌^◌, min}
use Rattle.dcsctp_send_queue.proofs.PuttingBackLemmas.{put_back_to, size_to}
use Rattle.dcsctp_send_queue.specs.Backlog.{queue_of}
use Rattle.dcsctp_send_queue.proofs.backlog.Backlog.put_back.Given as goal

-- The messages of the streams so far are put back.
abbrev pub invariant-loop-place : goal.invariant-loop-place
invariant-loop-place l =
    record {
      queue : queue_of l.self ≡ put_back_to l.place (queue_of l.initial.self);
      sent : l.sent ≡ min (size_to l.place l.initial.self.streams) (2 ^ 64 - 1);
    }
