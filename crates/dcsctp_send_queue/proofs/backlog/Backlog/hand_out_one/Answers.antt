use Rattle.std.proofs.Common.{ap, sym, ◌∙◌, List}
use Rattle.dcsctp_api.specs.types.queues.SendStreams.{Stream, handed_out}
use Rattle.dcsctp_send_queue.proofs.QueueLemmas.{changed_at}
use Rattle.dcsctp_send_queue.proofs.ReadyLemmas.{changed_lost}
use Rattle.dcsctp_send_queue.specs.Backlog.{queue_of}
use Rattle.dcsctp_send_queue.proofs.backlog.Backlog.hand_out_one.Goals as goal

pub returns-in-Ok : goal.returns-in-Ok
returns-in-Ok c =
    ap {A = List Stream} (λ (s : List Stream). record (queue_of c.args.self.now) { streams = s })
    (c.hand_out.ensures ∙ changed_at c.args.self.now.streams c.in-Ok.place c.args.id.0 handed_out c.in-Ok.ensures.ascending c.in-Ok.ensures.found)

pub returns-in-Err : goal.returns-in-Err
returns-in-Err c =
    ap {A = List Stream} (λ (s : List Stream). record (queue_of c.args.self.now) { streams = s })
    (sym (changed_lost c.args.self.now.streams _ c.args.id.0 handed_out c.in-Err.ensures.found))
