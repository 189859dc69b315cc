use Rattle.dcsctp_send_queue.proofs.ReadyLemmas.{has_ready_is}
use Rattle.dcsctp_send_queue.proofs.backlog.Backlog.has_ready.Goals as goal

pub returns : goal.returns
returns c = has_ready_is c.args.self.now.streams c.count_ready.result c.count_ready.ensures.count
