use Rattle.std.proofs.Common.{◌∙◌, ap}
use Rattle.dcsctp_send_queue.specs.Backlog.{queue_of}
use Rattle.dcsctp_send_queue.proofs.ResetLemmas.{on_err_map, stays}
use Rattle.dcsctp_send_queue.proofs.send_queue.SendQueue.produce.Goals as goal

pub returns-in-Some-clause-err : goal.returns-in-Some-clause-err
returns-in-Some-clause-err c = on_err_map c.go_on.result (λ e. stays c.args.now c.args.self.now (queue_of c.go_on.new.self) (ap queue_of e ∙ c.self.view_is)) c.go_on.ensures.err

pub returns-in-Some-clause-ok : goal.returns-in-Some-clause-ok
returns-in-Some-clause-ok c = rw (← c.self.view_is) (c.go_on.ensures.ok c.args.now)
