use Rattle.dcsctp_send_queue.proofs.HeldLemmas.{held-found, held-not_lost}
use Rattle.dcsctp_send_queue.proofs.backlog.Backlog.place_of.Goals as goal

pub returns-in-Ok-clause-place : goal.returns-in-Ok-clause-place
returns-in-Ok-clause-place c = held-found _ c.args.held _ c.in-Ok.ensures.ascending c.requires c.in-Ok.ensures.found

pub returns-in-Err-clause-place : goal.returns-in-Err-clause-place
returns-in-Err-clause-place c = absurd (held-not_lost _ c.args.held _ c.requires c.in-Err.ensures.found)
