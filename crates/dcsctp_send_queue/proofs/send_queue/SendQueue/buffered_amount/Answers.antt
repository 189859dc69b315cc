use Rattle.std.proofs.Common.{sym, ap, ◌∙◌}
use Rattle.dcsctp_send_queue.proofs.QueueLemmas.{stream_found-at, stream_found-none}
use Rattle.dcsctp_send_queue.proofs.send_queue.SendQueue.buffered_amount.Goals as goal

pub returns-in-Ok-clause-amount : goal.returns-in-Ok-clause-amount
returns-in-Ok-clause-amount c =
    rw (← c.self.view_is) (c.amount.ensures ∙ ap (λ s. s.amount) (c.at.ensures ∙ sym (stream_found-at _ _ _ _ c.in-Ok.ensures.ascending c.in-Ok.ensures.found)))

pub returns-in-Err-clause-amount : goal.returns-in-Err-clause-amount
returns-in-Err-clause-amount c =
    rw (← c.self.view_is) (ap (λ s. s.amount) (sym (stream_found-none _ _ _ _ c.in-Err.ensures.found)))
