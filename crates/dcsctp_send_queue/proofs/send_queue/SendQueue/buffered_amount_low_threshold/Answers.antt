use Rattle.std.proofs.Common.{sym, ap, ◌∙◌}
use Rattle.dcsctp_send_queue.proofs.QueueLemmas.{stream_found-at, stream_found-none}
use Rattle.dcsctp_send_queue.proofs.send_queue.SendQueue.buffered_amount_low_threshold.Goals as goal

pub returns-in-Ok : goal.returns-in-Ok
returns-in-Ok c =
    rw (← c.self.view_is) (c.threshold.ensures ∙ ap (λ s. s.threshold) (c.at.ensures ∙ sym (stream_found-at _ _ _ _ c.in-Ok.ensures.ascending c.in-Ok.ensures.found)))

pub returns-in-Err : goal.returns-in-Err
returns-in-Err c =
    rw (← c.self.view_is) (ap (λ s. s.threshold) (sym (stream_found-none _ _ _ _ c.in-Err.ensures.found)))
