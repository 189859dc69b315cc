use Rattle.std.proofs.Common.{ap, length, ◌∙◌}
use Rattle.dcsctp_send_queue.proofs.streams.Streams.count_ready.Goals as goal

pub returns-clause-count : goal.returns-clause-count
returns-clause-count c =
    rw (← c.self.view_is)
    (c.len.ensures ∙ (c.self.inside.paused.ready.ok.0 ∙ ap length c.self.invariant.paused.ready))
