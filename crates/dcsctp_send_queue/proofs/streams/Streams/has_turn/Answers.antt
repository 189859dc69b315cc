use Rattle.std.proofs.Common.{ap, ◌∙◌, ◌==◌}
use Rattle.dcsctp_send_queue.proofs.NextLemmas.{has_any}
use Rattle.dcsctp_send_queue.proofs.streams.Streams.has_turn.Goals as goal

pub returns : goal.returns
returns c =
    rw (← c.self.view_is)
    (has_any c.self.inside.items c.self.inside.turns.items c.is_empty.result c.self.invariant.ranked.are
    (c.is_empty.ensures ∙ ap (λ n. n == 0) c.self.inside.turns.ok.0))
