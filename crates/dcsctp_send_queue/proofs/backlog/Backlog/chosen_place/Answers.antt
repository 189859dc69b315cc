use Rattle.std.proofs.Common.{inl, inr, refl, sym, true, false, ◌∙◌}
use Rattle.dcsctp_send_queue.proofs.UnderWayLemmas.{chosen_if}
use Rattle.dcsctp_send_queue.specs.Backlog.{queue_of}
use Rattle.dcsctp_send_queue.proofs.backlog.Backlog.chosen_place.Goals as goal

pub returns-then-may_send_part : goal.returns-then-may_send_part
returns-then-may_send_part c now may =
    chosen_if true now c.args.max (queue_of c.args.self.now) c.args.turn c.args.turn may (sym (c.may_send_part.ensures may.message may.front) ∙ c.if-may_send_part.true) refl

pub returns-in-Some : goal.returns-in-Some
returns-in-Some c now may =
    chosen_if false now c.args.max (queue_of c.args.self.now) c.args.turn c.in-Some.place may (sym (c.may_send_part.ensures may.message may.front) ∙ c.if-may_send_part.false)
    (inl c.in-Some.ensures.some)

pub returns-in-None : goal.returns-in-None
returns-in-None c now may =
    chosen_if false now c.args.max (queue_of c.args.self.now) c.args.turn c.args.turn may (sym (c.may_send_part.ensures may.message may.front) ∙ c.if-may_send_part.false)
    (inr (c.in-None.ensures.none, refl))
