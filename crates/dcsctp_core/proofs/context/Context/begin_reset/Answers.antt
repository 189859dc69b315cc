use Rattle.std.proofs.Common.{refl, sym, ◌∙◌}
use Rattle.dcsctp_core.specs.declared.context.Context.{Context}
use Rattle.dcsctp_core.specs.declared.state.State.{State}
use Rattle.dcsctp_core.specs.Reconfiguring.{tcb_changed}
use Rattle.dcsctp_core.proofs.ResetLemmas.{tries_reset, begins_lent, none_while_awaited}
use Rattle.dcsctp_core.proofs.context.Context.begin_reset.Goals as goal

pub returns-clause-turn : goal.returns-clause-turn
returns-clause-turn g c =
    let old = c.args.self.now in
    let tcb = c.in-Some.tcb.now in
    let state : State = tcb_changed (λ before. c.begin_reset.new.self) old.state in
    let new : Context g.row.R.Denot = record old { state = state; send_queue = c.begin_reset.new.queue } in
    tries_reset old new state c.begin_reset.new.queue c.args.packet.now c.begin_reset.new.packet c.begin_reset.result refl
    (sym c.asks_nobody.ensures ∙ c.if-asks_nobody.false)
    (begins_lent old tcb c.begin_reset.new.self c.begin_reset.new.queue c.args.packet.now c.begin_reset.new.packet c.begin_reset.result c.in-Some.ensures.tcb c.begin_reset.ensures.ok)

pub returns-then-asks_nobody-clause-turn : goal.returns-then-asks_nobody-clause-turn
returns-then-asks_nobody-clause-turn g c = none_while_awaited c.args.self.now c.args.packet.now (sym c.asks_nobody.ensures ∙ c.if-asks_nobody.true)
