use Rattle.dcsctp_core.proofs.BelowLemmas.{takes_lent}
use Rattle.dcsctp_core.proofs.LendingLemmas.{found, nobody, left_with}
use Rattle.dcsctp_core_messages.proofs.TakingLemmas.{taken_next, left_next}
use Rattle.dcsctp_core_messages.proofs.taking.get_next_message.Goals as goal

pub returns-in-None : goal.returns-in-None
returns-in-None g c =
    let old = c.args.context.now in
    left_next old c.pop_front.result c.pop_front.new.self.items (nobody old.state c.in-None.ensures.tcb) c.pop_front.ensures.items c.pop_front.ensures.rest

pub returns-in-Some : goal.returns-in-Some
returns-in-Some g c =
    let old = c.args.context.now in
    let tcb = c.in-Some.tcb.now in
    let after = c.get_next_message.new.self in
    let taken = c.get_next_message.ensures in
    taken_next old (left_with old.state tcb after) c.get_next_message.result tcb.transfer (found old.state tcb c.in-Some.ensures.tcb)
    (takes_lent old.options old.moment old.state tcb after c.get_next_message.result c.in-Some.ensures.tcb taken.some taken.left taken.none)
