use Rattle.std.proofs.Common.{ap, sym, ◌∙◌, Bool}
use Rattle.dcsctp_transfer.specs.spec.endpoint.TimeTurns.{has_come, loss_deadline}
use Rattle.dcsctp_transfer.specs.Sacks.{lost_if_due}
use Rattle.dcsctp_core.specs.Below.{LosesAllInFlight}
use Rattle.dcsctp_core.proofs.BelowLemmas.{loss_counted, loss_not_due}
use Rattle.dcsctp_core.proofs.LendingLemmas.{found, changes_where, left_with}
use Rattle.dcsctp_core.proofs.context.Context.expire_retransmission.Goals as goal

pub returns-then-expire_retransmission : goal.returns-then-expire_retransmission
returns-then-expire_retransmission g c =
    let old = c.args.self.now in
    let tcb = c.in-Some.tcb.now in
    let after = c.expire_retransmission.new.self in
    let due = c.expire_retransmission.result in
    loss_counted g.R.Rng.stream old (left_with old.state tcb after) c.increment.new.self due
    (c.expire_retransmission.ensures.answer ∙ sym (ap (λ f. has_come old.moment (loss_deadline f)) (found old.state tcb c.in-Some.ensures.tcb)))
    c.if-expire_retransmission.true
    (changes_where due (LosesAllInFlight old.moment) old.state tcb after c.in-Some.ensures.tcb
    (λ is. c.expire_retransmission.ensures.left ∙ ap (λ (b : Bool). lost_if_due b old.moment tcb.transfer) is)
    (λ is. c.expire_retransmission.ensures.left ∙ ap (λ (b : Bool). lost_if_due b old.moment tcb.transfer) is))
    c.increment.ensures

pub returns : goal.returns
returns g c =
    let old = c.args.self.now in
    let tcb = c.in-Some.tcb.now in
    let after = c.expire_retransmission.new.self in
    let due = c.expire_retransmission.result in
    loss_not_due g.R.Rng.stream old (left_with old.state tcb after) due
    (c.expire_retransmission.ensures.answer ∙ sym (ap (λ f. has_come old.moment (loss_deadline f)) (found old.state tcb c.in-Some.ensures.tcb)))
    c.if-expire_retransmission.false
    (changes_where due (LosesAllInFlight old.moment) old.state tcb after c.in-Some.ensures.tcb
    (λ is. c.expire_retransmission.ensures.left ∙ ap (λ (b : Bool). lost_if_due b old.moment tcb.transfer) is)
    (λ is. c.expire_retransmission.ensures.left ∙ ap (λ (b : Bool). lost_if_due b old.moment tcb.transfer) is))
