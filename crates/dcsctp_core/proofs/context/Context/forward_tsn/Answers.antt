use Rattle.std.proofs.lemmas.Bool.Decides.{nat_tests}
use Rattle.std.proofs.Common.{Option, None, Some, arith, refl, sym, subst}
use Rattle.dcsctp_transfer.specs.spec.queues.Transfer.{Transfer}
use Rattle.dcsctp_core.specs.Flushing.{ForwardsInTime}
use Rattle.dcsctp_transfer.specs.send_queue.Telling.{contents}
use Rattle.dcsctp_core.specs.declared.state.State.{State}
use Rattle.dcsctp_core.specs.View.{View, view_of}
use Rattle.dcsctp_core.proofs.ForwardLemmas.{forwards_below}
use Rattle.dcsctp_core.proofs.LendingLemmas.{found, lent, left_with}
use Rattle.dcsctp_core.proofs.context.Context.forward_tsn.Goals as goal

pub returns-in-Some-next-clause-turn : goal.returns-in-Some-next-clause-turn
returns-in-Some-next-clause-turn g c =
    let old = c.args.self.now in
    let tcb = c.in-Some.tcb.now in
    let after = c.forward_tsn.new.self in
    let state : State = left_with old.state tcb after in
    let is = found old.state tcb c.in-Some.ensures.tcb in
    let makes = rw c.in-Some-next.is at c.in_ok-next.ensures.ok in
    let new : View g.row.R.Denot =
    view_of (record old { state = state; send_queue = c.forward_tsn.new.queue; events = c.forward_tsn.new.events; no_forward_tsn_before = c.in-Some-next.next }) in
    subst (λ (f : Option Transfer). ForwardsInTime f (view_of old) c.args.packet.now new c.forward_tsn.new.packet) (sym is)
    (forwards_below old new _ state c.forward_tsn.new.queue (contents c.forward_tsn.new.events) (Some c.in-Some-next.next) c.args.packet.now c.forward_tsn.new.packet
    is (grind (arith, nat_tests)) refl (after, lent old.state tcb after c.in-Some.ensures.tcb, makes))

pub returns-in_default-next-clause-turn : goal.returns-in_default-next-clause-turn
returns-in_default-next-clause-turn g c =
    let old = c.args.self.now in
    let tcb = c.in-Some.tcb.now in
    let after = c.forward_tsn.new.self in
    let state : State = left_with old.state tcb after in
    let is = found old.state tcb c.in-Some.ensures.tcb in
    let makes = rw c.in_default-next.is at c.in_ok-next.ensures.ok in
    let new : View g.row.R.Denot = view_of (record old { state = state; send_queue = c.forward_tsn.new.queue; events = c.forward_tsn.new.events }) in
    subst (λ (f : Option Transfer). ForwardsInTime f (view_of old) c.args.packet.now new c.forward_tsn.new.packet) (sym is)
    (forwards_below old new _ state c.forward_tsn.new.queue (contents c.forward_tsn.new.events) None c.args.packet.now c.forward_tsn.new.packet
    is (grind (arith, nat_tests)) refl (after, lent old.state tcb after c.in-Some.ensures.tcb, makes))
