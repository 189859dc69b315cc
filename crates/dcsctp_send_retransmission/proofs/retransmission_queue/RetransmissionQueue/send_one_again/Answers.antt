use Rattle.std.proofs.Common.{inl, inr, ap, sym, ◌∙◌}
use Rattle.std.proofs.lemmas.Result.{err_from_is_err_and}
use Rattle.dcsctp_api.specs.spec.queues.Retransmission.{can_send}
use Rattle.dcsctp_send_retransmission.specs.States.{stage}
use Rattle.dcsctp_api.specs.spec.queues.Filling.{StepAgain}
use Rattle.dcsctp_send_retransmission.proofs.StatesLemmas.{goes_at}
use Rattle.dcsctp_send_retransmission.proofs.SendingLemmas.{fills_trans, fills_none}
use Rattle.dcsctp_send_retransmission.proofs.HaltingLemmas.{goes_again}
use Rattle.dcsctp_send_retransmission.proofs.retransmission_queue.RetransmissionQueue.send_one_again.Goals as goal

pub returns-in_err-next_to_send_again-clause-fills : goal.returns-in_err-next_to_send_again-clause-fills
returns-in_err-next_to_send_again-clause-fills c =
    fills_none c.args.self.now c.next_to_send_again.new.self c.args.packet.now c.next_to_send_again.ensures.keeps

pub returns-in-None-clause-fills : goal.returns-in-None-clause-fills
returns-in-None-clause-fills c = fills_none c.args.self.now c.next_to_send_again.new.self c.args.packet.now c.next_to_send_again.ensures.keeps

pub returns-then-not-can_send_data-clause-fills : goal.returns-then-not-can_send_data-clause-fills
returns-then-not-can_send_data-clause-fills c =
    fills_none c.args.self.now c.next_to_send_again.new.self c.args.packet.now c.next_to_send_again.ensures.keeps

pub returns-else-not-can_send_data-clause-fills : goal.returns-else-not-can_send_data-clause-fills
returns-else-not-can_send_data-clause-fills c =
    fills_trans c.args.self.now c.args.packet.now c.next_to_send_again.new.self c.args.packet.now c.send_again_at.new.self c.send_again_at.new.packet
    (fills_none c.args.self.now c.next_to_send_again.new.self c.args.packet.now c.next_to_send_again.ensures.keeps) c.send_again_at.ensures.fills

pub returns-then-not-can_send_data-clause-again : goal.returns-then-not-can_send_data-clause-again
returns-then-not-can_send_data-clause-again c =
    let next = rw c.in-Some.is at c.in_ok-next_to_send_again.ensures.found in
    let stays = rw c.in-Some.is at c.in_ok-next_to_send_again.ensures.stays in
    (c.in_ok-next_to_send_again.ensures.fewer, inr (record { place = c.in-Some.place; next = next; stays = stays next.marked.item next.marked.at }, inl (sym c.can_send_data.ensures ∙ c.if-not-can_send_data.true)))

pub returns-else-not-can_send_data-clause-again : goal.returns-else-not-can_send_data-clause-again
returns-else-not-can_send_data-clause-again c =
    let next = rw c.in-Some.is at c.in_ok-next_to_send_again.ensures.found in
    let stays = rw c.in-Some.is at c.in_ok-next_to_send_again.ensures.stays in
    goes_again c.send_again_at.result c.args.now c.in-Some.place c.args.self.now c.next_to_send_again.new.self c.send_again_at.new.self c.args.packet.now c.send_again_at.new.packet c.in_ok-next_to_send_again.ensures.fewer next
    (stays next.marked.item next.marked.at) c.send_again_at.ensures.again (c.send_again_at.ensures.sends next.marked.item next.marked.at)

pub returns-in-None-clause-again : goal.returns-in-None-clause-again
returns-in-None-clause-again c =
    let none_left = rw c.in-None.is at c.in_ok-next_to_send_again.ensures.none in
    (c.in_ok-next_to_send_again.ensures.fewer, inl none_left)

pub returns-in_err-next_to_send_again-clause-steps : goal.returns-in_err-next_to_send_again-clause-steps
returns-in_err-next_to_send_again-clause-steps c =
    rw (err_from_is_err_and c.from_residual.result c.from_residual.ensures.1).1
    (c.in_err-next_to_send_again.ensures.steps c.args.packet.now.tsns.items c.args.packet.now.room)

pub returns-in-None-clause-steps : goal.returns-in-None-clause-steps
returns-in-None-clause-steps c = c.in_ok-next_to_send_again.ensures.steps c.args.packet.now.tsns.items c.args.packet.now.room

pub returns-then-not-can_send_data-clause-steps : goal.returns-then-not-can_send_data-clause-steps
returns-then-not-can_send_data-clause-steps c = c.in_ok-next_to_send_again.ensures.steps c.args.packet.now.tsns.items c.args.packet.now.room

pub returns-else-not-can_send_data-clause-steps : goal.returns-else-not-can_send_data-clause-steps
returns-else-not-can_send_data-clause-steps c =
    let next = rw c.in-Some.is at c.in_ok-next_to_send_again.ensures.found in
    let stays = rw c.in-Some.is at c.in_ok-next_to_send_again.ensures.stays in
    let allowed = sym c.can_send_data.ensures ∙ c.if-not-can_send_data.false in
    goes_at c.send_again_at.result c.args.now c.in-Some.place (StepAgain c.args.now) (stage c.args.self.now c.args.queue.now c.args.events.now c.args.packet.now.tsns.items c.args.packet.now.room) c.next_to_send_again.new.self c.send_again_at.new.self c.next_to_send_again.new.queue c.next_to_send_again.new.events c.args.packet.now c.send_again_at.new.packet next (λ m n is sends. inl (ap can_send is ∙ allowed, sends))
    (c.in_ok-next_to_send_again.ensures.steps c.args.packet.now.tsns.items c.args.packet.now.room) (stays next.marked.item next.marked.at)
    (c.send_again_at.ensures.sends next.marked.item next.marked.at) c.send_again_at.ensures.err
