use Rattle.std.proofs.Common.{◌∙◌, sym, ap, inl, inr, arith}
use Rattle.std.proofs.lemmas.Result.{err_from_is_err_and}
use Rattle.dcsctp_api.specs.spec.queues.Items.{marked_items}
use Rattle.dcsctp_api.specs.spec.queues.Retransmission.{RetransmissionState}
use Rattle.dcsctp_send_retransmission.specs.States.{stage}
use Rattle.dcsctp_api.specs.spec.queues.Filling.{none, more}
use Rattle.dcsctp_send_retransmission.proofs.HaltingLemmas.{gives_up_fewer}
use Rattle.dcsctp_send_retransmission.proofs.SendingLemmas.{keeps_refl, keeps_trans, gives_up_keeps}
use Rattle.dcsctp_send_retransmission.proofs.retransmission_queue.RetransmissionQueue.next_to_send_again.Goals as goal

pub loop-place-init : goal.loop-place-init
loop-place-init c = (keeps_refl c.args.self.now, omega arith, λ tsns room. none)

pub returns-then-not-is_to_be_given_up-clause-steps : goal.returns-then-not-is_to_be_given_up-clause-steps
returns-then-not-is_to_be_given_up-clause-steps c = λ tsns room. rw c.next_marked.ensures.same (c.loop-place.invariant.2 tsns room)

pub returns-clause-steps : goal.returns-clause-steps
returns-clause-steps c = λ tsns room. rw c.next_marked.ensures.same (c.loop-place.invariant.2 tsns room)

pub returns-in_err-give_up-clause-keeps : goal.returns-in_err-give_up-clause-keeps
returns-in_err-give_up-clause-keeps c = rw (c.in_err-give_up.ensures.err.0, c.next_marked.ensures.same) c.loop-place.invariant.0

pub returns-in_err-give_up-clause-steps : goal.returns-in_err-give_up-clause-steps
returns-in_err-give_up-clause-steps c = λ tsns room.
    let next = rw (sym c.next_marked.ensures.same) at c.in-Some.ensures.some in
    rw (err_from_is_err_and c.from_residual.result c.from_residual.ensures.1).1 (record {
      at = stage c.next_marked.new.self c.loop-place.queue c.loop-place.events tsns room;
      steps = rw c.next_marked.ensures.same (c.loop-place.invariant.2 tsns room);
      queue = c.in_err-give_up.ensures.err.0;
      refused = inr (inl (record {
        place = c.in-Some.place;
        next = next;
        due = sym (c.is_to_be_given_up.ensures next.marked.item next.marked.at) ∙ c.if-not-is_to_be_given_up.false;
        refused = c.in_err-give_up.ensures.front;
        stays = c.in_err-give_up.ensures.err.1;
      }));
    })

pub loop-place-preserved : goal.loop-place-preserved
loop-place-preserved c =
    let next = rw (sym c.next_marked.ensures.same) at c.in-Some.ensures.some in
    let up = gives_up_fewer c.in-Some.place c.next_marked.new.self c.give_up.new.self c.in_ok-give_up.ensures.ok next.marked in
    let same = ap (λ (q : RetransmissionState). marked_items q.outstanding.items) c.next_marked.ensures.same in
    let before = c.loop-place.invariant.1 in (
      keeps_trans c.args.self.now c.next_marked.new.self c.give_up.new.self (rw c.next_marked.ensures.same c.loop-place.invariant.0) (gives_up_keeps c.in-Some.place c.next_marked.new.self c.give_up.new.self c.in_ok-give_up.ensures.ok),
      omega arith,
      λ tsns room.
          more (stage c.next_marked.new.self c.loop-place.queue c.loop-place.events tsns room) (stage c.give_up.new.self c.give_up.new.queue c.give_up.new.events tsns room)
          (rw c.next_marked.ensures.same (c.loop-place.invariant.2 tsns room))
          (inr (record {
            place = c.in-Some.place;
            next = next;
            due = sym (c.is_to_be_given_up.ensures next.marked.item next.marked.at) ∙ c.if-not-is_to_be_given_up.false;
            gives_up = c.in_ok-give_up.ensures.whole tsns room;
          })),
    )

pub loop-place-smaller : goal.loop-place-smaller
loop-place-smaller c =
    let next = rw (sym c.next_marked.ensures.same) at c.in-Some.ensures.some in
    let up = gives_up_fewer c.in-Some.place c.next_marked.new.self c.give_up.new.self c.in_ok-give_up.ensures.ok next.marked in
    let same = ap (λ (q : RetransmissionState). marked_items q.outstanding.items) c.next_marked.ensures.same in
    omega arith
