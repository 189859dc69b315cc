use Rattle.std.proofs.Common.{◌∙◌, true, Ok, sym, refl, ap, inl, inr, arith}
use Rattle.std.proofs.lemmas.Result.{err_from_is_err_and}
use Rattle.dcsctp_api.specs.spec.queues.Items.{marked_items}
use Rattle.dcsctp_api.specs.spec.queues.Retransmission.{RetransmissionState}
use Rattle.dcsctp_send_retransmission.specs.States.{stage}
use Rattle.dcsctp_api.specs.spec.queues.Filling.{SendsMarked, none}
use Rattle.dcsctp_send_retransmission.proofs.HaltingLemmas.{goes_again, waits_for_room}
use Rattle.dcsctp_send_retransmission.proofs.SendingLemmas.{fills_none, fills_trans, keeps_refl}
use Rattle.dcsctp_send_retransmission.proofs.StatesLemmas.{goes_at, sends_first_here, sends_first_later}
use Rattle.dcsctp_send_retransmission.proofs.retransmission_queue.RetransmissionQueue.send_again_at_once.Goals as goal

pub loop-place-init : goal.loop-place-init
loop-place-init c = (fills_none c.args.self.now c.args.self.now c.args.packet.now (keeps_refl c.args.self.now), λ waiting events. none, refl)

pub returns-then-is_to_be_given_up-clause-halts : goal.returns-then-is_to_be_given_up-clause-halts
returns-then-is_to_be_given_up-clause-halts c =
    let next = rw (sym c.next_marked.ensures.same) at c.in-Some.ensures.some in
    inr (inl (record { place = c.in-Some.place; next = next; due = sym (c.is_to_be_given_up.ensures next.marked.item next.marked.at) ∙ c.if-is_to_be_given_up.true }))

pub returns-in_err-send_again_at-clause-steps : goal.returns-in_err-send_again_at-clause-steps
returns-in_err-send_again_at-clause-steps c = λ waiting events.
    rw (err_from_is_err_and c.from_residual.result c.from_residual.ensures.1).1 (record {
      at = stage c.loop-place.self waiting events c.loop-place.packet.tsns.items c.loop-place.packet.room;
      steps = c.loop-place.invariant.1 waiting events;
      queue = c.in_err-send_again_at.ensures.err ∙ c.next_marked.ensures.same;
      refused = inl (refl, refl);
    })

pub returns-then-not-branch-clause-halts : goal.returns-then-not-branch-clause-halts
returns-then-not-branch-clause-halts c =
    let next = rw (sym c.next_marked.ensures.same) at c.in-Some.ensures.some in
    inr (inr (waits_for_room c.in-Some.place c.next_marked.new.self.outstanding c.send_again_at.new.self.outstanding c.loop-place.packet.room c.send_again_at.new.packet.room next
    (rw c.if-not-branch.true at c.in_ok-send_again_at.ensures.again)))

pub loop-place-preserved-then-place-eq0 : goal.loop-place-preserved-then-place-eq0
loop-place-preserved-then-place-eq0 c =
    let next = rw (sym c.next_marked.ensures.same) at c.in-Some.ensures.some in
    let stays = sym (c.is_to_be_given_up.ensures next.marked.item next.marked.at) ∙ c.if-is_to_be_given_up.false in
    let sends = rw c.if-not-branch.false at (c.in_ok-send_again_at.ensures.sends next.marked.item next.marked.at) in (
      fills_trans c.args.self.now c.args.packet.now c.next_marked.new.self c.loop-place.packet c.send_again_at.new.self c.send_again_at.new.packet (rw c.next_marked.ensures.same c.loop-place.invariant.0) c.send_again_at.ensures.fills,
      λ waiting events.
          goes_at (Ok true) c.args.now c.in-Some.place (SendsMarked c.args.now) (stage c.args.self.now waiting events c.args.packet.now.tsns.items c.args.packet.now.room) c.next_marked.new.self c.send_again_at.new.self waiting events c.loop-place.packet c.send_again_at.new.packet next (λ m n is one. one)
          (rw c.next_marked.ensures.same (c.loop-place.invariant.1 waiting events)) stays sends tt,
      sends_first_here c.loop-place.restarts _ c.in-Some.place c.args.self.now.outstanding.items c.next_marked.new.self.outstanding.items c.send_again_at.new.self.outstanding.items c.if-place-eq0.true next
          (ap (λ (q : RetransmissionState). q.outstanding.items) sends.1) (rw c.next_marked.ensures.same c.loop-place.invariant.2),
    )

pub loop-place-smaller : goal.loop-place-smaller
loop-place-smaller c =
    let next = rw (sym c.next_marked.ensures.same) at c.in-Some.ensures.some in
    let same = ap (λ (q : RetransmissionState). marked_items q.outstanding.items) c.next_marked.ensures.same in
    let stays = sym (c.is_to_be_given_up.ensures next.marked.item next.marked.at) ∙ c.if-is_to_be_given_up.false in
    let again = goes_again (Ok true) c.args.now c.in-Some.place c.next_marked.new.self c.next_marked.new.self c.send_again_at.new.self c.loop-place.packet c.send_again_at.new.packet (omega arith) next stays
    (rw c.if-not-branch.false at c.in_ok-send_again_at.ensures.again) (rw c.if-not-branch.false at (c.in_ok-send_again_at.ensures.sends next.marked.item next.marked.at)) in
    omega arith

pub loop-place-preserved : goal.loop-place-preserved
loop-place-preserved c =
    let next = rw (sym c.next_marked.ensures.same) at c.in-Some.ensures.some in
    let stays = sym (c.is_to_be_given_up.ensures next.marked.item next.marked.at) ∙ c.if-is_to_be_given_up.false in
    let sends = rw c.if-not-branch.false at (c.in_ok-send_again_at.ensures.sends next.marked.item next.marked.at) in (
      fills_trans c.args.self.now c.args.packet.now c.next_marked.new.self c.loop-place.packet c.send_again_at.new.self c.send_again_at.new.packet (rw c.next_marked.ensures.same c.loop-place.invariant.0) c.send_again_at.ensures.fills,
      λ waiting events.
          goes_at (Ok true) c.args.now c.in-Some.place (SendsMarked c.args.now) (stage c.args.self.now waiting events c.args.packet.now.tsns.items c.args.packet.now.room) c.next_marked.new.self c.send_again_at.new.self waiting events c.loop-place.packet c.send_again_at.new.packet next (λ m n is one. one)
          (rw c.next_marked.ensures.same (c.loop-place.invariant.1 waiting events)) stays sends tt,
      sends_first_later c.loop-place.restarts _ c.in-Some.place c.args.self.now.outstanding.items c.next_marked.new.self.outstanding.items c.send_again_at.new.self.outstanding.items c.if-place-eq0.false
          (ap (λ (q : RetransmissionState). q.outstanding.items) sends.1) (rw c.next_marked.ensures.same c.loop-place.invariant.2),
    )
