use Rattle.std.proofs.Common.{inl, subst, ◌≡◌, ◌∙◌, ℕ, List, length, ap, sym, refl, arith}
use Rattle.dcsctp_api.specs.spec.queues.Items.{marked_items}
use Rattle.dcsctp_api.specs.spec.queues.Retransmission.{RetransmissionState}
use Rattle.dcsctp_api.specs.spec.queues.Outstanding.{OutstandingState}
use Rattle.std.proofs.lemmas.Result.{err_from_is_err_and}
use Rattle.dcsctp_send_retransmission.specs.States.{stage, Goes}
use Rattle.dcsctp_api.specs.spec.queues.Filling.{Stage, StepNew, none, resent_packet_counted}
use Rattle.dcsctp_send_retransmission.proofs.StatesLemmas.{goes_filling}
use Rattle.dcsctp_send_retransmission.proofs.FreshLemmas.{fresh_none, ends_fresh, ends_fresh_ok}
use Rattle.dcsctp_send_retransmission.proofs.HaltingLemmas.{halts_counted, halts_marked, halts_new}
use Rattle.dcsctp_send_retransmission.proofs.SendingLemmas.{counted_outstanding, fills_trans, fills_none, counted_keeps}
use Rattle.dcsctp_send_retransmission.proofs.retransmission_queue.RetransmissionQueue.fill.Goals as goal

pub returns-then-marked_items-ne0-clause-fills : goal.returns-then-marked_items-ne0-clause-fills
returns-then-marked_items-ne0-clause-fills c =
    (fills_trans c.args.self.now c.args.packet.now c.send_again.new.self c.send_again.new.packet c.count_sent_again.new.self c.send_again.new.packet c.send_again.ensures.fills
    (fills_none c.send_again.new.self c.count_sent_again.new.self c.send_again.new.packet (rw c.count_sent_again.ensures (counted_keeps c.saturating_sub.result c.send_again.new.self))))

pub returns-clause-fills : goal.returns-clause-fills
returns-clause-fills c =
    fills_trans c.args.self.now c.args.packet.now c.count_sent_again.new.self c.send_again.new.packet c.send_new.new.self c.send_new.new.packet
    (fills_trans c.args.self.now c.args.packet.now c.send_again.new.self c.send_again.new.packet c.count_sent_again.new.self c.send_again.new.packet c.send_again.ensures.fills
    (fills_none c.send_again.new.self c.count_sent_again.new.self c.send_again.new.packet (rw c.count_sent_again.ensures (counted_keeps c.saturating_sub.result c.send_again.new.self))))
    c.send_new.ensures.fills

pub returns-then-marked_items-ne0-clause-halts : goal.returns-then-marked_items-ne0-clause-halts
returns-then-marked_items-ne0-clause-halts c =
    halts_marked c.args.now c.send_again.new.packet.room c.count_sent_again.new.self c.send_again.new.queue
    (rw c.count_sent_again.ensures (halts_counted c.args.now c.saturating_sub.result c.send_again.new.packet.room c.send_again.new.self c.in_ok-send_again.ensures.halts))
    (λ e. c.if-marked_items-ne0.true (c.marked_items.ensures ∙ (ap (λ (q : RetransmissionState). marked_items q.outstanding.items) c.self.view_is ∙ e)))

pub returns-clause-halts : goal.returns-clause-halts
returns-clause-halts c =
    halts_new c.send_new.result c.args.now c.send_new.new.packet.room c.count_sent_again.new.self c.send_new.new.self c.send_new.new.queue
    (sym (ap (λ (q : RetransmissionState). marked_items q.outstanding.items) c.self.view_is) ∙ (sym c.marked_items.ensures ∙ c.if-marked_items-ne0.false))
    c.send_new.ensures.marks c.send_new.ensures.halts

pub returns-then-marked_items-ne0-clause-fresh : goal.returns-then-marked_items-ne0-clause-fresh
returns-then-marked_items-ne0-clause-fresh c = λ empty.
    let same : c.count_sent_again.new.self.outstanding ≡ c.send_again.new.self.outstanding =
    ap (λ (q : RetransmissionState). q.outstanding) c.count_sent_again.ensures ∙ counted_outstanding c.saturating_sub.result c.send_again.new.self in
    let few = c.in_ok-send_again.ensures.few in
    let none_before = ap (λ (xs : List ℕ). length xs) empty in
    ends_fresh c.args.now c.args.self.now.outstanding c.send_again.new.self.outstanding c.count_sent_again.new.self.outstanding c.send_again.new.packet.tsns.items c.send_again.new.packet.tsns.items (omega arith)
    (ap (λ (m : OutstandingState). marked_items m.items) same)
    (fresh_none c.args.now c.send_again.new.self.outstanding c.count_sent_again.new.self.outstanding c.send_again.new.packet.tsns.items c.send_again.new.packet.tsns.items same refl)

pub returns-clause-fresh : goal.returns-clause-fresh
returns-clause-fresh c = λ empty.
    let same : c.count_sent_again.new.self.outstanding ≡ c.send_again.new.self.outstanding =
    ap (λ (q : RetransmissionState). q.outstanding) c.count_sent_again.ensures ∙ counted_outstanding c.saturating_sub.result c.send_again.new.self in
    let items = ap (λ (m : OutstandingState). marked_items m.items) same in
    let few = c.in_ok-send_again.ensures.few in
    let none_before = ap (λ (xs : List ℕ). length xs) empty in
    ends_fresh_ok c.send_new.result c.args.now c.args.self.now.outstanding c.count_sent_again.new.self.outstanding c.send_new.new.self.outstanding c.send_again.new.packet.tsns.items c.send_new.new.packet.tsns.items (omega arith) c.send_new.ensures.marks c.send_new.ensures.fresh

pub returns-in_err-send_again-clause-steps : goal.returns-in_err-send_again-clause-steps
returns-in_err-send_again-clause-steps c =
    rw (err_from_is_err_and c.from_residual.result c.from_residual.ensures.1).1 (inl c.in_err-send_again.ensures.steps)

pub returns-then-marked_items-ne0-clause-steps : goal.returns-then-marked_items-ne0-clause-steps
returns-then-marked_items-ne0-clause-steps c =
    record {
      resent = (stage c.send_again.new.self c.send_again.new.queue c.send_again.new.events c.send_again.new.packet.tsns.items c.send_again.new.packet.room);
      again = c.in_ok-send_again.ensures.steps;
      anew = rw (c.count_sent_again.ensures, c.saturating_sub.ensures) none;
    }

pub returns-clause-steps : goal.returns-clause-steps
returns-clause-steps c =
    let counts : stage c.count_sent_again.new.self c.send_again.new.queue c.send_again.new.events c.send_again.new.packet.tsns.items c.send_again.new.packet.room
    ≡ resent_packet_counted c.args.packet.now.room (stage c.send_again.new.self c.send_again.new.queue c.send_again.new.events c.send_again.new.packet.tsns.items c.send_again.new.packet.room) = rw (c.count_sent_again.ensures, c.saturating_sub.ensures) refl in
    let new = stage c.send_new.new.self c.send_new.new.queue c.send_new.new.events c.send_new.new.packet.tsns.items c.send_new.new.packet.room in
    let P : Stage → Type 0 = λ s. Goes c.args.now (StepNew c.args.now) s new c.send_new.result in
    goes_filling c.send_new.result c.args.now (stage c.args.self.now c.args.queue.now c.args.events.now c.args.packet.now.tsns.items c.args.packet.now.room) (stage c.send_again.new.self c.send_again.new.queue c.send_again.new.events c.send_again.new.packet.tsns.items c.send_again.new.packet.room) new c.in_ok-send_again.ensures.steps
    (subst P counts (c.send_new.ensures.steps (sym (ap (λ (q : RetransmissionState). marked_items q.outstanding.items) c.self.view_is) ∙ (sym c.marked_items.ensures ∙ c.if-marked_items-ne0.false))))
