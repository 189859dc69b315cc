use Rattle.std.proofs.Common.{[], ◌∙◌, ◌<◌, length, refl, ap, sym, arith}
use Rattle.std.proofs.lemmas.Result.{err_from_is_err_and}
use Rattle.dcsctp_api.specs.spec.queues.Retransmission.{RetransmissionState}
use Rattle.dcsctp_send_retransmission.specs.States.{stage}
use Rattle.dcsctp_api.specs.spec.queues.NextItem.{is_abandonment_due}
use Rattle.dcsctp_send_retransmission.proofs.StatesLemmas.{found}
use Rattle.dcsctp_send_retransmission.proofs.GivingUpLemmas.{if_grows, scans_none, scans_at, scans_stop, scans_on, scanned_to}
use Rattle.dcsctp_send_retransmission.proofs.retransmission_queue.RetransmissionQueue.give_up_first.Goals as goal
use Rattle.dcsctp_api.specs.spec.queues.Items.{marked_items}
use Rattle.dcsctp_api.specs.spec.queues.Filling.{none}
use Rattle.dcsctp_send_retransmission.proofs.spec_lemmas.DueItemLemmas.{none_due}

pub returns-then-marked_items-eq0 : goal.returns-then-marked_items-eq0
returns-then-marked_items-eq0 c = (
  none,
  none_due c.args.now c.args.self.now
      (sym (ap (λ (q : RetransmissionState). marked_items q.outstanding.items) c.self.view_is) ∙ (sym c.marked_items.ensures ∙ c.if-marked_items-eq0.true)),
)

pub loop-place-init : goal.loop-place-init
loop-place-init c = scans_none c.args.now (stage c.args.self.now c.args.queue.now c.args.events.now [] 0)

pub returns-in_err-give_up_if_due : goal.returns-in_err-give_up_if_due
returns-in_err-give_up_if_due c =
    let inside = ap (λ (q : RetransmissionState). length q.outstanding.items) c.self.view_is in
    let grown = c.loop-place.invariant.grown in
    let within : c.loop-place.place < length c.loop-place.self.outstanding.items = omega (arith, c.len-place-end.ensures.value, c.loop-place-test.true) in
    let item = found c.loop-place.self.outstanding.items c.loop-place.place within in
    rw (err_from_is_err_and c.from_residual.result c.from_residual.ensures.1).1
    (scans_stop _ c.in_err-give_up_if_due.field-0.0 c.args.now c.loop-place.place _ _ _ item.item c.loop-place.invariant item.at _ refl (c.in_err-give_up_if_due.ensures item.item item.at))

pub is_awaited-requires : goal.is_awaited-requires
is_awaited-requires c =
    let inside = ap (λ (q : RetransmissionState). length q.outstanding.items) c.self.view_is in
    let grown = c.loop-place.invariant.grown in
    let within : c.loop-place.place < length c.loop-place.self.outstanding.items = omega (arith, c.len-place-end.ensures.value, c.loop-place-test.true) in
    let item = found c.loop-place.self.outstanding.items c.loop-place.place within in
    let more = if_grows c.in_ok-give_up_if_due.field-0 c.args.now c.loop-place.place (stage c.loop-place.self c.loop-place.queue c.loop-place.events [] 0) (stage c.give_up_if_due.new.self c.give_up_if_due.new.queue c.give_up_if_due.new.events [] 0) (is_abandonment_due c.args.now c.loop-place.self.partial_reliability item.item) (c.in_ok-give_up_if_due.ensures item.item item.at) in
    omega arith

pub returns-then-is_awaited : goal.returns-then-is_awaited
returns-then-is_awaited c =
    let inside = ap (λ (q : RetransmissionState). length q.outstanding.items) c.self.view_is in
    let grown = c.loop-place.invariant.grown in
    let within : c.loop-place.place < length c.loop-place.self.outstanding.items = omega (arith, c.len-place-end.ensures.value, c.loop-place-test.true) in
    let was = found c.loop-place.self.outstanding.items c.loop-place.place within in
    let old = stage c.loop-place.self c.loop-place.queue c.loop-place.events [] 0 in
    let new = stage c.give_up_if_due.new.self c.give_up_if_due.new.queue c.give_up_if_due.new.events [] 0 in
    let initial = stage c.args.self.now c.args.queue.now c.args.events.now [] 0 in
    let due = is_abandonment_due c.args.now c.loop-place.self.partial_reliability was.item in
    let gives = c.in_ok-give_up_if_due.ensures was.item was.at in
    let more = if_grows c.in_ok-give_up_if_due.field-0 c.args.now c.loop-place.place old new due gives in
    let later : c.loop-place.place < length c.give_up_if_due.new.self.outstanding.items = omega arith in
    let is = found c.give_up_if_due.new.self.outstanding.items c.loop-place.place later in
    let step = scans_at c.in_ok-give_up_if_due.field-0 c.args.now c.loop-place.place initial old new was.item c.loop-place.invariant was.at due refl gives in (
      step.0.steps,
      scanned_to c.args.now c.loop-place.place initial new is.item step.0 step.1 is.at (sym (c.is_awaited.ensures is.item is.at) ∙ c.if-is_awaited.true),
    )

pub loop-place-preserved : goal.loop-place-preserved
loop-place-preserved c =
    let inside = ap (λ (q : RetransmissionState). length q.outstanding.items) c.self.view_is in
    let grown = c.loop-place.invariant.grown in
    let within : c.loop-place.place < length c.loop-place.self.outstanding.items = omega (arith, c.len-place-end.ensures.value, c.loop-place-test.true) in
    let was = found c.loop-place.self.outstanding.items c.loop-place.place within in
    let old = stage c.loop-place.self c.loop-place.queue c.loop-place.events [] 0 in
    let new = stage c.give_up_if_due.new.self c.give_up_if_due.new.queue c.give_up_if_due.new.events [] 0 in
    let initial = stage c.args.self.now c.args.queue.now c.args.events.now [] 0 in
    let due = is_abandonment_due c.args.now c.loop-place.self.partial_reliability was.item in
    let step = scans_at c.in_ok-give_up_if_due.field-0 c.args.now c.loop-place.place initial old new was.item c.loop-place.invariant was.at due refl (c.in_ok-give_up_if_due.ensures was.item was.at) in
    scans_on c.args.now c.loop-place.place initial new step.0 (λ x at. sym (c.is_awaited.ensures x at) ∙ c.if-is_awaited.false)
