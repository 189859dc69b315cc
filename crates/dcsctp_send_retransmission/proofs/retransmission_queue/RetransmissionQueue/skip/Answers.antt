use Rattle.std.proofs.Common.{ℕ, Bool, ◌∙◌, ◌<◌, length, ap, sym, subst, arith, List}
use Rattle.dcsctp_send_retransmission.specs.declared.retransmission_queue.forwarding.LastNumbers.{LastNumbers}
use Rattle.dcsctp_api.specs.spec.queues.Retransmission.{RetransmissionState}
use Rattle.dcsctp_send_retransmission.specs.Skipping.{SkipsRow}
use Rattle.dcsctp_send_retransmission.proofs.ReportLemmas.{has_item}
use Rattle.dcsctp_send_retransmission.proofs.SkippingLemmas.{stops_here, stops_full}
use Rattle.dcsctp_send_retransmission.proofs.retransmission_queue.RetransmissionQueue.skip.Goals as goal

pub returns-then-not-goes_on : goal.returns-then-not-goes_on
returns-then-not-goes_on c =
    let inside = ap (λ (q : RetransmissionState). length q.outstanding.items) c.self.view_is in
    let within : c.loop-place.place < length c.args.self.now.outstanding.items = omega (arith, c.len-len.ensures.value, c.loop-place-test.true) in
    let has = has_item c.args.self.now.outstanding.items c.loop-place.place within in
    stops_here c.args.self.now c.loop-place.place c.loop-place.numbers.entries has.0 within has.1 (sym (c.goes_on.ensures has.0 has.1) ∙ c.if-not-goes_on.true) c.loop-place.invariant.each c.loop-place.invariant.collects

pub returns-then-not-branch : goal.returns-then-not-branch
returns-then-not-branch c =
    let inside = ap (λ (q : RetransmissionState). length q.outstanding.items) c.self.view_is in
    let within : c.loop-place.place < length c.args.self.now.outstanding.items = omega (arith, c.len-len.ensures.value, c.loop-place-test.true) in
    let has = has_item c.args.self.now.outstanding.items c.loop-place.place within in
    let taken = rw c.if-not-branch.true at c.in_ok-take_in.ensures in
    subst (λ (es : List ((ℕ × Bool) × LastNumbers)). SkipsRow c.args.self.now c.loop-place.place es) (sym taken.0)
    (stops_full c.args.self.now c.loop-place.place c.loop-place.numbers.entries has.0 within has.1 (taken.1 has.0 has.1) c.loop-place.invariant.each c.loop-place.invariant.collects)
