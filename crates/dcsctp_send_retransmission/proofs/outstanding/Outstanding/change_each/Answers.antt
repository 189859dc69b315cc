use Rattle.std.proofs.Common.{List, length, ap, sym, arith, add-one}
use Rattle.dcsctp_api.specs.spec.queues.Items.{Item}
use Rattle.dcsctp_api.specs.spec.queues.Outstanding.{OutstandingState}
use Rattle.dcsctp_send_retransmission.proofs.BytesLemmas.{may_change}
use Rattle.dcsctp_send_retransmission.proofs.ItemsLemmas.{none_changed, changed_further, changed_as_far, length-changed_between}
use Rattle.dcsctp_send_retransmission.proofs.outstanding.Outstanding.change_each.Goals as goal

pub loop-place-init : goal.loop-place-init
loop-place-init c =
    (ap (λ (xs : List Item). let m : OutstandingState = record { first_tsn = c.args.self.now.first_tsn; is_interleaved = c.args.self.now.is_interleaved; items = xs } in m) (sym (none_changed c.args.change c.args.start c.args.start c.args.self.now.items (omega arith))), omega arith, omega arith)

pub change_at-requires-clause-place : goal.change_at-requires-clause-place
change_at-requires-clause-place c =
    let same = ap (λ (m : OutstandingState). length m.items) c.loop-place.invariant.0 in
    let kept = length-changed_between c.args.change c.args.start c.loop-place.place c.args.self.now.items in
    omega (arith, c.loop-place-test.true, c.min-limit.ensures, c.len.ensures.value)

pub change_at-requires-clause-may : goal.change_at-requires-clause-may
change_at-requires-clause-may c = may_change c.args.change c.loop-place.place c.loop-place.self.items c.requires

pub loop-place-preserved : goal.loop-place-preserved
loop-place-preserved c =
    let further = changed_further c.args.change c.args.start c.loop-place.place c.args.self.now.items c.loop-place.invariant.1 in (
      rw (c.change_at.ensures, c.loop-place.invariant.0, add-one)
          (ap (λ (xs : List Item). let m : OutstandingState = record { first_tsn = c.args.self.now.first_tsn; is_interleaved = c.args.self.now.is_interleaved; items = xs } in m) further),
      omega (arith, c.loop-place.invariant.1),
      omega (arith, c.loop-place-test.true),
    )

pub returns : goal.returns
returns c =
    let reach = c.loop-place.invariant.1 in
    let limit = c.loop-place.invariant.2 in
    let past = c.loop-place-test.false in
    let as_far = changed_as_far c.args.change c.args.start c.loop-place.place c.args.end c.args.self.now.items (omega (arith, c.min-limit.ensures, c.len.ensures.value)) in
    rw c.loop-place.invariant.0 (ap (λ (xs : List Item). let m : OutstandingState = record { first_tsn = c.args.self.now.first_tsn; is_interleaved = c.args.self.now.is_interleaved; items = xs } in m) as_far)
