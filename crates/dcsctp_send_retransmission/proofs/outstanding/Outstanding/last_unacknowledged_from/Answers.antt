use Rattle.std.proofs.Common.{subst, arith}
use Rattle.dcsctp_send_retransmission.specs.NamedPlaces.{AreSettledBetween}
use Rattle.dcsctp_api.specs.spec.queues.Outstanding.{OutstandingState}
use Rattle.dcsctp_send_retransmission.proofs.SettledLemmas.{row_is_settled, none_awaited, awaited_past, awaited_further, awaited_as_far}
use Rattle.dcsctp_send_retransmission.proofs.outstanding.Outstanding.last_unacknowledged_from.Goals as goal

pub loop-place-init : goal.loop-place-init
loop-place-init c = (omega arith, omega arith, none_awaited c.args.self.now.items c.args.start)

pub loop-place-preserved : goal.loop-place-preserved
loop-place-preserved c =
    let from = c.loop-place.invariant.0 in
    let test = c.loop-place-test.true in (
      omega arith,
      omega arith,
      rw c.later_of-last.ensures
          (awaited_further c.args.self.now.items c.args.start c.loop-place.place c.loop-place.last c.unacknowledged_at.result from c.loop-place.invariant.2 c.unacknowledged_at.ensures),
    )

pub loop-place-preserved-then-place-next : goal.loop-place-preserved-then-place-next
loop-place-preserved-then-place-next c =
    let from = c.loop-place.invariant.0 in
    let past = c.if-place-next.true in
    let next = c.min-next.ensures in
    let P : OutstandingState → Type 0 = λ m. AreSettledBetween c.loop-place.place c.min-next.result m.items in
    let row = subst P c.self.view_is (row_is_settled _ _ c.loop-place.place c.min-next.result c.self.invariant.settled (λ k after before. c.end_from.ensures.named k after (omega arith))) in (
      omega arith,
      omega arith,
      awaited_past c.args.self.now.items c.args.start c.loop-place.place c.min-next.result c.loop-place.last (omega arith) row c.loop-place.invariant.2,
    )

pub returns : goal.returns
returns c =
    let from = c.loop-place.invariant.0 in
    let to = c.loop-place.invariant.1 in
    let past = c.loop-place-test.false in
    let limit = c.min-limit.ensures in
    let len = c.len.ensures.value in
    awaited_as_far c.args.self.now.items c.args.start c.loop-place.place c.args.end c.loop-place.last (omega arith) c.loop-place.invariant.2
