use Rattle.std.proofs.Common.{◌≡◌, ◌∙◌, true, subst, sym}
use Rattle.dcsctp_api.specs.spec.queues.Items.{Item}
use Rattle.dcsctp_api.specs.types.queues.Progress.{is_unacknowledged}
use Rattle.dcsctp_send_retransmission.proofs.ReportLemmas.{last_awaited}
use Rattle.dcsctp_send_retransmission.proofs.outstanding.Outstanding.last_unacknowledged.Goals as goal

pub returns-then-is_unacknowledged : goal.returns-then-is_unacknowledged
returns-then-is_unacknowledged c =
    let P : Item → Type 0 = λ item. is_unacknowledged item.progress.state ≡ true in
    last_awaited c.args.self.now.items c.args.start c.args.end c.loop-place.place c.item.result.now c.loop-place-test.true c.loop-place.invariant.within.1 c.item.ensures (subst P c.behind-self.view_is (sym c.is_unacknowledged.ensures ∙ c.if-is_unacknowledged.true)) c.loop-place.invariant.none_behind
