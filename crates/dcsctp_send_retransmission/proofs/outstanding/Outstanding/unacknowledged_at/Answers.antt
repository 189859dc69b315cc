use Rattle.std.proofs.Common.{◌≡◌, ◌∙◌, true, false, subst, sym}
use Rattle.dcsctp_api.specs.spec.queues.Items.{Item}
use Rattle.dcsctp_api.specs.types.queues.Progress.{is_unacknowledged}
use Rattle.dcsctp_send_retransmission.proofs.SettledLemmas.{awaited_here, none_awaited_here}
use Rattle.dcsctp_send_retransmission.proofs.outstanding.Outstanding.unacknowledged_at.Goals as goal

pub returns-then-is_unacknowledged : goal.returns-then-is_unacknowledged
returns-then-is_unacknowledged c =
    let P : Item → Type 0 = λ item. is_unacknowledged item.progress.state ≡ true in
    awaited_here c.args.self.now.items c.args.place c.item.result.now c.item.ensures (subst P c.behind-self.view_is (sym c.is_unacknowledged.ensures ∙ c.if-is_unacknowledged.true))

pub returns-else-is_unacknowledged : goal.returns-else-is_unacknowledged
returns-else-is_unacknowledged c =
    let P : Item → Type 0 = λ item. is_unacknowledged item.progress.state ≡ false in
    none_awaited_here c.args.self.now.items c.args.place c.item.result.now c.item.ensures (subst P c.behind-self.view_is (sym c.is_unacknowledged.ensures ∙ c.if-is_unacknowledged.false))
