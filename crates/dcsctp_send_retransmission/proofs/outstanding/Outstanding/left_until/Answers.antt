use Rattle.std.proofs.Common.{◌∙◌, subst, sym}
use Rattle.dcsctp_send_retransmission.specs.NamedPlaces.{AreSettledBetween}
use Rattle.dcsctp_api.specs.spec.queues.Outstanding.{OutstandingState}
use Rattle.dcsctp_send_retransmission.proofs.SettledLemmas.{row_is_settled, row_is_left}
use Rattle.dcsctp_send_retransmission.proofs.outstanding.Outstanding.left_until.Goals as goal

pub returns-then-leaves_settled-clause-left : goal.returns-then-leaves_settled-clause-left
returns-then-leaves_settled-clause-left c =
    let P : OutstandingState → Type 0 = λ m. AreSettledBetween c.args.place c.end_from.result m.items in
    let row = subst P c.self.view_is (row_is_settled _ _ c.args.place c.end_from.result c.self.invariant.settled c.end_from.ensures.named) in
    row_is_left c.args.change c.args.place c.end_from.result c.args.self.now.items (sym c.leaves_settled.ensures ∙ c.if-leaves_settled.true) row
