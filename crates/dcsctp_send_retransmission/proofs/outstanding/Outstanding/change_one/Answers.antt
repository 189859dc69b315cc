use Rattle.std.proofs.Common.{◌≡◌, ◌∙◌, true, List, ap, subst, sym}
use Rattle.dcsctp_api.specs.spec.queues.Items.{Item}
use Rattle.dcsctp_api.specs.spec.queues.Outstanding.{OutstandingState}
use Rattle.dcsctp_send_retransmission.specs.Settled.{is_left_unchanged}
use Rattle.dcsctp_send_retransmission.proofs.BytesLemmas.{may_change}
use Rattle.dcsctp_send_retransmission.proofs.SettledLemmas.{left_is_same, one_left}
use Rattle.dcsctp_send_retransmission.proofs.outstanding.Outstanding.change_one.Goals as goal

pub returns-then-is_left_by : goal.returns-then-is_left_by
returns-then-is_left_by c =
    let P : Item → Type 0 = λ item. is_left_unchanged c.args.change item.progress ≡ true in
    let same = left_is_same c.args.change c.item.result.now.progress (subst P c.behind-self.view_is (sym c.is_left_by.ensures ∙ c.if-is_left_by.true)) in
    ap (λ (xs : List Item). let m : OutstandingState = record { first_tsn = c.args.self.now.first_tsn; is_interleaved = c.args.self.now.is_interleaved; items = xs } in m) (one_left c.args.change c.args.place c.args.self.now.items c.item.result.now c.item.ensures same)

pub change_at-requires-clause-may : goal.change_at-requires-clause-may
change_at-requires-clause-may c = may_change c.args.change c.args.place c.args.self.now.items c.requires.keeps
