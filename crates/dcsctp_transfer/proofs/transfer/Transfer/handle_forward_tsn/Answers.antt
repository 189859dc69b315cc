use Rattle.std.proofs.Common.{◌≡◌, false, ◌∙◌, sym}
use Rattle.dcsctp_transfer.proofs.ReceivingLemmas.{moved_forward}
use Rattle.dcsctp_transfer.proofs.transfer.Transfer.handle_forward_tsn.Goals as goal

pub returns-in_ok-handle_forward_tsn-clause-ok : goal.returns-in_ok-handle_forward_tsn-clause-ok
returns-in_ok-handle_forward_tsn-clause-ok c =
    let inside = c.self.inside in
    rw (← c.self.view_is)
    (moved_forward inside.retransmission_queue inside.rto c.args.new_cumulative_tsn c.args.skipped.now c.handle_forward_tsn.result
    inside.data_tracker c.handle_forward_tsn.new.self inside.reassembly_queue c.handle_forward_tsn-then-handle_forward_tsn.new.self
    (sym c.is_tsn_valid.ensures ∙ c.if-not-is_tsn_valid.false) c.handle_forward_tsn.ensures.moves c.handle_forward_tsn.ensures.left
    (λ _. c.in_ok-handle_forward_tsn.ensures.ok) (λ (no : c.handle_forward_tsn.result ≡ false). let yes = c.if-handle_forward_tsn.true in absurd (cc)))
