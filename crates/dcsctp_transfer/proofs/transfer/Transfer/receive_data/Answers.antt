use Rattle.std.proofs.Common.{◌≡◌, false, ◌∙◌, sym, ap}
use Rattle.dcsctp_send_retransmission.specs.spec.endpoint.TransferMoves.{has_room}
use Rattle.dcsctp_receive_reassembly.specs.Streams.{chunk_of}
use Rattle.dcsctp_transfer.proofs.ReceivingLemmas.{data_received}
use Rattle.dcsctp_transfer.proofs.transfer.Transfer.receive_data.Goals as goal

pub returns-in_ok-add-clause-ok : goal.returns-in_ok-add-clause-ok
returns-in_ok-add-clause-ok c =
    let inside = c.self.inside in
    rw (← c.self.view_is)
    (data_received inside.retransmission_queue inside.rto
    (record { tsn = c.args.tsn; immediate_ack = c.args.immediate_ack; chunk = chunk_of c.args.chunk }) c.in_ok-observe.field-0 inside.data_tracker c.observe.new.self
    inside.reassembly_queue c.add.new.self (ap (has_room c.args.tsn) c.self.view_is ∙ (sym c.has_room.ensures ∙ c.if-not-has_room.false)) (sym c.is_tsn_valid.ensures ∙ c.if-not-is_tsn_valid.false)
    c.in_ok-observe.ensures.is_new c.in_ok-observe.ensures.ok (λ _. c.in_ok-add.ensures.ok) (λ (no : c.in_ok-observe.field-0 ≡ false). let yes = c.if-branch.true in absurd (cc)))
