use Rattle.std.proofs.Common.{refl, ◌∙◌, min, ap, sym}
use Rattle.std.proofs.lemmas.Result.{err_from_is_err_and}
use Rattle.dcsctp_send_retransmission.specs.spec.endpoint.Timers.{moment_after}
use Rattle.dcsctp_send_retransmission.specs.spec.queues.Transfer.{Transfer}
use Rattle.dcsctp_send_retransmission.specs.spec.queues.Retransmission.{outstanding_count}
use Rattle.dcsctp_transfer.proofs.AbandoningLemmas.{forwards_none, none_may, forwards_due, forwards_not_due, tells_abandoning}
use Rattle.dcsctp_transfer.proofs.transfer.Transfer.forward_tsn.Goals as goal

pub returns-then-outstanding_items-eq0-clause-ok : goal.returns-then-outstanding_items-eq0-clause-ok
returns-then-outstanding_items-eq0-clause-ok c =
    let empty = sym (c.outstanding_items.ensures.value ∙ ap (λ (t : Transfer). outstanding_count t.retransmission) c.self.view_is) ∙ c.if-outstanding_items-eq0.true in
    forwards_none c.args.now c.args.self.now c.args.queue.now _ c.args.packet.now (none_may c.args.self.now.retransmission.partial_reliability _ empty)

pub returns-in_err-should_send_forward_tsn-clause-told : goal.returns-in_err-should_send_forward_tsn-clause-told
returns-in_err-should_send_forward_tsn-clause-told c =
    rw (err_from_is_err_and c.from_residual.result c.from_residual.ensures.1).1
    (tells_abandoning c.should_send_forward_tsn.result c.args.now c.args.self.now c.self.inside.retransmission_queue _ c.args.queue.now c.args.queue.now _ c.args.events.now _
    (ap (λ (t : Transfer). t.retransmission) c.self.view_is) refl c.should_send_forward_tsn.ensures.gives_up)

pub returns-then-not-branch-clause-ok : goal.returns-then-not-branch-clause-ok
returns-then-not-branch-clause-ok c =
    forwards_not_due c.args.now c.args.self.now _ c.self.inside.retransmission_queue c.should_send_forward_tsn.new.self c.args.queue.now c.args.queue.now c.should_send_forward_tsn.new.queue c.args.events.now c.should_send_forward_tsn.new.events c.args.packet.now
    (ap (λ (t : Transfer). t.retransmission) c.self.view_is)
    refl
    (ap (λ (t : Transfer). record t { retransmission = c.should_send_forward_tsn.new.self }) c.self.view_is)
    (λ none. c.if-outstanding_items-eq0.false (c.outstanding_items.ensures.value ∙ ap (λ (t : Transfer). outstanding_count t.retransmission) c.self.view_is ∙ none))
    (record { steps = c.in_ok-should_send_forward_tsn.ensures.gives_up.0; none_left = c.in_ok-should_send_forward_tsn.ensures.gives_up.1 })
    (sym c.in_ok-should_send_forward_tsn.ensures.due ∙ c.if-not-branch.true)

pub returns-in_err-put_forward_tsn-clause-told : goal.returns-in_err-put_forward_tsn-clause-told
returns-in_err-put_forward_tsn-clause-told c =
    rw (err_from_is_err_and c.from_residual-in_err-put_forward_tsn.result c.from_residual-in_err-put_forward_tsn.ensures.1).1
    (tells_abandoning c.should_send_forward_tsn.result c.args.now c.args.self.now c.self.inside.retransmission_queue _ c.args.queue.now c.args.queue.now _ c.args.events.now _
    (ap (λ (t : Transfer). t.retransmission) c.self.view_is) refl c.should_send_forward_tsn.ensures.gives_up)

pub returns-clause-ok : goal.returns-clause-ok
returns-clause-ok c =
    forwards_due c.args.now c.args.self.now _ c.self.inside.retransmission_queue c.should_send_forward_tsn.new.self c.args.queue.now c.args.queue.now c.should_send_forward_tsn.new.queue c.args.events.now c.should_send_forward_tsn.new.events c.args.packet.now c.put_forward_tsn.new.packet c.next_forward_tsn.result
    (ap (λ (t : Transfer). t.retransmission) c.self.view_is)
    refl
    (ap (λ (t : Transfer). record t { retransmission = c.should_send_forward_tsn.new.self }) c.self.view_is)
    (λ none. c.if-outstanding_items-eq0.false (c.outstanding_items.ensures.value ∙ ap (λ (t : Transfer). outstanding_count t.retransmission) c.self.view_is ∙ none))
    (record { steps = c.in_ok-should_send_forward_tsn.ensures.gives_up.0; none_left = c.in_ok-should_send_forward_tsn.ensures.gives_up.1 })
    (sym c.in_ok-should_send_forward_tsn.ensures.due ∙ c.if-not-branch.false)
    (c.next_forward_tsn.ensures ∙ ap (λ (t : Transfer). moment_after c.args.now (min 200000000 t.timeout.srtt)) c.self.view_is)
    c.in_ok-put_forward_tsn.ensures.ok
