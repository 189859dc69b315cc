use Rattle.std.proofs.Common.{ap₂, subst, sym, ◌∙◌, arith}
use Rattle.dcsctp_core.specs.declared.deadlines.DeadlineKind.TheVariants.{AcknowledgementDelay, Retransmission, HeartbeatInterval, HeartbeatTimeout, Reconfiguration, T2}
use Rattle.dcsctp_core.specs.Listing.{with_entry}
use Rattle.dcsctp_core.specs.Timeout.{ListsDeadlines}
use Rattle.dcsctp_core.specs.View.{endpoint_of}
use Rattle.dcsctp_core.proofs.RelistLemmas.{below-more}
use Rattle.dcsctp_core.proofs.TimeoutLemmas.{lists_open}
use Rattle.dcsctp_core.proofs.timeout.list_open.Goals as goal

-- T1 comes before T2, and isn't listed.
pub add-requires-6 : goal.add-requires-6
add-requires-6 g c = below-more 5 6 c.add-5.new.self (omega arith) c.add-5.ensures.below

pub returns : goal.returns
returns g c =
    let delay = c.add.ensures.added ∙ ap₂ (with_entry AcknowledgementDelay) c.acknowledgement_deadline.ensures c.requires.empty in
    let loss = c.add-2.ensures.added ∙ ap₂ (with_entry Retransmission) c.retransmission_deadline.ensures delay in
    let interval = c.add-3.ensures.added ∙ ap₂ (with_entry HeartbeatInterval) c.next_expiry.ensures loss in
    let timeout = c.add-4.ensures.added ∙ ap₂ (with_entry HeartbeatTimeout) c.next_expiry-2.ensures interval in
    let request = c.add-5.ensures.added ∙ ap₂ (with_entry Reconfiguration) c.reconfiguration_deadline.ensures timeout in
    let all = c.add-6.ensures.added ∙ ap₂ (with_entry T2) c.t2_deadline.ensures request in
    subst (ListsDeadlines (endpoint_of c.args.context.now)) (sym all) (lists_open c.args.context.now c.args.opened.now c.requires.opened)
