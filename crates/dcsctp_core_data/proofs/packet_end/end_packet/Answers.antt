use Rattle.std.proofs.Common.{◌≡◌, true, false, ◌∙◌, sym, ap}
use Rattle.std.proofs.lemmas.Result.{err_from_is_err_and}
use Rattle.dcsctp_core.specs.Below.{EndsPacketInQueues, is_peer_acknowledgement_due}
use Rattle.dcsctp_core.specs.View.{transfer_of}
use Rattle.dcsctp_core.proofs.LendingLemmas.{changes_lent, left_transfer, left_with}
use Rattle.dcsctp_core_data.proofs.EndLemmas.{ends_unasked, ends_later, ended, end_cut}
use Rattle.dcsctp_core_data.proofs.packet_end.end_packet.Goals as goal

pub returns-in_default : goal.returns-in_default
returns-in_default g c = ends_unasked g.R.Rng.stream c.args.context.now c.in_default.ensures.tcb

pub returns-in_err-acknowledge : goal.returns-in_err-acknowledge
returns-in_err-acknowledge g c =
    let old = c.args.context.now in
    let tcb = c.in-Some.tcb.now in
    let after = c.end_packet.new.self in
    let due : is_peer_acknowledgement_due (transfer_of (left_with old.state tcb after)) ≡ true = ap is_peer_acknowledgement_due (left_transfer old.state tcb after c.in-Some.ensures.tcb) ∙ sym c.is_acknowledgement_due.ensures ∙ c.if-is_acknowledgement_due.true in
    rw (err_from_is_err_and c.from_residual.result c.from_residual.ensures.1).1
    (end_cut g.R.Rng.stream old (left_with old.state tcb after) c.acknowledge.new.context
    (changes_lent (EndsPacketInQueues old.moment) old.state tcb after c.in-Some.ensures.tcb c.end_packet.ensures) due (c.in_err-acknowledge.ensures due))

pub returns-in_ok-acknowledge : goal.returns-in_ok-acknowledge
returns-in_ok-acknowledge g c =
    let old = c.args.context.now in
    let tcb = c.in-Some.tcb.now in
    let after = c.end_packet.new.self in
    let due : is_peer_acknowledgement_due (transfer_of (left_with old.state tcb after)) ≡ true = ap is_peer_acknowledgement_due (left_transfer old.state tcb after c.in-Some.ensures.tcb) ∙ sym c.is_acknowledgement_due.ensures ∙ c.if-is_acknowledgement_due.true in
    ended g.R.Rng.stream old (left_with old.state tcb after) c.acknowledge.new.context
    (changes_lent (EndsPacketInQueues old.moment) old.state tcb after c.in-Some.ensures.tcb c.end_packet.ensures) due (c.in_ok-acknowledge.ensures due)

pub returns-else-is_acknowledgement_due : goal.returns-else-is_acknowledgement_due
returns-else-is_acknowledgement_due g c =
    let old = c.args.context.now in
    let tcb = c.in-Some.tcb.now in
    let after = c.end_packet.new.self in
    let due : is_peer_acknowledgement_due (transfer_of (left_with old.state tcb after)) ≡ false = ap is_peer_acknowledgement_due (left_transfer old.state tcb after c.in-Some.ensures.tcb) ∙ sym c.is_acknowledgement_due.ensures ∙ c.if-is_acknowledgement_due.false in
    ends_later g.R.Rng.stream old (left_with old.state tcb after)
    (changes_lent (EndsPacketInQueues old.moment) old.state tcb after c.in-Some.ensures.tcb c.end_packet.ensures) due
