use Rattle.std.proofs.Common.{ℕ, Option, [], sym, ap, ◌∙◌}
use Rattle.dcsctp_core.specs.types.declared.association.Held.{Held}
use Rattle.dcsctp_core.specs.spec.Packet.{shutdown}
use Rattle.dcsctp_core.specs.spec.endpoint.Outcome.{sends, to_peer}
use Rattle.dcsctp_core.specs.spec.endpoint.ShutdownOutcomes.{received_tsn, sends_shutdown}
use Rattle.dcsctp_core.specs.declared.transmission_control_block.TransmissionControlBlock.{TransmissionControlBlock}
use Rattle.dcsctp_core.specs.View.{view_of, endpoint_of, transfer_of_tcb}
use Rattle.dcsctp_core_ends.proofs.FitLemmas.{shutdown_fits}
use Rattle.dcsctp_core_ends.proofs.SendingLemmas.{sent_to_held}
use Rattle.dcsctp_core_ends.proofs.shutdown.sending.send_shutdown.Goals as goal

pub returns : goal.returns
returns g c =
    let old = c.args.context.now in
    let tsn = c.last_cumulative_acked_tsn-cumulative_tsn_ack.result in
    let received =
    ap (λ (t : Option TransmissionControlBlock). received_tsn (transfer_of_tcb t)) (sym c.in-Some.ensures) ∙ sym c.last_cumulative_acked_tsn-cumulative_tsn_ack.ensures in
    sent_to_held g.R.Rng.stream (view_of old) (view_of c.emit_to_peer.new.self) sends_shutdown (shutdown tsn)
    (λ (held : Held). ap (λ (n : ℕ). sends (endpoint_of old) [] [] (to_peer held (shutdown n))) received)
    (shutdown_fits old.options tsn old.valid) c.in_ok-emit_to_peer.ensures
