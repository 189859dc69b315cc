use Rattle.std.proofs.Common.{refl}
use Rattle.dcsctp_core.specs.spec.Packet.{shutdown_ack}
use Rattle.dcsctp_core.specs.spec.endpoint.ShutdownOutcomes.{sends_shutdown_ack}
use Rattle.dcsctp_core.specs.View.{view_of}
use Rattle.dcsctp_core_ends.proofs.FitLemmas.{ack_fits}
use Rattle.dcsctp_core_ends.proofs.SendingLemmas.{sent_to_held}
use Rattle.dcsctp_core_ends.proofs.shutdown.sending.send_shutdown_ack.Goals as goal

pub returns : goal.returns
returns g c =
    let old = c.args.context.now in
    sent_to_held g.R.Rng.stream (view_of old) (view_of c.emit_to_peer.new.self) sends_shutdown_ack shutdown_ack (λ held. refl)
    (ack_fits old.options old.valid) c.in_ok-emit_to_peer.ensures
