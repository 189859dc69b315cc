use Rattle.std.proofs.Common.{false, refl}
use Rattle.dcsctp_core.specs.spec.Packet.{shutdown_complete}
use Rattle.dcsctp_core.specs.View.{view_of}
use Rattle.dcsctp_core_ends.specs.Shutdown.{sends_complete}
use Rattle.dcsctp_core_ends.proofs.FitLemmas.{complete_fits}
use Rattle.dcsctp_core_ends.proofs.SendingLemmas.{sent_to_held}
use Rattle.dcsctp_core_ends.proofs.shutdown.sending.send_shutdown_complete.Goals as goal

pub returns : goal.returns
returns g c =
    let old = c.args.context.now in
    sent_to_held g.R.Rng.stream (view_of old) (view_of c.emit_to_peer.new.self) sends_complete (shutdown_complete false) (λ held. refl)
    (complete_fits old.options false old.valid) c.in_ok-emit_to_peer.ensures
