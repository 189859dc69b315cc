use Rattle.std.proofs.Common.{true}
use Rattle.dcsctp_core.specs.spec.Packet.{shutdown_complete}
use Rattle.dcsctp_core.specs.View.{view_of}
use Rattle.dcsctp_core.proofs.SentLemmas.{emitted_sends}
use Rattle.dcsctp_core_ends.proofs.FitLemmas.{complete_fits}
use Rattle.dcsctp_core_ends.proofs.shutdown.sending.reflect_shutdown_complete.Goals as goal

pub returns : goal.returns
returns g c =
    let old = c.args.context.now in
    emitted_sends g.R.Rng.stream (view_of old) (view_of c.emit.new.self) true c.args.tag (shutdown_complete true)
    (complete_fits old.options true old.valid) c.in_ok-emit.ensures
