use Rattle.std.proofs.Common.{rules}
use Rattle.dcsctp_core.specs.View.{view_of}
use Rattle.dcsctp_core_ends.proofs.AbortLemmas.{abort_moves}
use Rattle.dcsctp_core_ends.proofs.aborting.send_abort.Goals as goal

pub returns : goal.returns
returns g c =
    abort_moves g.R.Rng.stream (view_of c.args.context.now) (view_of c.emit_to_peer.new.self) c.args.reason (search rules)
