use Rattle.dcsctp_core.specs.View.{view_of}
use Rattle.dcsctp_core_ends.proofs.EchoedLemmas.{waits, begins}
use Rattle.dcsctp_core_ends.proofs.shutdown.call.shut_down_echoed.Goals as goal

pub returns-then-context : goal.returns-then-context
returns-then-context g c =
    waits g.R.Rng.stream (view_of c.args.context.now) (view_of c.ask_shutdown.new.self) c.requires c.if-context.true c.ask_shutdown.ensures

pub returns : goal.returns
returns g c =
    begins g.R.Rng.stream c.args.context.now c.begin_shutdown.result c.begin_shutdown.new.context c.requires c.if-context.false c.begin_shutdown.ensures
