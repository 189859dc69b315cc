use Rattle.dcsctp_core_data.proofs.HeardLemmas.{heard}
use Rattle.dcsctp_core_data.proofs.shutdown.acknowledge_and_receive.Goals as goal

pub returns : goal.returns
returns g c =
    heard g.R.Rng.stream c.args.context.now c.set_phase.new.self c.handle_sack.result c.handle_sack.new.context c.args.cumulative_tsn_ack c.peer_window.result
    c.requires c.set_phase.ensures c.peer_window.ensures c.handle_sack.ensures
