use Rattle.dcsctp_channel_world_tests.proofs.NewSockets.{new_if_ok}
use Rattle.dcsctp_channel_world_tests.proofs.sockets.socket_of.Goals as goal

pub returns : goal.returns
returns g c =
    new_if_ok g.R.Rng.stream c.args.options.now c.args.generator c.new.result (record { valid = c.requires; fits = c.options_fit.ensures }) c.new.ensures.fresh
