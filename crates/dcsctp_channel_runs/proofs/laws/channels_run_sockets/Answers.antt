use Rattle.dcsctp_channel_runs.proofs.Promised.{channels_run}
use Rattle.dcsctp_channel_runs.proofs.laws.channels_run_sockets.Goals as goal

pub returns : goal.returns
returns c = channels_run c.sockets_keep_options.ensures c.users_read_what_was_sent.ensures c.opens_read_back.ensures.read_back c.contents_read_back.ensures.read_back
