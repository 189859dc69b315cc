use Rattle.dcsctp_spec_runs.proofs.SocketLemmas.{sockets_keep_options}
use Rattle.dcsctp_spec_runs.proofs.laws.sockets_keep_options.Goals as goal

pub returns : goal.returns
returns c = sockets_keep_options
