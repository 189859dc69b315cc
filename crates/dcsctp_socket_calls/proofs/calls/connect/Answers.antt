use Rattle.dcsctp_core.specs.View.{view_of}
use Rattle.dcsctp_socket_calls.proofs.ChunkLemmas.{connect_moves}
use Rattle.dcsctp_socket_calls.proofs.calls.connect.Goals as goal

pub returns-clause-turn : goal.returns-clause-turn
returns-clause-turn g c =
    (tt, connect_moves g.R.Rng.stream (view_of c.args.context.now) (view_of c.begin_call.new.self) (view_of c.do_connect.new.context) c.begin_call.ensures c.in_ok-do_connect.ensures.turn)
