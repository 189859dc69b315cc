use Rattle.dcsctp_core.specs.View.{view_of}
use Rattle.dcsctp_core_handshake.proofs.ConnectSteps.{connects}
use Rattle.dcsctp_core_handshake.proofs.connect.do_connect.Goals as goal

pub returns-in_ok-send_init-in-Closed-clause-turn : goal.returns-in_ok-send_init-in-Closed-clause-turn
returns-in_ok-send_init-in-Closed-clause-turn g c =
    connects g.R.Rng.stream c.args.context.now c.draw_pair.new.context c.send_init.new.context (view_of c.await_init_ack.new.context) c.in_ok-my-in-Closed.my c.in-Closed.is
    c.in_ok-my-in-Closed.ensures.0 c.in_ok-my-in-Closed.ensures.1 c.in_ok-send_init-in-Closed.ensures c.await_init_ack.ensures
