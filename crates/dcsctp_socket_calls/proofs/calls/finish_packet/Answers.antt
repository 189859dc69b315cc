use Rattle.std.proofs.lemmas.Result.{err_from_is_err_and}
use Rattle.dcsctp_core.specs.View.{view_of}
use Rattle.dcsctp_socket_calls.proofs.TailLemmas.{tail_ended, tail_asked, tail_end_cut, tail_asked_cut}
use Rattle.dcsctp_socket_calls.proofs.calls.finish_packet.Goals as goal

pub returns-in_ok-do_shutdown : goal.returns-in_ok-do_shutdown
returns-in_ok-do_shutdown g c =
    tail_asked g.R.Rng.stream (view_of c.args.context.now) (view_of c.end_packet.new.context) (view_of c.do_shutdown.new.context) c.args.asks_again c.if-asks_again.true
    c.in_ok-end_packet.ensures c.in_ok-do_shutdown.ensures.turn

pub returns-else-asks_again : goal.returns-else-asks_again
returns-else-asks_again g c =
    tail_ended g.R.Rng.stream (view_of c.args.context.now) (view_of c.end_packet.new.context) c.args.asks_again c.if-asks_again.false c.in_ok-end_packet.ensures

pub returns-in_err-end_packet : goal.returns-in_err-end_packet
returns-in_err-end_packet g c =
    rw (err_from_is_err_and c.from_residual.result c.from_residual.ensures.1).1
    (tail_end_cut g.R.Rng.stream (view_of c.args.context.now) c.args.asks_again (view_of c.end_packet.new.context).events c.in_err-end_packet.ensures)

pub returns-in_err-do_shutdown : goal.returns-in_err-do_shutdown
returns-in_err-do_shutdown g c =
    rw (err_from_is_err_and c.from_residual-in_err-do_shutdown.result c.from_residual-in_err-do_shutdown.ensures.1).1
    (tail_asked_cut g.R.Rng.stream (view_of c.args.context.now) (view_of c.end_packet.new.context) c.args.asks_again (view_of c.do_shutdown.new.context).events c.if-asks_again.true
    c.in_ok-end_packet.ensures c.in_err-do_shutdown.ensures.turn)
