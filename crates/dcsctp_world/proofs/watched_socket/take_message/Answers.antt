use Rattle.std.proofs.Common.{sym, ◌∙◌}
use Rattle.dcsctp_socket.specs.SocketView.{user_view_of}
use Rattle.dcsctp_world.proofs.Taking.{take_called}
use Rattle.dcsctp_world.proofs.watched_socket.take_message.Goals as goal

pub returns : goal.returns
returns g c =
    take_called (user_view_of g.R.Rng.stream c.args.socket.now) (user_view_of g.R.Rng.stream c.get_next_message.new.self) c.get_next_message.result
    (sym c.has_failed.ensures ∙ c.if-has_failed.false) c.get_next_message.ensures
