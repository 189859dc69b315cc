use Rattle.dcsctp_core.specs.types.Snapshot.{snapshot}
use Rattle.dcsctp_socket.specs.SocketView.{user_view_of}
use Rattle.dcsctp_world.proofs.HandingOn.{restore_called}
use Rattle.dcsctp_world.proofs.watched_socket.restore.Goals as goal

pub returns : goal.returns
returns g c =
    restore_called (user_view_of g.R.Rng.stream c.args.socket.now) (user_view_of g.R.Rng.stream c.restore_from_state.new.self) (snapshot c.args.state.now) c.in_ok-answer.answer
    c.requires c.in_ok-answer.ensures.call
