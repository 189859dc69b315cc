use Rattle.std.proofs.Common.{length}
use Rattle.dcsctp_socket.specs.SocketView.{user_view_of}
use Rattle.dcsctp_world.specs.Parts.{kept_output}
use Rattle.dcsctp_world.proofs.Keeping.{Taken}
use Rattle.dcsctp_world.proofs.watched_socket.take_events.Given as goal

abbrev pub invariant-loop-event : goal.invariant-loop-event
invariant-loop-event g l =
    Taken (user_view_of g.R.Rng.stream l.initial.socket) (kept_output l.initial.events.items l.initial.packets.items)
    (user_view_of g.R.Rng.stream l.socket) (kept_output l.events.items l.packets.items)

abbrev pub decreases-loop-event : goal.decreases-loop-event
decreases-loop-event g l = length l.socket.view.events
