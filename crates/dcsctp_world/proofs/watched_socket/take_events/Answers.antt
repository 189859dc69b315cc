use Rattle.std.proofs.lemmas.Result.{err_from_is_err_and}
use Rattle.dcsctp_socket.specs.SocketView.{user_view_of}
use Rattle.dcsctp_world.specs.Parts.{kept_output}
use Rattle.dcsctp_world.proofs.Keeping.{taken_more, taken_in_part}
use Rattle.dcsctp_world.proofs.watched_socket.take_events.Goals as goal

pub loop-event-preserved : goal.loop-event-preserved
loop-event-preserved g c =
    let stream = g.R.Rng.stream in
    taken_more (user_view_of stream c.args.socket.now) (user_view_of stream c.loop-event.socket) (user_view_of stream c.poll_event.new.self)
    (kept_output c.args.events.now.items c.args.packets.now.items) (kept_output c.loop-event.events.items c.loop-event.packets.items)
    (kept_output c.keep_event.new.events.items c.keep_event.new.packets.items) c.in-Some.event
    c.loop-event.invariant c.in-Some.ensures c.in_ok-keep_event.ensures

pub returns-in_err-keep_event : goal.returns-in_err-keep_event
returns-in_err-keep_event g c =
    let stream = g.R.Rng.stream in
    rw (err_from_is_err_and c.from_residual.result c.from_residual.ensures.1).1
    (taken_in_part (user_view_of stream c.args.socket.now) (user_view_of stream c.loop-event.socket) (user_view_of stream c.poll_event.new.self)
    (kept_output c.args.events.now.items c.args.packets.now.items) (kept_output c.loop-event.events.items c.loop-event.packets.items)
    (kept_output c.keep_event.new.events.items c.keep_event.new.packets.items) c.in-Some.event
    c.loop-event.invariant c.in-Some.ensures c.in_err-keep_event.ensures)
