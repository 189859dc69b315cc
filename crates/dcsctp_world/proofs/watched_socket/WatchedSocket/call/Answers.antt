use Rattle.std.proofs.Common.{map}
use Rattle.std.proofs.lemmas.Result.{err_from_is_err_and}
use Rattle.dcsctp_core.specs.types.Schedule.{call_content}
use Rattle.dcsctp_core.specs.types.queues.Messages.{message_content}
use Rattle.dcsctp_core.specs.spec.endpoint.UserTurns.{UserTurns}
use Rattle.dcsctp_world.specs.Growth.{IsCallReply}
use Rattle.dcsctp_world.specs.Parts.{shown_side}
use Rattle.dcsctp_world.proofs.Stopping.{call_fails}
use Rattle.dcsctp_world.proofs.Growing.{messages_stop, call_stops, call_grows}
use Rattle.dcsctp_world.proofs.watched_socket.WatchedSocket.call.Goals as goal

pub returns-in_err-reply : goal.returns-in_err-reply
returns-in_err-reply g c =
    let p = err_from_is_err_and c.from_residual.result c.from_residual.ensures.1 in
    rw (p.1, p.2)
    (call_fails g.R.Rng.stream (UserTurns c.args.self.now.socket.view.endpoint (call_content c.args.call.now))
    (IsCallReply c.args.self.now.socket.view.endpoint (call_content c.args.call.now)) (shown_side c.args.self.now) c.make_call.new.socket _ c.in_err-reply.ensures)

pub returns-in_err-keep_messages : goal.returns-in_err-keep_messages
returns-in_err-keep_messages g c =
    let worked = c.in_ok-reply.ensures in
    let kept = c.in_err-keep_messages.ensures in
    let p = err_from_is_err_and c.from_residual-in_err-keep_messages.result c.from_residual-in_err-keep_messages.ensures.1 in
    rw (p.1, p.2) (
      worked.follows.runs,
      messages_stop g.R.Rng.stream (call_content c.args.call.now) c.in_ok-reply.reply (shown_side c.args.self.now) c.make_call.new.socket
          (map message_content c.keep_messages.new.sent.items) (map message_content c.keep_messages.new.read.items) c.requires worked kept.sent kept.read,
    )

pub returns-in_err-keep_all : goal.returns-in_err-keep_all
returns-in_err-keep_all g c =
    let worked = c.in_ok-reply.ensures in
    let kept = c.in_ok-keep_messages.ensures in
    let p = err_from_is_err_and c.from_residual-in_err-keep_all.result c.from_residual-in_err-keep_all.ensures.1 in
    rw (p.1, p.2) (
      worked.follows.runs,
      call_stops g.R.Rng.stream (call_content c.args.call.now) c.in_ok-reply.reply (shown_side c.args.self.now) c.make_call.new.socket
          (map message_content c.keep_messages.new.sent.items) (map message_content c.keep_messages.new.read.items) c.requires worked (shown_side c.keep_all.new.self) kept.sent kept.read c.in_err-keep_all.ensures,
    )

pub returns : goal.returns
returns g c =
    let worked = c.in_ok-reply.ensures in
    let kept = c.in_ok-keep_messages.ensures in (
      worked.answers.0,
      call_grows g.R.Rng.stream (call_content c.args.call.now) c.in_ok-reply.reply (shown_side c.args.self.now) c.make_call.new.socket
          (map message_content c.keep_messages.new.sent.items) (map message_content c.keep_messages.new.read.items) c.requires worked (shown_side c.keep_all.new.self) kept.sent kept.read c.in_ok-keep_all.ensures,
    )
