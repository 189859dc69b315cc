use Rattle.std.proofs.Common.{List}
use Rattle.std.proofs.lemmas.Result.{err_from_is_err_and}
use Rattle.dcsctp_core.specs.spec.endpoint.CallTurns.{Transition}
use Rattle.dcsctp_world.specs.Outside.{OutsideHandoverTurns, IsHandoverReply}
use Rattle.dcsctp_world.specs.Parts.{shown_side}
use Rattle.dcsctp_world.proofs.Stopping.{call_fails}
use Rattle.dcsctp_world.proofs.Growing.{quiet_grows, quiet_stops}
use Rattle.dcsctp_world.proofs.QuietTurns.{handover_turns_quiet}
use Rattle.dcsctp_world.proofs.watched_socket.WatchedSocket.hand_over_and_restore.Goals as goal

pub returns-in_err-reply : goal.returns-in_err-reply
returns-in_err-reply g c =
    let Turns : List Transition → Type 0 = OutsideHandoverTurns c.args.self.now.socket.view.endpoint in
    let p = err_from_is_err_and c.from_residual.result c.from_residual.ensures.1 in
    rw (p.1, p.2)
    (call_fails g.R.Rng.stream Turns (IsHandoverReply c.args.self.now.socket.view.endpoint) (shown_side c.args.self.now) c.hand_over_and_restore.new.socket _ c.in_err-reply.ensures)

pub returns-in_err-keep_all : goal.returns-in_err-keep_all
returns-in_err-keep_all g c =
    let Turns : List Transition → Type 0 = OutsideHandoverTurns c.args.self.now.socket.view.endpoint in
    let worked = c.in_ok-reply.ensures in
    let p = err_from_is_err_and c.from_residual-in_err-keep_all.result c.from_residual-in_err-keep_all.ensures.1 in
    rw (p.1, p.2) (
      worked.follows.runs,
      quiet_stops g.R.Rng.stream Turns (shown_side c.args.self.now) (shown_side c.keep_all.new.self) c.hand_over_and_restore.new.socket worked.turns worked.are c.requires worked.follows
          (handover_turns_quiet c.args.self.now.socket.view.endpoint worked.turns worked.are) c.in_err-keep_all.ensures,
    )

pub returns : goal.returns
returns g c =
    let Turns : List Transition → Type 0 = OutsideHandoverTurns c.args.self.now.socket.view.endpoint in
    let worked = c.in_ok-reply.ensures in (
      worked.answers.0,
      quiet_grows g.R.Rng.stream Turns (shown_side c.args.self.now) (shown_side c.keep_all.new.self) c.hand_over_and_restore.new.socket worked.turns worked.are c.requires worked.follows
          (handover_turns_quiet c.args.self.now.socket.view.endpoint worked.turns worked.are) c.in_ok-reply.reply worked.answers.1 c.in_ok-keep_all.ensures,
    )
