use Rattle.std.proofs.Common.{◌≡◌, List, refl}
use Rattle.std.proofs.lemmas.Result.{err_from_is_err_and}
use Rattle.dcsctp_core.specs.spec.endpoint.CallTurns.{Transition, HandleInput}
use Rattle.dcsctp_world.specs.declared.act.Reply.{Reply}
use Rattle.dcsctp_world.specs.declared.act.Reply.TheVariants.{Done}
use Rattle.dcsctp_world.specs.Parts.{shown_side}
use Rattle.dcsctp_world.proofs.Stopping.{input_fails}
use Rattle.dcsctp_world.proofs.Growing.{quiet_grows, quiet_stops}
use Rattle.dcsctp_world.proofs.QuietTurns.{input_quiet}
use Rattle.dcsctp_world.proofs.watched_socket.WatchedSocket.hand_in.Goals as goal

pub returns-in_err-handle_input : goal.returns-in_err-handle_input
returns-in_err-handle_input g c =
    let Turns : List Transition → Type 0 = HandleInput c.args.self.now.socket.view.endpoint c.args.bytes.now in
    let p = err_from_is_err_and c.from_residual.result c.from_residual.ensures.1 in
    rw (p.1, p.2)
    (input_fails g.R.Rng.stream Turns (λ (reply : Reply). reply ≡ Done) (shown_side c.args.self.now) c.handle_input.new.self c.args.bytes.now _ c.in_err-handle_input.ensures)

pub returns-in_err-keep_all : goal.returns-in_err-keep_all
returns-in_err-keep_all g c =
    let Turns : List Transition → Type 0 = HandleInput c.args.self.now.socket.view.endpoint c.args.bytes.now in
    let worked = c.in_ok-handle_input.ensures in
    let p = err_from_is_err_and c.from_residual-in_err-keep_all.result c.from_residual-in_err-keep_all.ensures.1 in
    rw (p.1, p.2) (
      worked.follows.runs,
      quiet_stops g.R.Rng.stream Turns (shown_side c.args.self.now) (shown_side c.keep_all.new.self) c.handle_input.new.self worked.turns worked.are c.requires worked.follows
          (input_quiet c.args.self.now.socket.view.endpoint c.args.bytes.now worked.turns worked.are) c.in_err-keep_all.ensures,
    )

pub returns : goal.returns
returns g c =
    let Turns : List Transition → Type 0 = HandleInput c.args.self.now.socket.view.endpoint c.args.bytes.now in
    let worked = c.in_ok-handle_input.ensures in (
      refl,
      quiet_grows g.R.Rng.stream Turns (shown_side c.args.self.now) (shown_side c.keep_all.new.self) c.handle_input.new.self worked.turns worked.are c.requires worked.follows
          (input_quiet c.args.self.now.socket.view.endpoint c.args.bytes.now worked.turns worked.are) Done tt c.in_ok-keep_all.ensures,
    )
