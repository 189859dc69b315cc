use Rattle.std.proofs.Common.{◌≡◌, false, List}
use Rattle.std.proofs.lemmas.Result.{err_from_is_err_and}
use Rattle.dcsctp_core.specs.spec.endpoint.CallTurns.{Transition}
use Rattle.dcsctp_core.specs.types.Snapshot.{snapshot, is_valid_snapshot}
use Rattle.dcsctp_world.specs.Outside.{ValidTurns, IsRestoredReply}
use Rattle.dcsctp_world.specs.Parts.{shown_side}
use Rattle.dcsctp_world.proofs.HandingOn.{not_restored_by}
use Rattle.dcsctp_world.proofs.Stopping.{call_fails}
use Rattle.dcsctp_world.proofs.Growing.{quiet_grows, quiet_stops}
use Rattle.dcsctp_world.proofs.QuietTurns.{restore_turns_quiet}
use Rattle.dcsctp_world.proofs.watched_socket.WatchedSocket.restore.Goals as goal

pub returns-in_err-reply : goal.returns-in_err-reply
returns-in_err-reply g c =
    let Turns : List Transition → Type 0 = ValidTurns c.args.self.now.socket.view.endpoint (snapshot c.args.state.now) in
    let p = err_from_is_err_and c.from_residual.result c.from_residual.ensures.1 in
    rw (p.1, p.2)
    (call_fails g.R.Rng.stream Turns (IsRestoredReply c.args.self.now.socket.view.endpoint (snapshot c.args.state.now)) (shown_side c.args.self.now) c.restore.new.socket _ c.in_err-reply.ensures)

pub returns-in_err-keep_all : goal.returns-in_err-keep_all
returns-in_err-keep_all g c =
    let Turns : List Transition → Type 0 = ValidTurns c.args.self.now.socket.view.endpoint (snapshot c.args.state.now) in
    let worked = c.in_ok-reply.ensures in
    let p = err_from_is_err_and c.from_residual-in_err-keep_all.result c.from_residual-in_err-keep_all.ensures.1 in
    rw (p.1, p.2) (
      worked.follows.runs,
      quiet_stops g.R.Rng.stream Turns (shown_side c.args.self.now) (shown_side c.keep_all.new.self) c.restore.new.socket worked.turns worked.are c.requires worked.follows
          (restore_turns_quiet c.args.self.now.socket.view.endpoint (snapshot c.args.state.now) worked.turns worked.are) c.in_err-keep_all.ensures,
    )

pub returns : goal.returns
returns g c =
    let Turns : List Transition → Type 0 = ValidTurns c.args.self.now.socket.view.endpoint (snapshot c.args.state.now) in
    let worked = c.in_ok-reply.ensures in (
      worked.answers.0,
      quiet_grows g.R.Rng.stream Turns (shown_side c.args.self.now) (shown_side c.keep_all.new.self) c.restore.new.socket worked.turns worked.are c.requires worked.follows
          (restore_turns_quiet c.args.self.now.socket.view.endpoint (snapshot c.args.state.now) worked.turns worked.are) c.in_ok-reply.reply worked.answers.1 c.in_ok-keep_all.ensures,
    )

pub returns-then-not-is_valid : goal.returns-then-not-is_valid
returns-then-not-is_valid g c =
    let is = c.is_valid.ensures in
    let no = c.if-not-is_valid.true in
    let options = c.options.ensures in
    let invalid : is_valid_snapshot c.args.self.now.socket.view.endpoint.options (snapshot c.args.state.now) ≡ false = cc in
    not_restored_by g.R.Rng.stream (shown_side c.args.self.now) (snapshot c.args.state.now) invalid c.requires
