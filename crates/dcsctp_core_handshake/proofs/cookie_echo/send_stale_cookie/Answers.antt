use Rattle.std.proofs.Common.{rules}
use Rattle.dcsctp_core.specs.View.{view_of}
use Rattle.dcsctp_core_handshake.proofs.StaleSteps.{error_moves}
use Rattle.dcsctp_core_handshake.proofs.cookie_echo.send_stale_cookie.Goals as goal

pub returns : goal.returns
returns g c =
    error_moves g.R.Rng.stream (view_of c.args.context.now) (view_of c.emit.new.self) c.args.tag (search rules)
