use Rattle.std.proofs.Common.{sym, ◌∙◌}
use Rattle.dcsctp_core.specs.api.Cookie.{cookie_of}
use Rattle.dcsctp_core.specs.View.{view_of}
use Rattle.dcsctp_core_handshake.proofs.RestartSteps.{restarts_anew}
use Rattle.dcsctp_core_handshake.proofs.cookie_echo.restart_where_open.Goals as goal

pub returns : goal.returns
returns g c =
    restarts_anew g.R.Rng.stream (view_of c.args.context.now) (view_of c.restart.new.context) (cookie_of c.args.cookie.now)
    (sym c.awaits_complete.ensures ∙ c.if-awaits_complete.false) c.in_ok-restart.ensures
