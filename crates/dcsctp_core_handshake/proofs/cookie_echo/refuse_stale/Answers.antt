use Rattle.std.proofs.lemmas.Result.{err_from_is_err_and}
use Rattle.std.proofs.Common.{ap}
use Rattle.dcsctp_core.specs.View.{View, view_of}
use Rattle.dcsctp_core_handshake.proofs.StaleSteps.{tells_peer, untold, unsent}
use Rattle.dcsctp_core_handshake.proofs.cookie_echo.refuse_stale.Goals as goal

pub returns-in_err-refuse : goal.returns-in_err-refuse
returns-in_err-refuse g c =
    rw (err_from_is_err_and c.from_residual.result c.from_residual.ensures.1).1
    (untold (view_of c.args.context.now) c.args.tag _ (ap (λ (v : View g.row.R.Denot). v.events) c.in_err-refuse.ensures))

pub returns-in_err-send_stale_cookie : goal.returns-in_err-send_stale_cookie
returns-in_err-send_stale_cookie g c =
    rw (err_from_is_err_and c.from_residual-in_err-send_stale_cookie.result c.from_residual-in_err-send_stale_cookie.ensures.1).1
    (unsent g.R.Rng.stream (view_of c.args.context.now) (view_of c.refuse.new.context) c.args.tag _ c.if-tells_peer.true c.in_ok-refuse.ensures
    (ap (λ (v : View g.row.R.Denot). v.events) c.in_err-send_stale_cookie.ensures))

pub returns-in_ok-send_stale_cookie : goal.returns-in_ok-send_stale_cookie
returns-in_ok-send_stale_cookie g c =
    tells_peer g.R.Rng.stream (view_of c.args.context.now) (view_of c.refuse.new.context) (view_of c.send_stale_cookie.new.context) c.args.tag c.if-tells_peer.true
    c.in_ok-refuse.ensures c.in_ok-send_stale_cookie.ensures
