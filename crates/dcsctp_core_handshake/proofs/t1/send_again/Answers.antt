use Rattle.std.proofs.lemmas.Result.{err_from_is_err_and}
use Rattle.std.proofs.Common.{ap, refl}
use Rattle.dcsctp_core.specs.spec.endpoint.Endpoint.{closed, open_in}
use Rattle.dcsctp_core.specs.View.{core_of, view_of, held_of, phase_of_open}
use Rattle.dcsctp_core_handshake.proofs.T1Steps.{again_nothing, again_init, again_init_cut, again_echo, again_echo_cut}
use Rattle.dcsctp_core_handshake.proofs.t1.send_again.Goals as goal

pub returns-in_err-send_init-in-CookieWait : goal.returns-in_err-send_init-in-CookieWait
returns-in_err-send_init-in-CookieWait g c =
    rw (err_from_is_err_and c.from_residual.result c.from_residual.ensures.1).1
    (again_init_cut (view_of c.args.context.now) _ c.in-CookieWait.wait.my (ap core_of c.in-CookieWait.is) c.in_err-send_init-in-CookieWait.ensures)

pub returns-in_ok-send_init-in-CookieWait : goal.returns-in_ok-send_init-in-CookieWait
returns-in_ok-send_init-in-CookieWait g c =
    again_init g.R.Rng.stream (view_of c.args.context.now) _ c.in-CookieWait.wait.my (ap core_of c.in-CookieWait.is) c.in_ok-send_init-in-CookieWait.ensures

pub returns-in_err-send_cookie_echo-in-CookieEchoed : goal.returns-in_err-send_cookie_echo-in-CookieEchoed
returns-in_err-send_cookie_echo-in-CookieEchoed g c =
    let echoed = c.in-CookieEchoed.field-0 in
    rw (err_from_is_err_and c.from_residual-in_err-send_cookie_echo-in-CookieEchoed.result c.from_residual-in_err-send_cookie_echo-in-CookieEchoed.ensures.1).1
    (again_echo_cut _ _ echoed.tcb.my (held_of echoed.tcb) echoed.cookie.items (ap core_of c.in-CookieEchoed.is) c.in_err-send_cookie_echo-in-CookieEchoed.ensures)

pub returns-in_ok-send_cookie_echo-in-CookieEchoed : goal.returns-in_ok-send_cookie_echo-in-CookieEchoed
returns-in_ok-send_cookie_echo-in-CookieEchoed g c =
    let echoed = c.in-CookieEchoed.field-0 in
    again_echo g.R.Rng.stream _ _ echoed.tcb.my (held_of echoed.tcb) echoed.cookie.items (ap core_of c.in-CookieEchoed.is) c.in_ok-send_cookie_echo-in-CookieEchoed.ensures

pub returns-in-Closed : goal.returns-in-Closed
returns-in-Closed g c = again_nothing g.R.Rng.stream _ closed (ap core_of c.in-Closed.is) refl refl

pub returns-in-Open : goal.returns-in-Open
returns-in-Open g c =
    let opened = c.in-Open.field-0 in
    again_nothing g.R.Rng.stream _ (open_in (phase_of_open opened.phase) opened.tcb.my (held_of opened.tcb)) (ap core_of c.in-Open.is) refl refl
