use Rattle.std.proofs.lemmas.Result.{err_from_is_err_and}
use Rattle.std.proofs.Common.{ap, map, refl}
use Rattle.dcsctp_core.specs.api.Events.{event_content}
use Rattle.dcsctp_core.specs.spec.endpoint.Endpoint.{closed, cookie_wait}
use Rattle.dcsctp_core.specs.View.{core_of, view_of, held_of, phase_of_open}
use Rattle.dcsctp_core_handshake.proofs.MaintainSteps.{connected_view, maintains, maintains_cut, maintain_unmade, maintains_open, maintains_open_cut, maintains_none}
use Rattle.dcsctp_core_handshake.proofs.cookie_echo.maintain.Goals as goal

pub returns-in_err-add-in-CookieEchoed : goal.returns-in_err-add-in-CookieEchoed
returns-in_err-add-in-CookieEchoed g c =
    let echoed = c.in-CookieEchoed.field-0 in
    rw (err_from_is_err_and c.from_residual.result c.from_residual.ensures.1).1
    (maintain_unmade _ _ echoed.tcb.my (held_of echoed.tcb) echoed.cookie.items (ap core_of c.in-CookieEchoed.is) (ap (map event_content) c.in_err-add-in-CookieEchoed.ensures.err))

pub returns-in_err-send_cookie_ack-in-CookieEchoed :
    goal.returns-in_err-send_cookie_ack-in-CookieEchoed
returns-in_err-send_cookie_ack-in-CookieEchoed g c =
    let old = c.args.context.now in
    let echoed = c.in-CookieEchoed.field-0 in
    rw (err_from_is_err_and c.from_residual-in_err-send_cookie_ack-in-CookieEchoed.result c.from_residual-in_err-send_cookie_ack-in-CookieEchoed.ensures.1).1
    (maintains_cut (view_of old) (view_of c.start_heartbeat_interval.new.self) _ echoed.tcb.my (held_of echoed.tcb) echoed.cookie.items (ap core_of c.in-CookieEchoed.is)
    (connected_view old c.add.new.self c.establish.new.self echoed (view_of c.start_heartbeat_interval.new.self) c.in-CookieEchoed.is c.in_ok-add-in-CookieEchoed.ensures.ok c.establish.ensures c.start_heartbeat_interval.ensures)
    c.in_err-send_cookie_ack-in-CookieEchoed.ensures)

pub returns-in_ok-send_cookie_ack-in-CookieEchoed :
    goal.returns-in_ok-send_cookie_ack-in-CookieEchoed
returns-in_ok-send_cookie_ack-in-CookieEchoed g c =
    let old = c.args.context.now in
    let echoed = c.in-CookieEchoed.field-0 in
    maintains g.R.Rng.stream (view_of old) (view_of c.start_heartbeat_interval.new.self) _ echoed.tcb.my (held_of echoed.tcb) echoed.cookie.items (ap core_of c.in-CookieEchoed.is)
    (connected_view old c.add.new.self c.establish.new.self echoed (view_of c.start_heartbeat_interval.new.self) c.in-CookieEchoed.is c.in_ok-add-in-CookieEchoed.ensures.ok c.establish.ensures c.start_heartbeat_interval.ensures)
    c.in_ok-send_cookie_ack-in-CookieEchoed.ensures

pub returns-in_err-send_cookie_ack-in-Open :
    goal.returns-in_err-send_cookie_ack-in-Open
returns-in_err-send_cookie_ack-in-Open g c =
    let opened = c.in-Open.field-0 in
    rw (err_from_is_err_and c.from_residual-in_err-send_cookie_ack-in-Open.result c.from_residual-in_err-send_cookie_ack-in-Open.ensures.1).1
    (maintains_open_cut _ _ (phase_of_open opened.phase) opened.tcb.my (held_of opened.tcb) (ap core_of c.in-Open.is) c.in_err-send_cookie_ack-in-Open.ensures)

pub returns-in_ok-send_cookie_ack-in-Open :
    goal.returns-in_ok-send_cookie_ack-in-Open
returns-in_ok-send_cookie_ack-in-Open g c =
    let opened = c.in-Open.field-0 in
    maintains_open g.R.Rng.stream _ _ (phase_of_open opened.phase) opened.tcb.my (held_of opened.tcb) (ap core_of c.in-Open.is) c.in_ok-send_cookie_ack-in-Open.ensures

pub returns-in-Closed : goal.returns-in-Closed
returns-in-Closed g c = maintains_none g.R.Rng.stream _ closed (ap core_of c.in-Closed.is) refl refl

pub returns-in-CookieWait : goal.returns-in-CookieWait
returns-in-CookieWait g c = maintains_none g.R.Rng.stream _ (cookie_wait c.in-CookieWait.field-0.my) (ap core_of c.in-CookieWait.is) refl refl
