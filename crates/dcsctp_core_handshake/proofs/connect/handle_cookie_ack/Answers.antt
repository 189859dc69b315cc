use Rattle.std.proofs.lemmas.Result.{err_from_is_err_and}
use Rattle.std.proofs.Common.{ap, map, refl}
use Rattle.dcsctp_core.specs.api.Events.{event_content}
use Rattle.dcsctp_core.specs.spec.endpoint.Endpoint.{closed, cookie_wait, open_in}
use Rattle.dcsctp_core.specs.View.{core_of, view_of, held_of, phase_of_open}
use Rattle.dcsctp_core_handshake.proofs.MaintainSteps.{connected_view, cookie_acked, cookie_acked_cut, cookie_ack_unmade, cookie_ack_none}
use Rattle.dcsctp_core_handshake.proofs.connect.handle_cookie_ack.Goals as goal

pub returns-in_err-add-in-CookieEchoed : goal.returns-in_err-add-in-CookieEchoed
returns-in_err-add-in-CookieEchoed g c =
    let echoed = c.in-CookieEchoed.field-0 in
    rw (err_from_is_err_and c.from_residual.result c.from_residual.ensures.1).1
    (cookie_ack_unmade _ _ echoed.tcb.my (held_of echoed.tcb) echoed.cookie.items (ap core_of c.in-CookieEchoed.is) (ap (map event_content) c.in_err-add-in-CookieEchoed.ensures.err))

pub returns-in_err-send_buffered_packets-in-CookieEchoed :
    goal.returns-in_err-send_buffered_packets-in-CookieEchoed
returns-in_err-send_buffered_packets-in-CookieEchoed g c =
    let old = c.args.context.now in
    let echoed = c.in-CookieEchoed.field-0 in
    rw (err_from_is_err_and c.from_residual-in_err-send_buffered_packets-in-CookieEchoed.result c.from_residual-in_err-send_buffered_packets-in-CookieEchoed.ensures.1).1
    (cookie_acked_cut (view_of old) (view_of c.start_heartbeat_interval.new.self) _ echoed.tcb.my (held_of echoed.tcb) echoed.cookie.items (ap core_of c.in-CookieEchoed.is)
    (connected_view old c.add.new.self c.establish.new.self echoed (view_of c.start_heartbeat_interval.new.self) c.in-CookieEchoed.is c.in_ok-add-in-CookieEchoed.ensures.ok c.establish.ensures c.start_heartbeat_interval.ensures)
    c.in_err-send_buffered_packets-in-CookieEchoed.ensures)

pub returns-in_ok-send_buffered_packets-in-CookieEchoed :
    goal.returns-in_ok-send_buffered_packets-in-CookieEchoed
returns-in_ok-send_buffered_packets-in-CookieEchoed g c =
    let old = c.args.context.now in
    let echoed = c.in-CookieEchoed.field-0 in
    cookie_acked g.R.Rng.stream (view_of old) (view_of c.start_heartbeat_interval.new.self) _ echoed.tcb.my (held_of echoed.tcb) echoed.cookie.items (ap core_of c.in-CookieEchoed.is)
    (connected_view old c.add.new.self c.establish.new.self echoed (view_of c.start_heartbeat_interval.new.self) c.in-CookieEchoed.is c.in_ok-add-in-CookieEchoed.ensures.ok c.establish.ensures c.start_heartbeat_interval.ensures)
    c.in_ok-send_buffered_packets-in-CookieEchoed.ensures

pub returns-in-Closed : goal.returns-in-Closed
returns-in-Closed g c = cookie_ack_none g.R.Rng.stream _ closed (ap core_of c.in-Closed.is) refl refl

pub returns-in-CookieWait : goal.returns-in-CookieWait
returns-in-CookieWait g c = cookie_ack_none g.R.Rng.stream _ (cookie_wait c.in-CookieWait.field-0.my) (ap core_of c.in-CookieWait.is) refl refl

pub returns-in-Open : goal.returns-in-Open
returns-in-Open g c =
    let opened = c.in-Open.field-0 in
    cookie_ack_none g.R.Rng.stream _ (open_in (phase_of_open opened.phase) opened.tcb.my (held_of opened.tcb)) (ap core_of c.in-Open.is) refl refl
