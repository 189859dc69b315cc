use Rattle.std.proofs.lemmas.Result.{err_from_is_err_and}
use Rattle.std.proofs.Common.{ap, refl, sym}
use Rattle.dcsctp_core.specs.View.{View, view_of, held_of}
use Rattle.dcsctp_core_handshake.proofs.RestartSteps.{ack_has_room, error_has_room, refusal_packet, refuses, refuses_cut, refusal_unmade}
use Rattle.dcsctp_core_handshake.proofs.cookie_echo.refuse_restart.Goals as goal

pub add-requires : goal.add-requires
add-requires g c = ack_has_room _ _ _ _ c.args.context.now.valid c.in_ok-packet.ensures

pub add-requires-2 : goal.add-requires-2
add-requires-2 g c = error_has_room _ _ _ _ _ _ c.args.context.now.valid c.in_ok-error.ensures c.in_ok-packet.ensures c.add.ensures

pub returns-in_err-packet : goal.returns-in_err-packet
returns-in_err-packet g c =
    rw (err_from_is_err_and c.from_residual-in_err-packet.result c.from_residual-in_err-packet.ensures.1).1
    (refusal_unmade (view_of c.args.context.now) _ refl)

pub returns-in_err-error : goal.returns-in_err-error
returns-in_err-error g c =
    rw (err_from_is_err_and c.from_residual-in_err-error.result c.from_residual-in_err-error.ensures.1).1
    (refusal_unmade (view_of c.args.context.now) _ refl)

pub returns-in_err-report : goal.returns-in_err-report
returns-in_err-report g c =
    let old = c.args.context.now in
    let tcb = c.in-Some.tcb.now in
    rw (err_from_is_err_and c.from_residual-in_err-report.result c.from_residual-in_err-report.ensures.1).1
    (refuses_cut old tcb (view_of c.send_unless_empty.new.self) _ c.add-2.new.self _ c.in-Some.ensures
    (refusal_packet old.options (held_of tcb) _ c.in_ok-packet.packet c.add.new.self c.add-2.new.self c.in_ok-error.ensures c.in_ok-packet.ensures c.add.ensures c.add-2.ensures)
    c.in_ok-send_unless_empty.ensures.sends.0 c.in_ok-send_unless_empty.ensures.sends.1 (ap (λ (v : View g.row.R.Denot). v.events) c.in_err-report.ensures))

pub returns : goal.returns
returns g c =
    let old = c.args.context.now in
    let tcb = c.in-Some.tcb.now in
    refuses g.R.Rng.stream old tcb (view_of c.send_unless_empty.new.self) _ c.add-2.new.self _ c.in-Some.ensures
    (refusal_packet old.options (held_of tcb) _ c.in_ok-packet.packet c.add.new.self c.add-2.new.self c.in_ok-error.ensures c.in_ok-packet.ensures c.add.ensures c.add-2.ensures)
    c.in_ok-send_unless_empty.ensures.sends.0 c.in_ok-send_unless_empty.ensures.sends.1 (rw (sym c.in_ok-text.ensures.ok) c.in_ok-report.ensures)

pub returns-in_err-send_unless_empty : goal.returns-in_err-send_unless_empty
returns-in_err-send_unless_empty g c =
    rw (err_from_is_err_and c.from_residual-in_err-send_unless_empty.result c.from_residual-in_err-send_unless_empty.ensures.1).1
    (refusal_unmade (view_of c.args.context.now) _ (ap (λ (v : View g.row.R.Denot). v.events) c.in_err-send_unless_empty.ensures.sends))
