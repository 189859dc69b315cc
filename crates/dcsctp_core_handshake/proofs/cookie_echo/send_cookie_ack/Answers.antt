use Rattle.std.proofs.lemmas.Result.{err_from_is_err_and}
use Rattle.dcsctp_core.specs.View.{view_of, held_of}
use Rattle.dcsctp_core_handshake.specs.Echoes.{cookie_ack_to}
use Rattle.dcsctp_core_handshake.proofs.AckSteps.{ack_fits, ack_packet, held_by_tcb, ack_unmade, ack_no_peer, ack_done, ack_cut}
use Rattle.dcsctp_core_handshake.proofs.cookie_echo.send_cookie_ack.Goals as goal

pub add-requires : goal.add-requires
add-requires g c = ack_fits _ _ _ _ c.args.context.now.valid c.in_ok-packet.ensures

pub returns-in_err-packet : goal.returns-in_err-packet
returns-in_err-packet g c =
    rw (err_from_is_err_and c.from_residual.result c.from_residual.ensures.1).1
    (ack_unmade c.args.context.now)

pub returns-in_err-send_buffered_packets_with : goal.returns-in_err-send_buffered_packets_with
returns-in_err-send_buffered_packets_with g c =
    let old = c.args.context.now in
    let tcb = c.in-Some.tcb.now in
    rw (err_from_is_err_and c.from_residual-in_err-send_buffered_packets_with.result c.from_residual-in_err-send_buffered_packets_with.ensures.1).1
    (ack_cut old tcb (view_of c.send_buffered_packets_with.new.self).events c.in-Some.ensures
    (c.in_err-send_buffered_packets_with.ensures (cookie_ack_to (held_of tcb)) (ack_packet old.options (held_of tcb) c.in_ok-packet.packet c.add.new.self c.in_ok-packet.ensures c.add.ensures)
    (held_of tcb) (held_by_tcb old.state tcb c.in-Some.ensures)))

pub returns-in_default : goal.returns-in_default
returns-in_default g c = ack_no_peer g.R.Rng.stream c.args.context.now c.in_default.ensures

pub returns : goal.returns
returns g c =
    let old = c.args.context.now in
    let tcb = c.in-Some.tcb.now in
    ack_done g.R.Rng.stream old tcb (view_of c.send_buffered_packets_with.new.self) c.in-Some.ensures
    (c.in_ok-send_buffered_packets_with.ensures (cookie_ack_to (held_of tcb)) (ack_packet old.options (held_of tcb) c.in_ok-packet.packet c.add.new.self c.in_ok-packet.ensures c.add.ensures)
    (held_of tcb) (held_by_tcb old.state tcb c.in-Some.ensures))
