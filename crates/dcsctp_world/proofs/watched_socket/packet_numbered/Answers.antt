use Rattle.std.proofs.Common.{◌≡◌, suc, ◌-◌, arith}
use Rattle.dcsctp_world.proofs.Keeping.{numbered_found}
use Rattle.dcsctp_world.proofs.watched_socket.packet_numbered.Goals as goal

pub returns : goal.returns
returns c =
    let found = c.get.ensures.lookup in
    let is : c.args.number ≡ suc (c.args.number - 1) = omega (arith, c.if-number-eq0.false) in
    numbered_found c.args.packets.now c.args.number (c.args.number - 1) c.get.result is found.0 found.1
