use Rattle.std.proofs.Common.{◌≡◌, suc, ◌-◌, arith}
use Rattle.dcsctp_channel_world.proofs.Finding.{numbered_found}
use Rattle.dcsctp_channel_world.proofs.watched_end.packet_numbered.Goals as goal

pub returns : goal.returns
returns c =
    let found = c.get.ensures.lookup in
    let is : c.args.number ≡ suc (c.args.number - 1) = omega (arith, c.if-number-eq0.false) in
    numbered_found c.args.packets.now c.args.number (c.args.number - 1) c.get.result is found.0 found.1
