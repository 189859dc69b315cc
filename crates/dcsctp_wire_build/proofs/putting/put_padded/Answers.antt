use Rattle.std.proofs.Common.{◌+◌, length}
use Rattle.dcsctp_wire.specs.Format.{padding_of}
use Rattle.dcsctp_wire.specs.Spelling.{zeros}
use Rattle.dcsctp_wire_build.proofs.Appending.{three_put}
use Rattle.dcsctp_wire_build.proofs.putting.put_padded.Goals as goal

pub returns-clause-items : goal.returns-clause-items
returns-clause-items c =
    let front = c.args.front.now in
    let value = c.args.value.now in
    three_put c.args.out.now.items front value (zeros (padding_of (length front + length value))) c.put.new.out.items c.put-2.new.out.items c.put_padding.new.out.items c.put.ensures.items c.put-2.ensures.items c.put_padding.ensures.items
