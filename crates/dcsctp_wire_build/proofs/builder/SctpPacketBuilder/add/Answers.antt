use Rattle.std.proofs.Common.{length, drop, ap, ◌∙◌, refl, length-append, length-drop, arith}
use Rattle.std.proofs.lemmas.List.{drop-append-le}
use Rattle.dcsctp_wire.specs.Content.{chunk_content}
use Rattle.dcsctp_wire.specs.Spelling.{header_bytes, chunk_bytes}
use Rattle.dcsctp_wire_build.proofs.BuiltPackets.{front_stays}
use Rattle.dcsctp_wire_build.proofs.builder.SctpPacketBuilder.add.Goals as goal

pub invariant_of-self : goal.invariant_of-self
invariant_of-self c =
    let inside = c.self.inside in
    let header = inside.header in
    let more = chunk_bytes (chunk_content c.args.chunk.now) in
    let room = rw (← c.self.view_is) at c.requires in
    let len = ap length c.put_chunk.ensures.items ∙ length-append inside.bytes.items more in
    record {
      front = front_stays (header_bytes header.source_port header.destination_port header.verification_tag) inside.bytes.items more c.put_chunk.new.out.items c.self.invariant.front c.self.invariant.long_enough c.put_chunk.ensures.items;
      long_enough = omega (arith, len);
      within = omega (arith, len, room, length-drop 12 inside.bytes.items);
      fits = omega arith;
      allocated = omega arith;
    }

pub returns : goal.returns
returns c =
    let more = chunk_bytes (chunk_content c.args.chunk.now) in
    let body = ap (drop 12) c.put_chunk.ensures.items ∙ drop-append-le 12 c.self.inside.bytes.items more c.self.invariant.long_enough in
    rw (← c.self.view_is) (rw body refl)
