use Rattle.std.proofs.Common.{◌≡◌, ◌∙◌, sym, ap, length, arith}
use Rattle.std.proofs.lemmas.List.{with_items_is}
use Rattle.dcsctp_spec_lemmas.specs.spec.endpoint.Event.{sent}
use Rattle.dcsctp_spec_lemmas.specs.wire.Spelling.{header_bytes, packet_bytes_of}
use Rattle.dcsctp_wire_build.specs.Checksums.{checksum_filled}
use Rattle.dcsctp_api.proofs.events.Entry.of.Goals as goal

pub returns-then-writes_checksum : goal.returns-then-writes_checksum
returns-then-writes_checksum c =
    let bytes = c.build_without_checksum.result in
    let packet = c.args.packet in
    let same_len : length (checksum_filled bytes.items) ≡ bytes.len = grind arith in
    ap sent
    (with_items_is bytes (checksum_filled bytes.items) same_len
    ∙ c.build_without_checksum.ensures.filled
    ∙ ap (λ with_checksum. packet_bytes_of with_checksum (header_bytes packet.source_port packet.destination_port packet.verification_tag) packet.body)
    (sym (sym c.writes_checksum.ensures ∙ c.if-writes_checksum.true)))
