use Rattle.std.proofs.Common.{◌≡◌, true, not, drop, map, sym, ◌∙◌, arith}
use Rattle.std.specs.List.{list_any}
use Rattle.std.proofs.lemmas.List.{take_rest}
use Rattle.std.proofs.lemmas.Result.{err_from_is_err_and}
use Rattle.dcsctp_wire.specs.Content.{chunk_content}
use Rattle.dcsctp_wire.specs.Format.{IsReadByHeader}
use Rattle.dcsctp_wire.proofs.Items.{same_items}
use Rattle.dcsctp_wire.proofs.Chunks.{one_chunk}
use Rattle.dcsctp_wire.proofs.Packets.{is_echo, echo_in_front, found_in_front}
use Rattle.dcsctp_wire.proofs.packet.SctpPacket.from_bytes.Goals as goal

pub returns-in_err-chunks-clause-malformed : goal.returns-in_err-chunks-clause-malformed
returns-in_err-chunks-clause-malformed c = λ is packet h.
    let returned = err_from_is_err_and c.from_residual.result c.from_residual.ensures.1 in
    c.in_err-chunks.ensures.malformed (cc (returned.1, returned.2, is)) packet.chunks (rw (take_rest c.args.bytes.now 12) h.chunks)

pub returns-then-not-has_no_late_echo-clause-malformed : goal.returns-then-not-has_no_late_echo-clause-malformed
returns-then-not-has_no_late_echo-clause-malformed c = λ _ packet h.
    let chunks = c.in_ok-chunks.chunks.items in
    let same : packet.chunks ≡ map chunk_content chunks = same_items IsReadByHeader one_chunk packet.chunks (map chunk_content chunks) (drop 12 c.args.bytes.now) h.chunks (rw (take_rest c.args.bytes.now 12) at c.in_ok-chunks.ensures.found) in
    let none = found_in_front chunks packet.chunks same h.echo_in_front in
    cc (c.has_no_late_echo.ensures, c.if-not-has_no_late_echo.true, none)

pub returns-clause-found : goal.returns-clause-found
returns-clause-found c =
    let chunks = c.in_ok-chunks.chunks.items in
    let in_front : not (list_any is_echo (drop 1 chunks)) ≡ true = cc (c.has_no_late_echo.ensures, c.if-not-has_no_late_echo.false) in
    record {
      long_enough = omega arith;
      source_port = c.u16_at.ensures;
      destination_port = c.u16_at-2.ensures;
      verification_tag = c.u32_at.ensures;
      to_this_port = c.if-common_header-options.false;
      checked = sym c.is_checksum_accepted.ensures ∙ c.if-not-is_checksum_accepted.false;
      chunks = rw (take_rest c.args.bytes.now 12) at c.in_ok-chunks.ensures.found;
      echo_in_front = echo_in_front chunks in_front;
    }
