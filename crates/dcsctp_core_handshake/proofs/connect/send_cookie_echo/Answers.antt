use Rattle.std.proofs.Common.{◌≡◌, ◌≤◌, ◌<◌, ◌+◌, length, ℕ, true, List, ◌++◌, refl, sym, ap, subst, ◌∙◌, arith}
use Rattle.std.proofs.lemmas.Result.{err_from_is_err_and}
use Rattle.std.proofs.lemmas.List.{append-nil}
use Rattle.dcsctp_core.specs.wire_build.Building.{Building}
use Rattle.dcsctp_core.specs.wire.Content.{cookie_echo_chunk}
use Rattle.dcsctp_core.specs.wire.Spelling.{chunk_bytes}
use Rattle.dcsctp_core.specs.types.Settings.{packet_size_limit}
use Rattle.dcsctp_core.specs.spec.endpoint.HandshakeOutcomes.{echo_emission}
use Rattle.dcsctp_core.specs.declared.context.Context.{Context}
use Rattle.dcsctp_core.specs.Handling.{TakesPossibleTurn}
use Rattle.dcsctp_core.specs.View.{core_of, held_of, endpoint_of, view_of}
use Rattle.dcsctp_core.specs.Flushing.{packet_for, empty_packet}
use Rattle.dcsctp_core_handshake.specs.Handshake.{EchoesCookie}
use Rattle.dcsctp_core_handshake.proofs.InitAckSteps.{echoes_elsewhere, fit_is, unfit_is, echoes_unfit, echoes_flush, echoes_cut, echo_unmade}
use Rattle.dcsctp_core_handshake.proofs.AckSteps.{held_is_echoed}
use Rattle.dcsctp_core_handshake.proofs.connect.send_cookie_echo.Goals as goal
use Rattle.dcsctp_core_handshake.proofs.connect.send_cookie_echo.Goals.{in-Init-1, in-InitAck-1, in-HeartbeatRequest-1, in-HeartbeatAck-1, in-Abort-1, in-Error-1, in-ReConfig-1, in-Data-1}

pub returns-in_default : goal.returns-in_default
returns-in_default g c = echoes_elsewhere g.R.Rng.stream c.args.context.now (λ echoed is. c.in_default.not-CookieEchoed echoed is)

pub returns-in_err-packet : goal.returns-in_err-packet
returns-in_err-packet g c =
    rw (err_from_is_err_and c.from_residual.result c.from_residual.ensures.1).1
    (echo_unmade (view_of c.args.context.now) _ refl)

pub returns-in_err-send_buffered_packets_with : goal.returns-in_err-send_buffered_packets_with
returns-in_err-send_buffered_packets_with g c =
    let old = c.args.context.now in
    let e = endpoint_of old in
    let echoed = c.in-CookieEchoed.echoed in
    let held = held_of echoed.tcb in
    let made : c.write_checksum-packet.result ≡ empty_packet old.options true echoed.tcb.peer.tag = c.write_checksum-packet.ensures ∙ ap (λ (b : Building). record b { with_checksum = true }) c.in_ok-packet.ensures in
    let bytes = chunk_bytes (cookie_echo_chunk echoed.cookie.items) in
    let within : 12 + length bytes ≤ packet_size_limit old.options =
    omega (
      arith,
      ap (λ (b : Building). b.size) made,
      ap (λ (b : Building). length b.body) made,
      c.bytes_remaining.ensures.value,
      c.bytes_remaining.ensures.within,
      c.serialized_size.ensures,
      ap (λ (cookie : List ℕ). length (chunk_bytes (cookie_echo_chunk cookie))) c.deref.ensures.value,
      c.if-bytes_remaining-serialized_size.false,
    ) in
    let built : c.add.new.self ≡ packet_for old.options (echo_emission echoed.tcb.peer.tag echoed.cookie.items) =
    c.add.ensures
    ∙ ap (λ (cookie : List ℕ). record c.write_checksum-packet.result { body = c.write_checksum-packet.result.body ++ chunk_bytes (cookie_echo_chunk cookie) }) c.deref.ensures.value
    ∙ ap (λ (b : Building). record b { body = b.body ++ bytes }) made
    ∙ ap (λ (body : List ℕ). record (empty_packet old.options true echoed.tcb.peer.tag) { body = body }) (sym (append-nil bytes)) in
    rw (err_from_is_err_and c.from_residual-in_err-send_buffered_packets_with.result c.from_residual-in_err-send_buffered_packets_with.ensures.1).1
    (echoes_cut (view_of old) _ echoed.tcb.my held echoed.cookie.items (ap core_of c.in-CookieEchoed.is) (fit_is e echoed.tcb.peer.tag echoed.cookie.items within)
    (c.in_err-send_buffered_packets_with.ensures (echo_emission echoed.tcb.peer.tag echoed.cookie.items) built held (held_is_echoed old.state echoed c.in-CookieEchoed.is)))

pub returns-then-bytes_remaining-serialized_size : goal.returns-then-bytes_remaining-serialized_size
returns-then-bytes_remaining-serialized_size g c =
    let old = c.args.context.now in
    let echoed = c.in-CookieEchoed.echoed in
    let made : c.write_checksum-packet.result ≡ empty_packet old.options true echoed.tcb.peer.tag = c.write_checksum-packet.ensures ∙ ap (λ (b : Building). record b { with_checksum = true }) c.in_ok-packet.ensures in
    let bytes = chunk_bytes (cookie_echo_chunk echoed.cookie.items) in
    let beyond : packet_size_limit old.options < 12 + length bytes =
    omega (
      arith,
      ap (λ (b : Building). b.size) made,
      ap (λ (b : Building). length b.body) made,
      c.bytes_remaining.ensures.value,
      c.bytes_remaining.ensures.within,
      c.serialized_size.ensures,
      ap (λ (cookie : List ℕ). length (chunk_bytes (cookie_echo_chunk cookie))) c.deref.ensures.value,
      c.if-bytes_remaining-serialized_size.true,
    ) in
    let same : view_of c.match-chunk.context ≡ view_of old =
    elim c.match-chunk.branch [ in-Init-1 w ↦ ap (λ (x : Context g.row.R.Denot). view_of x) w.context-is | in-InitAck-1 w ↦ ap (λ (x : Context g.row.R.Denot). view_of x) w.context-is | in-HeartbeatRequest-1 w ↦ ap (λ (x : Context g.row.R.Denot). view_of x) w.context-is | in-HeartbeatAck-1 w ↦ ap (λ (x : Context g.row.R.Denot). view_of x) w.context-is | in-Abort-1 w ↦ ap (λ (x : Context g.row.R.Denot). view_of x) w.context-is | in-Error-1 w ↦ ap (λ (x : Context g.row.R.Denot). view_of x) w.context-is | in-ReConfig-1 w ↦ ap (λ (x : Context g.row.R.Denot). view_of x) w.context-is | in-Data-1 w ↦ ap (λ (x : Context g.row.R.Denot). view_of x) w.context-is ] in
    subst (TakesPossibleTurn g.R.Rng.stream EchoesCookie (view_of old)) (sym same)
    (echoes_unfit g.R.Rng.stream (view_of old) echoed.tcb.my (held_of echoed.tcb) echoed.cookie.items (ap core_of c.in-CookieEchoed.is) (unfit_is (endpoint_of old) echoed.tcb.peer.tag echoed.cookie.items beyond))

pub returns : goal.returns
returns g c =
    let old = c.args.context.now in
    let e = endpoint_of old in
    let echoed = c.in-CookieEchoed.echoed in
    let held = held_of echoed.tcb in
    let made : c.write_checksum-packet.result ≡ empty_packet old.options true echoed.tcb.peer.tag = c.write_checksum-packet.ensures ∙ ap (λ (b : Building). record b { with_checksum = true }) c.in_ok-packet.ensures in
    let bytes = chunk_bytes (cookie_echo_chunk echoed.cookie.items) in
    let within : 12 + length bytes ≤ packet_size_limit old.options =
    omega (
      arith,
      ap (λ (b : Building). b.size) made,
      ap (λ (b : Building). length b.body) made,
      c.bytes_remaining.ensures.value,
      c.bytes_remaining.ensures.within,
      c.serialized_size.ensures,
      ap (λ (cookie : List ℕ). length (chunk_bytes (cookie_echo_chunk cookie))) c.deref.ensures.value,
      c.if-bytes_remaining-serialized_size.false,
    ) in
    let built : c.add.new.self ≡ packet_for old.options (echo_emission echoed.tcb.peer.tag echoed.cookie.items) =
    c.add.ensures
    ∙ ap (λ (cookie : List ℕ). record c.write_checksum-packet.result { body = c.write_checksum-packet.result.body ++ chunk_bytes (cookie_echo_chunk cookie) }) c.deref.ensures.value
    ∙ ap (λ (b : Building). record b { body = b.body ++ bytes }) made
    ∙ ap (λ (body : List ℕ). record (empty_packet old.options true echoed.tcb.peer.tag) { body = body }) (sym (append-nil bytes)) in
    echoes_flush g.R.Rng.stream (view_of old) _ echoed.tcb.my held echoed.cookie.items (ap core_of c.in-CookieEchoed.is) (fit_is e echoed.tcb.peer.tag echoed.cookie.items within)
    (c.in_ok-send_buffered_packets_with.ensures (echo_emission echoed.tcb.peer.tag echoed.cookie.items) built held (held_is_echoed old.state echoed c.in-CookieEchoed.is))
