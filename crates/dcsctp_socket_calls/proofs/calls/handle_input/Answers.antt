use Rattle.std.proofs.lemmas.Result.{err_from_is_err_and}
use Rattle.std.proofs.Common.{ap, ◌∙◌, Err, refl, string_bytes}
use Rattle.dcsctp_core.specs.wire.declared.packet.PacketError.{PacketError}
use Rattle.dcsctp_core.specs.wire.Content.{packet_content}
use Rattle.dcsctp_core.specs.spec.endpoint.Endpoint.{Endpoint}
use Rattle.dcsctp_core.specs.types.Settings.{wire_options}
use Rattle.dcsctp_core.specs.View.{View, view_of}
use Rattle.dcsctp_socket_calls.proofs.CallLemmas.{readable_input, unreadable_input, packet_cut, unread_cut, counted_events}
use Rattle.dcsctp_socket_calls.proofs.calls.handle_input.Goals as goal

pub returns-in_ok-handle_packet-in-Ok : goal.returns-in_ok-handle_packet-in-Ok
returns-in_ok-handle_packet-in-Ok g c = (
  tt,
  readable_input g.R.Rng.stream (view_of c.args.context.now) (view_of c.begin_call.new.self) (view_of c.count_packet.new.self) (view_of c.handle_packet.new.context)
      c.args.packet.now (packet_content c.in-Ok.packet) (wire_options c.count_packet.new.self.options)
      c.begin_call.ensures c.count_packet.ensures refl
      c.in-Ok.ensures.found (ap (λ (e : Endpoint). e.core) c.count_packet.ensures.endpoint) c.in_ok-handle_packet-in-Ok.ensures,
)

pub returns-in_ok-report-in-Err-Malformed : goal.returns-in_ok-report-in-Err-Malformed
returns-in_ok-report-in-Err-Malformed g c = (
  tt,
  unreadable_input g.R.Rng.stream (view_of c.args.context.now) (view_of c.begin_call.new.self) (view_of c.count_packet.new.self) (view_of c.report.new.self)
      c.args.packet.now (wire_options c.count_packet.new.self.options) (string_bytes c.in_ok-text-in-Err-Malformed.text)
      c.begin_call.ensures c.count_packet.ensures refl
      (c.in-Err-Malformed.ensures.malformed (ap (λ (e : PacketError). Err e) c.in-Err-Malformed.field-0-is)) c.in_ok-text-in-Err-Malformed.ensures.ok c.in_ok-report-in-Err-Malformed.ensures,
)

pub returns-in_err-handle_packet-in-Ok : goal.returns-in_err-handle_packet-in-Ok
returns-in_err-handle_packet-in-Ok g c =
    rw (err_from_is_err_and c.from_residual.result c.from_residual.ensures.1).1
    (packet_cut g.R.Rng.stream (view_of c.args.context.now) (view_of c.begin_call.new.self) (view_of c.count_packet.new.self)
    c.args.packet.now (packet_content c.in-Ok.packet) (wire_options c.count_packet.new.self.options) _
    c.begin_call.ensures c.count_packet.ensures refl
    c.in-Ok.ensures.found (ap (λ (e : Endpoint). e.core) c.count_packet.ensures.endpoint) c.in_err-handle_packet-in-Ok.ensures)

-- Before the packet was known to be one, no event was added.
pub returns-in_err-text-in-Err-Malformed : goal.returns-in_err-text-in-Err-Malformed
returns-in_err-text-in-Err-Malformed g c =
    let old = view_of c.args.context.now in
    rw (err_from_is_err_and c.from_residual-in_err-text-in-Err-Malformed.result c.from_residual-in_err-text-in-Err-Malformed.ensures.1).1
    (unread_cut old c.args.packet.now _ (counted_events g.R.Rng.stream old (view_of c.begin_call.new.self) (view_of c.count_packet.new.self) c.begin_call.ensures c.count_packet.ensures))

pub returns-in_err-report-in-Err-Malformed : goal.returns-in_err-report-in-Err-Malformed
returns-in_err-report-in-Err-Malformed g c =
    let old = view_of c.args.context.now in
    rw (err_from_is_err_and c.from_residual-in_err-report-in-Err-Malformed.result c.from_residual-in_err-report-in-Err-Malformed.ensures.1).1
    (unread_cut old c.args.packet.now _
    (ap (λ (v : View g.row.R.Denot). v.events) c.in_err-report-in-Err-Malformed.ensures
    ∙ counted_events g.R.Rng.stream old (view_of c.begin_call.new.self) (view_of c.count_packet.new.self) c.begin_call.ensures c.count_packet.ensures))

pub returns-in-Err-OutOfMemory : goal.returns-in-Err-OutOfMemory
returns-in-Err-OutOfMemory g c =
    let old = view_of c.args.context.now in
    unread_cut old c.args.packet.now _ (counted_events g.R.Rng.stream old (view_of c.begin_call.new.self) (view_of c.count_packet.new.self) c.begin_call.ensures c.count_packet.ensures)
