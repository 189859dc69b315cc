use Rattle.std.proofs.Common.{string_bytes, sym, ap, ◌∙◌}
use Rattle.std.proofs.lemmas.Result.{err_from_is_err_and}
use Rattle.dcsctp_core.specs.wire.Content.{packet_content}
use Rattle.dcsctp_core.specs.spec.Packet.{packet_of_content}
use Rattle.dcsctp_core.specs.View.{core_of, view_of}
use Rattle.dcsctp_socket_calls.specs.Admission.{admission_of}
use Rattle.dcsctp_socket_calls.proofs.CallLemmas.{refused_packet, acks_worked, acks_cut}
use Rattle.dcsctp_socket_calls.proofs.AckLoop.{alone_is_shut}
use Rattle.dcsctp_socket_calls.proofs.calls.handle_packet.Goals as goal

pub returns-in_ok-report-in-Refused : goal.returns-in_ok-report-in-Refused
returns-in_ok-report-in-Refused g c =
    refused_packet g.R.Rng.stream (view_of c.args.context.now) (view_of c.report.new.self)
    (packet_content c.args.packet.now) (string_bytes c.in_ok-text-in-Refused.text)
    (cc (c.in-Refused.ensures, c.in_ok-text-in-Refused.ensures))
    c.in_ok-report-in-Refused.ensures

-- Where its SHUTDOWN ACK chunks alone are admitted no association is open.
pub handle_shutdown_acks-requires : goal.handle_shutdown_acks-requires
handle_shutdown_acks-requires g c =
    alone_is_shut (core_of c.args.context.now.state) (packet_of_content (packet_content c.args.packet.now)) (sym c.admit.ensures ∙ ap admission_of c.in-ShutdownAcksAlone.is)

-- They are handled.
pub returns-in_ok-handle_shutdown_acks-in-ShutdownAcksAlone : goal.returns-in_ok-handle_shutdown_acks-in-ShutdownAcksAlone
returns-in_ok-handle_shutdown_acks-in-ShutdownAcksAlone g c =
    acks_worked g.R.Rng.stream (view_of c.args.context.now) (view_of c.handle_shutdown_acks.new.context) (packet_content c.args.packet.now)
    (sym c.admit.ensures ∙ ap admission_of c.in-ShutdownAcksAlone.is) c.in_ok-handle_shutdown_acks-in-ShutdownAcksAlone.ensures

pub returns-in_err-handle_shutdown_acks-in-ShutdownAcksAlone : goal.returns-in_err-handle_shutdown_acks-in-ShutdownAcksAlone
returns-in_err-handle_shutdown_acks-in-ShutdownAcksAlone g c =
    rw (err_from_is_err_and c.from_residual-in_err-handle_shutdown_acks-in-ShutdownAcksAlone.result c.from_residual-in_err-handle_shutdown_acks-in-ShutdownAcksAlone.ensures.1).1
    (acks_cut (view_of c.args.context.now) (packet_content c.args.packet.now) _
    (sym c.admit.ensures ∙ ap admission_of c.in-ShutdownAcksAlone.is) c.in_err-handle_shutdown_acks-in-ShutdownAcksAlone.ensures)
