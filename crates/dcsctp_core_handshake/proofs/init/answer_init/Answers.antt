use Rattle.std.proofs.Common.{◌∙◌, ap}
use Rattle.dcsctp_core.specs.wire.Content.{init_content}
use Rattle.dcsctp_core.specs.spec.Packet.{introduction_of_init}
use Rattle.dcsctp_core.specs.spec.endpoint.Endpoint.{open_in}
use Rattle.dcsctp_core.specs.declared.state.OpenPhase.{OpenPhase}
use Rattle.dcsctp_core.specs.View.{core_of, view_of, held_of, phase_of_open}
use Rattle.dcsctp_core_handshake.proofs.InitSteps.{repeats_ack}
use Rattle.dcsctp_core_handshake.proofs.init.answer_init.Goals as goal

pub returns-in_ok-send_shutdown_ack-in-ShutdownAckSent :
    goal.returns-in_ok-send_shutdown_ack-in-ShutdownAckSent
returns-in_ok-send_shutdown_ack-in-ShutdownAckSent g c =
    let opened = c.in-Open.opened in
    repeats_ack g.R.Rng.stream (view_of c.args.context.now) _ (introduction_of_init (init_content c.args.init.now)) opened.tcb.my (held_of opened.tcb) c.args.context.now.valid
    (ap core_of c.in-Open.is ∙ ap (λ (phase : OpenPhase). open_in (phase_of_open phase) opened.tcb.my (held_of opened.tcb)) c.in-ShutdownAckSent.is)
    c.in_ok-send_shutdown_ack-in-ShutdownAckSent.ensures
