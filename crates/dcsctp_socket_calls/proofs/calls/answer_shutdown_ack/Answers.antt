use Rattle.dcsctp_core.specs.View.{view_of}
use Rattle.dcsctp_socket_calls.proofs.DispatchLemmas.{ack_done, not_ack}
use Rattle.dcsctp_socket_calls.proofs.calls.answer_shutdown_ack.Goals as goal

pub returns-in-ShutdownAck : goal.returns-in-ShutdownAck
returns-in-ShutdownAck g c =
    ack_done g.R.Rng.stream c.args.context.now c.reflect_shutdown_ack.new.context c.args.header_tag c.args.chunk.now c.reflect_shutdown_ack.result c.requires c.in-ShutdownAck.is
    c.reflect_shutdown_ack.ensures.turn c.reflect_shutdown_ack.ensures.err

pub returns : goal.returns
returns g c = not_ack g.R.Rng.stream (view_of c.args.context.now) c.args.header_tag c.args.chunk.now c.in_default.not-ShutdownAck
