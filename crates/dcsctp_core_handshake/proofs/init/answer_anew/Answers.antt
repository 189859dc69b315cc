use Rattle.std.proofs.Common.{rules}
use Rattle.dcsctp_core.specs.wire.Content.{init_content}
use Rattle.dcsctp_core.specs.spec.Packet.{introduction_of_init}
use Rattle.dcsctp_core.specs.View.{view_of}
use Rattle.dcsctp_core_handshake.proofs.InitSteps.{renews}
use Rattle.dcsctp_core_handshake.proofs.init.answer_anew.Goals as goal

pub returns-in_ok-send_init_ack-in-Some : goal.returns-in_ok-send_init_ack-in-Some
returns-in_ok-send_init_ack-in-Some g c =
    renews g.R.Rng.stream c.args.context.now c.draw_tag.new.context (view_of c.send_init_ack.new.context) (introduction_of_init (init_content c.args.init.now))
    c.in-Some.tcb.now c.in_ok-renewed-in-Some.renewed (search rules) (search rules) (search rules) c.in_ok-send_init_ack-in-Some.ensures
