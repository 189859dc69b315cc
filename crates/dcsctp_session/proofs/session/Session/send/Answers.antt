use Rattle.std.proofs.Common.{arith, ◌≡◌, refl}
use Rattle.dcsctp_core.specs.types.queues.Messages.{message_content}
use Rattle.dcsctp_session.proofs.SendingLemmas.{message_sent}
use Rattle.dcsctp_session.proofs.session.Session.send.Goals as goal

pub returns : goal.returns
returns c =
    let sent : message_content c.new-message.result ≡ record { stream = c.args.stream_id; ppid = c.args.ppid; payload = c.front.result.now } = grind arith in
    message_sent c.args.options.now c.options.result c.args.stream_id c.args.ppid c.front.result.now c.args.payload.now
    c.args.self.now c.of_send.result (record c.args.self.now { socket = c.send.new.self })
    (grind arith) (rw (← c.options-limit.ensures) c.front.ensures) c.options.ensures
    (record { outcome = c.send.result; call = rw (← sent) c.send.ensures; told = c.of_send.ensures; taken = refl; offload = refl })
