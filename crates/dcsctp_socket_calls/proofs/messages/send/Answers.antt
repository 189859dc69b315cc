use Rattle.dcsctp_core.specs.types.queues.Messages.{message_content}
use Rattle.dcsctp_socket_calls.proofs.MessageLemmas.{works_send}
use Rattle.dcsctp_socket_calls.proofs.messages.send.Goals as goal

pub returns : goal.returns
returns g c =
    works_send g.R.Rng.stream (message_content c.args.message) c.args.options.now c.args.context.now c.begin_call.new.self c.do_send.new.context c.do_send.result
    c.begin_call.ensures c.do_send.ensures
