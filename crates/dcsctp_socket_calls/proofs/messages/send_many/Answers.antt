use Rattle.std.proofs.Common.{map}
use Rattle.dcsctp_core.specs.types.queues.Messages.{message_content}
use Rattle.dcsctp_socket_calls.proofs.MessageLemmas.{works_send_many}
use Rattle.dcsctp_socket_calls.proofs.messages.send_many.Goals as goal

pub returns : goal.returns
returns g c =
    works_send_many g.R.Rng.stream (map message_content c.args.messages.items) c.args.options.now c.args.context.now c.begin_call.new.self c.do_send_many.new.context c.do_send_many.result
    c.begin_call.ensures c.do_send_many.ensures
