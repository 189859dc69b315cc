use Rattle.std.proofs.lemmas.Result.{err_from_is_err_and}
use Rattle.dcsctp_core.specs.types.queues.Messages.{message_content}
use Rattle.dcsctp_core.specs.spec.endpoint.MessageOutcomes.{sending_of}
use Rattle.dcsctp_core.specs.View.{view_of}
use Rattle.dcsctp_core_messages.proofs.SendingLemmas.{one_cut}
use Rattle.dcsctp_core_messages.proofs.sending.do_send.Goals as goal

pub returns-in_err-error : goal.returns-in_err-error
returns-in_err-error g c =
    rw (err_from_is_err_and c.from_residual.result c.from_residual.ensures.1).1
    (one_cut (sending_of c.args.options.now (message_content c.args.message)) (view_of c.args.context.now) (view_of c.queue_message.new.context).events c.in_err-error.ensures)
