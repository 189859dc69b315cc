use Rattle.std.proofs.lemmas.Result.{err_from_is_err_and}
use Rattle.dcsctp_core.specs.types.queues.Messages.{message_content}
use Rattle.dcsctp_core.specs.spec.endpoint.MessageOutcomes.{sending_of}
use Rattle.dcsctp_core.specs.View.{view_of}
use Rattle.dcsctp_core_messages.proofs.QueueingLemmas.{one_stopped}
use Rattle.dcsctp_core_messages.proofs.queueing.queue_at.Goals as goal

pub returns-in_err-push-in-Some : goal.returns-in_err-push-in-Some
returns-in_err-push-in-Some g c =
    rw (err_from_is_err_and c.from_residual-in_err-push-in-Some.result c.from_residual-in_err-push-in-Some.ensures.1).1
    (one_stopped g.R.Rng.stream (sending_of c.args.options.now (message_content c.args.message)) (view_of c.args.context.now) (view_of c.queue_message.new.context) c.in_ok-error.ensures.1)
