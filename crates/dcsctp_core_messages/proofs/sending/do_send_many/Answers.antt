use Rattle.std.proofs.Common.{List, map}
use Rattle.std.proofs.lemmas.Result.{err_from_is_err_and}
use Rattle.dcsctp_core.specs.types.queues.Messages.{message_content}
use Rattle.dcsctp_core.specs.spec.endpoint.MessageOutcomes.{Sending, sending_of}
use Rattle.dcsctp_core.specs.View.{view_of}
use Rattle.dcsctp_core_messages.proofs.SendingLemmas.{send_cut, all_sent, all_cut, batch_is}
use Rattle.dcsctp_core_messages.proofs.sending.do_send_many.Goals as goal

pub returns-in_err-queued : goal.returns-in_err-queued
returns-in_err-queued g c =
    rw (err_from_is_err_and c.from_residual.result c.from_residual.ensures.1).1
    (send_cut (map (sending_of c.args.options.now) (map message_content c.args.messages.items)) (view_of c.args.context.now) (view_of c.queue_messages.new.context).events c.in_err-queued.ensures)

pub returns-in_err-flush_where : goal.returns-in_err-flush_where
returns-in_err-flush_where g c =
    rw (err_from_is_err_and c.from_residual-in_err-flush_where.result c.from_residual-in_err-flush_where.ensures.1).1
    (all_cut g.R.Rng.stream (map (sending_of c.args.options.now) (map message_content c.args.messages.items)) (view_of c.args.context.now) c.in_ok-queued.queued
    c.queue_messages.new.context c.flush_where.new.context _ c.in_ok-queued.ensures c.in_err-flush_where.ensures)

pub returns : goal.returns
returns g c =
    let messages : List Sending = map (sending_of c.args.options.now) (map message_content c.args.messages.items) in (
      batch_is g.R.Rng.stream messages (view_of c.args.context.now) c.in_ok-queued.queued (view_of c.queue_messages.new.context) c.batch_answer.result c.in_ok-queued.ensures c.batch_answer.ensures,
      all_sent _ g.R.Rng.stream messages (view_of c.args.context.now) c.in_ok-queued.queued c.queue_messages.new.context c.flush_where.new.context c.in_ok-queued.ensures c.in_ok-flush_where.ensures,
    )
