use Rattle.std.proofs.Common.{map}
use Rattle.std.proofs.lemmas.Result.{err_from_is_err_and}
use Rattle.dcsctp_core.specs.types.queues.Messages.{message_content}
use Rattle.dcsctp_world.specs.Messages.{refused_of_many}
use Rattle.dcsctp_world.proofs.SentMessages.{kept_more, kept_in_part}
use Rattle.dcsctp_world.proofs.user_messages.keep_others.Goals as goal

pub returns-in_err-keep_other : goal.returns-in_err-keep_other
returns-in_err-keep_other c =
    rw (err_from_is_err_and c.from_residual.result c.from_residual.ensures.1).1
    (kept_in_part (refused_of_many c.args.answer.now) c.loop-place.place c.args.messages.now c.index-messages-place.result c.loop-place-test.true c.index-messages-place.is
    (map message_content c.args.sent.now.items) (map message_content c.loop-place.sent.items) (map message_content c.keep_other.new.sent.items)
    c.loop-place.invariant c.in_err-keep_other.ensures)

pub loop-place-preserved : goal.loop-place-preserved
loop-place-preserved c =
    kept_more (refused_of_many c.args.answer.now) c.loop-place.place c.args.messages.now c.index-messages-place.result c.loop-place-test.true c.index-messages-place.is
    (map message_content c.args.sent.now.items) (map message_content c.loop-place.sent.items) (map message_content c.keep_other.new.sent.items)
    c.loop-place.invariant c.in_ok-keep_other.ensures
