use Rattle.dcsctp_send_queue.proofs.RestoringLemmas.{valid_at}
use Rattle.dcsctp_send_queue.proofs.backlog.Backlog.restore_messages.Goals as goal

pub restore_message-requires : goal.restore_message-requires
restore_message-requires c = rw c.part-item.is (valid_at c.args.parts.now c.loop-part.part-index _ c.requires c.loop-part-test.true)
