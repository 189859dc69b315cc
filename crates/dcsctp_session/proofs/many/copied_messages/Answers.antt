use Rattle.std.proofs.Common.{arith, ◌≡◌, ◌∙◌, ap, map, [], ◌∷◌, ◌++◌}
use Rattle.std.proofs.lemmas.List.{map-append}
use Rattle.dcsctp_core.specs.types.queues.Messages.{message_content}
use Rattle.dcsctp_session.proofs.ManyLemmas.{fronts_more}
use Rattle.dcsctp_session.proofs.many.copied_messages.Goals as goal

pub loop-message-preserved : goal.loop-message-preserved
loop-message-preserved c =
    let pushed : c.push.new.self.items ≡ c.loop-message.copies.items ++ c.in_ok-copied.field-0 ∷ [] = grind arith in
    rw (ap (map message_content) pushed ∙ map-append message_content c.loop-message.copies.items (c.in_ok-copied.field-0 ∷ []))
    (fronts_more c.args.limit c.loop-message.message-index c.args.messages.now (record { payload = record { ref_ptr = (0, 0); now = [] }; ppid = 0; stream_id = 0; reserved = 0 })
    (map message_content c.loop-message.copies.items) (message_content c.in_ok-copied.field-0) c.loop-message-test.true c.loop-message.invariant c.in_ok-copied.ensures)
