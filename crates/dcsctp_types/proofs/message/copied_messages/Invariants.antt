use Rattle.std.proofs.Common.{◌≡◌, take, map}
use Rattle.dcsctp_types.specs.queues.Messages.{message_content}
use Rattle.dcsctp_types.proofs.message.copied_messages.Given as goal

abbrev pub invariant-loop-message : goal.invariant-loop-message
invariant-loop-message l = map message_content l.copies.items ≡ map message_content (take l.message-index l.messages.items)
