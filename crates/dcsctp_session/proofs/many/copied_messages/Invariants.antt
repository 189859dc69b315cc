use Rattle.std.proofs.Common.{map, take}
use Rattle.dcsctp_core.specs.types.queues.Messages.{message_content}
use Rattle.dcsctp_session.specs.Answering.{AreFronts}
use Rattle.dcsctp_session.specs.Many.{outgoing_content}
use Rattle.dcsctp_session.proofs.many.copied_messages.Given as goal

abbrev pub invariant-loop-message : goal.invariant-loop-message
invariant-loop-message l = AreFronts l.limit (map outgoing_content (take l.message-index l.messages)) (map message_content l.copies.items)
