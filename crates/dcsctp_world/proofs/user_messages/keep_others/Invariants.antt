use Rattle.std.proofs.Common.{◌≡◌, take, map, ◌++◌}
use Rattle.dcsctp_core.specs.types.queues.Messages.{message_content}
use Rattle.dcsctp_world.specs.Messages.{refused_of_many, others_from}
use Rattle.dcsctp_world.proofs.user_messages.keep_others.Given as goal

-- those before this place are kept
abbrev pub invariant-loop-place : goal.invariant-loop-place
invariant-loop-place l =
    map message_content l.sent.items
    ≡ map message_content l.initial.sent.items ++ others_from 0 (refused_of_many l.answer) (map message_content (take l.place l.messages))
