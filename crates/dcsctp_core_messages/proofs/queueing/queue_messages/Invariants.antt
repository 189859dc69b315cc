use Rattle.std.proofs.Common.{◌≡◌, ◌+◌, map, length, vec_len}
use Rattle.std.specs.Vec.Iter.{into_iter_items, into_iter_len}
use Rattle.dcsctp_core.specs.types.queues.Messages.{message_content}
use Rattle.dcsctp_core.specs.spec.endpoint.MessageOutcomes.{sending_of}
use Rattle.dcsctp_core.specs.View.{view_of}
use Rattle.dcsctp_core_messages.proofs.QueueingLemmas.{GoesOn}
use Rattle.dcsctp_core_messages.proofs.queueing.queue_messages.Given as goal

-- What is left completes the whole, and each place is counted.
abbrev pub invariant-loop-message : goal.invariant-loop-message
invariant-loop-message g l =
    GoesOn g.R.Rng.stream (map (sending_of l.fn.options) (map message_content l.fn.messages.items)) (view_of l.fn.context) l.place l.queued
    (map (sending_of l.fn.options) (map message_content (into_iter_items l.waiting))) (view_of l.context)
    × (l.place + into_iter_len l.waiting ≡ vec_len l.fn.messages)
    × (length (into_iter_items l.waiting) ≡ into_iter_len l.waiting)

abbrev pub decreases-loop-message : goal.decreases-loop-message
decreases-loop-message g l = into_iter_len l.waiting
