-- What the runs use, and the messages that are ready, changes as the part is counted.
use Rattle.std.proofs.Common.{◌≡◌, List, map, length, arith, ap, subst}
use Rattle.dcsctp_api.specs.types.declared.message.Message.{Message}
use Rattle.dcsctp_api.specs.types.queues.Messages.{MessageContent, message_content}
use Rattle.dcsctp_api.specs.spec.queues.IncomingStreams.{UnorderedOutcome, delivered_as}
use Rattle.dcsctp_receive_reassembly.specs.Runs.{part_of, assembled_of}
use Rattle.dcsctp_receive_reassembly.proofs.CountingLemmas.{counted_size}
use Rattle.dcsctp_receive_reassembly.proofs.StreamUsed.{unordered_counts}
use Rattle.dcsctp_receive_reassembly.proofs.stream.add_and_deliver_at_once.Goals as goal

pub returns-clause-used : goal.returns-clause-used
returns-clause-used c =
    let size : length (part_of c.args.part).payload ≡ c.len-size.result = omega (arith, c.len-size.ensures) in
    unordered_counts c.args.overhead (part_of c.args.part) c.args.id.0 c.args.fragments.now c.add.new.self (map message_content c.args.ready.now.items) (map message_content c.deliver_unordered.new.ready.items) c.in_ok-outcome.outcome c.deliver_unordered.result
    c.in_ok-outcome.ensures.ok
    (subst (λ (before : List MessageContent). UnorderedOutcome (part_of c.args.part) (delivered_as c.args.id.0) before (assembled_of c.in_ok-outcome.outcome) c.deliver_unordered.result.taken (map message_content c.deliver_unordered.new.ready.items))
    (ap (λ (items : List Message). map message_content items) c.try_reserve.ensures.items) (c.deliver_unordered.ensures.does (part_of c.args.part) size))
    c.in_ok-outcome.ensures.used
    (counted_size c.args.overhead c.len-size.result (length (part_of c.args.part).payload) c.in_ok-outcome.outcome c.deliver_unordered.result size c.deliver_unordered.ensures.used)
