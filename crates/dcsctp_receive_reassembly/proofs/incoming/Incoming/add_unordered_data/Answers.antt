-- What the part uses is counted.
use Rattle.dcsctp_api.specs.types.queues.Messages.{MessageContent, message_content}
use Rattle.dcsctp_api.specs.types.declared.message.Message.{Message}
use Rattle.std.proofs.Common.{◌≡◌, ◌+◌, map, length, arith, ap, subst, List}
use Rattle.dcsctp_api.specs.spec.queues.Runs.{runs_used}
use Rattle.dcsctp_api.specs.spec.queues.IncomingStreams.{ready_bytes, streams_used, delivered_as, UnorderedOutcome}
use Rattle.dcsctp_api.specs.spec.queues.Runs.{PartModel}
use Rattle.dcsctp_receive_reassembly.specs.Counting.{CountsPart}
use Rattle.dcsctp_receive_reassembly.specs.Runs.{part_of, assembled_of}
use Rattle.dcsctp_api.specs.spec.queues.Incoming.{IncomingModel}
use Rattle.dcsctp_receive_reassembly.proofs.CountingLemmas.{counted_size}
use Rattle.dcsctp_receive_reassembly.proofs.StreamUsed.{unordered_counts}
use Rattle.dcsctp_receive_reassembly.proofs.incoming.Incoming.add_unordered_data.Goals as goal

pub returns-clause-used : goal.returns-clause-used
returns-clause-used c =
    λ within.
    let part : PartModel = part_of c.part_of_data-part.result in
    let size : length part.payload ≡ c.len-size.result = omega (arith, ap (λ (it : PartModel). length it.payload) c.part_of_data-part.ensures, c.len-size.ensures) in
    let counts : CountsPart (length part.payload + c.args.overhead) (runs_used c.args.overhead c.args.self.now.unordered + ready_bytes (map message_content c.args.self.now.ready.items)) c.deliver_unordered-counted.result (runs_used c.args.overhead c.add.new.self + ready_bytes (map message_content c.deliver_unordered-counted.new.ready.items)) =
    unordered_counts c.args.overhead part c.args.chunk.stream_id.0 c.args.self.now.unordered c.add.new.self (map message_content c.args.self.now.ready.items) (map message_content c.deliver_unordered-counted.new.ready.items) c.in_ok-outcome.outcome c.deliver_unordered-counted.result
    c.in_ok-outcome.ensures.ok
    (subst (λ (before : List MessageContent). UnorderedOutcome part (delivered_as c.args.chunk.stream_id.0) before (assembled_of c.in_ok-outcome.outcome) c.deliver_unordered-counted.result.taken (map message_content c.deliver_unordered-counted.new.ready.items)) (ap (λ (items : List Message). map message_content items) c.try_reserve.ensures.items) (c.deliver_unordered-counted.ensures.does part size))
    c.in_ok-outcome.ensures.used
    (counted_size c.args.overhead c.len-size.result (length part.payload) c.in_ok-outcome.outcome c.deliver_unordered-counted.result size c.deliver_unordered-counted.ensures.used) in
    omega (
      arith,
      within,
      counts.fits,
      counts.added,
      counts.less,
      counts.freed,
      c.requires,
      c.count.ensures.used,
      ap (λ (incoming : IncomingModel). ready_bytes incoming.ready) c.count.ensures.incoming,
      ap (λ (incoming : IncomingModel). streams_used c.args.overhead incoming.streams) c.count.ensures.incoming,
      ap (λ (incoming : IncomingModel). runs_used c.args.overhead incoming.unordered) c.count.ensures.incoming,
    )
