-- What the stream uses, and the messages that are ready, changes as is counted.
use Rattle.std.proofs.Common.{◌≡◌, ◌+◌, ◌++◌, List, map, length, arith, ap, subst, sym, ◌∙◌}
use Rattle.dcsctp_api.specs.types.declared.message.Message.{Message}
use Rattle.dcsctp_api.specs.types.queues.Messages.{message_content}
use Rattle.dcsctp_api.specs.spec.queues.IncomingStreams.{StreamModel, kept_stream_used, ready_bytes, ready_with}
use Rattle.dcsctp_receive_reassembly.specs.Counting.{CountsPart}
use Rattle.dcsctp_receive_reassembly.specs.Runs.{part_of, whole_of}
use Rattle.dcsctp_receive_reassembly.specs.Streams.{stream_model}
use Rattle.dcsctp_receive_reassembly.proofs.StreamUsed.{kept_counts, next_counts}
use Rattle.dcsctp_receive_reassembly.proofs.stream.Stream.add_part_of_next.Goals as goal

pub returns-in-Kept-clause-used : goal.returns-in-Kept-clause-used
returns-in-Kept-clause-used c =
    subst (λ (items : List Message). CountsPart (length c.args.part.payload.items + c.args.overhead) (kept_stream_used c.args.overhead (stream_model c.args.self.now) + ready_bytes (map message_content c.args.ready.now.items)) c.kept.result (kept_stream_used c.args.overhead (record (stream_model c.args.self.now) { ordered = c.add.new.self }) + ready_bytes (map message_content items)))
    (sym c.try_reserve.ensures.items)
    (kept_counts c.args.overhead (part_of c.args.part) (stream_model c.args.self.now) (ready_bytes (map message_content c.args.ready.now.items)) c.add.new.self c.in_ok-add.field-0 c.kept.result c.in-Kept.is c.in_ok-add.ensures.ok (omega (arith, c.kept.ensures.added, c.part_used.ensures, c.len-size.ensures)) c.kept.ensures.freed)

pub returns-in-Whole-clause-used : goal.returns-in-Whole-clause-used
returns-in-Whole-clause-used c =
    let ready : map message_content c.deliver_next.new.ready.items ≡ map message_content c.args.ready.now.items ++ ready_with (stream_model c.args.self.now) (whole_of c.in-Whole.whole) =
    c.deliver_next.ensures.ready ∙ ap (λ (items : List Message). map message_content items ++ ready_with (stream_model c.args.self.now) (whole_of c.in-Whole.whole)) c.try_reserve.ensures.items in
    subst (λ (stream : StreamModel). CountsPart (length c.args.part.payload.items + c.args.overhead) (kept_stream_used c.args.overhead (stream_model c.args.self.now) + ready_bytes (map message_content c.args.ready.now.items)) c.deliver_next.result (kept_stream_used c.args.overhead stream + ready_bytes (map message_content c.deliver_next.new.ready.items)))
    (sym c.deliver_next.ensures.stream)
    (next_counts c.args.overhead (part_of c.args.part) c.in-Whole.whole (stream_model c.args.self.now) (map message_content c.args.ready.now.items) (map message_content c.deliver_next.new.ready.items) c.add.new.self c.in_ok-add.field-0 c.deliver_next.result c.in-Whole.is c.in_ok-add.ensures.ok c.in_ok-add.ensures.used ready c.deliver_next.ensures.added c.deliver_next.ensures.freed)
