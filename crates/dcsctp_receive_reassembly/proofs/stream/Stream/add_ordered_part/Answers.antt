-- Does a message of this number wait? If not, the part is taken in its turn.
use Rattle.dcsctp_api.specs.types.queues.Messages.{message_content}
use Rattle.std.proofs.Common.{map, sym, ◌∙◌}
use Rattle.dcsctp_receive_reassembly.specs.Runs.{part_of}
use Rattle.dcsctp_receive_reassembly.specs.Streams.{stream_model}
use Rattle.dcsctp_api.specs.spec.queues.IncomingStreams.{TakesOrdered, TakesUnordered, TakesAhead, delivered_as}
use Rattle.dcsctp_receive_reassembly.proofs.ResultFacts.{if_ok_then}
use Rattle.dcsctp_receive_reassembly.proofs.TakingLemmas.{taken_repeated}
use Rattle.dcsctp_receive_reassembly.proofs.WaitingLemmas.{taken_fresh, waits_where}
use Rattle.dcsctp_receive_reassembly.proofs.stream.Stream.add_ordered_part.Goals as goal

pub returns-then-contains_key-clause-ok : goal.returns-then-contains_key-clause-ok
returns-then-contains_key-clause-ok c = λ ahead.
    if_ok_then c.add_and_deliver_at_once.result
    (λ counted. TakesUnordered (part_of c.args.part) (delivered_as c.args.self.now.id.0) c.args.self.now.ordered (map message_content c.args.ready.now.items) counted.taken c.add_and_deliver_at_once.new.fragments (map message_content c.add_and_deliver_at_once.new.ready.items))
    (λ counted. TakesAhead (part_of c.args.part) (stream_model c.args.self.now) (map message_content c.args.ready.now.items) counted.taken (stream_model (record c.args.self.now { ordered = c.add_and_deliver_at_once.new.fragments })) (map message_content c.add_and_deliver_at_once.new.ready.items))
    c.add_and_deliver_at_once.ensures.ok
    (λ counted takes. taken_repeated (part_of c.args.part) (stream_model c.args.self.now) (map message_content c.args.ready.now.items) counted.taken c.add_and_deliver_at_once.new.fragments (map message_content c.add_and_deliver_at_once.new.ready.items)
    (sym (waits_where c.args.part.number c.args.self.now.waiting.entries) ∙ (sym c.contains_key.ensures ∙ c.if-contains_key.true)) takes)

pub returns-then-part-self-2-clause-ok : goal.returns-then-part-self-2-clause-ok
returns-then-part-self-2-clause-ok c = λ ahead.
    if_ok_then c.add_part_of_next.result
    (λ counted. TakesOrdered (part_of c.args.part) (stream_model c.args.self.now) (map message_content c.args.ready.now.items) counted.taken (stream_model c.add_part_of_next.new.self) (map message_content c.add_part_of_next.new.ready.items))
    (λ counted. TakesAhead (part_of c.args.part) (stream_model c.args.self.now) (map message_content c.args.ready.now.items) counted.taken (stream_model c.add_part_of_next.new.self) (map message_content c.add_part_of_next.new.ready.items))
    c.add_part_of_next.ensures.ok
    (λ counted takes. taken_fresh (part_of c.args.part) (stream_model c.args.self.now) (map message_content c.args.ready.now.items) counted.taken (stream_model c.add_part_of_next.new.self) (map message_content c.add_part_of_next.new.ready.items)
    (sym (waits_where c.args.part.number c.args.self.now.waiting.entries) ∙ (sym c.contains_key.ensures ∙ c.if-contains_key.false)) takes)

pub returns-else-part-self-2-clause-ok : goal.returns-else-part-self-2-clause-ok
returns-else-part-self-2-clause-ok c = λ ahead.
    if_ok_then c.add_part_of_later.result
    (λ counted. TakesOrdered (part_of c.args.part) (stream_model c.args.self.now) (map message_content c.args.ready.now.items) counted.taken (stream_model c.add_part_of_later.new.self) (map message_content c.args.ready.now.items))
    (λ counted. TakesAhead (part_of c.args.part) (stream_model c.args.self.now) (map message_content c.args.ready.now.items) counted.taken (stream_model c.add_part_of_later.new.self) (map message_content c.args.ready.now.items))
    (c.add_part_of_later.ensures.ok (map message_content c.args.ready.now.items))
    (λ counted takes. taken_fresh (part_of c.args.part) (stream_model c.args.self.now) (map message_content c.args.ready.now.items) counted.taken (stream_model c.add_part_of_later.new.self) (map message_content c.args.ready.now.items) (sym (waits_where c.args.part.number c.args.self.now.waiting.entries) ∙ (sym c.contains_key.ensures ∙ c.if-contains_key.false)) takes)
