use Rattle.std.proofs.Common.{◌≡◌, ◌∙◌, Some, length, refl, ap, sym, arith}
use Rattle.std.specs.Option.{option_copied}
use Rattle.dcsctp_api.specs.types.queues.SendStreams.{Waiting, Stream, front_of}
use Rattle.dcsctp_api.specs.spec.queues.SendQueue.{SendQueueState}
use Rattle.dcsctp_api.specs.spec.queues.Sending.{may_be_abandoned}
use Rattle.dcsctp_send_queue.proofs.ProducingLemmas.{counted_is, counted_length, continues, part_is}
use Rattle.dcsctp_send_queue.specs.Backlog.{queue_of}
use Rattle.dcsctp_send_queue.proofs.backlog.Backlog.produce_part.Goals as goal

pub go_on-requires : goal.go_on-requires
go_on-requires c =
    let rest = c.requires.rest in
    let some = c.requires.some in
    let lt = rest.within in
    let old : SendQueueState = queue_of c.args.self.now in
    let turned : SendQueueState = queue_of c.count_turn.new.self in
    let both : Some c.unwrap-message.result.now ≡ Some rest.message = ap option_copied (sym c.unwrap-message.ensures) ∙ (c.front.ensures ∙ (ap (λ (s : Stream). front_of s.messages) c.at.ensures ∙ rest.front)) in
    let same : c.unwrap-message.result.now ≡ rest.message = cc in
    let counted = counted_is old (queue_of c.reduce.new.self) (queue_of c.number.new.self) turned c.args.place c.args.size rest.message c.args.under_way c.is_unordered-is_unordered.result
    c.reduce.ensures c.number.ensures (c.is_unordered-is_unordered.ensures ∙ ap (λ (m : Waiting). m.is_unordered) same) c.count_turn.ensures in
    let len = counted_length old turned c.args.place c.args.size rest.message c.args.under_way counted lt in
    record {
      place = omega (arith, len, lt);
      can = continues old turned c.args.place c.args.size rest.message c.args.under_way _ counted lt c.requires.stream rest.front (omega (arith, some)) rest.more;
    }

pub returns-clause-left : goal.returns-clause-left
returns-clause-left c message front =
    let lt = c.requires.rest.within in
    let old : SendQueueState = queue_of c.args.self.now in
    let turned : SendQueueState = queue_of c.count_turn.new.self in
    let both : Some c.unwrap-message.result.now ≡ Some message = ap option_copied (sym c.unwrap-message.ensures) ∙ (c.front.ensures ∙ (ap (λ (s : Stream). front_of s.messages) c.at.ensures ∙ front)) in
    let same : c.unwrap-message.result.now ≡ message = cc in
    let counted = counted_is old (queue_of c.reduce.new.self) (queue_of c.number.new.self) turned c.args.place c.args.size message c.args.under_way c.is_unordered-is_unordered.result
    c.reduce.ensures c.number.ensures (c.is_unordered-is_unordered.ensures ∙ ap (λ (m : Waiting). m.is_unordered) same) c.count_turn.ensures in
    let whole : c.size-whole.result ≡ length message.payload = c.size-whole.ensures.value ∙ ap (λ (m : Waiting). length m.payload) same in
    let takes = rw (c.reserve_begun.ensures, c.message_reserve.ensures, whole) at c.reserve.ensures in
    takes ∙ part_is old turned c.args.place c.args.size message c.args.under_way _ c.go_on.new.self c.held_by-self.result _ counted lt c.go_on.ensures
    refl (c.held_by-self.ensures message (c.may_be_abandoned-is_abandonable.ensures ∙ ap (λ (m : Waiting). may_be_abandoned m) same)) refl
