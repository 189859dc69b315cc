use Rattle.std.proofs.Common.{◌≡◌, ◌∙◌, ◌-◌, ℕ, Some, length, ap, sym, arith}
use Rattle.std.specs.Option.{option_copied}
use Rattle.dcsctp_api.specs.types.queues.SendStreams.{Waiting, Stream, front_of}
use Rattle.dcsctp_send_queue.proofs.ProducingLemmas.{whole_last, whole_part}
use Rattle.dcsctp_send_queue.specs.Backlog.{queue_of}
use Rattle.dcsctp_send_queue.proofs.backlog.Backlog.produce.Goals as goal

pub returns-then-left-max-clause-left : goal.returns-then-left-max-clause-left
returns-then-left-max-clause-left c message front =
    let both : Some c.unwrap-message.result.now ≡ Some message = ap option_copied (sym c.unwrap-message.ensures) ∙ (c.front.ensures ∙ (ap (λ (s : Stream). front_of s.messages) c.at.ensures ∙ front)) in
    let same : c.unwrap-message.result.now ≡ message = cc in
    let size : c.saturating_sub-left.result ≡ length message.payload - c.args.under_way.sent =
    c.saturating_sub-left.ensures ∙ ap (λ (n : ℕ). n - c.args.under_way.sent) (c.size.ensures.value ∙ ap (λ (m : Waiting). length m.payload) same) in
    whole_last c.produce_last.result (queue_of c.args.self.now) (queue_of c.produce_last.new.self) c.args.place c.args.max message c.args.under_way (omega (arith, size, c.if-left-max.true))
    (c.produce_last.ensures.left message front)

pub returns-else-left-max-clause-left : goal.returns-else-left-max-clause-left
returns-else-left-max-clause-left c message front =
    let both : Some c.unwrap-message.result.now ≡ Some message = ap option_copied (sym c.unwrap-message.ensures) ∙ (c.front.ensures ∙ (ap (λ (s : Stream). front_of s.messages) c.at.ensures ∙ front)) in
    let same : c.unwrap-message.result.now ≡ message = cc in
    let size : c.saturating_sub-left.result ≡ length message.payload - c.args.under_way.sent =
    c.saturating_sub-left.ensures ∙ ap (λ (n : ℕ). n - c.args.under_way.sent) (c.size.ensures.value ∙ ap (λ (m : Waiting). length m.payload) same) in
    whole_part c.produce_part.result (queue_of c.args.self.now) (queue_of c.produce_part.new.self) c.args.place c.args.max message c.args.under_way (omega (arith, size, c.if-left-max.false))
    (c.produce_part.ensures.left message front)
