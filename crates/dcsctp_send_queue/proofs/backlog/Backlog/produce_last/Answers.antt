use Rattle.std.proofs.Common.{◌≡◌, ◌∙◌, ℕ, ◌-◌, Some, length, ap, sym, subst}
use Rattle.std.specs.Option.{option_copied}
use Rattle.std.proofs.lemmas.Result.{err_from_is_err_and}
use Rattle.dcsctp_api.specs.types.queues.SendStreams.{Waiting, Stream, front_of, stream_at}
use Rattle.dcsctp_send_queue.specs.Telling.{contents, AddsFront}
use Rattle.dcsctp_api.specs.spec.queues.SendEvents.{sent_events}
use Rattle.dcsctp_api.specs.spec.queues.Sending.{part_events}
use Rattle.dcsctp_send_queue.proofs.FrontLemmas.{front_left, front_right}
use Rattle.dcsctp_send_queue.specs.Backlog.{queue_of}
use Rattle.dcsctp_api.specs.spec.queues.SendQueue.{SendQueueState}
use Rattle.dcsctp_send_queue.proofs.ProducingLemmas.{counted_is, counted_front, last_is}
use Rattle.dcsctp_api.specs.spec.queues.Sending.{fragment, fragment_counted, reduced_queue}
use Rattle.dcsctp_send_queue.proofs.backlog.Backlog.produce_last.Goals as goal

pub returns-in_err-tell_low-clause-front : goal.returns-in_err-tell_low-clause-front
returns-in_err-tell_low-clause-front c message front =
    let both : Some c.unwrap-message.result.now ≡ Some message = ap option_copied (sym c.unwrap-message.ensures) ∙ (c.front.ensures ∙ (ap (λ (s : Stream). front_of s.messages) c.at.ensures ∙ front)) in
    let same : c.unwrap-message.result.now ≡ message = cc in
    let size : c.saturating_sub-left.result ≡ length message.payload - c.args.under_way.sent =
    c.saturating_sub-left.ensures ∙ ap (λ (n : ℕ). n - c.args.under_way.sent) (c.size-whole.ensures.value ∙ ap (λ (m : Waiting). length m.payload) same) in
    let P : ℕ → Type 0 = λ n. AddsFront (contents c.args.events.now) (part_events c.args.place n (queue_of c.args.self.now)) (contents c.tell_low.new.events) in
    rw (err_from_is_err_and c.from_residual-in_err-tell_low.result c.from_residual-in_err-tell_low.ensures.1).1
    (front_left (contents c.args.events.now) (part_events c.args.place (length message.payload - c.args.under_way.sent) (queue_of c.args.self.now)) (sent_events message) (contents c.tell_low.new.events)
    (subst P size c.in_err-tell_low.ensures.err))

pub returns-in_err-tell_fully_sent-clause-front : goal.returns-in_err-tell_fully_sent-clause-front
returns-in_err-tell_fully_sent-clause-front c message front =
    let both : Some c.unwrap-message.result.now ≡ Some message = ap option_copied (sym c.unwrap-message.ensures) ∙ (c.front.ensures ∙ (ap (λ (s : Stream). front_of s.messages) c.at.ensures ∙ front)) in
    let same : c.unwrap-message.result.now ≡ message = cc in
    let size : c.saturating_sub-left.result ≡ length message.payload - c.args.under_way.sent =
    c.saturating_sub-left.ensures ∙ ap (λ (n : ℕ). n - c.args.under_way.sent) (c.size-whole.ensures.value ∙ ap (λ (m : Waiting). length m.payload) same) in
    let P : Waiting → Type 0 = λ m. AddsFront (contents c.tell_low.new.events) (sent_events m) (contents c.tell_fully_sent.new.events) in
    rw (err_from_is_err_and c.from_residual-in_err-tell_fully_sent.result c.from_residual-in_err-tell_fully_sent.ensures.1).1
    (front_right (contents c.args.events.now) (part_events c.args.place (length message.payload - c.args.under_way.sent) (queue_of c.args.self.now)) (contents c.tell_low.new.events) (sent_events message) (contents c.tell_fully_sent.new.events)
    (rw (sym size) c.in_ok-tell_low.ensures.ok) (subst P same c.in_err-tell_fully_sent.ensures.err))

pub returns-clause-left : goal.returns-clause-left
returns-clause-left c message front =
    let old : SendQueueState = queue_of c.args.self.now in
    let turned : SendQueueState = queue_of c.count_turn.new.self in
    let both : Some c.unwrap-message.result.now ≡ Some message = ap option_copied (sym c.unwrap-message.ensures) ∙ (c.front.ensures ∙ (ap (λ (s : Stream). front_of s.messages) c.at.ensures ∙ front)) in
    let same : c.unwrap-message.result.now ≡ message = cc in
    let size : c.saturating_sub-left.result ≡ length message.payload - c.args.under_way.sent =
    c.saturating_sub-left.ensures ∙ ap (λ (n : ℕ). n - c.args.under_way.sent) (c.size-whole.ensures.value ∙ ap (λ (m : Waiting). length m.payload) same) in
    let counted = counted_is old (queue_of c.reduce.new.self) (queue_of c.number.new.self) turned c.args.place c.saturating_sub-left.result message c.args.under_way c.is_unordered-is_unordered.result
    c.reduce.ensures c.number.ensures (c.is_unordered-is_unordered.ensures ∙ ap (λ (m : Waiting). m.is_unordered) same) c.count_turn.ensures in
    let whole : c.size-whole.result ≡ length message.payload = c.size-whole.ensures.value ∙ ap (λ (m : Waiting). length m.payload) same in
    let released = rw (c.reserve_begun.ensures, whole) at c.release.ensures in
    last_is old turned (queue_of c.release.new.self) c.args.place message c.args.under_way c.pop.new.self
    (subst (λ (n : ℕ). turned ≡ fragment_counted c.args.place n message c.args.under_way (reduced_queue c.args.place n old)) size counted) released c.pop.ensures.left

pub returns-clause-ok : goal.returns-clause-ok
returns-clause-ok c message front =
    let old : SendQueueState = queue_of c.args.self.now in
    let turned : SendQueueState = queue_of c.count_turn.new.self in
    let both : Some c.unwrap-message.result.now ≡ Some message = ap option_copied (sym c.unwrap-message.ensures) ∙ (c.front.ensures ∙ (ap (λ (s : Stream). front_of s.messages) c.at.ensures ∙ front)) in
    let same : c.unwrap-message.result.now ≡ message = cc in
    let counted = counted_is old (queue_of c.reduce.new.self) (queue_of c.number.new.self) turned c.args.place c.saturating_sub-left.result message c.args.under_way c.is_unordered-is_unordered.result
    c.reduce.ensures c.number.ensures (c.is_unordered-is_unordered.ensures ∙ ap (λ (m : Waiting). m.is_unordered) same) c.count_turn.ensures in
    let still = counted_front old turned c.args.place c.saturating_sub-left.result message c.args.under_way counted c.requires.within ∙ front in
    let popped = c.pop.ensures.result ∙ (ap (λ (q : SendQueueState). front_of (stream_at q.streams c.args.place).messages) c.release.ensures ∙ still) in
    let taken : Some c.unwrap-message-2.result ≡ Some message = sym c.unwrap-message-2.ensures ∙ popped in
    let is : c.unwrap-message-2.result ≡ message = cc in
    c.last_part.ensures ∙ ap (λ (m : Waiting). fragment c.args.under_way m (length m.payload - c.args.under_way.sent)) is
