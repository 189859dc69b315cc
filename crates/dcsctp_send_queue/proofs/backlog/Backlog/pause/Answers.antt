use Rattle.std.proofs.Common.{◌≡◌, ◌∙◌, ◌-◌, ◌^◌, ◌++◌, ℕ, List, drop, min, ap, subst}
use Rattle.std.proofs.lemmas.Result.{err_from_is_err_and}
use Rattle.dcsctp_api.specs.types.queues.SendStreams.{Waiting, Stream, stream_at, payload_size}
use Rattle.dcsctp_send_queue.specs.Telling.{contents, AddsFront}
use Rattle.dcsctp_api.specs.spec.queues.SendEvents.{expiries}
use Rattle.dcsctp_api.specs.spec.queues.Sending.{part_events}
use Rattle.dcsctp_api.specs.spec.queues.OwnResets.{count_under_way}
use Rattle.dcsctp_send_queue.specs.Leaving.{not_begun, size_not_begun}
use Rattle.dcsctp_send_queue.proofs.FrontLemmas.{front_left, front_right}
use Rattle.dcsctp_send_queue.specs.Backlog.{queue_of}
use Rattle.dcsctp_api.specs.spec.queues.SendQueue.{SendQueueState}
use Rattle.dcsctp_send_queue.proofs.backlog.Backlog.pause.Goals as goal

pub returns-in_err-tell_low-clause-front : goal.returns-in_err-tell_low-clause-front
returns-in_err-tell_low-clause-front c =
    let queue : SendQueueState = (queue_of c.args.self.now) in
    let place : ℕ = c.args.place in
    let kept : c.count_under_way-kept.result ≡ count_under_way (stream_at queue.streams place) =
    c.count_under_way-kept.ensures ∙ ap (λ (s : Stream). count_under_way s) c.at.ensures in
    let size : c.size_from-size.result ≡ size_not_begun place queue =
    c.size_from-size.ensures ∙ (ap (λ (n : ℕ). min (payload_size (drop n c.at-2.result.now.messages)) (2 ^ 64 - 1)) kept
    ∙ ap (λ (s : Stream). min (payload_size (drop (count_under_way (stream_at queue.streams place)) s.messages)) (2 ^ 64 - 1)) c.at-2.ensures) in
    let P : ℕ → Type 0 = λ n. AddsFront (contents c.args.events.now) (part_events place n queue) (contents c.tell_low.new.events) in
    rw (err_from_is_err_and c.from_residual.result c.from_residual.ensures.1).1
    (front_left (contents c.args.events.now) (part_events place (size_not_begun place queue) queue) (expiries (not_begun place queue)) (contents c.tell_low.new.events)
    (subst P size c.in_err-tell_low.ensures.err))

pub returns-in_err-tell_dropped-clause-front : goal.returns-in_err-tell_dropped-clause-front
returns-in_err-tell_dropped-clause-front c =
    let queue : SendQueueState = (queue_of c.args.self.now) in
    let place : ℕ = c.args.place in
    let kept : c.count_under_way-kept.result ≡ count_under_way (stream_at queue.streams place) =
    c.count_under_way-kept.ensures ∙ ap (λ (s : Stream). count_under_way s) c.at.ensures in
    let size : c.size_from-size.result ≡ size_not_begun place queue =
    c.size_from-size.ensures ∙ (ap (λ (n : ℕ). min (payload_size (drop n c.at-2.result.now.messages)) (2 ^ 64 - 1)) kept
    ∙ ap (λ (s : Stream). min (payload_size (drop (count_under_way (stream_at queue.streams place)) s.messages)) (2 ^ 64 - 1)) c.at-2.ensures) in
    let left : drop c.count_under_way-kept.result c.at-3.result.now.messages ≡ not_begun place queue =
    ap (λ (n : ℕ). drop n c.at-3.result.now.messages) kept
    ∙ ap (λ (s : Stream). drop (count_under_way (stream_at queue.streams place)) s.messages) c.at-3.ensures in
    let P : List Waiting → Type 0 = λ ms. AddsFront (contents c.tell_low.new.events) (expiries ms) (contents c.tell_dropped.new.events) in
    rw (err_from_is_err_and c.from_residual-in_err-tell_dropped.result c.from_residual-in_err-tell_dropped.ensures.1).1
    (front_right (contents c.args.events.now) (part_events place (size_not_begun place queue) queue) (contents c.tell_low.new.events) (expiries (not_begun place queue)) (contents c.tell_dropped.new.events)
    (c.in_ok-tell_low.ensures.ok ∙ ap (λ (n : ℕ). contents c.args.events.now ++ part_events place n queue) size) (subst P left c.in_err-tell_dropped.ensures.err))
