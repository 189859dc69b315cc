use Rattle.std.proofs.Common.{◌≡◌, ◌∙◌, ◌<◌, ◌+◌, ◌++◌, ℕ, List, drop, length, ap, sym, arith}
use Rattle.std.proofs.lemmas.List.{at_drop_more}
use Rattle.std.proofs.lemmas.Result.{err_from_is_err_and}
use Rattle.dcsctp_api.specs.spec.endpoint.Event.{Event}
use Rattle.dcsctp_api.specs.types.queues.SendStreams.{Waiting}
use Rattle.dcsctp_send_queue.specs.Telling.{contents}
use Rattle.dcsctp_api.specs.spec.queues.SendEvents.{expiry_events, expiries}
use Rattle.dcsctp_send_queue.proofs.TellingLemmas.{front_within}
use Rattle.dcsctp_send_queue.proofs.stream.OutgoingStream.tell_dropped.Goals as goal

pub returns-in_err-tell_expired-clause-err : goal.returns-in_err-tell_expired-clause-err
returns-in_err-tell_expired-clause-err c =
    let messages : List Waiting = c.self.inside.messages.items in
    let message : Waiting = c.index-message.result.now in
    let place : ℕ = c.loop-place.place in
    let told : List (Event (List ℕ)) = c.loop-place.invariant.0 in
    let within : place < length messages = let lt = c.loop-place-test.true in let len = c.len-place-end.ensures in omega (arith, lt, len) in
    let here : expiries (drop place messages) ≡ expiry_events message ++ expiries (drop (place + 1) messages) =
    at_drop_more expiries messages place message within ∙ ap (λ (m : Waiting). expiry_events m ++ expiries (drop (place + 1) messages)) (sym c.index-message.ensures) in
    let all : List (Event (List ℕ)) = expiries (drop c.args.kept messages) in
    rw (err_from_is_err_and c.from_residual.result c.from_residual.ensures.1).1
    (rw (← c.self.view_is)
    (front_within (contents c.args.events.now) told (contents c.loop-place.events) all (expiry_events message) (expiries (drop (place + 1) messages)) (contents c.tell_expired.new.events)
    c.loop-place.invariant.1 (c.loop-place.invariant.2 ∙ ap (λ (es : List (Event (List ℕ))). told ++ es) here) c.in_err-tell_expired.ensures.err))
