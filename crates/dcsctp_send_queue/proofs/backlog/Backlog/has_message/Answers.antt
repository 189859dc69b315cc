use Rattle.std.proofs.Common.{rules, ◌≡◌, is_some, sym, ap, ◌∙◌}
use Rattle.dcsctp_api.specs.types.queues.SendStreams.{Stream, front_of}
use Rattle.dcsctp_send_queue.proofs.QueueLemmas.{stream_found-at, stream_found-none}
use Rattle.dcsctp_send_queue.proofs.backlog.Backlog.has_message.Goals as goal

pub returns-in-Ok : goal.returns-in-Ok
returns-in-Ok c =
    let first : c.is_some.result ≡ is_some (front_of c.at.result.now.messages) = search rules in
    first ∙ ap (λ (s : Stream). is_some (front_of s.messages)) (c.at.ensures ∙ sym (stream_found-at _ _ _ _ c.in-Ok.ensures.ascending c.in-Ok.ensures.found))

pub returns-in-Err : goal.returns-in-Err
returns-in-Err c = ap (λ (s : Stream). is_some (front_of s.messages)) (sym (stream_found-none _ _ _ _ c.in-Err.ensures.found))
