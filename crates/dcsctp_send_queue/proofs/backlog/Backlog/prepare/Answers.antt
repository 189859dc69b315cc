use Rattle.std.proofs.Common.{ℕ, List, ◌++◌, ap, sym, subst, ◌∙◌, rules}
use Rattle.dcsctp_api.specs.spec.endpoint.Event.{Event}
use Rattle.dcsctp_send_queue.specs.Telling.{contents, AddsFront}
use Rattle.dcsctp_api.specs.spec.queues.OwnResets.{is_open_pause, prepared_queue, prepare_events_of}
use Rattle.dcsctp_send_queue.proofs.ResetLemmas.{on_ok_map, on_err_map, paused_is, open_is, closed_is, open_events, closed_events, held-after_pause}
use Rattle.dcsctp_send_queue.proofs.QueueLemmas.{stream_found-at}
use Rattle.dcsctp_send_queue.specs.Backlog.{queue_of}
use Rattle.dcsctp_api.specs.spec.queues.SendQueue.{SendQueueState}
use Rattle.dcsctp_send_queue.proofs.backlog.Backlog.prepare.Goals as goal

pub returns-in-Open-clause-ok : goal.returns-in-Open-clause-ok
returns-in-Open-clause-ok c =
    let is = ap (λ s. s.pause) (stream_found-at _ _ _ _ c.in_ok-place.ensures.ascending c.in_ok-place.ensures.place ∙ sym c.at.ensures) ∙ (sym c.pause_state.ensures ∙ c.in-Open.is) in
    on_ok_map c.pause.result
    (λ e. e ∙ (paused_is (queue_of c.use_stream.new.self) c.in_ok-place.place c.args.stream_id.0 c.in_ok-place.ensures.ascending c.in_ok-place.ensures.place
    ∙ (open_is (queue_of c.use_stream.new.self) c.args.stream_id.0 (ap (λ p. is_open_pause p) is) ∙ ap {A = SendQueueState} (λ (q : SendQueueState). prepared_queue c.args.stream_id.0 q) c.in_ok-place.ensures.ok)))
    c.pause.ensures.ok

pub returns-in-Open-clause-told : goal.returns-in-Open-clause-told
returns-in-Open-clause-told c =
    let is = ap (λ s. s.pause) (stream_found-at _ _ _ _ c.in_ok-place.ensures.ascending c.in_ok-place.ensures.place ∙ sym c.at.ensures) ∙ (sym c.pause_state.ensures ∙ c.in-Open.is) in
    on_ok_map c.pause.result
    (λ e. e ∙ ap (λ z. contents c.args.events.now ++ z)
    (open_events (queue_of c.use_stream.new.self) c.in_ok-place.place c.args.stream_id.0 c.in_ok-place.ensures.ascending c.in_ok-place.ensures.place (ap (λ p. is_open_pause p) is)
    ∙ ap {A = SendQueueState} (λ (q : SendQueueState). prepare_events_of c.args.stream_id.0 q) c.in_ok-place.ensures.ok))
    c.pause.ensures.told

pub returns-in-Open-clause-held : goal.returns-in-Open-clause-held
returns-in-Open-clause-held c held =
    held-after_pause c.pause.result (queue_of c.use_stream.new.self) (queue_of c.pause.new.self) c.in_ok-place.place c.pause.ensures.ok (on_err_map c.pause.result (λ e. ap queue_of e) c.pause.ensures.err)
    c.in_ok-place.ensures.place.0 (c.in_ok-place.ensures.held held)

pub returns-in-Open-clause-front : goal.returns-in-Open-clause-front
returns-in-Open-clause-front c =
    let is = ap (λ s. s.pause) (stream_found-at _ _ _ _ c.in_ok-place.ensures.ascending c.in_ok-place.ensures.place ∙ sym c.at.ensures) ∙ (sym c.pause_state.ensures ∙ c.in-Open.is) in
    let told =
    open_events (queue_of c.use_stream.new.self) c.in_ok-place.place c.args.stream_id.0 c.in_ok-place.ensures.ascending c.in_ok-place.ensures.place (ap (λ p. is_open_pause p) is)
    ∙ ap {A = SendQueueState} (λ (q : SendQueueState). prepare_events_of c.args.stream_id.0 q) c.in_ok-place.ensures.ok in
    on_err_map c.pause.result
    (λ tells. subst (λ (whole : List (Event (List ℕ))). AddsFront (contents c.args.events.now) whole (contents c.pause.new.events)) told tells)
    c.pause.ensures.front

pub returns-in-Pausing-clause-ok : goal.returns-in-Pausing-clause-ok
returns-in-Pausing-clause-ok c =
    let is = ap (λ s. s.pause) (stream_found-at _ _ _ _ c.in_ok-place.ensures.ascending c.in_ok-place.ensures.place ∙ sym c.at.ensures) ∙ (sym c.pause_state.ensures ∙ c.in-Pausing.is) in
    closed_is (queue_of c.use_stream.new.self) c.args.stream_id.0 (ap (λ p. is_open_pause p) is) ∙ ap {A = SendQueueState} (λ (q : SendQueueState). prepared_queue c.args.stream_id.0 q) c.in_ok-place.ensures.ok

pub returns-in-Pausing-clause-told : goal.returns-in-Pausing-clause-told
returns-in-Pausing-clause-told c =
    let is = ap (λ s. s.pause) (stream_found-at _ _ _ _ c.in_ok-place.ensures.ascending c.in_ok-place.ensures.place ∙ sym c.at.ensures) ∙ (sym c.pause_state.ensures ∙ c.in-Pausing.is) in
    let none = ap {A = SendQueueState} (λ (q : SendQueueState). prepare_events_of {P = List ℕ} c.args.stream_id.0 q) (sym c.in_ok-place.ensures.ok) ∙ closed_events (queue_of c.use_stream.new.self) c.args.stream_id.0 (ap (λ p. is_open_pause p) is) in
    rw none (search rules)

pub returns-in-HandedOut-clause-ok : goal.returns-in-HandedOut-clause-ok
returns-in-HandedOut-clause-ok c =
    let is = ap (λ s. s.pause) (stream_found-at _ _ _ _ c.in_ok-place.ensures.ascending c.in_ok-place.ensures.place ∙ sym c.at.ensures) ∙ (sym c.pause_state.ensures ∙ c.in-HandedOut.is) in
    closed_is (queue_of c.use_stream.new.self) c.args.stream_id.0 (ap (λ p. is_open_pause p) is) ∙ ap {A = SendQueueState} (λ (q : SendQueueState). prepared_queue c.args.stream_id.0 q) c.in_ok-place.ensures.ok

pub returns-in-HandedOut-clause-told : goal.returns-in-HandedOut-clause-told
returns-in-HandedOut-clause-told c =
    let is = ap (λ s. s.pause) (stream_found-at _ _ _ _ c.in_ok-place.ensures.ascending c.in_ok-place.ensures.place ∙ sym c.at.ensures) ∙ (sym c.pause_state.ensures ∙ c.in-HandedOut.is) in
    let none = ap {A = SendQueueState} (λ (q : SendQueueState). prepare_events_of {P = List ℕ} c.args.stream_id.0 q) (sym c.in_ok-place.ensures.ok) ∙ closed_events (queue_of c.use_stream.new.self) c.args.stream_id.0 (ap (λ p. is_open_pause p) is) in
    rw none (search rules)
