use Rattle.std.proofs.Common.{◌≡◌, ℕ, Result, Ok, Err, OnOk, OnErr, List, ◌++◌, subst}
use Rattle.dcsctp_api.specs.spec.endpoint.Event.{Event}
use Rattle.dcsctp_api.specs.spec.queues.OwnResets.{queue_with_prepared, prepare_events}
use Rattle.dcsctp_api.specs.spec.queues.SendQueue.{SendQueueState}
use Rattle.dcsctp_send_queue.specs.Backlog.{queue_of}
use Rattle.dcsctp_send_queue.specs.Telling.{contents, AddsFront}
use Rattle.dcsctp_send_queue.specs.Preparing.{TriesStream}
use Rattle.dcsctp_send_queue.proofs.send_queue.SendQueue.prepare_reset_stream.Goals as goal

tries_by : {E : Type 0} (result : Result (Unit {0}) E) (id : ℕ) (old new : SendQueueState) (before after : List (Event (List ℕ)))
    → OnOk result (new ≡ queue_with_prepared id old) → OnOk result (after ≡ before ++ prepare_events id old) → OnErr result (AddsFront before (prepare_events id old) after)
    → TriesStream id old before result new after
tries_by (Ok done) id old new before after left told front = record { left = left; tells = told }
tries_by (Err error) id old new before after left told front = front

pub returns-clause-tries : goal.returns-clause-tries
returns-clause-tries c =
    let call = c.prepare in
    subst (λ (queue : SendQueueState). TriesStream c.args.stream_id.0 queue (contents c.args.events.now) call.result (queue_of call.new.self) (contents call.new.events)) c.self.view_is
    (tries_by call.result c.args.stream_id.0 (queue_of c.self.inside.backlog) (queue_of call.new.self) (contents c.args.events.now) (contents call.new.events) call.ensures.ok call.ensures.told call.ensures.front)
