-- Our own streams that are prepared to be reset (RFC 6525, section 5.1.2).
use Rattle.std.specs.Prelude.{◌≡◌, ℕ, Result, List, ◌++◌}
use Rattle.dcsctp_api.specs.types.ByResult.{ByResult}
use Rattle.dcsctp_api.specs.spec.endpoint.Event.{Event}
use Rattle.dcsctp_api.specs.spec.queues.OwnResets.{queue_with_prepared, prepare_events}
use Rattle.dcsctp_api.specs.spec.queues.SendQueue.{SendQueueState}
use Rattle.dcsctp_send_queue.specs.Telling.{AddsFront}

-- The stream was prepared, and its events were added.
pub record PreparesStream (id : ℕ) (old : SendQueueState) (before : List (Event (List ℕ))) (new : SendQueueState) (after : List (Event (List ℕ))) : Type 0 where
  pub left : new ≡ queue_with_prepared id old
  pub tells : after ≡ before ++ prepare_events id old

-- That is so; or an allocation failed, and the first of its events were added.
abbrev pub TriesStream : {E : Type 0} → ℕ → SendQueueState → List (Event (List ℕ)) → Result (Unit {0}) E → SendQueueState → List (Event (List ℕ)) → Type 0
TriesStream id old before result new after =
    ByResult (λ done. PreparesStream id old before new after) (AddsFront before (prepare_events id old) after) result
