-- What a reset of our own streams does, as turns of a socket's view.
use Rattle.std.specs.Prelude.{◌≡◌, ℕ, Result, List, []}
use Rattle.rand_core.specs.Stream.{Stream}
use Rattle.dcsctp_core.specs.types.ByResult.{ByResult}
use Rattle.dcsctp_core.specs.spec.queues.OwnResets.{queue_with_prepared, prepared_all, prepare_events, prepare_all_events}
use Rattle.dcsctp_core.specs.spec.endpoint.Endpoint.{Endpoint}
use Rattle.dcsctp_core.specs.spec.endpoint.Outcome.{Outcome, quiet}
use Rattle.dcsctp_core.specs.spec.endpoint.PreparedResets.{reset_refusal, endpoint_with_queue, OwnResetsTurn}
use Rattle.dcsctp_core.specs.api.declared.errors.ResetStreamsError.{ResetStreamsError}
use Rattle.dcsctp_core.specs.api.Resets.{reset_refusal_of_answer}
use Rattle.dcsctp_core.specs.declared.context.Context.{Context}
use Rattle.dcsctp_core.specs.View.{View, view_of}
use Rattle.dcsctp_core.specs.Handling.{TakesPossibleTurn, CutsSomeTurn}

-- the turn in which a stream is prepared
abbrev pub prepared_turn : ℕ → Endpoint → Outcome
prepared_turn id e = quiet (endpoint_with_queue e (queue_with_prepared id e.queues.queue)) [] (prepare_events id e.queues.queue)

-- the same for several
abbrev pub prepared_turns : List ℕ → Endpoint → Outcome
prepared_turns ids e = quiet (endpoint_with_queue e (prepared_all ids e.queues.queue)) [] (prepare_all_events ids e.queues.queue)

abbrev pub PreparesOneStream : {R : Type 0} → ℕ → View R → Outcome → Type 0
PreparesOneStream id view o = o ≡ prepared_turn id view.endpoint

abbrev pub PreparesSomeStreams : {R : Type 0} → List ℕ → View R → Outcome → Type 0
PreparesSomeStreams ids view o = o ≡ prepared_turns ids view.endpoint

abbrev pub AsksForResets : {R : Type 0} → List ℕ → View R → Outcome → Type 0
AsksForResets ids view o = OwnResetsTurn view.endpoint ids o

-- The turn took place, and the result says whether it was refused. Or an allocation failed, and the first of its events may have
-- been added.
abbrev pub ResetsOwnStreams : {R E : Type 0} → (R → Stream) → List ℕ → Context R → Result (Result (Unit {0}) ResetStreamsError) E → Context R → Type 0
ResetsOwnStreams stream ids old result new =
    ByResult (λ answer. (reset_refusal_of_answer answer ≡ reset_refusal (view_of old).endpoint) × TakesPossibleTurn stream (AsksForResets ids) (view_of old) (view_of new))
    (CutsSomeTurn (AsksForResets ids) (view_of old) (view_of new).events) result
