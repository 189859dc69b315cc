-- What sending does, as turns of a socket's view.
use Rattle.std.specs.Prelude.{◌≡◌, ℕ, Bool, true, false, Option, Some, None, Result, List, [], ◌∷◌, ◌++◌}
use Rattle.std.specs.Option.{option_map}
use Rattle.rand_core.specs.Stream.{Stream}
use Rattle.dcsctp_core.specs.types.ByResult.{ByResult}
use Rattle.dcsctp_core.specs.types.declared.ids.LifecycleId.{LifecycleId}
use Rattle.dcsctp_core.specs.types.Ids.{lifecycle_number}
use Rattle.dcsctp_core.specs.spec.endpoint.Event.{Event, lifecycle_end}
use Rattle.dcsctp_core.specs.spec.Packet.{Emission}
use Rattle.dcsctp_core.specs.spec.endpoint.Outcome.{Outcome, quiet}
use Rattle.dcsctp_core.specs.spec.endpoint.MessageOutcomes.{MessageRefusal, sending_refusal, refusal_events, Sending, queue_one, queue_all, refused_from, takes_any, SendTurn}
use Rattle.dcsctp_core.specs.api.declared.errors.BatchSendError.{BatchSendError}
use Rattle.dcsctp_core.specs.api.declared.errors.SendError.{SendError}
use Rattle.dcsctp_core.specs.api.Messages.{refusal_of, refusal_of_answer, refused_messages, IsBatchAnswer}
use Rattle.dcsctp_core.specs.declared.context.Context.{Context}
use Rattle.dcsctp_core.specs.View.{View, view_of, Moves, CutsTurn}
use Rattle.dcsctp_core.specs.Handling.{TakesPossibleTurn, CutsSomeTurn, TakesOne, SendsQueued}
use Rattle.dcsctp_core_messages.specs.declared.queueing.QueuedAll.{QueuedAll}

-- ---- a message that is refused

-- the event about the end of the message of this name, if it has one
abbrev pub end_events : Option LifecycleId → List (Event Emission)
end_events None = []
end_events (Some id) = lifecycle_end (lifecycle_number id) ∷ []

abbrev pub end_turn : {R : Type 0} → Option LifecycleId → View R → Outcome
end_turn id view = quiet view.endpoint [] (end_events id)

abbrev pub message_refusal_turn : {R : Type 0} → MessageRefusal → Option LifecycleId → View R → Outcome
message_refusal_turn refusal id view = quiet view.endpoint [] (refusal_events refusal (option_map lifecycle_number id))

-- ---- a message that is taken or refused

-- The message was taken or refused; or an allocation failed, and the first of its events may have been added.
abbrev pub Queues : {R E : Type 0} → (R → Stream) → Sending → Context R → Result (Option SendError) E → Context R → Type 0
Queues stream message old result new =
    ByResult (λ refused. (option_map refusal_of refused ≡ sending_refusal (view_of old).endpoint message)
    × Moves stream (view_of old) (queue_one (view_of old).endpoint message) (view_of new))
    (CutsTurn (view_of old) (queue_one (view_of old).endpoint message) (view_of new).events) result

-- It is recorded whether the message of this place was refused.
abbrev pub RecordsAnswer : ℕ → Option MessageRefusal → QueuedAll → QueuedAll → Type 0
RecordsAnswer place None old new = (new.refused.items ≡ old.refused.items) × (new.has_taken ≡ true)
RecordsAnswer place (Some refusal) old new =
    (refused_messages new.refused.items ≡ refused_messages old.refused.items ++ record { place = place; refusal = refusal } ∷ [])
    × (new.has_taken ≡ old.has_taken)

-- the answers so far, and the association
pub record Queueing (R : Type 0) : Type 0 where
  pub queued : QueuedAll
  pub context : Context R

abbrev pub queueing : {R : Type 0} → QueuedAll → Context R → Queueing R
queueing queued context = record { queued = queued; context = context }

-- The message of this place was taken or refused, and that was recorded. Or an allocation failed, and the first of its events may
-- have been added.
abbrev pub QueuesAndRecords : {R E : Type 0} → (R → Stream) → ℕ → Sending → Queueing R → Result (Unit {0}) E → Queueing R → Type 0
QueuesAndRecords stream place message old result new =
    ByResult (λ done. RecordsAnswer place (sending_refusal (view_of old.context).endpoint message) old.queued new.queued
    × Moves stream (view_of old.context) (queue_one (view_of old.context).endpoint message) (view_of new.context))
    (CutsTurn (view_of old.context) (queue_one (view_of old.context).endpoint message) (view_of new.context).events) result

-- Each of these was taken or refused.
pub record AreQueued {R : Type 0} (stream : R → Stream) (messages : List Sending) (old : View R) (queued : QueuedAll) (new : View R) : Type 0 where
  pub refused : refused_messages queued.refused.items ≡ refused_from 0 old.endpoint messages
  pub taken : queued.has_taken ≡ takes_any old.endpoint messages
  pub moves : Moves stream old (queue_all old.endpoint messages) new

abbrev pub QueuesAll : {R E : Type 0} → (R → Stream) → List Sending → Context R → Result QueuedAll E → Context R → Type 0
QueuesAll stream messages old result new =
    ByResult (λ queued. AreQueued stream messages (view_of old) queued (view_of new))
    (CutsTurn (view_of old) (queue_all (view_of old).endpoint messages) (view_of new).events) result

-- ---- send and send_many

abbrev pub SendsMessages : {R : Type 0} → List Sending → View R → Outcome → Type 0
SendsMessages messages view o = SendTurn view.endpoint messages o

-- The message was sent or refused; or an allocation failed, and the first of its events may have been added.
abbrev pub SendsOne : {R E : Type 0} → (R → Stream) → Sending → Context R → Result (Result (Unit {0}) SendError) E → Context R → Type 0
SendsOne stream message old result new =
    ByResult (λ answer. (refusal_of_answer answer ≡ sending_refusal (view_of old).endpoint message)
    × TakesPossibleTurn stream (SendsMessages (message ∷ [])) (view_of old) (view_of new))
    (CutsSomeTurn (SendsMessages (message ∷ [])) (view_of old) (view_of new).events) result

-- the same for several
abbrev pub SendsAll : {R E : Type 0} → (R → Stream) → List Sending → Context R → Result (Result (Unit {0}) BatchSendError) E → Context R → Type 0
SendsAll stream messages old result new =
    ByResult (λ answer. IsBatchAnswer (refused_from 0 (view_of old).endpoint messages) answer
    × TakesPossibleTurn stream (SendsMessages messages) (view_of old) (view_of new))
    (CutsSomeTurn (SendsMessages messages) (view_of old) (view_of new).events) result

-- What waits was sent, if it was to; else nothing has changed.
abbrev pub FlushesIfAsked : {R E : Type 0} → (R → Stream) → Bool → Context R → Result (Unit {0}) E → Context R → Type 0
FlushesIfAsked stream true old result new = TakesOne stream SendsQueued old result new
FlushesIfAsked stream false old result new = ByResult (λ done. view_of new ≡ view_of old) ⊥ result
