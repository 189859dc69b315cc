-- What the calls that send and take messages do.
use Rattle.std.specs.Prelude.{◌≡◌, ℕ, Option, Some, None, Result, Ok, Err, List, [], ◌∷◌, map, length}
use Rattle.dcsctp_spec_lemmas.specs.types.declared.message.Message.{Message}
use Rattle.dcsctp_spec_lemmas.specs.types.declared.message.SendOptions.{SendOptions}
use Rattle.dcsctp_spec_lemmas.specs.types.queues.Messages.{MessageContent, message_content}
use Rattle.dcsctp_spec_lemmas.specs.types.Schedule.{send_call, send_many_call}
use Rattle.dcsctp_spec_lemmas.specs.spec.queues.Transfer.{Transfer}
use Rattle.dcsctp_spec_lemmas.specs.spec.queues.IncomingStreams.{StreamModel}
use Rattle.dcsctp_spec_lemmas.specs.spec.endpoint.Endpoint.{Endpoint}
use Rattle.dcsctp_spec_lemmas.specs.spec.endpoint.Outcome.{Outcome}
use Rattle.dcsctp_spec_lemmas.specs.spec.endpoint.DataOutcomes.{ready_or_left, TakeTurn}
use Rattle.dcsctp_spec_lemmas.specs.spec.endpoint.MessageOutcomes.{MessageRefusal, empty_payload, message_too_large, shutting_down, resource_exhaustion, message_refusal, sending_of, RefusedMessage, refused_from}
use Rattle.dcsctp_api.specs.declared.errors.BatchSendError.{BatchSendError}
use Rattle.dcsctp_api.specs.declared.errors.SendError.{SendError}
use Rattle.dcsctp_api.specs.declared.errors.SendError.TheVariants.{EmptyPayload, MessageTooLarge, ResourceExhaustion, ShuttingDown}
use Rattle.dcsctp_api.specs.declared.errors.SocketFault.{SocketFault}
use Rattle.dcsctp_api.specs.Calls.{UserView, UserCalls}

-- ---- what is returned

-- the reason that an error gives
abbrev pub refusal_of : SendError → MessageRefusal
refusal_of EmptyPayload = empty_payload
refusal_of (MessageTooLarge bytes limit) = message_too_large bytes limit
refusal_of ResourceExhaustion = resource_exhaustion
refusal_of ShuttingDown = shutting_down

-- why the message was refused, by the result
abbrev pub refusal_of_answer : Result (Unit {0}) SendError → Option MessageRefusal
refusal_of_answer (Ok done) = None
refusal_of_answer (Err error) = Some (refusal_of error)

-- the messages that such a list names
abbrev pub refused_messages : List (ℕ × SendError) → List RefusedMessage
refused_messages errors = map (λ error. record { place = error.0; refusal = refusal_of error.1 }) errors

-- No message is refused, or the error names all that are.
abbrev pub IsBatchAnswer : List RefusedMessage → Result (Unit {0}) BatchSendError → Type 0
IsBatchAnswer refused (Ok done) = refused ≡ []
IsBatchAnswer refused (Err error) = (refused_messages error.0.items ≡ refused) × (refused ≡ [] → ⊥)

-- ---- send and send_many

-- What `send` returns: whether the message is refused, and why.
abbrev pub IsSendAnswer : Endpoint → MessageContent → Result (Unit {0}) SendError → Type 0
IsSendAnswer e message answer = refusal_of_answer answer ≡ message_refusal e message.stream (length message.payload)

-- What `send_many` returns: which of the messages are refused, and why.
abbrev pub IsSendManyAnswer : Endpoint → List MessageContent → SendOptions → Result (Unit {0}) BatchSendError → Type 0
IsSendManyAnswer e messages options answer = IsBatchAnswer (refused_from 0 e (map (sending_of options) messages)) answer

abbrev pub SendsMessage : MessageContent → SendOptions → UserView → Result (Result (Unit {0}) SendError) SocketFault → UserView → Type 0
SendsMessage message options old result new = UserCalls (send_call message options) (IsSendAnswer old.endpoint message) old result new

abbrev pub SendsMany : List MessageContent → SendOptions → UserView → Result (Result (Unit {0}) BatchSendError) SocketFault → UserView → Type 0
SendsMany messages options old result new = UserCalls (send_many_call messages options) (IsSendManyAnswer old.endpoint messages options) old result new

-- ---- get_next_message

-- the messages that can be taken, in order
abbrev pub ready_messages : Endpoint → List MessageContent
ready_messages e = ready_or_left e.left e.queues.transfer

abbrev pub transfer_streams : Option Transfer → List (ℕ × StreamModel)
transfer_streams None = []
transfer_streams (Some transfer) = transfer.reassembly.incoming.streams

-- what was received and isn't ready, by streams
abbrev pub incoming_streams : Endpoint → List (ℕ × StreamModel)
incoming_streams e = transfer_streams e.queues.transfer

-- It is the first of these, or there is none.
abbrev pub IsFirstMessage : List MessageContent → Option Message → Type 0
IsFirstMessage ready None = ready ≡ []
IsFirstMessage ready (Some message) = (rest : List MessageContent) × (ready ≡ message_content message ∷ rest)

-- The first message that can be taken is taken. No event is added, and no word is drawn.
pub record TakesNextMessage (old : UserView) (result : Option Message) (new : UserView) : Type 0 where
  pub first : IsFirstMessage (ready_messages old.endpoint) result
  pub outcome : Outcome
  pub turn : TakeTurn old.endpoint old.endpoint.queues.transfer outcome
  pub is : new ≡ record old { endpoint = outcome.after; words = []; pairs = [] }
