-- What a call's answer says of the messages that its user sends and reads, and how these are kept.
use Rattle.std.specs.Prelude.{◌≡◌, ◌==◌, ◌+◌, ℕ, Bool, Some, Result, Ok, Err, List, [], ◌∷◌, ◌++◌, if◌then◌else◌}
use Rattle.std.specs.List.{list_any}
use Rattle.dcsctp_core.specs.types.Schedule.{CallContent, send_call, send_many_call, take_call}
use Rattle.dcsctp_core.specs.types.queues.Messages.{MessageContent, message_content}
use Rattle.dcsctp_core.specs.types.ByResult.{ByResult}
use Rattle.dcsctp_core.specs.spec.endpoint.MessageOutcomes.{RefusedMessage}
use Rattle.dcsctp_core.specs.api.declared.errors.BatchSendError.{BatchSendError}
use Rattle.dcsctp_core.specs.api.Messages.{refused_messages}
use Rattle.dcsctp_world.specs.declared.act.Reply.{Reply}
use Rattle.dcsctp_world.specs.declared.act.Reply.TheVariants.{Sent, SentMany, Taken}
use Rattle.dcsctp_world.specs.Growth.{AppendsFirst}

-- ---- what an answer says

-- those that `send_many` refuses, by what it answers
abbrev pub refused_of_many : Result (Unit {0}) BatchSendError → List RefusedMessage
refused_of_many (Ok done) = []
refused_of_many (Err error) = refused_messages error.0.items

-- Is the message of this place among them?
abbrev pub is_place_refused : ℕ → List RefusedMessage → Bool
is_place_refused place refused = list_any (λ one. one.place == place) refused

-- this message, unless that of this place is refused
abbrev pub other_unless_refused : ℕ → List RefusedMessage → MessageContent → List MessageContent
other_unless_refused place refused message = if is_place_refused place refused then [] else message ∷ []

-- these messages without the refused ones, if the first has this place
abbrev pub others_from : ℕ → List RefusedMessage → List MessageContent → List MessageContent
others_from place refused [] = []
others_from place refused (message ∷ messages) = other_unless_refused place refused message ++ others_from (place + 1) refused messages

abbrev pub sent_if : MessageContent → Reply → List MessageContent
sent_if message (Sent (Ok done)) = message ∷ []
sent_if message reply = []

abbrev pub sent_among : List MessageContent → Reply → List MessageContent
sent_among messages (SentMany answer) = others_from 0 (refused_of_many answer) messages
sent_among messages reply = []

-- the messages that a call sends, by what it answers
abbrev pub messages_of_call : CallContent → Reply → List MessageContent
messages_of_call (send_call message options) reply = sent_if message reply
messages_of_call (send_many_call messages options) reply = sent_among messages reply
messages_of_call call reply = []

abbrev pub taken_messages : Reply → List MessageContent
taken_messages (Taken (Some message)) = message_content message ∷ []
taken_messages reply = []

-- those that it reads
abbrev pub messages_read_of_call : CallContent → Reply → List MessageContent
messages_read_of_call take_call reply = taken_messages reply
messages_read_of_call call reply = []

-- ---- how they are kept

-- All of these were added; or an allocation failed, and the first of them were.
abbrev pub AddsAllOrFirst : {A E : Type 0} → List A → List A → Result (Unit {0}) E → List A → Type 0
AddsAllOrFirst all old result new = ByResult (λ done. new ≡ old ++ all) (AppendsFirst all old new) result
