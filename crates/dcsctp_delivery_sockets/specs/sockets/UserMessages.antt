-- What the user of a socket sends and reads, turn by turn, and when what one user read is what the
-- other sent.
use Rattle.std.specs.Prelude.{◌≡◌, ℕ, Option, None, Some, List, [], ◌∷◌, ◌++◌, slice_get}
use Rattle.dcsctp_spec_lemmas.specs.spec.endpoint.CallTurns.{Transition}
use Rattle.dcsctp_spec_lemmas.specs.spec.endpoint.DataOutcomes.{ready_or_left}
use Rattle.dcsctp_spec_lemmas.specs.spec.endpoint.Endpoint.{Endpoint}
use Rattle.dcsctp_spec_lemmas.specs.spec.endpoint.Turn.{Input, user_sends, user_takes}
use Rattle.dcsctp_spec_lemmas.specs.types.queues.Messages.{MessageContent}
use Rattle.dcsctp_spec_lemmas.specs.spec.endpoint.MessageOutcomes.{MessageRefusal, Sending, sending_refusal, queue_one}
use Rattle.dcsctp_delivery_directions.specs.receiving.Ready.{AreDistinct}

-- ---- sent

-- those of a call that aren't refused, in order, each as `said` says it
abbrev pub accepted_unless_refused : {A : Type 0} → Option MessageRefusal → A → List A → List A
accepted_unless_refused None one others = one ∷ others
accepted_unless_refused (Some refusal) one others = others

abbrev pub accepted_as : {A : Type 0} → (Sending → A) → Endpoint → List Sending → List A
accepted_as said e [] = []
accepted_as said e (sending ∷ sendings) = accepted_unless_refused (sending_refusal e sending) (said sending) (accepted_as said (queue_one e sending).after sendings)

abbrev pub sent_as : {A : Type 0} → (Sending → A) → Endpoint → Input → List A
sent_as said e (user_sends sendings) = accepted_as said e sendings
sent_as said e input = []

-- all that the user of this socket sent in these turns, in order: what `send` and `send_many` accepted
abbrev pub all_sent_as : {A : Type 0} → (Sending → A) → Endpoint → List Transition → List A
all_sent_as said e [] = []
all_sent_as said e (turn ∷ turns) = sent_as said e turn.input ++ all_sent_as said turn.outcome.after turns

-- the messages alone
abbrev pub message_sent : Sending → MessageContent
message_sent sending = sending.message

abbrev pub accepted_messages : Endpoint → List Sending → List MessageContent
accepted_messages e sendings = accepted_as message_sent e sendings

abbrev pub messages_of_input : Endpoint → Input → List MessageContent
messages_of_input e input = sent_as message_sent e input

abbrev pub messages_of_turns : Endpoint → List Transition → List MessageContent
messages_of_turns e turns = all_sent_as message_sent e turns

-- each message with its options
abbrev pub sendings_of_turns : Endpoint → List Transition → List Sending
sendings_of_turns e turns = all_sent_as (λ sending. sending) e turns

-- ---- read

-- what a call reads: the first message that can be taken, if there is one; also one that an association left when it ended
abbrev pub first_readable : List MessageContent → List MessageContent
first_readable [] = []
first_readable (message ∷ messages) = message ∷ []

abbrev pub messages_read_of_input : Endpoint → Input → List MessageContent
messages_read_of_input e user_takes = first_readable (ready_or_left e.left e.queues.transfer)
messages_read_of_input e input = []

-- all messages that the user of this socket read in these turns, in order
abbrev pub read_of : Endpoint → List Transition → List MessageContent
read_of e [] = []
read_of e (turn ∷ turns) = messages_read_of_input e turn.input ++ read_of turn.outcome.after turns

-- ---- both

-- Each of these was sent, at its place in the order of sending: stream, protocol identifier and bytes.
abbrev pub WereSent : List MessageContent → List ℕ → List MessageContent → Type 0
WereSent sent [] [] = Unit {0}
WereSent sent [] (message ∷ messages) = ⊥
WereSent sent (place ∷ places) [] = ⊥
WereSent sent (place ∷ places) (message ∷ messages) = (slice_get sent place ≡ Some message) × WereSent sent places messages

-- Each message that was read was sent, and none was read twice.
pub record IsDelivered (sent read : List MessageContent) : Type 0 where
  pub places : List ℕ
  pub were_sent : WereSent sent places read
  pub once : AreDistinct places
