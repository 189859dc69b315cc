-- Messages that the user sends: which a socket takes, the events about one that it refuses, and what is sent.
use Rattle.std.specs.Prelude.{◌≡◌, ◌==◌, ◌&&◌, ◌||◌, ◌+◌, ◌++◌, is_none, ℕ, Bool, true, false, Option, None, Some, List, [], ◌∷◌, length, nat_le, nat_lt, codes, if◌then◌else◌}
use Rattle.std.specs.Option.{option_map}
use Rattle.dcsctp_types.specs.declared.kinds.ErrorKind.{ErrorKind}
use Rattle.dcsctp_types.specs.declared.kinds.ErrorKind.TheVariants.{ProtocolViolation, WrongSequence, ResourceExhaustion}
use Rattle.dcsctp_types.specs.declared.message.SendOptions.{SendOptions}
use Rattle.dcsctp_types.specs.declared.options.Options.{Options}
use Rattle.dcsctp_spec.specs.endpoint.Event.{Event, error, lifecycle_end}
use Rattle.dcsctp_spec.specs.Packet.{Emission}
use Rattle.dcsctp_types.specs.Ids.{lifecycle_number}
use Rattle.dcsctp_types.specs.queues.Messages.{MessageContent}
use Rattle.dcsctp_spec.specs.queues.SendQueue.{SendQueueState, queue_stream, queued_message, with_added}
use Rattle.dcsctp_spec.specs.endpoint.Endpoint.{Endpoint, Core, closed, cookie_wait, cookie_echoed, open_in, held_by_core, OpenPhase, established, shutdown_pending, shutdown_sent, shutdown_received, shutdown_ack_sent}
use Rattle.dcsctp_spec.specs.endpoint.Outcome.{Outcome, count_up, still, quiet, then_outcome}
use Rattle.dcsctp_spec.specs.endpoint.FlushOutcomes.{Answer}
use Rattle.dcsctp_spec.specs.endpoint.DataOutcomes.{flush_to_peer, AnswersTo}

pub data MessageRefusal : Type 0 where
  empty_payload : MessageRefusal
  -- its bytes, and how many a message may have
  message_too_large : ℕ → ℕ → MessageRefusal
  shutting_down : MessageRefusal
  resource_exhaustion : MessageRefusal

-- Does the association end once what was sent is acknowledged (RFC 9260, section 9.2)?
abbrev pub is_phase_shutting_down : OpenPhase → Bool
is_phase_shutting_down established = false
is_phase_shutting_down shutdown_pending = true
is_phase_shutting_down shutdown_sent = true
is_phase_shutting_down shutdown_received = true
is_phase_shutting_down shutdown_ack_sent = true

abbrev pub is_shutting_down : Core → Bool
is_shutting_down closed = false
is_shutting_down (cookie_wait my) = false
is_shutting_down (cookie_echoed my held cookie) = false
is_shutting_down (open_in phase my held) = is_phase_shutting_down phase

-- Does a shutdown wait for the association to open?
abbrev pub awaits_opening : Endpoint → Core → Bool
awaits_opening e (cookie_echoed my held cookie) = e.options.follow_rfc && e.shutdown_asked
awaits_opening e core = false

-- Is the send buffer full, in all or for this stream?
abbrev pub is_full : Options → SendQueueState → ℕ → Bool
is_full options queue id =
    nat_le options.max_send_buffer_size queue.total_amount || nat_le options.per_stream_send_queue_limit (queue_stream queue id).amount

-- Why a message of that many bytes is refused on this stream: the first of these that holds.
abbrev pub message_refusal : Endpoint → ℕ → ℕ → Option MessageRefusal
message_refusal e id bytes =
    if bytes == 0 then Some empty_payload
    else if nat_lt e.options.max_message_size bytes then Some (message_too_large bytes e.options.max_message_size)
    else if is_shutting_down e.core || awaits_opening e e.core then Some shutting_down
    else if is_full e.options e.queues.queue id then Some resource_exhaustion
    else None

abbrev pub refusal_kind : MessageRefusal → ErrorKind
refusal_kind empty_payload = ProtocolViolation
refusal_kind (message_too_large bytes limit) = ProtocolViolation
refusal_kind shutting_down = WrongSequence
refusal_kind resource_exhaustion = ResourceExhaustion

abbrev pub message_refusal_text : MessageRefusal → List ℕ
message_refusal_text empty_payload = codes "Unable to send empty message"
message_refusal_text (message_too_large bytes limit) = codes "Unable to send too large message"
message_refusal_text shutting_down = codes "Unable to send message as the socket is shutting down"
message_refusal_text resource_exhaustion = codes "Unable to send message as the send queue is full"

-- the events about a message of this name that is refused
abbrev pub refusal_events : MessageRefusal → Option ℕ → List (Event Emission)
refusal_events refusal None = error (refusal_kind refusal) (message_refusal_text refusal) ∷ []
refusal_events refusal (Some id) = lifecycle_end id ∷ error (refusal_kind refusal) (message_refusal_text refusal) ∷ []

-- ---- what the user sends

-- a message that is to be sent, and how
pub record Sending : Type 0 where
  pub message : MessageContent
  pub options : SendOptions

abbrev pub sending_of : SendOptions → MessageContent → Sending
sending_of options message = record { message = message; options = options }

-- why it is refused
abbrev pub sending_refusal : Endpoint → Sending → Option MessageRefusal
sending_refusal e sending = message_refusal e sending.message.stream (length sending.message.payload)

-- the number of its name
abbrev pub lifecycle_name : Sending → Option ℕ
lifecycle_name sending = option_map lifecycle_number sending.options.lifecycle_id

-- the queue once it was taken at this moment
abbrev pub sending_queued : ℕ → Sending → SendQueueState → SendQueueState
sending_queued now sending queue = with_added sending.message.stream (queued_message now sending.message sending.options queue) queue

-- the endpoint once a message was taken
abbrev pub message_queued : Endpoint → Sending → Endpoint
message_queued e message =
    record e {
      counts = record e.counts { messages_queued = count_up e.counts.messages_queued };
      queues = record e.queues { queue = sending_queued e.moment message e.queues.queue };
    }

abbrev pub queue_unless_refused : Endpoint → Sending → Option MessageRefusal → Outcome
queue_unless_refused e message None = still (message_queued e message)
queue_unless_refused e message (Some refusal) = quiet e [] (refusal_events refusal (lifecycle_name message))

-- The message is taken or refused.
abbrev pub queue_one : Endpoint → Sending → Outcome
queue_one e message = queue_unless_refused e message (sending_refusal e message)

-- one message after another
abbrev pub queue_all : Endpoint → List Sending → Outcome
queue_all e [] = still e
queue_all e (message ∷ messages) = then_outcome (queue_one e message) (queue_all (queue_one e message).after messages)

-- a message that is refused: its place among those that are sent together, from 0, and why
pub record RefusedMessage : Type 0 where
  pub place : ℕ
  pub refusal : MessageRefusal

abbrev pub refused_message_at_place : ℕ → Option MessageRefusal → List RefusedMessage
refused_message_at_place place None = []
refused_message_at_place place (Some refusal) = record { place = place; refusal = refusal } ∷ []

-- those of these that are refused, in order, if the first has this place
abbrev pub refused_from : ℕ → Endpoint → List Sending → List RefusedMessage
refused_from place e [] = []
refused_from place e (message ∷ messages) =
    refused_message_at_place place (sending_refusal e message) ++ refused_from (place + 1) (queue_one e message).after messages

-- is one of them taken?
abbrev pub takes_any : Endpoint → List Sending → Bool
takes_any e [] = false
takes_any e (message ∷ messages) = is_none (sending_refusal e message) || takes_any (queue_one e message).after messages

-- If one was taken, what waits is sent.
abbrev pub SendAnswers : Bool → Endpoint → List Answer → Type 0
SendAnswers false e answers = answers ≡ []
SendAnswers true e answers = AnswersTo e (held_by_core e.core) answers

abbrev pub flush_if_queued : Bool → Endpoint → List Answer → Outcome
flush_if_queued false e answers = still e
flush_if_queued true e answers = flush_to_peer e (held_by_core e.core) answers

-- The user sends these messages.
abbrev pub SendTurn : Endpoint → List Sending → Outcome → Type 0
SendTurn e messages o =
    (answers : List Answer) × SendAnswers (takes_any e messages) (queue_all e messages).after answers
    × (o ≡ then_outcome (queue_all e messages) (flush_if_queued (takes_any e messages) (queue_all e messages).after answers))
