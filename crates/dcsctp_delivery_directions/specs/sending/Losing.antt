-- Messages without limits aren't abandoned (RFC 3758): none that was queued is left out as messages
-- are sent.
use Rattle.std.specs.Prelude.{◌≡◌, ◌⊎◌, ◌++◌, ℕ, false, None, Some, List}
use Rattle.std.specs.List.{AllByRecursion}
use Rattle.dcsctp_spec.specs.Packet.{Emission}
use Rattle.dcsctp_spec.specs.types.declared.sending.Pause.TheVariants.{Open}
use Rattle.dcsctp_spec.specs.types.queues.SendStreams.{Waiting, Stream, stream_at}
use Rattle.dcsctp_spec.specs.endpoint.Endpoint.{Endpoint}
use Rattle.dcsctp_spec.specs.endpoint.FlushOutcomes.{Answer, FlushAnswers, flush_of}
use Rattle.dcsctp_delivery_directions.specs.sending.Places.{HasEntry, at_place}
use Rattle.dcsctp_delivery_directions.specs.sending.Log.{Message, Piece, Slot, History, sent_messages}
use Rattle.dcsctp_delivery_directions.specs.sending.Flushes.{QueuesFollowLog, SendsLogged, begun_reset_of}

-- None of these messages may be abandoned: they have no lifetime, and no limit on retransmissions.
abbrev pub AreUnlimited : List Message → Type 0
AreUnlimited queued = AllByRecursion (λ (message : Message). message.is_limited ≡ false) queued

-- None of them that is on this stream may be.
abbrev pub AreUnlimitedOn : ℕ → List Message → Type 0
AreUnlimitedOn id queued = AllByRecursion (λ (message : Message). message.stream ≡ id → message.is_limited ≡ false) queued

-- A piece of the message was sent.
pub record WasSentOf (log : List Slot) (place : ℕ) : Type 0 where
  pub number : ℕ
  pub piece : Piece
  pub at : at_place number log ≡ Some (Some piece)
  pub is : piece.place ≡ place

-- The message waits.
pub record StillWaits (streams : List Stream) (place : ℕ) : Type 0 where
  pub q : ℕ
  pub waiting : Waiting
  pub has : HasEntry waiting (stream_at streams q).messages
  pub is : waiting.message_id ≡ place

-- No stream is to be reset (RFC 6525, section 5.1.2).
abbrev pub AreOpen : List Stream → Type 0
AreOpen streams = AllByRecursion (λ (stream : Stream). stream.pause ≡ Open) streams

-- This one isn't.
abbrev pub IsOpenOn : ℕ → List Stream → Type 0
IsOpenOn id streams = AllByRecursion (λ (stream : Stream). stream.id ≡ id → stream.pause ≡ Open) streams

-- All that was ever queued on the stream waits, and it isn't to be reset.
pub record AllWaitOn (id : ℕ) (queued : List Message) (streams : List Stream) : Type 0 where
  pub waits : (place : ℕ) (message : Message) → at_place place queued ≡ Some message → message.stream ≡ id → StillWaits streams place
  pub unpaused : IsOpenOn id streams

-- It was sent, or waits.
abbrev pub IsKept : List Slot → List Stream → ℕ → Type 0
IsKept log streams place = WasSentOf log place ⊎ StillWaits streams place

-- This holds for each message that was queued.
abbrev pub NoneLost : List Message → List Slot → List Stream → Type 0
NoneLost queued log streams = (place : ℕ) (message : Message) → at_place place queued ≡ Some message → IsKept log streams place

-- None that waits may expire.
abbrev pub NoneExpires : List Stream → Type 0
NoneExpires streams = (q : ℕ) (waiting : Waiting) → HasEntry waiting (stream_at streams q).messages → waiting.expires_at ≡ None

-- Where no message has limits, it is so after a flush, if it was before.
abbrev pub FlushingLosesNone : Type 0
FlushingLosesNone =
    (queued : List Message) (history : History) (first acknowledged : ℕ) (e : Endpoint) (draft : Emission) (answers : List Answer) → AreUnlimited queued → QueuesFollowLog queued history first acknowledged e.queues
    → FlushAnswers e draft answers
    → (sends : SendsLogged (sent_messages queued history) first acknowledged e.queues.queue (begun_reset_of answers) (flush_of e draft answers).after.queues (flush_of e draft answers).events)
    → NoneLost queued history.log e.queues.queue.streams → NoneLost queued (sends.more ++ history.log) (flush_of e draft answers).after.queues.queue.streams
