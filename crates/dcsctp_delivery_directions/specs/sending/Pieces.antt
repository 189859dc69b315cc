-- What the send queue hands out are the pieces of the messages that its user queued, one after
-- another (RFC 9260, section 6.9).
use Rattle.std.specs.Prelude.{◌≡◌, ◌⊎◌, ◌<◌, ◌+◌, ◌%◌, ◌^◌, ℕ, Bool, true, false, Option, None, Some, List, [], ◌∷◌, length, drop}
use Rattle.dcsctp_spec.specs.endpoint.Event.{Event}
use Rattle.dcsctp_spec.specs.types.declared.sending.UnderWay.{UnderWay}
use Rattle.dcsctp_spec.specs.types.queues.SendStreams.{Waiting, Stream, front_of, stream_at}
use Rattle.dcsctp_spec.specs.queues.SendQueue.{SendQueueState}
use Rattle.dcsctp_spec.specs.queues.OwnResets.{count_under_way}
use Rattle.dcsctp_spec.specs.queues.Sending.{Fragment, TakesFragment, may_be_abandoned}
use Rattle.dcsctp_delivery_directions.specs.sending.Places.{at_place}
use Rattle.dcsctp_delivery_directions.specs.sending.Weights.{HasRoomForLog}
use Rattle.dcsctp_delivery_directions.specs.sending.Numbers.{stream_named, is_handed_out, IsCurrent, NumbersMessages}
use Rattle.dcsctp_delivery_directions.specs.sending.Log.{Message, Piece, Slot, newest_on, is_beginning, is_end, piece_bytes, IsPiece, HasBefore, HasEarlier, History, with_slot, IsEndOrClosed}

-- A message that may not be abandoned has no limits (RFC 3758).
abbrev pub HasNoLimits : Bool → Option ℕ → Option ℕ → Type 0
HasNoLimits is_limited expires_at max_retransmissions = is_limited ≡ false → (expires_at ≡ None) × (max_retransmissions ≡ None)

-- The message that waits on the stream is this one.
pub record IsWaitingMessage (id : ℕ) (waiting : Waiting) (message : Message) : Type 0 where
  pub stream : id ≡ message.stream
  pub ppid : waiting.ppid ≡ message.ppid
  pub unordered : waiting.is_unordered ≡ message.is_unordered
  pub payload : waiting.payload ≡ message.payload
  pub limits : HasNoLimits message.is_limited waiting.expires_at waiting.max_retransmissions
  pub limited : message.is_limited ≡ true → may_be_abandoned waiting ≡ true

-- The message that waits was queued, and isn't spent: its identifier counts the messages queued before it.
pub record WaitingWasQueued (queued : List Message) (id : ℕ) (waiting : Waiting) : Type 0 where
  pub message : Message
  pub at : at_place waiting.message_id queued ≡ Some message
  pub is : IsWaitingMessage id waiting message
  pub fresh : message.is_spent ≡ false
  pub some : 0 < length waiting.payload

-- Each of these was.
abbrev pub AllQueued : List Message → ℕ → List Waiting → Type 0
AllQueued queued id [] = Unit {0}
AllQueued queued id (waiting ∷ others) = WaitingWasQueued queued id waiting × AllQueued queued id others

-- Each was queued after this place.
abbrev pub AllBeyond : ℕ → List Waiting → Type 0
AllBeyond place [] = Unit {0}
AllBeyond place (waiting ∷ others) = (place < waiting.message_id) × AllBeyond place others

-- They wait in the order in which they were queued.
abbrev pub Ascend : List Waiting → Type 0
Ascend [] = Unit {0}
Ascend (waiting ∷ others) = AllBeyond waiting.message_id others × Ascend others

-- the messages of a stream of which no piece was handed out
abbrev pub unbegun : Stream → List Waiting
unbegun stream = drop (count_under_way stream) stream.messages

-- The newest piece of the stream is of the message under way, and ends where that has come to.
pub record ComesTo (log : List Slot) (place : ℕ) (under_way : UnderWay) (message : Message) : Type 0 where
  pub piece : Piece
  pub at : newest_on under_way.stream_id.0 log ≡ Some piece
  pub is : piece.place ≡ place
  pub says : piece.message ≡ message
  pub end : piece.start + piece.size ≡ under_way.sent
  pub mid : under_way.mid % 2 ^ 32 ≡ piece.mid % 2 ^ 32
  pub fsn : under_way.next_fsn % 2 ^ 32 ≡ (piece.fsn + 1) % 2 ^ 32

-- The newest piece of the stream is of the message under way, and ends where that has come to; or no piece of the stream was
-- sent in this association yet.
pub record IsGoing (queued : List Message) (log : List Slot) (stream : Stream) (under_way : UnderWay) : Type 0 where
  pub place : ℕ
  pub message : Message
  pub at : at_place place queued ≡ Some message
  pub unfinished : under_way.sent < length message.payload
  pub begun : 0 < under_way.sent
  pub is : stream.id ≡ under_way.stream_id.0
  pub waiting : Waiting
  pub front : front_of stream.messages ≡ Some waiting
  pub named : waiting.message_id ≡ place
  pub came : (newest_on under_way.stream_id.0 log ≡ None) ⊎ ComesTo log place under_way message

-- So it is if the stream has a message under way.
abbrev pub Going : List Message → List Slot → Stream → Option UnderWay → Type 0
Going queued log stream None = Unit {0}
Going queued log stream (Some under_way) = IsGoing queued log stream under_way

-- The queue holds messages that were queued, each once and in order. What is not begun was queued after all pieces of its
-- stream. No two streams have one number, and numbers have 16 bits (RFC 9260, section 3.3.1).
pub record HoldsQueued (queued : List Message) (log : List Slot) (streams : List Stream) : Type 0 where
  pub wait : (q : ℕ) → AllQueued queued (stream_at streams q).id (stream_at streams q).messages
  pub ascend : (q : ℕ) → Ascend (stream_at streams q).messages
  pub beyond : (q n : ℕ) (f : Piece) → at_place n log ≡ Some (Some f) → f.message.stream ≡ (stream_at streams q).id
      → AllBeyond f.place (unbegun (stream_at streams q))
  pub distinct : (p q : ℕ) → p < length streams → q < length streams → (stream_at streams p).id ≡ (stream_at streams q).id → p ≡ q
  pub small : (q : ℕ) → (stream_at streams q).id < 2 ^ 16
  pub going : (q : ℕ) → Going queued log (stream_at streams q) (stream_at streams q).under_way
  pub room : HasRoomForLog queued log streams

-- The fragment that was handed out says what the piece does.
pub record CarriesPiece (part : Fragment) (piece : Piece) : Type 0 where
  pub named : part.message_id ≡ piece.place
  pub stream : part.stream ≡ piece.message.stream
  pub ppid : part.ppid ≡ piece.message.ppid
  pub unordered : part.is_unordered ≡ piece.message.is_unordered
  pub beginning : part.is_beginning ≡ is_beginning piece
  pub end : part.is_end ≡ is_end piece
  pub payload : part.payload ≡ piece_bytes piece
  pub limits : HasNoLimits piece.message.is_limited part.expires_at part.max_retransmissions
  pub mid : part.mid % 2 ^ 32 ≡ piece.mid % 2 ^ 32
  pub fsn : part.fsn ≡ piece.fsn
  pub ssn : part.ssn ≡ piece.ssn

-- What is handed out is the next piece, of a stream that isn't handed out to be reset. The queue holds the rest.
pub record HandsOutPiece (queued : List Message) (history : History) (part : Fragment) (new : SendQueueState) : Type 0 where
  pub piece : Piece
  pub is_piece : IsPiece queued piece
  pub row : 0 < piece.start → HasEarlier history.log (length history.log) piece → HasBefore history.log (length history.log) piece
  pub ascends : (n : ℕ) (f : Piece) → at_place n history.log ≡ Some (Some f) → piece.start ≡ 0 → f.message.stream ≡ piece.message.stream → f.place < piece.place
  pub climbs : (n : ℕ) (f : Piece) → at_place n history.log ≡ Some (Some f) → piece.start ≡ 0 → piece.is_interleaved ≡ true → f.message.stream ≡ piece.message.stream
      → f.message.is_unordered ≡ piece.message.is_unordered → f.mid < piece.mid
  pub ends : (n : ℕ) (f : Piece) → at_place n history.log ≡ Some (Some f) → piece.start ≡ 0 → f.message.stream ≡ piece.message.stream
      → ((k : ℕ) (h : Piece) → n < k → at_place k history.log ≡ Some (Some h) → h.message.stream ≡ piece.message.stream → ⊥) → IsEndOrClosed history.log f
  pub says : CarriesPiece part piece
  pub queue_holds : HoldsQueued queued (Some piece ∷ history.log) new.streams
  pub numbers : NumbersMessages (with_slot (Some piece) history) new
  pub current : piece.is_interleaved ≡ true → IsCurrent history piece
  pub kept : is_handed_out (stream_named piece.message.stream new.streams).pause ≡ false

-- So it is whenever the queue hands out a fragment.
abbrev pub PiecesFollow : Type 0
PiecesFollow =
    (queued : List Message) (history : History) (now max : ℕ) (old new : SendQueueState) (told_before told_after : List (Event (List ℕ))) (part : Fragment)
    → 0 < max → HoldsQueued queued history.log old.streams → NumbersMessages history old → TakesFragment now max old told_before part new told_after
    → HandsOutPiece queued history part new
