-- The log of an association: which piece of which message each TSN carries that its sender has
-- assigned (RFC 9260, section 6.9). Lists have the newest first.
use Rattle.std.specs.Prelude.{◌≡◌, ◌⊎◌, ◌==◌, ◌<◌, ◌≤◌, ◌+◌, ◌%◌, ℕ, Bool, true, false, if◌then◌else◌, Option, None, Some, List, [], ◌∷◌, ◌++◌, length, take, drop, ◌^◌}
use Rattle.dcsctp_delivery_directions.specs.sending.Places.{at_place}
use Rattle.std.specs.List.{AllByRecursion}
use Rattle.dcsctp_spec.specs.queues.Incoming.{is_named}
use Rattle.dcsctp_spec.specs.Reconfiguration.{renewed_reset}
use Rattle.dcsctp_spec.specs.endpoint.BegunResets.{BegunReset}

-- a message that its user queued
pub record Message : Type 0 where
  pub stream : ℕ
  pub ppid : ℕ
  pub is_unordered : Bool
  pub payload : List ℕ
  -- Was it read in an earlier association? No piece of it is sent then.
  pub is_spent : Bool
  -- May it be abandoned (RFC 3758)? It has a lifetime, or a limit on how often it is sent again.
  pub is_limited : Bool

-- A stretch of a message, which one fragment carries.
pub record Piece : Type 0 where
  -- how many messages were queued before its message
  pub place : ℕ
  pub message : Message
  -- how many bytes of its message come before it
  pub start : ℕ
  pub size : ℕ
  -- the number of its message on its stream, without wrap: ordered and unordered messages are counted apart
  pub mid : ℕ
  -- how many fragments of its message come before it
  pub fsn : ℕ
  -- the number that its message has as DATA, if it is ordered (RFC 9260, section 3.3.1)
  pub ssn : ℕ
  -- Was it sent as I-DATA (RFC 8260)?
  pub is_interleaved : Bool

-- What a TSN carries. The end of a message that is abandoned takes a TSN too, and is never sent.
abbrev pub Slot : Type 0
Slot = Option Piece

-- the bits B and E of its fragment, and the payload
abbrev pub is_beginning : Piece → Bool
is_beginning piece = piece.start == 0

abbrev pub is_end : Piece → Bool
is_end piece = (piece.start + piece.size) == length piece.message.payload

-- No piece of its message comes after the slot, without interleaving.
abbrev pub IsEndSlot : Slot → Type 0
IsEndSlot None = Unit {0}
IsEndSlot (Some piece) = is_end piece ≡ true

-- The TSN right after the piece has the end of its message, which was abandoned (RFC 3758).
pub record IsClosed (log : List Slot) (piece : Piece) : Type 0 where
  pub offset : ℕ
  pub at : at_place offset log ≡ Some (Some piece)
  pub end : at_place (offset + 1) log ≡ Some None
  pub limited : piece.message.is_limited ≡ true

-- Its message ends with it, or right after it.
abbrev pub IsEndOrClosed : List Slot → Piece → Type 0
IsEndOrClosed log piece = (is_end piece ≡ true) ⊎ IsClosed log piece

abbrev pub piece_bytes : Piece → List ℕ
piece_bytes piece = take piece.size (drop piece.start piece.message.payload)

-- what the newest TSN carries
abbrev pub newest : List Slot → Option Slot
newest [] = None
newest (slot ∷ earlier) = Some slot

-- the newest piece of a stream
abbrev pub newest_on : ℕ → List Slot → Option Piece
newest_on id [] = None
newest_on id (None ∷ earlier) = newest_on id earlier
newest_on id (Some piece ∷ earlier) = if piece.message.stream == id then Some piece else newest_on id earlier

-- The newest TSN, if one was assigned, carries a piece of the stream.
abbrev pub IsNewestOn : ℕ → List Slot → Type 0
IsNewestOn id [] = Unit {0}
IsNewestOn id (None ∷ earlier) = ⊥
IsNewestOn id (Some piece ∷ earlier) = piece.message.stream ≡ id

-- It is a piece of the message that was queued at its place, which isn't spent.
pub record IsPiece (queued : List Message) (piece : Piece) : Type 0 where
  pub at : at_place piece.place queued ≡ Some piece.message
  pub fresh : piece.message.is_spent ≡ false
  pub some : 0 < piece.size
  pub within : piece.start + piece.size ≤ length piece.message.payload
  pub first : piece.start ≡ 0 → piece.fsn ≡ 0

-- The pieces of its message have TSNs in a row: without interleaving, and if the message may be abandoned.
abbrev pub IsInRow : Piece → Type 0
IsInRow piece = (piece.is_interleaved ≡ false) ⊎ (piece.message.is_limited ≡ true)

-- A TSN before this one carries what comes before the piece in its message, and none between them a piece of its stream. If its
-- message has TSNs in a row, it is the TSN right before.
pub record HasBefore (log : List Slot) (number : ℕ) (piece : Piece) : Type 0 where
  pub earlier : ℕ
  pub is : earlier < number
  pub near : IsInRow piece → earlier + 1 ≡ number
  pub apart : (n : ℕ) (f : Piece) → earlier < n → n < number → at_place n log ≡ Some (Some f) → f.message.stream ≡ piece.message.stream → ⊥
  pub before : Piece
  pub at : at_place earlier log ≡ Some (Some before)
  pub start : before.start + before.size ≡ piece.start
  pub place : before.place ≡ piece.place
  pub message : before.message ≡ piece.message
  pub mid : before.mid ≡ piece.mid
  pub fsn : (before.fsn + 1) % 2 ^ 32 ≡ piece.fsn % 2 ^ 32

-- A TSN before this one carries a piece of the stream.
pub record IsAfterPiece (log : List Slot) (number id : ℕ) : Type 0 where
  pub earlier : ℕ
  pub piece : Piece
  pub is : earlier < number
  pub at : at_place earlier log ≡ Some (Some piece)
  pub on : piece.message.stream ≡ id

-- The piece isn't the first of its stream in the association; if its message has TSNs in a row, not the first of all.
abbrev pub HasEarlier : List Slot → ℕ → Piece → Type 0
HasEarlier log number piece = (IsInRow piece × (0 < number)) ⊎ IsAfterPiece log number piece.message.stream

-- The log is one of messages that were queued. The pieces of a message come in order; only the first TSN of an association, and
-- with interleaving the first of a stream, may carry the rest of a message whose beginning was sent in an earlier one. Of two
-- messages of a stream the one that is begun later was queued later, and with interleaving has the higher number, if both are
-- ordered or both unordered. Right after a piece an end without one is that of its message, which may be abandoned. On each stream a
-- message is begun only once the one before has ended, or was abandoned.
pub record IsLogOfPieces (queued : List Message) (log : List Slot) : Type 0 where
  pub pieces : (n : ℕ) (f : Piece) → at_place n log ≡ Some (Some f) → IsPiece queued f
  pub rows : (n : ℕ) (f : Piece) → at_place n log ≡ Some (Some f) → 0 < f.start → HasEarlier log n f → HasBefore log n f
  pub ascends : (m n : ℕ) (f g : Piece) → m < n → at_place m log ≡ Some (Some f) → at_place n log ≡ Some (Some g) → g.start ≡ 0
      → f.message.stream ≡ g.message.stream → f.place < g.place
  pub climbs : (m n : ℕ) (f g : Piece) → m < n → at_place m log ≡ Some (Some f) → at_place n log ≡ Some (Some g) → g.start ≡ 0 → g.is_interleaved ≡ true
      → f.message.stream ≡ g.message.stream → f.message.is_unordered ≡ g.message.is_unordered → f.mid < g.mid
  pub shuts : (n : ℕ) (f : Piece) → at_place n log ≡ Some (Some f) → at_place (n + 1) log ≡ Some None → f.message.is_limited ≡ true
  pub ends : (m n : ℕ) (f g : Piece) → m < n → at_place m log ≡ Some (Some f) → at_place n log ≡ Some (Some g) → f.message.stream ≡ g.message.stream → g.start ≡ 0
      → ((k : ℕ) (h : Piece) → m < k → k < n → at_place k log ≡ Some (Some h) → h.message.stream ≡ g.message.stream → ⊥) → IsEndOrClosed log f

-- ---- what the sender of an association has done

-- a reset of our streams that was begun (RFC 6525, section 5.1.2): how many TSNs were assigned before it, and its request
pub record Mark : Type 0 where
  pub bound : ℕ
  pub begun : BegunReset
  -- the streams that were handed out for it: the request names their fields of 16 bits
  pub ids : List ℕ

pub record History : Type 0 where
  -- what its TSNs carry
  pub log : List Slot
  -- the resets of its streams that it has begun, newest first
  pub marks : List Mark
  -- From which numbers the messages of a stream are counted since its last reset, ordered and unordered ones apart. They don't
  -- wrap: after a reset they continue at a multiple of 2^32 above all earlier ones.
  pub floors : ℕ → Bool → ℕ

-- what the user has sent, and how it went out
pub record SentMessages : Type 0 where
  pub queued : List Message
  pub history : History

abbrev pub sent_messages : List Message → History → SentMessages
sent_messages queued history = record { queued = queued; history = history }

-- more TSNs were assigned
abbrev pub log_extended : List Slot → History → History
log_extended more history = record history { log = more ++ history.log }

-- one more was, which carries this
abbrev pub with_slot : Slot → History → History
with_slot slot history = record history { log = slot ∷ history.log }

-- The stream was handed out for the reset.
abbrev pub Resets : Mark → ℕ → Type 0
Resets mark id = is_named mark.ids id ≡ true

-- a reset of these streams was begun with this request, if it is one, when so many TSNs were assigned
abbrev pub with_mark : Option BegunReset → List ℕ → ℕ → History → History
with_mark None ids bound history = history
with_mark (Some begun) ids bound history = record history { marks = record { bound = bound; begun = begun; ids = ids } ∷ history.marks }

-- The newest reset is asked for under another number. Its request wants what the other one does, and doesn't say that it is new.
abbrev pub mark_renewed : ℕ → Mark → Mark
mark_renewed number mark = record mark { begun = record { number = number; reset = renewed_reset mark.begun.reset } }

abbrev pub with_renewed : ℕ → Mark → History → History
with_renewed number mark history = record history { marks = mark_renewed number mark ∷ history.marks }

-- nothing was done in the association yet
abbrev pub new_history : (ℕ → Bool → ℕ) → History
new_history floors = record { log = []; marks = []; floors = floors }

-- The message fits the fields of a chunk, as one in memory does.
pub record Fits (message : Message) : Type 0 where
  pub stream : message.stream < 2 ^ 16
  pub ppid : message.ppid < 2 ^ 32
  pub payload : AllByRecursion (λ byte. byte < 2 ^ 8) message.payload
  pub size : length message.payload < 2 ^ 63
