-- How messages are numbered. With interleaving no two of a stream have one number in an association,
-- among ordered messages and among unordered ones (RFC 8260, section 2.1); after a reset the numbers
-- of a stream continue from a new floor. Without it SSNs count the ordered messages of a stream.
use Rattle.std.specs.Prelude.{◌≡◌, ◌<◌, ◌≤◌, ◌+◌, ◌%◌, ◌^◌, ℕ, Bool, true, false, Option, None, Some, is_some, List, length, ◌||◌, not, ◌*◌}
use Rattle.dcsctp_spec.specs.types.declared.ids.StreamId.{StreamId}
use Rattle.dcsctp_spec.specs.types.declared.sending.UnderWay.{UnderWay}
use Rattle.dcsctp_spec.specs.types.declared.sending.Pause.{Pause}
use Rattle.dcsctp_spec.specs.types.declared.sending.Pause.TheVariants.{Open, Pausing, HandedOut}
use Rattle.dcsctp_spec.specs.types.queues.SendStreams.{Waiting, Stream, front_of, next_numbers, unused_stream}
use Rattle.dcsctp_spec.specs.queues.SendQueue.{SendQueueState, stream_found, queue_interleaves}
use Rattle.dcsctp_spec.specs.queues.Transfer.{Transfer}
use Rattle.dcsctp_delivery_directions.specs.sending.Places.{HasEntry, at_place}
use Rattle.dcsctp_delivery_directions.specs.sending.Log.{Piece, Slot, Mark, newest, newest_on, IsNewestOn, is_end, History, Resets, IsEndOrClosed}
use Rattle.dcsctp_delivery_directions.specs.sending.Turns.{begun_on, turn_of_tsn, IsSsnOfTurn}
use Rattle.dcsctp_spec.specs.queues.Sending.{may_be_abandoned}

-- the stream of this number, or one that was never used
abbrev pub stream_named : ℕ → List Stream → Stream
stream_named id streams = stream_found (unused_stream 0 0 0) id streams

-- the MID of the message that is begun next on it, by whether that is unordered
abbrev pub next_mid : Bool → Stream → ℕ
next_mid is_unordered stream = (next_numbers is_unordered stream).1

-- was the stream handed out to be reset (RFC 6525, section 5.1.2), and the end of that isn't known yet?
abbrev pub is_handed_out : Pause → Bool
is_handed_out Open = false
is_handed_out Pausing = false
is_handed_out HandedOut = true

-- No stream with a message under way is handed out.
abbrev pub IsUnderWayKept : List Stream → Type 0
IsUnderWayKept streams = (id : ℕ) → is_some (stream_named id streams).under_way ≡ true → is_handed_out (stream_named id streams).pause ≡ false

-- The piece was sent since the last reset of its stream.
abbrev pub IsCurrent : History → Piece → Type 0
IsCurrent history f = history.floors f.message.stream f.message.is_unordered ≤ f.mid

-- Each of these was, if MIDs count.
abbrev pub AreCurrent : History → List Slot → Type 0
AreCurrent history slots = (n : ℕ) (f : Piece) → at_place n slots ≡ Some (Some f) → f.is_interleaved ≡ true → IsCurrent history f

-- None of these was sent on a stream that is handed out.
abbrev pub AreKept : List Stream → List Slot → Type 0
AreKept streams slots = (n : ℕ) (f : Piece) → at_place n slots ≡ Some (Some f) → is_handed_out (stream_named f.message.stream streams).pause ≡ false

-- The message under way is the last that was begun on its stream, among ordered or unordered messages.
pub record IsLastBegun (history : History) (streams : List Stream) (counts : ℕ → Bool → ℕ) (id : ℕ) (under_way : UnderWay) : Type 0 where
  pub waiting : Waiting
  pub front : front_of (stream_named id streams).messages ≡ Some waiting
  pub mid : ℕ
  pub is : under_way.mid % 2 ^ 32 ≡ mid % 2 ^ 32
  pub from : history.floors id waiting.is_unordered ≤ mid
  pub last : mid + 1 ≡ history.floors id waiting.is_unordered + counts id waiting.is_unordered
  pub came : (f : Piece) → newest_on id history.log ≡ Some f → f.mid ≡ mid

-- So it is if one is under way on this stream.
abbrev pub LastIs : History → List Stream → (ℕ → Bool → ℕ) → ℕ → Option UnderWay → Type 0
LastIs history streams counts id None = Unit {0}
LastIs history streams counts id (Some under_way) = IsLastBegun history streams counts id under_way

-- The first piece of the ordered message of the stream with this number was sent.
pub record IsBegunUnder (log : List Slot) (id mid : ℕ) : Type 0 where
  pub offset : ℕ
  pub piece : Piece
  pub at : at_place offset log ≡ Some (Some piece)
  pub stream : piece.message.stream ≡ id
  pub ordered : piece.message.is_unordered ≡ false
  pub start : piece.start ≡ 0
  pub under : piece.mid ≡ mid

-- No ordered message of the stream was under way where the association began: else the floor of its unordered ones is above this.
abbrev pub AreFloorsClose : (ℕ → Bool → ℕ) → ℕ → Type 0
AreFloorsClose floors id = floors id true < 2 ^ 32 * (floors id false + 1)

-- So it is, and the numbers of its ordered messages begin at a multiple of 2^32.
abbrev pub AreFloorsAtZero : (ℕ → Bool → ℕ) → ℕ → Type 0
AreFloorsAtZero floors id = (floors id false % 2 ^ 32 ≡ 0) × AreFloorsClose floors id

-- Messages are counted apart for each stream, and for ordered and unordered messages. `counts` are how many messages have a
-- number since the stream was reset: one for each TSN at most, and the one that was under way where the association began.
pub record CountsMessages (history : History) (streams : List Stream) : Type 0 where
  pub counts : ℕ → Bool → ℕ
  pub few : (id : ℕ) (is_unordered : Bool) → counts id is_unordered ≤ length history.log + 1
  pub next : (id : ℕ) (is_unordered : Bool) → next_mid is_unordered (stream_named id streams) % 2 ^ 32 ≡ (history.floors id is_unordered + counts id is_unordered) % 2 ^ 32
  pub below : (n : ℕ) (f : Piece) → at_place n history.log ≡ Some (Some f)
      → f.mid < history.floors f.message.stream f.message.is_unordered + counts f.message.stream f.message.is_unordered
  pub apart : (m n : ℕ) (f g : Piece) → at_place m history.log ≡ Some (Some f) → at_place n history.log ≡ Some (Some g) → f.message.stream ≡ g.message.stream
      → f.message.is_unordered ≡ g.message.is_unordered → f.mid ≡ g.mid → f.place ≡ g.place
  pub going : (id : ℕ) → LastIs history streams counts id (stream_named id streams).under_way
  pub dense : (id : ℕ) → AreFloorsClose history.floors id → (k : ℕ) → k < counts id false → IsBegunUnder history.log id (history.floors id false + k)

-- The SSNs of the stream began at 0 in the association, and no reset of it was begun.
pub record IsFromStart (history : History) (id : ℕ) : Type 0 where
  pub floor : history.floors id false ≡ 0
  pub none : (mark : Mark) → HasEntry mark history.marks → Resets mark id → ⊥

-- The message under way is the last that was begun on the stream, if it is ordered.
pub record GoesInTurn (id : ℕ) (log : List Slot) (streams : List Stream) (under_way : UnderWay) : Type 0 where
  pub waiting : Waiting
  pub front : front_of (stream_named id streams).messages ≡ Some waiting
  pub last : waiting.is_unordered ≡ false → IsSsnOfTurn under_way.ssn (begun_on id log)

-- The SSNs of a stream count its ordered messages.
pub record CountsTurns (id : ℕ) (log : List Slot) (streams : List Stream) : Type 0 where
  pub next : (stream_named id streams).next_ssn % 2 ^ 16 ≡ begun_on id log % 2 ^ 16
  pub sent : (n : ℕ) (f : Piece) → at_place n log ≡ Some (Some f) → f.message.stream ≡ id → f.message.is_unordered ≡ false → IsSsnOfTurn f.ssn (turn_of_tsn id n log)
  pub going : (u : UnderWay) → (stream_named id streams).under_way ≡ Some u → GoesInTurn id log streams u

-- So they do on each stream. A message is begun only once the one before has ended, or is abandoned.
pub record CountsSsns (history : History) (streams : List Stream) (held : Option StreamId) : Type 0 where
  pub turns : (id : ℕ) → IsFromStart history id → CountsTurns id history.log streams
  pub closes : (n : ℕ) (f g : Piece) → at_place n history.log ≡ Some (Some f) → at_place (n + 1) history.log ≡ Some (Some g) → g.start ≡ 0 → is_end f ≡ true
  pub rests : held ≡ None → (f : Piece) → newest history.log ≡ Some (Some f) → is_end f ≡ true

-- Without interleaving SSNs count, and with it MIDs do.
abbrev pub CountsByKind : Bool → History → List Stream → Option StreamId → Type 0
CountsByKind false history streams held = CountsSsns history streams held
CountsByKind true history streams held = CountsMessages history streams

-- Is the message kept whole whatever else is under way: may it be abandoned, or are messages not interleaved?
abbrev pub is_always_whole : Waiting → SendQueueState → Bool
is_always_whole message queue = may_be_abandoned message || not (queue_interleaves queue)

-- A message that is always kept whole is under way on the stream alone that is held. That stream has one under way, and what was sent
-- last is of it.
pub record HoldsWhole (log : List Slot) (queue : SendQueueState) : Type 0 where
  pub each : (id : ℕ) (waiting : Waiting) → is_some (stream_named id queue.streams).under_way ≡ true → front_of (stream_named id queue.streams).messages ≡ Some waiting
      → is_always_whole waiting queue ≡ true → queue.held ≡ Some (record { 0 = id })
  pub held : (id : ℕ) → queue.held ≡ Some (record { 0 = id }) → is_some (stream_named id queue.streams).under_way ≡ true
  pub newest : (id : ℕ) → queue.held ≡ Some (record { 0 = id }) → IsNewestOn id log

-- Each piece was sent as the queue numbers messages.
abbrev pub AreOfKind : Bool → List Slot → Type 0
AreOfKind is_interleaved log = (n : ℕ) (f : Piece) → at_place n log ≡ Some (Some f) → f.is_interleaved ≡ is_interleaved

-- This holds for the piece of this TSN, if it carries one.
abbrev pub IsPieceOfKind : Bool → List Slot → ℕ → Type 0
IsPieceOfKind is_interleaved log number = (f : Piece) → at_place number log ≡ Some (Some f) → f.is_interleaved ≡ is_interleaved

-- Where no message is under way, the stream's newest piece ends one, or is of one that was abandoned.
abbrev pub RestAtEnds : List Slot → List Stream → Type 0
RestAtEnds log streams = (id : ℕ) → (stream_named id streams).under_way ≡ None → (f : Piece) → newest_on id log ≡ Some f → IsEndOrClosed log f

-- So the messages of a queue are numbered.
pub record NumbersMessages (history : History) (queue : SendQueueState) : Type 0 where
  pub kinds : AreOfKind queue.is_interleaved history.log
  pub counts : CountsByKind queue.is_interleaved history queue.streams queue.held
  pub kept : IsUnderWayKept queue.streams
  pub whole : HoldsWhole history.log queue
  pub rests : RestAtEnds history.log queue.streams

-- What is in flight is sent as the queue numbers messages.
abbrev pub IsOfKind : Bool → Option Transfer → Type 0
IsOfKind is_interleaved None = Unit {0}
IsOfKind is_interleaved (Some transfer) = transfer.retransmission.outstanding.is_interleaved ≡ is_interleaved

-- With each number of an ordered message of the stream that was sent, each lower one was begun, from the floor on.
abbrev pub AreDense : History → ℕ → Type 0
AreDense history id =
    (n : ℕ) (f : Piece) → at_place n history.log ≡ Some (Some f) → f.message.stream ≡ id → f.message.is_unordered ≡ false
    → (mid : ℕ) → history.floors id false ≤ mid → mid ≤ f.mid → IsBegunUnder history.log id mid

-- The log of an association in which fewer than 2^31 TSNs were assigned, as its receiver sees it: all is DATA; or all is
-- I-DATA, and pieces under one number are of one message. No number is far above the floor of its stream. None is left out, if no
-- message was under way at first.
pub data IsUnambiguous (history : History) : Type 0 where
  plain : AreOfKind false history.log → IsUnambiguous history
  interleaved : AreOfKind true history.log → length history.log < 2 ^ 31
      → ((n : ℕ) (f : Piece) → at_place n history.log ≡ Some (Some f) → f.mid < history.floors f.message.stream f.message.is_unordered + 2 ^ 31)
      → ((m n : ℕ) (f g : Piece) → at_place m history.log ≡ Some (Some f) → at_place n history.log ≡ Some (Some g) → f.message.stream ≡ g.message.stream
      → f.message.is_unordered ≡ g.message.is_unordered → f.mid ≡ g.mid → f.place ≡ g.place) → ((id : ℕ) → AreFloorsClose history.floors id → AreDense history id) → IsUnambiguous history

-- This holds for each such log.
abbrev pub LogsAreUnambiguous : Type 0
LogsAreUnambiguous = (history : History) (queue : SendQueueState) → NumbersMessages history queue → length history.log < 2 ^ 31 → IsUnambiguous history
