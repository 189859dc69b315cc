-- A flush sends pieces of what was queued, and nothing else as data (RFC 9260, section 6.1). It may
-- begin a reset of our streams (RFC 6525, section 5.1.2).
use Rattle.std.specs.Prelude.{◌≡◌, ◌<◌, ◌≤◌, ◌⊎◌, ◌+◌, ◌-◌, ◌%◌, ◌^◌, ℕ, Bool, true, false, Option, None, Some, List, [], ◌∷◌, length}
use Rattle.dcsctp_spec.specs.wire.Content.{DataContent, IDataContent, data_chunk, i_data_chunk, forward_tsn_chunk, i_forward_tsn_chunk}
use Rattle.dcsctp_spec.specs.endpoint.Event.{Event, packets_of_events}
use Rattle.dcsctp_spec.specs.Packet.{Plain, unworked, plain, re_config, Content, Emission}
use Rattle.dcsctp_spec.specs.Reconfiguration.{RequestedReset, ResetParameter, outgoing_reset_request, incoming_reset_request}
use Rattle.dcsctp_spec.specs.queues.Incoming.{is_named}
use Rattle.dcsctp_spec.specs.queues.Reassembly.{names_stream}
use Rattle.dcsctp_spec.specs.queues.SendQueue.{SendQueueState}
use Rattle.dcsctp_spec.specs.types.queues.SendStreams.{Stream}
use Rattle.dcsctp_spec.specs.endpoint.BegunResets.{BegunReset}
use Rattle.dcsctp_spec.specs.endpoint.Endpoint.{Endpoint}
use Rattle.dcsctp_spec.specs.queues.Chunks.{data_said, i_data_said}
use Rattle.dcsctp_spec.specs.queues.Sending.{Fragment}
use Rattle.dcsctp_spec.specs.queues.Skipping.{entry_bytes}
use Rattle.std.specs.List.{flat_map}
use Rattle.dcsctp_spec.specs.queues.Transfer.{Transfer, EndpointQueues}
use Rattle.dcsctp_spec.specs.endpoint.FlushOutcomes.{Answer, FlushAnswers, flush_of}
use Rattle.dcsctp_delivery_directions.specs.sending.Log.{Message, Piece, Slot, IsEndSlot, IsLogOfPieces, History, log_extended, with_mark, Mark, Resets, sent_messages, SentMessages}
use Rattle.dcsctp_delivery_directions.specs.sending.Places.{HasEntry, at_place}
use Rattle.dcsctp_delivery_directions.specs.sending.Naming.{NamesPassed}
use Rattle.dcsctp_delivery_directions.specs.sending.Numbers.{stream_named, is_handed_out, AreCurrent, AreKept, NumbersMessages, IsPieceOfKind, IsOfKind}
use Rattle.dcsctp_delivery_directions.specs.sending.Pieces.{HoldsQueued}
use Rattle.dcsctp_delivery_directions.specs.sending.Stages.{SaysTsn, Bears, Pends, AreMarks}

-- ---- what a packet says

-- The DATA chunk carries what the log has at its TSN.
pub record IsData (log : List Slot) (first : ℕ) (chunk : DataContent) : Type 0 where
  pub number : ℕ
  pub part : Fragment
  pub says : SaysTsn log number part
  pub is : chunk ≡ data_said ((first + number) % 2 ^ 32) part
  pub kind : IsPieceOfKind false log number

-- So does the I-DATA chunk.
pub record IsInterleaved (log : List Slot) (first : ℕ) (chunk : IDataContent) : Type 0 where
  pub number : ℕ
  pub part : Fragment
  pub says : SaysTsn log number part
  pub is : chunk ≡ i_data_said ((first + number) % 2 ^ 32) part
  pub kind : IsPieceOfKind true log number

-- The TSN was assigned, or is the one before the first: so many are passed.
pub record IsPassed (log : List Slot) (first tsn : ℕ) : Type 0 where
  pub passed : ℕ
  pub below : passed ≤ length log
  pub is : tsn ≡ (first + passed + (2 ^ 32 - 1)) % 2 ^ 32

-- No piece of the message of the one TSN comes after another, which is one of those passed. It ends there, or that is the last
-- TSN of 2^31 - 1.
pub record EndsWithin (log : List Slot) (number passed : ℕ) : Type 0 where
  pub offset : ℕ
  pub slot : Slot
  pub from : number ≤ offset
  pub to : offset < passed
  pub at : at_place offset log ≡ Some slot
  pub ends : IsEndSlot slot ⊎ (2 ^ 31 ≤ offset + 2)

-- The entry names a message of a piece of the log, which may be abandoned, and was sent as the chunk's kind is. Without interleaving it is an ordered
-- one, of which all TSNs are passed, if no reset was begun.
pub record IsEntry (is_interleaved : Bool) (history : History) (passed : ℕ) (entry : (ℕ × Bool) × ℕ) : Type 0 where
  pub number : ℕ
  pub piece : Piece
  pub at : at_place number history.log ≡ Some (Some piece)
  -- No TSN is passed together with one before a reset that names the stream.
  pub within : (mark : Mark) → HasEntry mark history.marks → Resets mark piece.message.stream → number < mark.bound → passed ≤ mark.bound
  pub kind : piece.is_interleaved ≡ is_interleaved
  pub stream : entry.0.0 ≡ piece.message.stream
  pub unordered : entry.0.1 ≡ piece.message.is_unordered
  pub mid : is_interleaved ≡ true → entry.1 % 2 ^ 32 ≡ piece.mid % 2 ^ 32
  pub ordered : is_interleaved ≡ false → entry.0.1 ≡ false
  pub ssn : is_interleaved ≡ false → entry.1 ≡ piece.ssn
  pub over : is_interleaved ≡ false → history.marks ≡ [] → EndsWithin history.log number passed
  pub limited : piece.message.is_limited ≡ true
  -- The TSN of that piece is passed.
  pub before : number < passed
  -- With interleaving no message of the stream, ordered or unordered as it is, has a higher number of which a TSN is passed.
  pub highest : is_interleaved ≡ true → (n : ℕ) (f : Piece) → at_place n history.log ≡ Some (Some f) → n < passed
      → f.message.stream ≡ piece.message.stream → f.message.is_unordered ≡ piece.message.is_unordered → f.mid ≤ piece.mid

-- Each does.
abbrev pub AreForwardEntries : Bool → History → ℕ → List ((ℕ × Bool) × ℕ) → Type 0
AreForwardEntries is_interleaved history passed [] = Unit {0}
AreForwardEntries is_interleaved history passed (entry ∷ entries) = IsEntry is_interleaved history passed entry × AreForwardEntries is_interleaved history passed entries

-- A piece of the log is of a message that may be abandoned (RFC 3758), and was sent so.
pub record HasLimited (is_interleaved : Bool) (log : List Slot) : Type 0 where
  pub number : ℕ
  pub piece : Piece
  pub at : at_place number log ≡ Some (Some piece)
  pub limited : piece.message.is_limited ≡ true
  pub kind : piece.is_interleaved ≡ is_interleaved

-- Of these TSNs each that carries a piece of a message without limits is acknowledged.
abbrev pub PassesAcknowledged : List Slot → ℕ → ℕ → Type 0
PassesAcknowledged log acknowledged passed =
    (n : ℕ) (f : Piece) → at_place n log ≡ Some (Some f) → n < passed → f.message.is_limited ≡ false → n < acknowledged

-- A FORWARD-TSN or I-FORWARD-TSN passes assigned TSNs, and names messages of the log. It is sent only where a message was
-- abandoned. So many TSNs are acknowledged cumulatively by now: each that it passes is one of these, or is of such a message.
pub record IsForward (is_interleaved : Bool) (history : History) (first acknowledged tsn : ℕ) (streams : List ℕ) : Type 0 where
  pub passed : IsPassed history.log first tsn
  pub entries : List ((ℕ × Bool) × ℕ)
  pub is : streams ≡ flat_map (entry_bytes is_interleaved) entries
  pub names : AreForwardEntries is_interleaved history passed.passed entries
  pub limited : HasLimited is_interleaved history.log
  pub reliable : PassesAcknowledged history.log acknowledged passed.passed
  pub each : is_interleaved ≡ true → NamesPassed history.log acknowledged passed.passed entries

-- A chunk of data carries what its TSN carries, and one that passes TSNs passes assigned ones.
abbrev pub SaysPlain : History → ℕ → ℕ → Plain → Type 0
SaysPlain history first acknowledged (unworked (data_chunk chunk)) = IsData history.log first chunk
SaysPlain history first acknowledged (unworked (i_data_chunk chunk)) = IsInterleaved history.log first chunk
SaysPlain history first acknowledged (unworked (forward_tsn_chunk tsn streams)) = IsForward false history first acknowledged tsn streams
SaysPlain history first acknowledged (unworked (i_forward_tsn_chunk tsn streams)) = IsForward true history first acknowledged tsn streams
SaysPlain history first acknowledged chunk = Unit {0}

-- A reset of our streams was begun with this request.
pub record IsBegun (history : History) (number : ℕ) (reset : RequestedReset) : Type 0 where
  pub mark : Mark
  pub has : HasEntry mark history.marks
  pub is : mark.begun ≡ record { number = number; reset = reset }

-- Each request to reset streams among these parameters is one of a reset that was begun. None asks for a reset of incoming
-- streams.
abbrev pub AreBegun : History → List ResetParameter → Type 0
AreBegun history [] = Unit {0}
AreBegun history (outgoing_reset_request number answered reset ∷ parameters) = IsBegun history number reset × AreBegun history parameters
AreBegun history (incoming_reset_request number streams ∷ parameters) = ⊥
AreBegun history (parameter ∷ parameters) = AreBegun history parameters

-- So does any chunk of a packet,
abbrev pub SaysContent : History → ℕ → ℕ → Content → Type 0
SaysContent history first acknowledged (plain chunk) = SaysPlain history first acknowledged chunk
SaysContent history first acknowledged (re_config parameters) = AreBegun history parameters
SaysContent history first acknowledged content = Unit {0}

-- each of these,
abbrev pub SayAll : History → ℕ → ℕ → List Content → Type 0
SayAll history first acknowledged [] = Unit {0}
SayAll history first acknowledged (content ∷ contents) = SaysContent history first acknowledged content × SayAll history first acknowledged contents

-- and each of these packets.
abbrev pub PacketsSay : History → ℕ → ℕ → List Emission → Type 0
PacketsSay history first acknowledged [] = Unit {0}
PacketsSay history first acknowledged (emission ∷ emissions) = SayAll history first acknowledged emission.packet.contents × PacketsSay history first acknowledged emissions

-- The chunk has no data, and passes nothing.
abbrev pub NoPlain : Plain → Type 0
NoPlain (unworked (data_chunk chunk)) = ⊥
NoPlain (unworked (i_data_chunk chunk)) = ⊥
NoPlain (unworked (forward_tsn_chunk tsn streams)) = ⊥
NoPlain (unworked (i_forward_tsn_chunk tsn streams)) = ⊥
NoPlain chunk = Unit {0}

-- None of these parameters is a request to reset streams.
abbrev pub NoRequests : List ResetParameter → Type 0
NoRequests [] = Unit {0}
NoRequests (outgoing_reset_request number answered reset ∷ parameters) = ⊥
NoRequests (incoming_reset_request number streams ∷ parameters) = ⊥
NoRequests (parameter ∷ parameters) = NoRequests parameters

-- This holds for any chunk of a packet,
abbrev pub NoContent : Content → Type 0
NoContent (plain chunk) = NoPlain chunk
NoContent (re_config parameters) = NoRequests parameters
NoContent content = Unit {0}

-- and of each of these.
abbrev pub NoData : List Content → Type 0
NoData [] = Unit {0}
NoData (content ∷ contents) = NoContent content × NoData contents

-- ---- what an endpoint has

-- What is in flight is in the log, if there is a peer.
abbrev pub InFlight : History → ℕ → ℕ → Option Transfer → Type 0
InFlight history first acknowledged None = length history.log ≡ acknowledged
InFlight history first acknowledged (Some transfer) = Bears history first acknowledged transfer.retransmission.outstanding

-- What is sent next says that a reset was begun before it.
abbrev pub PendsIfConnected : History → Option Transfer → Type 0
PendsIfConnected history None = Unit {0}
PendsIfConnected history (Some transfer) = Pends history transfer.retransmission.reset_begun

-- What waits was queued, and what is in flight is in the log.
pub record QueuesFollowLog (queued : List Message) (history : History) (first acknowledged : ℕ) (sender_queues : EndpointQueues) : Type 0 where
  pub queue_holds : HoldsQueued queued history.log sender_queues.queue.streams
  pub cut : IsLogOfPieces queued history.log
  pub flight : InFlight history first acknowledged sender_queues.transfer
  pub pends : PendsIfConnected history sender_queues.transfer
  pub marks : AreMarks history first sender_queues.queue.streams
  pub numbers : NumbersMessages history sender_queues.queue
  pub kind : IsOfKind sender_queues.queue.is_interleaved sender_queues.transfer

-- ---- what a flush leaves

-- the reset of our streams that a flush began: its first packet alone may have the request
abbrev pub begun_reset_of : List Answer → Option BegunReset
begun_reset_of [] = None
begun_reset_of (answer ∷ answers) = answer.begun

-- It is one of these streams, which were handed out for the reset that was begun.
abbrev pub IsNamedByReset : Option BegunReset → List ℕ → ℕ → Type 0
IsNamedByReset None ids id = ⊥
IsNamedByReset (Some begun) ids id = is_named ids id ≡ true

-- Each stream that the request names was handed out for it, and still is.
abbrev pub AreHandedFor : Option BegunReset → List ℕ → List Stream → Type 0
AreHandedFor None ids streams = Unit {0}
AreHandedFor (Some begun) ids streams = (id : ℕ) → names_stream begun.reset.streams id ≡ true → (is_named ids id ≡ true) × (is_handed_out (stream_named id streams).pause ≡ true)

-- More TSNs may have been assigned, and all data that was sent is in the log. It is sent after the last reset of its stream,
-- which isn't handed out to be reset again. The reset that was begun, if one was, is in the history, with the TSNs that were
-- assigned before it. The streams that are handed out now were before, or were handed out for it. All that were before still are,
-- and so are all that it names.
pub record SendsLogged (user : SentMessages) (first acknowledged : ℕ) (old : SendQueueState) (begun : Option BegunReset) (after : EndpointQueues) (events : List (Event Emission)) : Type 0 where
  pub more : List Slot
  pub ids : List ℕ
  pub bound : ℕ
  pub low : length user.history.log ≤ bound
  pub high : bound ≤ length more + length user.history.log
  pub stands : QueuesFollowLog user.queued (with_mark begun ids bound (log_extended more user.history)) first acknowledged after
  pub packets : PacketsSay (with_mark begun ids bound (log_extended more user.history)) first acknowledged (packets_of_events events)
  pub current : AreCurrent user.history more
  pub kept : AreKept after.queue.streams more
  pub handed : (id : ℕ) → is_handed_out (stream_named id after.queue.streams).pause ≡ true → (is_handed_out (stream_named id old.streams).pause ≡ true) ⊎ IsNamedByReset begun ids id
  pub stay : (id : ℕ) → is_handed_out (stream_named id old.streams).pause ≡ true → is_handed_out (stream_named id after.queue.streams).pause ≡ true
  pub named : AreHandedFor begun ids after.queue.streams

-- This holds for a flush whose first packet has no other data.
abbrev pub FlushesSendPieces : Type 0
FlushesSendPieces =
    (queued : List Message) (history : History) (first acknowledged : ℕ) (e : Endpoint) (draft : Emission) (answers : List Answer) → QueuesFollowLog queued history first acknowledged e.queues
    → SayAll history first acknowledged draft.packet.contents → FlushAnswers e draft answers
    → SendsLogged (sent_messages queued history) first acknowledged e.queues.queue (begun_reset_of answers) (flush_of e draft answers).after.queues (flush_of e draft answers).events
