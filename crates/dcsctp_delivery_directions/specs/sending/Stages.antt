-- What is in flight carries what the log has, while packets are filled (RFC 9260, section 6.1).
use Rattle.std.specs.Prelude.{◌≡◌, ◌⊎◌, ◌<◌, ◌≤◌, ◌+◌, ◌-◌, ◌%◌, ◌^◌, ℕ, Bool, true, false, None, Some, is_some, List, [], ◌∷◌, ◌++◌, length, map, slice_get}
use Rattle.dcsctp_spec.specs.Packet.{Plain, unworked}
use Rattle.dcsctp_spec.specs.queues.Chunks.{AreChunksOfTsns, chunk_said}
use Rattle.dcsctp_spec.specs.queues.Abandoning.{GivesUpAll}
use Rattle.dcsctp_spec.specs.queues.Filling.{Stage, FillsPacket}
use Rattle.dcsctp_spec.specs.queues.Items.{Item}
use Rattle.dcsctp_spec.specs.queues.Outstanding.{OutstandingState}
use Rattle.dcsctp_spec.specs.queues.Sending.{Fragment}
use Rattle.dcsctp_spec.specs.types.queues.Progress.{is_abandoned}
use Rattle.dcsctp_spec.specs.endpoint.BegunResets.{stream_field}
use Rattle.dcsctp_delivery_directions.specs.sending.Places.{HasEntry, at_place}
use Rattle.dcsctp_spec.specs.types.queues.SendStreams.{Stream}
use Rattle.dcsctp_delivery_directions.specs.sending.Log.{Message, Piece, Slot, IsLogOfPieces, Mark, History, log_extended, Resets}
use Rattle.dcsctp_delivery_directions.specs.sending.Numbers.{stream_named, NumbersMessages, IsPieceOfKind, AreCurrent, AreKept}
use Rattle.dcsctp_delivery_directions.specs.sending.Pieces.{HasNoLimits, CarriesPiece, HoldsQueued}

-- The fragment says what the slot does. The end of an abandoned message has no payload.
abbrev pub SaysSlot : Fragment → Slot → Type 0
SaysSlot part None = part.payload ≡ []
SaysSlot part (Some piece) = CarriesPiece part piece

-- The fragment of this TSN is of the message of a piece of the log, and has its number. A reset that names its stream lies
-- between messages.
pub record IsNamedFragment (history : History) (own : ℕ) (part : Fragment) : Type 0 where
  pub number : ℕ
  pub piece : Piece
  pub at : at_place number history.log ≡ Some (Some piece)
  pub of : part.message_id ≡ piece.place
  pub whole : (mark : Mark) → HasEntry mark history.marks → Resets mark piece.message.stream → number < mark.bound → own < mark.bound
  pub stream : part.stream ≡ piece.message.stream
  pub unordered : part.is_unordered ≡ piece.message.is_unordered
  pub mid : part.mid % 2 ^ 32 ≡ piece.mid % 2 ^ 32
  pub ssn : part.ssn ≡ piece.ssn
  pub up_to : number ≤ own
  -- What the TSNs after that piece carry, up to this one, is of the same message.
  pub tail : (k : ℕ) (f : Piece) → number < k → k ≤ own → at_place k history.log ≡ Some (Some f) → f.place ≡ piece.place
  pub limits : HasNoLimits piece.message.is_limited part.expires_at part.max_retransmissions

-- The fragment is of the message of a piece of the log, and that may be abandoned (RFC 3758).
pub record IsOfLimited (log : List Slot) (part : Fragment) : Type 0 where
  pub number : ℕ
  pub piece : Piece
  pub at : at_place number log ≡ Some (Some piece)
  pub of : part.message_id ≡ piece.place
  pub limited : piece.message.is_limited ≡ true

-- The fragment says what the TSN carries that is so many after the first.
pub record SaysTsn (log : List Slot) (number : ℕ) (part : Fragment) : Type 0 where
  pub slot : Slot
  pub at : at_place number log ≡ Some slot
  pub says : SaysSlot part slot

-- The item at this place was abandoned.
abbrev pub IsAbandonedItem : List Item → ℕ → Type 0
IsAbandonedItem items place = (item : Item) × (slice_get items place ≡ Some item) × (is_abandoned item.progress.state ≡ true)

-- Without interleaving the items of a message follow one another, up to its end. They are abandoned together, unless there are no
-- TSNs left for the end. No reset was begun between them.
pub record AreMessagesWhole (log : List Slot) (acknowledged : ℕ) (items : List Item) : Type 0 where
  pub closed : (k : ℕ) (item : Item) → slice_get items k ≡ Some item → at_place (acknowledged + k) log ≡ Some None → item.fragment.is_end ≡ true
  pub joined : (k : ℕ) (item next : Item) → slice_get items k ≡ Some item → slice_get items (k + 1) ≡ Some next → item.fragment.is_end ≡ false → next.fragment.message_id ≡ item.fragment.message_id
  pub together : (k : ℕ) (item : Item) → slice_get items k ≡ Some item → is_abandoned item.progress.state ≡ true → item.fragment.is_end ≡ false → IsAbandonedItem items (k + 1) ⊎ (2 ^ 31 ≤ acknowledged + k + 2)
  pub begins : (k : ℕ) (item : Item) → slice_get items k ≡ Some item → item.begins_after_reset ≡ true → acknowledged + k ≡ 0

-- The items in flight are those of the newest TSNs. `first` is the first TSN of the association, and `acknowledged` how many were
-- acknowledged cumulatively. The first item after a reset that was begun says so. Only messages with limits are abandoned.
pub record Bears (history : History) (first acknowledged : ℕ) (outstanding : OutstandingState) : Type 0 where
  pub tsn : outstanding.first_tsn ≡ (first + acknowledged) % 2 ^ 32
  pub count : length history.log ≡ acknowledged + length outstanding.items
  pub items : (k : ℕ) (item : Item) → slice_get outstanding.items k ≡ Some item → SaysTsn history.log (acknowledged + k) item.fragment
  pub named : (k : ℕ) (item : Item) → slice_get outstanding.items k ≡ Some item → IsNamedFragment history (acknowledged + k) item.fragment
  pub splits : (mark : Mark) → HasEntry mark history.marks → (k : ℕ) (item : Item) → slice_get outstanding.items k ≡ Some item → acknowledged + k ≡ mark.bound
      → item.begins_after_reset ≡ true
  pub abandoned : (k : ℕ) (item : Item) → slice_get outstanding.items k ≡ Some item → is_abandoned item.progress.state ≡ true → IsOfLimited history.log item.fragment
  pub whole : outstanding.is_interleaved ≡ false → history.marks ≡ [] → AreMessagesWhole history.log acknowledged outstanding.items

-- What was in flight when a reset was begun lies before it. The next item will say so, and only then.
pub record Pends (history : History) (reset_begun : Bool) : Type 0 where
  pub next : (mark : Mark) → HasEntry mark history.marks → mark.bound ≡ length history.log → reset_begun ≡ true
  pub none : reset_begun ≡ true → history.marks ≡ [] → history.log ≡ []

-- One of the TSNs from this one on carries a piece of the stream.
pub record IsSentFrom (log : List Slot) (bound id : ℕ) : Type 0 where
  pub number : ℕ
  pub piece : Piece
  pub from : bound ≤ number
  pub at : at_place number log ≡ Some (Some piece)
  pub on : piece.message.stream ≡ id

-- The reset that was begun names the last TSN that was assigned before it, and the fields of its streams. A message of these
-- streams is wholly before it, or wholly after it: one that is under way was begun after it.
pub record IsMark (history : History) (first : ℕ) (streams : List Stream) (mark : Mark) : Type 0 where
  pub within : mark.bound ≤ length history.log
  pub last : mark.begun.reset.last_tsn ≡ (first + mark.bound + (2 ^ 32 - 1)) % 2 ^ 32
  pub fields : mark.begun.reset.streams ≡ map stream_field mark.ids
  pub sides : (m n : ℕ) (f g : Piece) → at_place m history.log ≡ Some (Some f) → at_place n history.log ≡ Some (Some g) → f.place ≡ g.place → Resets mark f.message.stream
      → m < mark.bound → n < mark.bound
  pub going : (id : ℕ) → is_some (stream_named id streams).under_way ≡ true → Resets mark id → IsSentFrom history.log mark.bound id

-- Each that was begun does.
abbrev pub AreMarks : History → ℕ → List Stream → Type 0
AreMarks history first streams = (mark : Mark) → HasEntry mark history.marks → IsMark history first streams mark

-- What waits was queued, and what is in flight is in the log.
pub record Stands (queued : List Message) (history : History) (first acknowledged : ℕ) (stage : Stage) : Type 0 where
  pub queue_holds : HoldsQueued queued history.log stage.waiting.streams
  pub cut : IsLogOfPieces queued history.log
  pub bears : Bears history first acknowledged stage.queue.outstanding
  pub pends : Pends history stage.queue.reset_begun
  pub marks : AreMarks history first stage.waiting.streams
  pub numbers : NumbersMessages history stage.waiting
  pub kind : stage.queue.outstanding.is_interleaved ≡ stage.waiting.is_interleaved

-- So it is again; more TSNs may have been assigned, to pieces of streams that aren't handed out.
pub record Stays (queued : List Message) (history : History) (first acknowledged : ℕ) (new : Stage) : Type 0 where
  pub more : List Slot
  pub stands : Stands queued (log_extended more history) first acknowledged new
  pub current : AreCurrent history more
  pub kept : AreKept new.waiting.streams more

-- The chunk carries what the log has at its TSN.
pub record IsOfLog (log : List Slot) (first : ℕ) (is_interleaved : Bool) (chunk : Plain) : Type 0 where
  pub number : ℕ
  pub part : Fragment
  pub says : SaysTsn log number part
  pub is : chunk ≡ unworked (chunk_said is_interleaved ((first + number) % 2 ^ 32) part)
  pub kind : IsPieceOfKind is_interleaved log number

-- Each does.
abbrev pub AreOfLog : List Slot → ℕ → Bool → List Plain → Type 0
AreOfLog log first is_interleaved [] = Unit {0}
AreOfLog log first is_interleaved (chunk ∷ chunks) = IsOfLog log first is_interleaved chunk × AreOfLog log first is_interleaved chunks

-- A packet that is filled carries pieces of what was queued, each under its TSN.
abbrev pub PacketsBearPieces : Type 0
PacketsBearPieces =
    (queued : List Message) (history : History) (first acknowledged now : ℕ) (old new : Stage) (chunks : List Plain) → Stands queued history first acknowledged old → FillsPacket now old new
    → AreChunksOfTsns new.queue.outstanding new.tsns chunks
    → (stays : Stays queued history first acknowledged new) × AreOfLog (stays.more ++ history.log) first new.queue.outstanding.is_interleaved chunks

-- Messages that are abandoned leave it so.
abbrev pub GivingUpKeeps : Type 0
GivingUpKeeps =
    (queued : List Message) (history : History) (first acknowledged now : ℕ) (old new : Stage) → Stands queued history first acknowledged old → GivesUpAll now old new → Stays queued history first acknowledged new
