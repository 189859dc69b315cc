-- What the reassembly queue has ready is what the peer's user queued, each message once (RFC 9260,
-- section 6.6, RFC 3758, section 3.6, and RFC 6525, section 5.2.2), with interleaving or without
-- (RFC 8260).
use Rattle.std.specs.Prelude.{◌≡◌, ◌<◌, ◌≤◌, ◌+◌, ◌%◌, ◌^◌, ℕ, Bool, true, false, Some, List, [], ◌∷◌, ◌++◌}
use Rattle.std.specs.List.{AllByRecursion}
use Rattle.dcsctp_spec_lemmas.specs.types.queues.Messages.{MessageContent}
use Rattle.dcsctp_spec_lemmas.specs.types.declared.arrivals.Numbering.{Numbering}
use Rattle.dcsctp_spec_lemmas.specs.types.declared.arrivals.Numbering.TheVariants.{Ordered, Unordered, InterleavedOrdered, InterleavedUnordered}
use Rattle.dcsctp_spec_lemmas.specs.spec.queues.Numbers.{number_near, fragment_place}
use Rattle.dcsctp_spec_lemmas.specs.spec.queues.Runs.{RunModel, WholeModel}
use Rattle.dcsctp_spec_lemmas.specs.spec.queues.IncomingStreams.{StreamModel, ChunkModel}
use Rattle.dcsctp_spec_lemmas.specs.types.declared.arrivals.SkippedTo.{SkippedTo}
use Rattle.dcsctp_spec_lemmas.specs.types.declared.arrivals.SkippedTo.TheVariants.{Ssn, Mid}
use Rattle.dcsctp_delivery_directions.specs.sending.Numbers.{AreOfKind, IsUnambiguous, IsCurrent}
use Rattle.dcsctp_spec_lemmas.specs.spec.queues.Incoming.{IncomingModel, stream_on, TakesIncomingChunk, MovesOn, ResetsStreams}
use Rattle.dcsctp_delivery_directions.specs.sending.Places.{HasEntry, at_place}
use Rattle.dcsctp_delivery_directions.specs.sending.Log.{Message, Piece, Mark, History, Resets, is_beginning, is_end, piece_bytes, IsLogOfPieces, sent_messages, SentMessages}
use Rattle.dcsctp_delivery_directions.specs.receiving.Rows.{AreRows, Spent, IsQueued}

-- With interleaving the piece is of an ordered or of an unordered message, sent since the last reset of its stream, and its
-- part has the number of that, without wrap.
abbrev pub IsNumberedAs : History → Bool → Piece → ℕ → Type 0
IsNumberedAs history is_unordered piece number =
    piece.is_interleaved ≡ true → (piece.message.is_unordered ≡ is_unordered) × (number % 2 ^ 32 ≡ piece.mid % 2 ^ 32) × IsCurrent history piece

-- The piece is of the stream, among the parts of ordered messages, whatever its number without interleaving;
abbrev pub IsOn : History → ℕ → Piece → ℕ → Type 0
IsOn history stream piece number = (piece.message.stream ≡ stream) × IsNumberedAs history false piece number

-- or among those of unordered messages of I-DATA.
abbrev pub IsApart : History → ℕ → Piece → ℕ → Type 0
IsApart history stream piece number = (piece.message.stream ≡ stream) × IsNumberedAs history true piece number

-- Parts of unordered messages of DATA have the number of their stream.
abbrev pub IsOfStream : Piece → ℕ → Type 0
IsOfStream piece number = (piece.message.stream ≡ number) × (piece.is_interleaved ≡ false)

-- The log is of I-DATA, and the messages of a stream, ordered or not, that were sent since its last reset have numbers from
-- this one on, fewer than 2^31.
pub record IsWindow (history : History) (id : ℕ) (is_unordered : Bool) (start : ℕ) : Type 0 where
  pub kinds : AreOfKind true history.log
  pub from : (n : ℕ) (f : Piece) → at_place n history.log ≡ Some (Some f) → f.message.stream ≡ id → f.message.is_unordered ≡ is_unordered → IsCurrent history f → start ≤ f.mid
  pub below : (n : ℕ) (f : Piece) → at_place n history.log ≡ Some (Some f) → f.message.stream ≡ id → f.message.is_unordered ≡ is_unordered → IsCurrent history f → f.mid < start + 2 ^ 31

-- No message was received yet; or the number is near those from `start` on, as the reassembly queue has them.
pub data IsNear (start number : ℕ) : Type 0 where
  fresh : number ≡ 2 ^ 32 → IsNear start number
  near : (base : ℕ) → base % 2 ^ 32 ≡ start % 2 ^ 32 → base + 2 ^ 33 < 2 ^ 64 → base ≤ number → number ≤ base + 2 ^ 31 → IsNear start number

-- So MIDs of the stream are read right, next to this number.
abbrev pub ReadsMids : History → ℕ → Bool → ℕ → Type 0
ReadsMids history id is_unordered number = (start : ℕ) → IsWindow history id is_unordered start → IsNear start number

-- None of these comes twice.
abbrev pub AreDistinct : List ℕ → Type 0
AreDistinct [] = Unit {0}
AreDistinct (place ∷ places) = (HasEntry place places → ⊥) × AreDistinct places

-- The message was queued at this place.
pub record WasQueued (queued : List Message) (place : ℕ) (content : MessageContent) : Type 0 where
  pub message : Message
  pub at : at_place place queued ≡ Some message
  pub stream : content.stream ≡ message.stream
  pub ppid : content.ppid ≡ message.ppid
  pub payload : content.payload ≡ message.payload

-- Each was queued at its place.
abbrev pub WereQueued : List Message → List ℕ → List MessageContent → Type 0
WereQueued queued [] [] = Unit {0}
WereQueued queued [] (content ∷ contents) = ⊥
WereQueued queued (place ∷ places) [] = ⊥
WereQueued queued (place ∷ places) (content ∷ contents) = WasQueued queued place content × WereQueued queued places contents

-- Each message that waits for its turn was queued at its place.
abbrev pub WaitQueued : List Message → History → List ℕ → ℕ → List ℕ → List WholeModel → Type 0
WaitQueued queued history got stream [] [] = Unit {0}
WaitQueued queued history got stream [] (whole ∷ wholes) = ⊥
WaitQueued queued history got stream (place ∷ places) [] = ⊥
WaitQueued queued history got stream (place ∷ places) (whole ∷ wholes) =
    IsQueued queued history.log got (IsOn history stream) place whole × WaitQueued queued history got stream places wholes

-- `base` is the number that the reassembly queue has for the first TSN. The parts of a stream lie by the number of their
-- message first. Those of ordered messages of DATA then lie by their TSNs. For I-DATA `base` makes no difference.
abbrev pub ordered_base : ℕ → ℕ → ℕ
ordered_base base number = fragment_place number base

-- The parts of unordered messages of DATA lie by their TSNs alone.
abbrev pub unordered_base : ℕ → ℕ → ℕ
unordered_base base number = base

-- A stream holds rows of pieces of its messages,
pub record StreamRows (history : History) (got : List ℕ) (base id : ℕ) (stream : StreamModel) : Type 0 where
  pub is : stream.id ≡ id
  pub ordered : AreRows history.log got (ordered_base base) (IsOn history id) stream.ordered
  pub unordered : AreRows history.log got (ordered_base base) (IsApart history id) stream.unordered
  pub next : ReadsMids history id false stream.next
  pub last : ReadsMids history id true stream.last_unordered

-- and whole messages that wait.
pub record StreamHolds (queued : List Message) (history : History) (got : List ℕ) (base id : ℕ) (places : List ℕ) (stream : StreamModel) : Type 0 where
  pub rows : StreamRows history got base id stream
  pub wait : WaitQueued queued history got id places stream.waiting

-- what is held of what was received: by stream, the runs of unordered messages of DATA, and the messages that can be read
pub record HeldMessages : Type 0 where
  pub streams : ℕ → StreamModel
  pub unordered : List RunModel
  pub ready : List MessageContent

abbrev pub held_messages : (ℕ → StreamModel) → List RunModel → List MessageContent → HeldMessages
held_messages streams unordered ready = record { streams = streams; unordered = unordered; ready = ready }

-- All that is held of what was received is of what the peer's user queued. `got` has the offsets of the TSNs that were handled,
-- and `read` the places of the messages that the user has read. No message was read, is ready or waits twice.
pub record HoldsAll (user : SentMessages) (got : List ℕ) (base : ℕ) (read : List ℕ) (held : HeldMessages) : Type 0 where
  pub waits : ℕ → List ℕ
  pub streams_hold : (id : ℕ) → StreamHolds user.queued user.history got base id (waits id) (held.streams id)
  pub rows : AreRows user.history.log got (unordered_base base) IsOfStream held.unordered
  pub places : List ℕ
  pub were_queued : WereQueued user.queued places held.ready
  pub spent : (place : ℕ) → HasEntry place (read ++ places) → Spent user.history.log got place
  pub once : (id : ℕ) → AreDistinct ((read ++ places) ++ waits id)

-- This holds for the received messages of an association.
abbrev pub HoldsIncoming : List Message → History → List ℕ → ℕ → List ℕ → IncomingModel → Type 0
HoldsIncoming queued history got base read incoming =
    HoldsAll (sent_messages queued history) got base read (held_messages (λ id. stream_on id incoming.streams) incoming.unordered incoming.ready)

-- The chunk of a piece is numbered by whether its message is unordered. That of an interleaved one says two of the piece's
-- numbers, and that of an ordered message of DATA its SSN.
abbrev pub IsNumbered : Piece → Numbering → Type 0
IsNumbered piece Unordered = (piece.is_interleaved ≡ false) × (piece.message.is_unordered ≡ true)
IsNumbered piece (Ordered ssn) = (piece.is_interleaved ≡ false) × (piece.message.is_unordered ≡ false) × (ssn ≡ piece.ssn % 2 ^ 16)
IsNumbered piece (InterleavedOrdered mid fsn) =
    (piece.is_interleaved ≡ true) × (piece.message.is_unordered ≡ false) × (mid ≡ piece.mid % 2 ^ 32) × (fsn ≡ piece.fsn % 2 ^ 32)
IsNumbered piece (InterleavedUnordered mid fsn) =
    (piece.is_interleaved ≡ true) × (piece.message.is_unordered ≡ true) × (mid ≡ piece.mid % 2 ^ 32) × (fsn ≡ piece.fsn % 2 ^ 32)

-- DATA was sent: a FORWARD-TSN skips what it likes.
pub record SkipsPlain (history : History) : Type 0 where
  pub number : ℕ
  pub piece : Piece
  pub at : at_place number history.log ≡ Some (Some piece)
  pub kind : piece.is_interleaved ≡ false

-- The message of the entry of an I-FORWARD-TSN is one of the log, which may be abandoned. So many TSNs are passed, none together with one before a
-- reset that names the stream.
pub record SkipsMessage (history : History) (passed id : ℕ) (is_unordered : Bool) (mid : ℕ) : Type 0 where
  pub number : ℕ
  pub piece : Piece
  pub at : at_place number history.log ≡ Some (Some piece)
  pub kind : piece.is_interleaved ≡ true
  pub stream : id ≡ piece.message.stream
  pub unordered : is_unordered ≡ piece.message.is_unordered
  pub is : mid ≡ piece.mid % 2 ^ 32
  pub within : (mark : Mark) → HasEntry mark history.marks → Resets mark piece.message.stream → number < mark.bound → passed ≤ mark.bound
  pub limited : piece.message.is_limited ≡ true
  -- The TSN of that piece is passed, and no message of the stream has a higher number, ordered or unordered as it is, of which one
  -- is passed.
  pub before : number < passed
  pub highest : (n : ℕ) (f : Piece) → at_place n history.log ≡ Some (Some f) → n < passed → f.message.stream ≡ id → f.message.is_unordered ≡ is_unordered → f.mid ≤ piece.mid

-- This holds for an entry,
abbrev pub SkipsEntry : History → ℕ → SkippedTo → Type 0
SkipsEntry history passed (Ssn id ssn) = SkipsPlain history
SkipsEntry history passed (Mid id is_unordered mid) = SkipsMessage history passed id.0 is_unordered mid

-- and of each.
abbrev pub SkipAll : History → ℕ → List SkippedTo → Type 0
SkipAll history passed [] = Unit {0}
SkipAll history passed (entry ∷ entries) = SkipsEntry history passed entry × SkipAll history passed entries

-- The message was sent since the last reset of its stream.
abbrev pub SkipsCurrent : (history : History) (passed : ℕ) (entry : SkippedTo) → SkipsEntry history passed entry → Type 0
SkipsCurrent history passed (Ssn id ssn) skips = Unit {0}
SkipsCurrent history passed (Mid id is_unordered mid) skips = IsCurrent history skips.piece

-- This holds for an entry,
abbrev pub NamesCurrent : History → ℕ → SkippedTo → Type 0
NamesCurrent history passed entry = (skips : SkipsEntry history passed entry) × SkipsCurrent history passed entry skips

-- and of each.
abbrev pub NameAll : History → ℕ → List SkippedTo → Type 0
NameAll history passed [] = Unit {0}
NameAll history passed (entry ∷ entries) = NamesCurrent history passed entry × NameAll history passed entries

-- Each names a message so, with a number of passed TSNs of its own.
abbrev pub IsNamedEntry : History → SkippedTo → Type 0
IsNamedEntry history entry = (passed : ℕ) × NamesCurrent history passed entry

abbrev pub AreNamed : History → List SkippedTo → Type 0
AreNamed history entries = AllByRecursion (IsNamedEntry history) entries

-- The chunk carries the piece of its TSN.
pub record BearsPiece (history : History) (base tsn_number : ℕ) (chunk : ChunkModel) : Type 0 where
  pub offset : ℕ
  pub piece : Piece
  pub at : at_place offset history.log ≡ Some (Some piece)
  pub current : piece.is_interleaved ≡ true → IsCurrent history piece
  pub number : tsn_number ≡ base + offset
  pub stream : chunk.stream ≡ piece.message.stream
  pub numbered : IsNumbered piece chunk.numbering
  pub ppid : is_beginning piece ≡ true → chunk.ppid ≡ piece.message.ppid
  pub payload : chunk.payload ≡ piece_bytes piece
  pub beginning : chunk.is_beginning ≡ is_beginning piece
  pub end : chunk.is_end ≡ is_end piece

-- A chunk whose TSN is new, and that carries the piece of its TSN, leaves only what was queued, each message once.
abbrev pub ReadyWasQueued : Type 0
ReadyWasQueued =
    (queued : List Message) (history : History) → IsLogOfPieces queued history.log → IsUnambiguous history
    → (got : List ℕ) (base tsn : ℕ) (read : List ℕ) (chunk : ChunkModel) (old new : IncomingModel)
    → (bears : BearsPiece history base (number_near old.last_tsn_number tsn) chunk) → (HasEntry bears.offset got → ⊥)
    → HoldsIncoming queued history got base read old → TakesIncomingChunk tsn chunk old new
    → HoldsIncoming queued history (bears.offset ∷ got) base read new

-- So does a FORWARD-TSN, whatever it skips, or an I-FORWARD-TSN,
abbrev pub SkippingKeeps : Type 0
SkippingKeeps =
    (queued : List Message) (history : History) (got : List ℕ) (base tsn : ℕ) (read : List ℕ) (entries : List SkippedTo) (old new : IncomingModel)
    → AreNamed history entries → HoldsIncoming queued history got base read old → MovesOn tsn entries old new → HoldsIncoming queued history got base read new

-- and a reset of streams, whichever.
abbrev pub ResettingKeeps : Type 0
ResettingKeeps =
    (queued : List Message) (history : History) (got : List ℕ) (base : ℕ) (read : List ℕ) (streams : List ℕ) (old new : IncomingModel)
    → HoldsIncoming queued history got base read old → ResetsStreams streams old new → HoldsIncoming queued history got base read new
