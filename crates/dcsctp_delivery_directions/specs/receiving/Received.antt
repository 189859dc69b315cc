-- What an association has received of its peer's messages, with the data tracker, and with what
-- waits for the end of a deferred reset (RFC 6525, section 5.2.2).
use Rattle.std.specs.Prelude.{◌≡◌, ◌<◌, ◌≤◌, ◌+◌, ◌%◌, ◌^◌, ℕ, Bool, true, Option, None, Some, List, [], ◌∷◌, ◌++◌, length, map}
use Rattle.std.specs.List.{AllByRecursion}
use Rattle.dcsctp_spec_lemmas.specs.types.declared.arrivals.SkippedTo.{SkippedTo}
use Rattle.dcsctp_spec_lemmas.specs.types.declared.options.Options.{Options}
use Rattle.dcsctp_spec_lemmas.specs.spec.queues.Arrivals.{Arrival}
use Rattle.dcsctp_spec_lemmas.specs.types.queues.Messages.{MessageContent}
use Rattle.dcsctp_spec_lemmas.specs.spec.queues.IncomingStreams.{ChunkModel}
use Rattle.dcsctp_spec_lemmas.specs.spec.queues.Incoming.{IncomingModel}
use Rattle.dcsctp_spec_lemmas.specs.spec.queues.Reassembly.{WaitingModel, WaitingSkips, DeferralModel, ReassemblyState, entries_of, waiting_of, with_ready, new_reassembly, EndsDeferral}
use Rattle.dcsctp_spec_lemmas.specs.spec.queues.Tracker.{TrackerState, new_tracker}
use Rattle.dcsctp_spec_lemmas.specs.spec.queues.Transfer.{Transfer, part_overhead}
use Rattle.dcsctp_spec_lemmas.specs.spec.endpoint.TransferMoves.{ReceivesData, MovesForward}
use Rattle.dcsctp_delivery_directions.specs.sending.Places.{HasEntry, at_place}
use Rattle.dcsctp_spec_lemmas.specs.spec.queues.Numbers.{is_tsn_beyond}
use Rattle.dcsctp_spec_lemmas.specs.spec.endpoint.BegunResets.{BegunReset}
use Rattle.dcsctp_delivery_directions.specs.sending.Log.{Message, Piece, Slot, Mark, History, Resets, log_extended, with_mark, new_history, is_beginning, is_end, piece_bytes, IsLogOfPieces, sent_messages, SentMessages}
use Rattle.dcsctp_delivery_directions.specs.receiving.Ready.{AreDistinct, IsNumbered, SkipAll, NamesCurrent, NameAll, HoldsIncoming}
use Rattle.dcsctp_delivery_directions.specs.sending.Numbers.{IsUnambiguous, IsCurrent, AreCurrent}
use Rattle.dcsctp_delivery_directions.specs.receiving.Tracked.{tracked_number, Tracks}

-- The chunk carries the piece of the TSN of this offset from the first.
pub record Carries (log : List Slot) (first offset tsn : ℕ) (chunk : ChunkModel) : Type 0 where
  pub piece : Piece
  pub at : at_place offset log ≡ Some (Some piece)
  pub is : tsn ≡ (first + offset) % 2 ^ 32
  pub stream : chunk.stream ≡ piece.message.stream
  pub numbered : IsNumbered piece chunk.numbering
  pub ppid : is_beginning piece ≡ true → chunk.ppid ≡ piece.message.ppid
  pub payload : chunk.payload ≡ piece_bytes piece
  pub beginning : chunk.is_beginning ≡ is_beginning piece
  pub end : chunk.is_end ≡ is_end piece

-- The TSN was assigned.
pub record IsTsn (log : List Slot) (first tsn : ℕ) : Type 0 where
  pub offset : ℕ
  pub below : offset < length log
  pub is : tsn ≡ (first + offset) % 2 ^ 32

-- The reassembly queue counts TSNs from `base`, its number for the first, and has come to `last`.
pub record CountsFromBase (first base last : ℕ) : Type 0 where
  pub same : base % 2 ^ 32 ≡ first
  pub near : base + 2 ^ 32 < 2 ^ 64
  pub worked : ℕ
  pub few : worked < 2 ^ 31
  pub is : last ≡ base + worked

-- No TSN was handled yet; or the number of the first is known, and all that is held was queued.
pub data Reassembles (queued : List Message) (history : History) (first : ℕ) (got read : List ℕ) (incoming : IncomingModel) : Type 0 where
  untouched : got ≡ [] → incoming.last_tsn_number ≡ 2 ^ 32 → ((base : ℕ) → HoldsIncoming queued history [] base read incoming) → Reassembles queued history first got read incoming
  placed : (base : ℕ) → CountsFromBase first base incoming.last_tsn_number → HoldsIncoming queued history got base read incoming → Reassembles queued history first got read incoming

-- So does one that was sent since the last reset of its stream.
pub record CarriesCurrent (history : History) (first offset tsn : ℕ) (chunk : ChunkModel) : Type 0 where
  pub carries : Carries history.log first offset tsn chunk
  pub current : carries.piece.is_interleaved ≡ true → IsCurrent history carries.piece

-- The TSN was assigned; up to it each message of the entries may be skipped.
pub record SkipsTo (history : History) (first tsn : ℕ) (entries : List SkippedTo) : Type 0 where
  pub tsn_is : IsTsn history.log first tsn
  pub names : NameAll history (tsn_is.offset + 1) entries

-- The data that waits for the end of a deferred reset, and the offsets of its TSNs.
abbrev pub DefersData : History → ℕ → List ℕ → List WaitingModel → Type 0
DefersData history first [] [] = Unit {0}
DefersData history first (offset ∷ others) [] = ⊥
DefersData history first [] (one ∷ waiting) = ⊥
DefersData history first (offset ∷ others) (one ∷ waiting) = CarriesCurrent history first offset one.tsn one.chunk × DefersData history first others waiting

-- All of it lies beyond the last TSN before the deferred reset.
abbrev pub AreBeyond : ℕ → List WaitingModel → Type 0
AreBeyond last_tsn [] = Unit {0}
AreBeyond last_tsn (one ∷ waiting) = (is_tsn_beyond one.tsn last_tsn ≡ true) × AreBeyond last_tsn waiting

abbrev pub WaitBeyond : Option DeferralModel → Type 0
WaitBeyond None = Unit {0}
WaitBeyond (Some deferral) = AreBeyond deferral.last_tsn deferral.waiting

-- what is to be skipped then
abbrev pub kept_entries : Option WaitingSkips → List SkippedTo
kept_entries skips = map (λ entry. entry.1) (entries_of skips)

-- An entry of it came with a TSN beyond that last TSN, up to which its message may be skipped.
pub record SkipsLater (history : History) (first last_tsn : ℕ) (entry : SkippedTo) : Type 0 where
  pub tsn : ℕ
  pub tsn_is : IsTsn history.log first tsn
  pub beyond : is_tsn_beyond tsn last_tsn ≡ true
  pub names : NamesCurrent history (tsn_is.offset + 1) entry

-- So did each, and the newest of these TSNs was assigned.
abbrev pub SkipsWait : History → ℕ → ℕ → Option WaitingSkips → Type 0
SkipsWait history first last_tsn None = Unit {0}
SkipsWait history first last_tsn (Some skips) = IsTsn history.log first skips.tsn × AllByRecursion (SkipsLater history first last_tsn) (kept_entries (Some skips))

abbrev pub ForwardsWait : History → ℕ → Option DeferralModel → Type 0
ForwardsWait history first None = Unit {0}
ForwardsWait history first (Some deferral) = SkipsWait history first deferral.last_tsn deferral.skips

-- The TSN of a stream came before a reset of that, up to which all was received.
pub record IsPast (history : History) (first cumulative id number : ℕ) : Type 0 where
  pub mark : Mark
  pub has : HasEntry mark history.marks
  pub names : Resets mark id
  pub below : number < mark.bound
  pub passed : tracked_number first mark.bound ≤ cumulative + 1

-- All that an association has received whose peer has this log. `taken` has the offsets that the tracker knows, `got` those
-- that the reassembly queue has handled, and `later` those that wait for the end of a deferred reset.
pub record HasReceived (queued : List Message) (history : History) (first : ℕ) (read : List ℕ) (tracker : TrackerState) (reassembly : ReassemblyState) : Type 0 where
  pub taken : List ℕ
  pub got : List ℕ
  pub later : List ℕ
  pub tracks : Tracks first (length history.log) taken tracker
  pub got_taken : (k : ℕ) → HasEntry k got → HasEntry k taken
  pub later_taken : (k : ℕ) → HasEntry k later → HasEntry k taken
  pub apart : (k : ℕ) → HasEntry k later → HasEntry k got → ⊥
  pub distinct : AreDistinct later
  pub holds : Reassembles queued history first got read reassembly.incoming
  pub defers : DefersData history first later (waiting_of reassembly.deferral)
  pub beyond : WaitBeyond reassembly.deferral
  pub forwards : ForwardsWait history first reassembly.deferral
  pub old : (n : ℕ) (f : Piece) → at_place n history.log ≡ Some (Some f) → f.is_interleaved ≡ true → (IsCurrent history f → ⊥) → IsPast history first tracker.cumulative f.message.stream n

-- Fewer than 2^31 TSNs were assigned.
pub record Few (history : History) (first : ℕ) : Type 0 where
  pub small : first < 2 ^ 32
  pub few : length history.log < 2 ^ 31

-- A chunk that carries the piece of its TSN leaves only what was queued, each message once, whether its TSN is new or not.
abbrev pub ReceivingKeeps : Type 0
ReceivingKeeps =
    (queued : List Message) (history : History) (first : ℕ) (read : List ℕ) (offset : ℕ) (arrival : Arrival) (old new : Transfer) → IsLogOfPieces queued history.log → IsUnambiguous history → Few history first
    → Carries history.log first offset arrival.tsn arrival.chunk → HasReceived queued history first read old.tracker old.reassembly → ReceivesData arrival old new
    → HasReceived queued history first read new.tracker new.reassembly

-- So does a FORWARD-TSN.
abbrev pub ForwardingKeeps : Type 0
ForwardingKeeps =
    (queued : List Message) (history : History) (first : ℕ) (read : List ℕ) (tsn : ℕ) (entries : List SkippedTo) (old new : Transfer) → IsLogOfPieces queued history.log → IsUnambiguous history → Few history first
    → (is : IsTsn history.log first tsn) → SkipAll history (is.offset + 1) entries → HasReceived queued history first read old.tracker old.reassembly → MovesForward tsn entries old new
    → HasReceived queued history first read new.tracker new.reassembly

-- So does a reset of streams, with all that waited for it, or some.
abbrev pub LeavingKeeps : Type 0
LeavingKeeps =
    (queued : List Message) (history : History) (first : ℕ) (read : List ℕ) (streams : List ℕ) (tracker : TrackerState) (old new : ReassemblyState) → IsLogOfPieces queued history.log → IsUnambiguous history → Few history first
    → HasReceived queued history first read tracker old → EndsDeferral streams old new → HasReceived queued history first read tracker new

-- The peer may queue more and assign more TSNs,
abbrev pub GrowingKeeps : Type 0
GrowingKeeps =
    (queued more : List Message) (history : History) (later : List Slot) (first : ℕ) (read : List ℕ) (tracker : TrackerState) (reassembly : ReassemblyState) → AreCurrent history later
    → HasReceived queued history first read tracker reassembly → HasReceived (more ++ queued) (log_extended later history) first read tracker reassembly

-- and may begin a reset of its streams, when so many TSNs were assigned.
abbrev pub AskingKeeps : Type 0
AskingKeeps =
    (queued : List Message) (history : History) (begun : Option BegunReset) (ids : List ℕ) (bound first : ℕ) (read : List ℕ) (tracker : TrackerState) (reassembly : ReassemblyState) → length history.log ≤ bound
    → HasReceived queued history first read tracker reassembly → HasReceived queued (with_mark begun ids bound history) first read tracker reassembly

-- An association that was just begun has received nothing.
abbrev pub BeginningReceives : Type 0
BeginningReceives =
    (options : Options) (queued : List Message) (history : History) (first size : ℕ) → first < 2 ^ 32 → AreCurrent history history.log
    → HasReceived queued history first [] (new_tracker options first) (new_reassembly size (part_overhead options))

-- What was received of a peer that has assigned no TSN yet may begin with any floors.
abbrev pub AwaitingReceives : Type 0
AwaitingReceives =
    (queued : List Message) (history : History) (floors : ℕ → Bool → ℕ) (first : ℕ) (read : List ℕ) (tracker : TrackerState) (reassembly : ReassemblyState) → history.log ≡ []
    → HasReceived queued history first read tracker reassembly → HasReceived queued (new_history floors) first read tracker reassembly

-- The message that the user reads was queued, and wasn't read before.
pub record ReadsQueued (user : SentMessages) (first : ℕ) (read : List ℕ) (tracker : TrackerState) (reassembly : ReassemblyState) (message : MessageContent) (messages : List MessageContent) : Type 0 where
  pub place : ℕ
  pub sent : Message
  pub at : at_place place user.queued ≡ Some sent
  pub stream : message.stream ≡ sent.stream
  pub ppid : message.ppid ≡ sent.ppid
  pub payload : message.payload ≡ sent.payload
  pub fresh : HasEntry place read → ⊥
  pub received : HasReceived user.queued user.history first (read ++ place ∷ []) tracker (with_ready messages reassembly)

-- This holds for the first message that is ready.
abbrev pub TakingReads : Type 0
TakingReads =
    (queued : List Message) (history : History) (first : ℕ) (read : List ℕ) (tracker : TrackerState) (reassembly : ReassemblyState) (message : MessageContent) (messages : List MessageContent)
    → reassembly.incoming.ready ≡ message ∷ messages → HasReceived queued history first read tracker reassembly → ReadsQueued (sent_messages queued history) first read tracker reassembly message messages
