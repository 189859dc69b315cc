-- A stream of the receiver that was reset, on which nothing more comes before the sender learns of
-- it (RFC 6525, section 5.2.2).
use Rattle.std.specs.Prelude.{◌≡◌, ◌≢◌, ◌⊎◌, ◌<◌, ◌≤◌, ◌+◌, ◌-◌, ◌%◌, ◌^◌, ℕ, true, Option, None, Some, List, [], ◌∷◌, length}
use Rattle.std.specs.List.{AllByRecursion}
use Rattle.dcsctp_spec_lemmas.specs.types.declared.arrivals.SkippedTo.{SkippedTo}
use Rattle.dcsctp_spec_lemmas.specs.spec.Reconfiguration.{RequestedReset}
use Rattle.dcsctp_spec_lemmas.specs.spec.queues.Arrivals.{Arrival}
use Rattle.dcsctp_spec_lemmas.specs.spec.queues.Incoming.{stream_on, is_named}
use Rattle.dcsctp_spec_lemmas.specs.spec.queues.IncomingStreams.{new_stream, skipped_stream}
use Rattle.dcsctp_spec_lemmas.specs.types.queues.Messages.{MessageContent}
use Rattle.dcsctp_spec_lemmas.specs.spec.queues.Reassembly.{WaitingModel, DeferralModel, ReassemblyState, waiting_of, skips_of, deferring, with_ready, EndsDeferral}
use Rattle.dcsctp_spec_lemmas.specs.types.queues.SendStreams.{Stream}
use Rattle.dcsctp_spec_lemmas.specs.spec.queues.Tracker.{TrackerState}
use Rattle.dcsctp_spec_lemmas.specs.spec.queues.Transfer.{Transfer}
use Rattle.dcsctp_spec_lemmas.specs.spec.endpoint.TransferMoves.{ReceivesData, MovesForward}
use Rattle.dcsctp_delivery_directions.specs.sending.Places.{HasEntry, at_place}
use Rattle.dcsctp_delivery_directions.specs.sending.Log.{Message, Piece, Slot, Mark, History, Resets}
use Rattle.dcsctp_delivery_directions.specs.sending.Numbers.{AreOfKind, is_handed_out, stream_named}
use Rattle.dcsctp_delivery_directions.specs.sending.Queueing.{floors_raised}
use Rattle.dcsctp_delivery_directions.specs.receiving.Ready.{SkipAll}
use Rattle.dcsctp_delivery_directions.specs.receiving.Received.{Carries, IsTsn, kept_entries, Few, HasReceived}
use Rattle.dcsctp_delivery_directions.specs.receiving.Tracked.{tracked_number}

-- None of these entries skips a message of the stream.
abbrev pub NoneSkips : ℕ → List SkippedTo → Type 0
NoneSkips id entries = AllByRecursion (λ entry. skipped_stream entry ≢ id) entries

-- No data that waits for the end of a deferred reset is of it.
abbrev pub NoneWaits : ℕ → List WaitingModel → Type 0
NoneWaits id [] = Unit {0}
NoneWaits id (one ∷ waiting) = (one.chunk.stream ≢ id) × NoneWaits id waiting

-- Nothing was received on the stream since it was reset, and nothing waits that is of it.
pub record IsClear (id : ℕ) (reassembly : ReassemblyState) : Type 0 where
  pub stream : stream_on id reassembly.incoming.streams ≡ new_stream id
  pub none : NoneWaits id (waiting_of reassembly.deferral)
  pub kept : NoneSkips id (kept_entries (skips_of reassembly.deferral))

-- No piece of the stream was sent.
abbrev pub Unsent : List Slot → ℕ → Type 0
Unsent log id = (n : ℕ) (f : Piece) → at_place n log ≡ Some (Some f) → f.message.stream ≡ id → ⊥

-- All pieces of the stream came before a reset of it, up to which all was received.
pub record IsOver (history : History) (first cumulative id : ℕ) : Type 0 where
  pub mark : Mark
  pub has : HasEntry mark history.marks
  pub names : Resets mark id
  pub below : (n : ℕ) (f : Piece) → at_place n history.log ≡ Some (Some f) → f.message.stream ≡ id → n < mark.bound
  pub passed : tracked_number first mark.bound ≤ cumulative + 1

-- ---- it stays clear

-- whatever data comes,
abbrev pub ClearThroughData : Type 0
ClearThroughData =
    (queued : List Message) (history : History) (first id : ℕ) (read : List ℕ) (offset : ℕ) (arrival : Arrival) (old new : Transfer) → Few history first → HasReceived queued history first read old.tracker old.reassembly
    → IsOver history first old.tracker.cumulative id → Carries history.log first offset arrival.tsn arrival.chunk → IsClear id old.reassembly → ReceivesData arrival old new → IsClear id new.reassembly

-- whatever is skipped,
abbrev pub ClearThroughForward : Type 0
ClearThroughForward =
    (queued : List Message) (history : History) (first id : ℕ) (read : List ℕ) (tsn : ℕ) (entries : List SkippedTo) (old new : Transfer) → AreOfKind true history.log → Few history first
    → HasReceived queued history first read old.tracker old.reassembly → IsOver history first old.tracker.cumulative id → (is : IsTsn history.log first tsn) → SkipAll history (is.offset + 1) entries → IsClear id old.reassembly → MovesForward tsn entries old new → IsClear id new.reassembly

-- whatever else is reset,
abbrev pub ClearThroughResets : Type 0
ClearThroughResets = (id : ℕ) (streams : List ℕ) (old new : ReassemblyState) → IsClear id old → EndsDeferral streams old new → IsClear id new

-- is to be reset, or is read.
abbrev pub ClearThroughRest : Type 0
ClearThroughRest =
    (id : ℕ) (reassembly : ReassemblyState) → IsClear id reassembly
    → ((last_tsn : ℕ) (streams : List ℕ) → IsClear id (deferring last_tsn streams reassembly)) × ((messages : List MessageContent) → IsClear id (with_ready messages reassembly))

-- ---- it becomes clear

-- What waits, waits for this reset.
abbrev pub IsOwn : RequestedReset → Option DeferralModel → Type 0
IsOwn reset None = Unit {0}
IsOwn reset (Some deferral) = deferral.last_tsn ≡ reset.last_tsn

-- A stream is clear once a reset was performed that names it, if all its pieces came before that.
abbrev pub PerformingClears : Type 0
PerformingClears =
    (queued : List Message) (history : History) (first id : ℕ) (read : List ℕ) (mark : Mark) (tracker : TrackerState) (old new : ReassemblyState) → AreOfKind true history.log → Few history first
    → HasReceived queued history first read tracker old → HasEntry mark history.marks → mark.bound ≤ length history.log → mark.begun.reset.last_tsn ≡ (first + mark.bound + (2 ^ 32 - 1)) % 2 ^ 32 → Resets mark id → is_named mark.begun.reset.streams id ≡ true
    → ((n : ℕ) (f : Piece) → at_place n history.log ≡ Some (Some f) → f.message.stream ≡ id → n < mark.bound)
    → IsOwn mark.begun.reset old.deferral → EndsDeferral mark.begun.reset.streams old new → IsClear id new

-- ---- its messages are numbered from 0 again

-- So they are at the sender, for each stream that was handed out: nothing was sent on it, or it is clear.
abbrev pub RaisingKeeps : Type 0
RaisingKeeps =
    (queued : List Message) (history : History) (streams : List Stream) (first : ℕ) (read : List ℕ) (tracker : TrackerState) (reassembly : ReassemblyState)
    → ((id : ℕ) → is_handed_out (stream_named id streams).pause ≡ true → Unsent history.log id ⊎ (IsOver history first tracker.cumulative id × IsClear id reassembly))
    → HasReceived queued history first read tracker reassembly → HasReceived queued (floors_raised streams history) first read tracker reassembly
