-- On a stream, ordered messages are delivered by rising numbers, and by numbers in a row where none
-- is skipped (RFC 9260, section 6.6; RFC 3758, section 3.6).
use Rattle.std.specs.Prelude.{◌≡◌, ◌==◌, ◌<◌, ◌≤◌, ◌+◌, ◌^◌, if◌then◌else◌, ℕ, Bool, true, false, List, [], ◌∷◌, ◌++◌, map}
use Rattle.dcsctp_spec_lemmas.specs.types.queues.Messages.{MessageContent}
use Rattle.dcsctp_spec_lemmas.specs.types.declared.arrivals.SkippedTo.{SkippedTo}
use Rattle.dcsctp_spec_lemmas.specs.types.declared.arrivals.SkippedTo.TheVariants.{Ssn, Mid}
use Rattle.dcsctp_spec_lemmas.specs.types.declared.arrivals.Taken.{Taken}
use Rattle.dcsctp_spec_lemmas.specs.spec.queues.Numbers.{number_near, short_number_near}
use Rattle.dcsctp_spec_lemmas.specs.spec.queues.Runs.{PartModel, WholeModel, Assembly, part_dropped, part_kept, message_whole}
use Rattle.dcsctp_spec_lemmas.specs.spec.queues.IncomingStreams.{StreamModel, new_stream, delivered_as, next_after, due, next_past, is_number_waiting, TakesOrdered, stream_after_skip, skip_deliveries}

-- Each is numbered above the one before, the first from the one number on, and all below the other number.
abbrev pub Rise : ℕ → ℕ → List WholeModel → Type 0
Rise from end [] = from ≤ end
Rise from end (whole ∷ wholes) = (from ≤ whole.number) × Rise (whole.number + 1) end wholes

-- They have all numbers from the one on, up to the other.
abbrev pub FillRow : ℕ → ℕ → List WholeModel → Type 0
FillRow from end [] = from ≡ end
FillRow from end (whole ∷ wholes) = (whole.number ≡ from) × FillRow (from + 1) end wholes

-- Messages that wait ascend, from this number on. None is the last that can be counted.
abbrev pub AscendFrom : ℕ → List WholeModel → Type 0
AscendFrom from [] = Unit {0}
AscendFrom from (whole ∷ waiting) = (from ≤ whole.number) × (whole.number + 1 < 2 ^ 64) × AscendFrom (whole.number + 1) waiting

-- All that waits on the stream waits for the next number: it is above that, and ascends.
abbrev pub WaitsForNext : StreamModel → Type 0
WaitsForNext stream = AscendFrom (stream.next + 1) stream.waiting

-- These ordered messages became ready on the stream, by rising numbers.
pub record DeliversRising (old : StreamModel) (before : List MessageContent) (new : StreamModel) (after : List MessageContent) (delivered : List WholeModel) : Type 0 where
  pub is : after ≡ before ++ map (delivered_as old.id) delivered
  pub rise : Rise old.next new.next delivered
  pub waits : WaitsForNext new
  pub id : new.id ≡ old.id

-- So they did, and none was left out.
pub record DeliversRow (old : StreamModel) (before : List MessageContent) (new : StreamModel) (after : List MessageContent) (delivered : List WholeModel) : Type 0 where
  pub rising : DeliversRising old before new after delivered
  pub row : FillRow old.next new.next delivered

-- ---- a part of an ordered message

-- what becomes ready with a part, by what became of it
abbrev pub ready_with_part : StreamModel → Assembly → List WholeModel
ready_with_part stream part_dropped = []
ready_with_part stream part_kept = []
ready_with_part stream (message_whole whole) = if whole.number == stream.next then whole ∷ due (next_after stream.next whole) stream.waiting else []

-- The part isn't of a message before the next, and no message that waits has its number.
pub record IsAhead (part : PartModel) (stream : StreamModel) : Type 0 where
  pub from : stream.next ≤ part.number
  pub counted : part.number + 1 < 2 ^ 64
  pub fresh : is_number_waiting part.number stream.waiting ≡ false

-- It makes a row ready.
abbrev pub PartsDeliverRows : Type 0
PartsDeliverRows =
    (part : PartModel) (old : StreamModel) (before : List MessageContent) (taken : Taken) (new : StreamModel) (after : List MessageContent) → WaitsForNext old → IsAhead part old
    → (does : TakesOrdered part old before taken new after) → DeliversRow old before new after (ready_with_part old does.outcome)

-- ---- messages that are skipped

-- what becomes ready once an entry is handled
abbrev pub ready_past : SkippedTo → StreamModel → List WholeModel
ready_past (Ssn id ssn) stream = due (next_past (short_number_near stream.next ssn) stream.next) stream.waiting
ready_past (Mid id false mid) stream = due (next_past (number_near stream.next mid) stream.next) stream.waiting
ready_past (Mid id true mid) stream = []

-- A skip goes forward only.
abbrev pub SkipsDeliverRising : Type 0
SkipsDeliverRising =
    (entry : SkippedTo) (old : StreamModel) (before : List MessageContent) → WaitsForNext old
    → DeliversRising old before (stream_after_skip entry old) (before ++ skip_deliveries entry old) (ready_past entry old)

-- ---- a stream since its last reset

-- What ordered messages a stream has delivered since it began, oldest first. `skips` is whether any were skipped.
pub data StreamRun (id : ℕ) : Bool → StreamModel → List WholeModel → Type 0 where
  begins : StreamRun id false (new_stream id) []
  takes : (part : PartModel) (skips : Bool) (old : StreamModel) (before : List MessageContent) (taken : Taken) (new : StreamModel) (after : List MessageContent) (delivered : List WholeModel)
      → StreamRun id skips old delivered → IsAhead part old → (does : TakesOrdered part old before taken new after) → StreamRun id skips new (delivered ++ ready_with_part old does.outcome)
  passes : (entry : SkippedTo) (skips : Bool) (old : StreamModel) (delivered : List WholeModel)
      → StreamRun id skips old delivered → StreamRun id true (stream_after_skip entry old) (delivered ++ ready_past entry old)
  -- Unordered messages come.
  stays : (skips : Bool) (old new : StreamModel) (delivered : List WholeModel)
      → StreamRun id skips old delivered → new.id ≡ old.id → new.next ≡ old.next → new.waiting ≡ old.waiting → StreamRun id skips new delivered

-- All that a stream has delivered has rising numbers.
abbrev pub StreamsDeliverRising : Type 0
StreamsDeliverRising = (id : ℕ) (skips : Bool) (stream : StreamModel) (delivered : List WholeModel) → StreamRun id skips stream delivered → Rise (2 ^ 32) stream.next delivered × WaitsForNext stream

-- Where none was skipped it has all numbers.
abbrev pub StreamsDeliverRows : Type 0
StreamsDeliverRows = (id : ℕ) (stream : StreamModel) (delivered : List WholeModel) → StreamRun id false stream delivered → FillRow (2 ^ 32) stream.next delivered
