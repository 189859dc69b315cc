-- Incoming streams: whole ordered messages that wait for their turn, and parts (RFC 9260, sections 6.5 and 6.6; RFC 3758,
-- section 3.6). Messages are numbered without wrap.
use Rattle.std.specs.List.{filter, sum_by}
use Rattle.std.specs.Prelude.{◌≡◌, ◌==◌, ℕ, ◌+◌, ◌-◌, ◌^◌, ◌<◌, ◌≤◌, MatchBool, min, max, nat_le, take, drop, slice_get, if◌then◌else◌, not, ◌||◌, Bool, true, false, Option, None, Some, List, [], ◌∷◌, ◌++◌, length, map}
use Rattle.dcsctp_types.specs.queues.Messages.{MessageContent}
use Rattle.dcsctp_types.specs.declared.arrivals.SkippedTo.{SkippedTo}
use Rattle.dcsctp_types.specs.declared.arrivals.SkippedTo.TheVariants.{Ssn, Mid}
use Rattle.dcsctp_types.specs.declared.arrivals.Numbering.{Numbering}
use Rattle.dcsctp_types.specs.declared.arrivals.Numbering.TheVariants.{Ordered, Unordered, InterleavedOrdered, InterleavedUnordered}
use Rattle.dcsctp_spec.specs.queues.Numbers.{number_near, short_number_near, short_number_from, fragment_place}
use Rattle.dcsctp_types.specs.declared.arrivals.Taken.{Taken}
use Rattle.dcsctp_spec.specs.queues.Runs.{RunModel, PartModel, WholeModel, Assembly, part_dropped, part_kept, message_whole, AddsPart, runs_used, wholes_used}

pub record StreamModel : Type 0 where
  pub id : ℕ
  -- the number of the ordered message that comes next
  pub next : ℕ
  -- the number of the unordered message of which a part was received last
  pub last_unordered : ℕ
  -- whole ordered messages after one that is missing, ascending
  pub waiting : List WholeModel
  -- parts of ordered and of unordered messages
  pub ordered : List RunModel
  pub unordered : List RunModel

-- a stream on which nothing was received
abbrev pub new_stream : ℕ → StreamModel
new_stream id = record { id = id; next = 2 ^ 32; last_unordered = 2 ^ 32; waiting = []; ordered = []; unordered = [] }

-- a whole message, as the user takes it
abbrev pub delivered_as : ℕ → WholeModel → MessageContent
delivered_as id whole = record { stream = id; ppid = whole.ppid; payload = whole.payload }

-- ---- delivery in order

-- the next number once this message is delivered
abbrev pub next_after : ℕ → WholeModel → ℕ
next_after next whole = if whole.number == next then min (next + 1) (2 ^ 64 - 1) else next

-- the messages that come before the first that is missing, those that wait, and the number of that first
abbrev pub due : ℕ → List WholeModel → List WholeModel
due next [] = []
due next (whole ∷ waiting) = if nat_le whole.number next then whole ∷ due (next_after next whole) waiting else []

abbrev pub not_due : ℕ → List WholeModel → List WholeModel
not_due next [] = []
not_due next (whole ∷ waiting) = if nat_le whole.number next then not_due (next_after next whole) waiting else whole ∷ waiting

abbrev pub next_due : ℕ → List WholeModel → ℕ
next_due next [] = next
next_due next (whole ∷ waiting) = if nat_le whole.number next then next_due (next_after next whole) waiting else next

-- a stream whose next number is this, once all that can be delivered is
abbrev pub delivered_from : ℕ → StreamModel → StreamModel
delivered_from next stream = record stream { next = next_due next stream.waiting; waiting = not_due next stream.waiting }

-- what is delivered then
abbrev pub deliveries_from : ℕ → StreamModel → List MessageContent
deliveries_from next stream = map (delivered_as stream.id) (due next stream.waiting)

-- the number after a skipped one, if that isn't before the next
abbrev pub next_past : ℕ → ℕ → ℕ
next_past stream_after_skip next = max next (min (stream_after_skip + 1) (2 ^ 64 - 1))

-- ---- data that is received

abbrev pub TakesNothing : Taken → Type 0
TakesNothing taken = (taken.kept_bytes ≡ 0) × (taken.ready ≡ 0)

abbrev pub KeepsOnly : PartModel → Taken → Type 0
KeepsOnly part taken = (taken.kept_bytes ≡ length part.payload) × (taken.ready ≡ 0)

-- the messages that become ready with an ordered one that is next: it and those that waited for it
abbrev pub ready_with : StreamModel → WholeModel → List MessageContent
ready_with stream whole = delivered_as stream.id whole ∷ deliveries_from (next_after stream.next whole) stream

-- Does a message of this number wait?
abbrev pub is_number_waiting : ℕ → List WholeModel → Bool
is_number_waiting number [] = false
is_number_waiting number (whole ∷ waiting) = (whole.number == number) || is_number_waiting number waiting

-- Does a message wait, and is the first of them numbered up to this number?
abbrev pub is_message_due : ℕ → List WholeModel → Bool
is_message_due next [] = false
is_message_due next (whole ∷ waiting) = nat_le whole.number next

-- Is the message, if there is one, numbered below the number, or not?
abbrev pub IsNumberedBelow : ℕ → Option WholeModel → Type 0
IsNumberedBelow number None = Unit {0}
IsNumberedBelow number (Some whole) = whole.number < number

abbrev pub IsNumberedFrom : ℕ → Option WholeModel → Type 0
IsNumberedFrom number None = Unit {0}
IsNumberedFrom number (Some whole) = number ≤ whole.number

-- Where a number belongs among the messages that wait: the one before is numbered below it, the next one is not.
pub record IsNumberPlace (at number : ℕ) (waiting : List WholeModel) : Type 0 where
  pub within : at ≤ length waiting
  pub before : 0 < at → IsNumberedBelow number (slice_get waiting (at - 1))
  pub behind : IsNumberedFrom number (slice_get waiting at)

-- A message waits among others, which keep their order.
pub record WaitsAmong (whole : WholeModel) (old new : List WholeModel) : Type 0 where
  pub at : ℕ
  pub turn : IsNumberPlace at whole.number old
  pub waiting : new ≡ take at old ++ whole ∷ drop at old

-- A whole ordered message: it is next, and becomes ready with those that waited for it; or it waits.
pub record TakesWhole (whole : WholeModel) (old : StreamModel) (before : List MessageContent) (size : ℕ) (taken : Taken) (new : StreamModel) (after : List MessageContent) : Type 0 where
  pub kept : taken.kept_bytes ≡ size
  pub ready : after ≡ (if whole.number == old.next then before ++ ready_with old whole else before)
  pub count : taken.ready ≡ (if whole.number == old.next then length (ready_with old whole) else 0)
  pub next : new.next ≡ (if whole.number == old.next then next_due (next_after old.next whole) old.waiting else old.next)
  pub waiting : MatchBool (whole.number == old.next) (new.waiting ≡ not_due (next_after old.next whole) old.waiting) (WaitsAmong whole old.waiting new.waiting)

-- What a part of an ordered message does, by what became of it.
abbrev pub OrderedOutcome : PartModel → StreamModel → List MessageContent → Assembly → Taken → StreamModel → List MessageContent → Type 0
OrderedOutcome part old before part_dropped taken new after = (new ≡ old) × (after ≡ before) × TakesNothing taken
OrderedOutcome part old before part_kept taken new after =
    (new.next ≡ old.next) × (new.waiting ≡ old.waiting) × (after ≡ before) × KeepsOnly part taken
OrderedOutcome part old before (message_whole message) taken new after =
    TakesWhole message old before (length part.payload) taken new after

-- A part of an ordered message, or a whole one, that isn't before the next, and whose message doesn't wait.
pub record TakesOrdered (part : PartModel) (old : StreamModel) (before : List MessageContent) (taken : Taken) (new : StreamModel) (after : List MessageContent) : Type 0 where
  pub outcome : Assembly
  pub parts : AddsPart part old.ordered outcome new.ordered
  pub does : OrderedOutcome part old before outcome taken new after
  pub id : new.id ≡ old.id
  pub unordered : (new.last_unordered ≡ old.last_unordered) × (new.unordered ≡ old.unordered)

-- What a part of an unordered message does, by what became of it: one that makes its message whole makes it ready.
abbrev pub UnorderedOutcome : PartModel → (WholeModel → MessageContent) → List MessageContent → Assembly → Taken → List MessageContent → Type 0
UnorderedOutcome part shown before part_dropped taken after = (after ≡ before) × TakesNothing taken
UnorderedOutcome part shown before part_kept taken after = (after ≡ before) × KeepsOnly part taken
UnorderedOutcome part shown before (message_whole message) taken after =
    (after ≡ before ++ shown message ∷ []) × (taken.kept_bytes ≡ length part.payload) × (taken.ready ≡ 1)

-- A part of an unordered message, or a whole one, of which these runs hold the parts.
pub record TakesUnordered (part : PartModel) (shown : WholeModel → MessageContent) (old : List RunModel) (before : List MessageContent) (taken : Taken) (new : List RunModel) (after : List MessageContent) : Type 0 where
  pub outcome : Assembly
  pub parts : AddsPart part old outcome new
  pub does : UnorderedOutcome part shown before outcome taken after

-- A part of an ordered message, or a whole one, whose number a waiting message already has. No order says which of the two comes
-- first, so this one becomes ready once it is whole.
pub record TakesRepeated (part : PartModel) (old : StreamModel) (before : List MessageContent) (taken : Taken) (new : StreamModel) (after : List MessageContent) : Type 0 where
  pub ordered : TakesUnordered part (delivered_as old.id) old.ordered before taken new.ordered after
  pub others : (new.id ≡ old.id) × (new.next ≡ old.next) × (new.waiting ≡ old.waiting) × (new.unordered ≡ old.unordered)
  pub last : new.last_unordered ≡ old.last_unordered

-- A part of an ordered message, or a whole one, that isn't before the next: does a message of its number wait already?
pub record TakesAhead (part : PartModel) (old : StreamModel) (before : List MessageContent) (taken : Taken) (new : StreamModel) (after : List MessageContent) : Type 0 where
  pub repeated : is_number_waiting part.number old.waiting ≡ true → TakesRepeated part old before taken new after
  pub fresh : is_number_waiting part.number old.waiting ≡ false → TakesOrdered part old before taken new after

-- ---- chunks of data

-- what a chunk carries
pub record ChunkModel : Type 0 where
  pub stream : ℕ
  pub numbering : Numbering
  pub ppid : ℕ
  pub payload : List ℕ
  pub is_beginning : Bool
  pub is_end : Bool

-- a part at this place, out of a chunk
abbrev pub data_part : ChunkModel → ℕ → ℕ → PartModel
data_part chunk place number =
    record { place = place; number = number; ppid = chunk.ppid; payload = chunk.payload; is_beginning = chunk.is_beginning; is_end = chunk.is_end }

-- A part of an ordered I-DATA message, or a whole one: it is dropped if its message is before the next.
pub record TakesInOrder (part : PartModel) (old : StreamModel) (before : List MessageContent) (taken : Taken) (new : StreamModel) (after : List MessageContent) : Type 0 where
  pub past : part.number < old.next → TakesNothing taken × (new ≡ old) × (after ≡ before)
  pub ahead : old.next ≤ part.number → TakesAhead part old before taken new after

-- the same for an unordered I-DATA message
pub record TakesOutOfOrder (part : PartModel) (old : StreamModel) (before : List MessageContent) (taken : Taken) (new : StreamModel) (after : List MessageContent) : Type 0 where
  pub unordered : TakesUnordered part (delivered_as old.id) old.unordered before taken new.unordered after
  pub last : new.last_unordered ≡ part.number
  pub others : (new.id ≡ old.id) × (new.next ≡ old.next) × (new.waiting ≡ old.waiting) × (new.ordered ≡ old.ordered)

-- the same for an unordered message of DATA, whose parts go by their TSNs
pub record TakesApart (part : PartModel) (old : StreamModel) (before : List MessageContent) (taken : Taken) (new : StreamModel) (after : List MessageContent) : Type 0 where
  pub unordered : TakesUnordered part (delivered_as old.id) old.unordered before taken new.unordered after
  pub others : (new.id ≡ old.id) × (new.next ≡ old.next) × (new.waiting ≡ old.waiting) × (new.ordered ≡ old.ordered)
  pub last : new.last_unordered ≡ old.last_unordered

-- a part that has come: of an ordered message of DATA, of an unordered one, and the same of I-DATA
pub data NumberedPart : Type 0 where
  numbered_ahead : PartModel → NumberedPart
  numbered_apart : PartModel → NumberedPart
  numbered_in_order : PartModel → NumberedPart
  numbered_out_of_order : PartModel → NumberedPart

-- Data of a stream was received, whose TSN has this number. The parts of a message of DATA go by their TSNs, those of I-DATA by
-- their fragment numbers; those of one message go together.
--
-- A stream sequence number is read as the next number or a later one, over its whole range. The TSN is new, and all TSNs of a
-- message that was delivered or skipped count as received (RFC 3758, section 3.5). A message identifier is read as the nearest
-- number: nobody is 2^31 messages ahead. A part of a skipped message may come late, since parts of I-DATA messages need not have
-- TSNs in a row.
abbrev pub numbered_part : ℕ → ChunkModel → Numbering → StreamModel → NumberedPart
numbered_part tsn chunk (Ordered ssn) old = numbered_ahead (data_part chunk (fragment_place (short_number_from old.next ssn) tsn) (short_number_from old.next ssn))
numbered_part tsn chunk Unordered old = numbered_apart (data_part chunk tsn 0)
numbered_part tsn chunk (InterleavedOrdered mid fsn) old = numbered_in_order (data_part chunk (fragment_place (number_near old.next mid) fsn) (number_near old.next mid))
numbered_part tsn chunk (InterleavedUnordered mid fsn) old =
    numbered_out_of_order (data_part chunk (fragment_place (number_near old.last_unordered mid) fsn) (number_near old.last_unordered mid))

-- The stream takes a part that has come, by where it belongs.
abbrev pub TakesNumberedPart : NumberedPart → StreamModel → List MessageContent → Taken → StreamModel → List MessageContent → Type 0
TakesNumberedPart (numbered_ahead part) old before taken new after = TakesAhead part old before taken new after
TakesNumberedPart (numbered_apart part) old before taken new after = TakesApart part old before taken new after
TakesNumberedPart (numbered_in_order part) old before taken new after = TakesInOrder part old before taken new after
TakesNumberedPart (numbered_out_of_order part) old before taken new after = TakesOutOfOrder part old before taken new after

abbrev pub TakesOnStream : ℕ → ChunkModel → StreamModel → List MessageContent → Taken → StreamModel → List MessageContent → Type 0
TakesOnStream tsn chunk old before taken new after = TakesNumberedPart (numbered_part tsn chunk chunk.numbering old) old before taken new after

-- ---- messages that are skipped (RFC 3758, section 3.6; RFC 8260, section 2.3.1)

-- the runs of the messages up to a number, and the others
abbrev pub runs_up_to : ℕ → List RunModel → List RunModel
runs_up_to number runs = filter (λ run. nat_le run.number number) runs

abbrev pub runs_behind : ℕ → List RunModel → List RunModel
runs_behind number runs = filter (λ run. not (nat_le run.number number)) runs

-- The ordered messages up to a number are skipped. Those that aren't whole are dropped; whole ones and those that follow in a row
-- become ready.
abbrev pub skipped_in_order : ℕ → StreamModel → StreamModel
skipped_in_order number stream =
    delivered_from (next_past number stream.next) (record stream { ordered = runs_behind number stream.ordered })

-- The unordered messages up to a number are skipped: their parts are dropped.
abbrev pub skipped_out_of_order : ℕ → StreamModel → StreamModel
skipped_out_of_order number stream = record stream { last_unordered = number; unordered = runs_behind number stream.unordered }

-- the stream on which messages are skipped
abbrev pub skipped_stream : SkippedTo → ℕ
skipped_stream (Ssn id ssn) = id.0
skipped_stream (Mid id is_unordered mid) = id.0

-- the stream then
abbrev pub stream_after_skip : SkippedTo → StreamModel → StreamModel
stream_after_skip (Ssn id ssn) stream = skipped_in_order (short_number_near stream.next ssn) stream
stream_after_skip (Mid id false mid) stream = skipped_in_order (number_near stream.next mid) stream
stream_after_skip (Mid id true mid) stream = skipped_out_of_order (number_near stream.last_unordered mid) stream

-- what becomes ready then
abbrev pub skip_deliveries : SkippedTo → StreamModel → List MessageContent
skip_deliveries (Ssn id ssn) stream = deliveries_from (next_past (short_number_near stream.next ssn) stream.next) stream
skip_deliveries (Mid id false mid) stream = deliveries_from (next_past (number_near stream.next mid) stream.next) stream
skip_deliveries (Mid id true mid) stream = []

-- how much of the receive window the parts use that are dropped then
abbrev pub skip_used : ℕ → SkippedTo → StreamModel → ℕ
skip_used overhead (Ssn id ssn) stream = runs_used overhead (runs_up_to (short_number_near stream.next ssn) stream.ordered)
skip_used overhead (Mid id false mid) stream = runs_used overhead (runs_up_to (number_near stream.next mid) stream.ordered)
skip_used overhead (Mid id true mid) stream = runs_used overhead (runs_up_to (number_near stream.last_unordered mid) stream.unordered)

-- ---- how much of the receive window they use

-- what is kept on a stream
abbrev pub kept_stream_used : ℕ → StreamModel → ℕ
kept_stream_used overhead stream =
    wholes_used overhead stream.waiting + runs_used overhead stream.ordered + runs_used overhead stream.unordered

abbrev pub streams_used : ℕ → List (ℕ × StreamModel) → ℕ
streams_used overhead streams = sum_by (λ entry. kept_stream_used overhead entry.1) streams

-- A message that is ready counts its bytes alone.
abbrev pub ready_bytes : List MessageContent → ℕ
ready_bytes messages = sum_by (λ message. length message.payload) messages
