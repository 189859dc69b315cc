-- The reassembly queue as callers see it: what was received, and the receive window. Also a reset of streams that waits for data
-- that was sent before it (RFC 6525, section 5.2.2).
use Rattle.std.specs.Prelude.{◌≡◌, ◌==◌, ℕ, ◌+◌, ◌-◌, ◌*◌, ◌/◌, ◌^◌, min, nat_le, nat_lt, Bool, true, false, not, ◌&&◌, Option, None, Some, List, [], ◌∷◌, ◌++◌, length, map}
use Rattle.std.specs.BTreeMap.{insert_entry}
use Rattle.std.specs.List.{filter, list_any, sum_by}
use Rattle.std.specs.Ordering.{nat_cmp}
use Rattle.dcsctp_types.specs.declared.arrivals.SkippedTo.{SkippedTo}
use Rattle.dcsctp_types.specs.declared.arrivals.SkippedTo.TheVariants.{Ssn, Mid}
use Rattle.dcsctp_types.specs.queues.Messages.{MessageContent}
use Rattle.dcsctp_spec.specs.queues.Numbers.{is_tsn_beyond}
use Rattle.dcsctp_spec.specs.queues.IncomingStreams.{ChunkModel, skipped_stream}
use Rattle.dcsctp_spec.specs.queues.Runs.{part_used}
use Rattle.dcsctp_spec.specs.queues.Incoming.{MovesOn, ResetsStreams, IncomingModel, SameIncoming, TakesIncomingChunk, nothing, held_used}

-- a chunk of a message that waits for the end of a deferred reset, with its TSN
pub record WaitingModel : Type 0 where
  pub tsn : ℕ
  pub chunk : ChunkModel

-- What is skipped then: up to the TSN of the newest FORWARD TSN or I-FORWARD-TSN, and on each stream up to the newest entry for its
-- ordered and for its unordered messages. The entries are in ascending order of their keys.
pub record WaitingSkips : Type 0 where
  pub tsn : ℕ
  pub entries : List (ℕ × SkippedTo)

pub record DeferralModel : Type 0 where
  -- the last TSN that was sent before the reset
  pub last_tsn : ℕ
  -- an empty list: all streams
  pub streams : List ℕ
  -- in the order in which they came
  pub waiting : List WaitingModel
  -- what comes after them
  pub skips : Option WaitingSkips

pub record ReassemblyState : Type 0 where
  pub incoming : IncomingModel
  pub max_size : ℕ
  -- what each part, and each whole message that waits, counts in the receive window beside its bytes
  pub overhead : ℕ
  pub deferral : Option DeferralModel

-- how much of the receive window the data uses that waits for the end of a deferred reset
abbrev pub waiting_used : ℕ → WaitingModel → ℕ
waiting_used overhead one = part_used overhead one.chunk.payload

abbrev pub deferred_used : ℕ → Option DeferralModel → ℕ
deferred_used overhead None = 0
deferred_used overhead (Some deferral) = sum_by (waiting_used overhead) deferral.waiting

-- How much of the receive window is in use: by messages and parts that were received, and by what waits for the end of a deferred
-- reset. The window is buffer space (RFC 9260, section 6.2), so what the memory for a part takes may count, too.
abbrev pub window_used : ReassemblyState → ℕ
window_used queue = held_used queue.overhead queue.incoming + deferred_used queue.overhead queue.deferral

-- Can so many more bytes be counted?
abbrev pub can_count : ℕ → ReassemblyState → Bool
can_count size queue = nat_lt (window_used queue + size) (2 ^ 64)

-- the bytes that are left of the receive window
abbrev pub remaining_bytes : ReassemblyState → ℕ
remaining_bytes queue = queue.max_size - window_used queue

-- Is less than twice the receive window in use, and less than 2^63 bytes?
abbrev pub is_below_double : ReassemblyState → Bool
is_below_double queue = nat_lt (window_used queue) (min (2 * queue.max_size) (2 ^ 63))

-- Is nine tenths of the receive window in use, or more? Then data is dropped.
abbrev pub is_above_watermark : ReassemblyState → Bool
is_above_watermark queue = nat_le (9 * queue.max_size) (10 * window_used queue)

-- the bytes that are left of nine tenths of it
abbrev pub bytes_to_watermark : ReassemblyState → ℕ
bytes_to_watermark queue = (9 * queue.max_size + 9) / 10 - window_used queue

-- nothing was received yet
abbrev pub new_reassembly : ℕ → ℕ → ReassemblyState
new_reassembly max_size overhead = record { incoming = nothing; max_size = max_size; overhead = overhead; deferral = None }

-- the queue with these messages ready
abbrev pub with_ready : List MessageContent → ReassemblyState → ReassemblyState
with_ready messages queue = record queue { incoming = record queue.incoming { ready = messages } }

-- Does the list name the stream? An empty one names all.
abbrev pub names_stream : List ℕ → ℕ → Bool
names_stream [] id = true
names_stream (first ∷ streams) id = list_any (λ stream. stream == id) (first ∷ streams)

-- Does what comes with this TSN on this stream wait for the end of a deferred reset?
abbrev pub is_data_deferred : ℕ → ℕ → Option DeferralModel → Bool
is_data_deferred tsn id None = false
is_data_deferred tsn id (Some deferral) = is_tsn_beyond tsn deferral.last_tsn && names_stream deferral.streams id

abbrev pub is_forward_deferred : ℕ → Option DeferralModel → Bool
is_forward_deferred tsn None = false
is_forward_deferred tsn (Some deferral) = is_tsn_beyond tsn deferral.last_tsn

-- the deferral with one more that waits
abbrev pub with_waiting : WaitingModel → Option DeferralModel → Option DeferralModel
with_waiting last None = None
with_waiting last (Some deferral) = Some (record deferral { waiting = deferral.waiting ++ last ∷ [] })

-- data waits for the end of a deferred reset
abbrev pub with_deferred : ℕ → ChunkModel → ReassemblyState → ReassemblyState
with_deferred tsn chunk queue = record queue { deferral = with_waiting (record { tsn = tsn; chunk = chunk }) queue.deferral }

-- Data was handled.
pub record TakesReceivedChunk (tsn : ℕ) (chunk : ChunkModel) (old new : ReassemblyState) : Type 0 where
  pub incoming : TakesIncomingChunk tsn chunk old.incoming new.incoming
  pub window : new.max_size ≡ old.max_size
  pub overhead : new.overhead ≡ old.overhead
  pub deferral : new.deferral ≡ old.deferral

-- Data whose TSN is new is added: it is handled, or it waits for the end of a deferred reset. If its bytes can't be counted it is
-- dropped.
pub record AddsData (tsn : ℕ) (chunk : ChunkModel) (old new : ReassemblyState) : Type 0 where
  pub taken : can_count (length chunk.payload) old ≡ true → is_data_deferred tsn chunk.stream old.deferral ≡ false → TakesReceivedChunk tsn chunk old new
  pub deferred : can_count (length chunk.payload) old ≡ true → is_data_deferred tsn chunk.stream old.deferral ≡ true → new ≡ with_deferred tsn chunk old
  pub too_much : can_count (length chunk.payload) old ≡ false → new ≡ old

-- A FORWARD TSN or I-FORWARD-TSN was handled.
pub record HandlesForwardTsn (tsn : ℕ) (entries : List SkippedTo) (old new : ReassemblyState) : Type 0 where
  pub incoming : MovesOn tsn entries old.incoming new.incoming
  pub window : new.max_size ≡ old.max_size
  pub overhead : new.overhead ≡ old.overhead
  pub deferral : new.deferral ≡ old.deferral

-- which messages an entry is for: the ordered ones of a stream, by their stream sequence numbers or by their identifiers, or the
-- unordered ones
abbrev pub skip_key : SkippedTo → ℕ
skip_key (Ssn id ssn) = id.0
skip_key (Mid id false mid) = 2 ^ 16 + id.0
skip_key (Mid id true mid) = 2 ^ 17 + id.0

-- the entries that wait, with newer ones in the place of those for the same messages
abbrev pub with_entries : List SkippedTo → List (ℕ × SkippedTo) → List (ℕ × SkippedTo)
with_entries [] kept = kept
with_entries (entry ∷ entries) kept = with_entries entries (insert_entry nat_cmp kept (skip_key entry) entry)

abbrev pub entries_of : Option WaitingSkips → List (ℕ × SkippedTo)
entries_of None = []
entries_of (Some skips) = skips.entries

-- what waits to be skipped, with that of a newer FORWARD TSN
abbrev pub with_skips : ℕ → List SkippedTo → Option WaitingSkips → WaitingSkips
with_skips tsn entries skips = record { tsn = tsn; entries = with_entries entries (entries_of skips) }

-- the entries for streams of the reset, and the others
abbrev pub entries_within : List ℕ → List SkippedTo → List SkippedTo
entries_within streams entries = filter (λ entry. names_stream streams (skipped_stream entry)) entries

abbrev pub entries_beside : List ℕ → List SkippedTo → List SkippedTo
entries_beside streams entries = filter (λ entry. not (names_stream streams (skipped_stream entry))) entries

-- A FORWARD TSN beyond the last TSN of a deferred reset was received: on the streams of the reset it waits for that, and on the
-- others it is handled.
pub record ForwardsBeside (tsn : ℕ) (entries : List SkippedTo) (waits : DeferralModel) (old new : ReassemblyState) : Type 0 where
  pub incoming : MovesOn tsn (entries_beside waits.streams entries) old.incoming new.incoming
  pub window : new.max_size ≡ old.max_size
  pub overhead : new.overhead ≡ old.overhead
  pub deferral : new.deferral ≡ Some (record waits { skips = Some (with_skips tsn (entries_within waits.streams entries) waits.skips) })

-- A FORWARD TSN or I-FORWARD-TSN is handled, or it waits where a reset is deferred.
pub record SkipsData (tsn : ℕ) (entries : List SkippedTo) (old new : ReassemblyState) : Type 0 where
  pub moved : is_forward_deferred tsn old.deferral ≡ false → HandlesForwardTsn tsn entries old new
  pub deferred : is_forward_deferred tsn old.deferral ≡ true → (waits : DeferralModel) → old.deferral ≡ Some waits → ForwardsBeside tsn entries waits old new

-- the deferral that begins, if there is none
abbrev pub begun_deferral : ℕ → List ℕ → Option DeferralModel → Option DeferralModel
begun_deferral last_tsn streams None = Some (record { last_tsn = last_tsn; streams = streams; waiting = []; skips = None })
begun_deferral last_tsn streams (Some deferral) = Some deferral

-- A reset of these streams is deferred until all up to this TSN is received. If another one waits, nothing changes.
abbrev pub deferring : ℕ → List ℕ → ReassemblyState → ReassemblyState
deferring last_tsn streams queue = record queue { deferral = begun_deferral last_tsn streams queue.deferral }

-- ---- the end of a deferred reset

-- Data that waited is handled, one chunk or all in turn.
abbrev pub HandlesWaiting : WaitingModel → IncomingModel → IncomingModel → Type 0
HandlesWaiting one old new = TakesIncomingChunk one.tsn one.chunk old new

abbrev pub HandlesAll : List WaitingModel → IncomingModel → IncomingModel → Type 0
HandlesAll [] old new = new ≡ old
HandlesAll (action ∷ actions) old new = (between : IncomingModel) × HandlesWaiting action old between × HandlesAll actions between new

-- Some of it is handled, and the rest waits on.
pub record HandlesFront (actions : List WaitingModel) (old new : IncomingModel) (left : List WaitingModel) : Type 0 where
  pub done : List WaitingModel
  pub between : IncomingModel
  pub all : actions ≡ done ++ left
  pub works : HandlesAll done old between
  pub same : SameIncoming between new

abbrev pub waiting_of : Option DeferralModel → List WaitingModel
waiting_of None = []
waiting_of (Some deferral) = deferral.waiting

abbrev pub skips_of : Option DeferralModel → Option WaitingSkips
skips_of None = None
skips_of (Some deferral) = deferral.skips

-- What waited to be skipped is skipped.
abbrev pub SkipsThen : Option WaitingSkips → IncomingModel → IncomingModel → Type 0
SkipsThen None old new = new ≡ old
SkipsThen (Some skips) old new = MovesOn skips.tsn (map (λ entry. entry.1) skips.entries) old new

-- The streams are reset, and then all is handled that waited for this: the data, and then what is to be skipped.
pub record EndsDeferral (streams : List ℕ) (old new : ReassemblyState) : Type 0 where
  pub between : IncomingModel
  pub handled : IncomingModel
  pub resets : ResetsStreams streams old.incoming between
  pub works : HandlesAll (waiting_of old.deferral) between handled
  pub skips : SkipsThen (skips_of old.deferral) handled new.incoming
  pub window : new.max_size ≡ old.max_size
  pub overhead : new.overhead ≡ old.overhead
  pub deferral : new.deferral ≡ None

-- the deferral with what still waits
abbrev pub with_left : List WaitingModel → Option DeferralModel → Option DeferralModel
with_left left None = None
with_left left (Some deferral) = Some (record deferral { waiting = left })

-- The streams are reset, and some of the data is handled.
pub record StaysDeferred (streams : List ℕ) (old new : ReassemblyState) : Type 0 where
  pub between : IncomingModel
  pub left : List WaitingModel
  pub resets : ResetsStreams streams old.incoming between
  pub works : HandlesFront (waiting_of old.deferral) between new.incoming left
  pub window : new.max_size ≡ old.max_size
  pub overhead : new.overhead ≡ old.overhead
  pub deferral : new.deferral ≡ with_left left old.deferral
