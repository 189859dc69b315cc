-- What was received and was not taken by the user yet (RFC 9260, sections 6.5, 6.6 and 6.9; RFC 8260; RFC 3758, section 3.6; RFC
-- 6525, section 5.2.2).
use Rattle.std.specs.Prelude.{◌≡◌, ℕ, ◌+◌, ◌-◌, ◌^◌, min, Option, None, Some, List, [], ◌==◌, not, if◌then◌else◌, ◌∷◌, ◌++◌, length, Bool}
use Rattle.std.specs.BTreeMap.{is_at}
use Rattle.std.specs.Ordering.{nat_cmp}
use Rattle.std.specs.Map.{keys_of, lookup}
use Rattle.std.specs.List.Sorted.{IsStrictlySortedBy}
use Rattle.dcsctp_types.specs.queues.Messages.{MessageContent}
use Rattle.dcsctp_types.specs.declared.arrivals.Numbering.{Numbering}
use Rattle.dcsctp_types.specs.declared.arrivals.Numbering.TheVariants.{Ordered, Unordered, InterleavedOrdered, InterleavedUnordered}
use Rattle.dcsctp_types.specs.declared.arrivals.Taken.{Taken}
use Rattle.dcsctp_spec.specs.queues.Numbers.{number_near}
use Rattle.dcsctp_spec.specs.queues.Runs.{RunModel, behind_place, runs_used}
use Rattle.dcsctp_spec.specs.queues.IncomingStreams.{ready_bytes, streams_used, StreamModel, ChunkModel, new_stream, data_part, delivered_as, TakesUnordered, TakesOnStream, skipped_stream, stream_after_skip, skip_deliveries}
use Rattle.std.specs.List.{filter, list_any}
use Rattle.dcsctp_types.specs.declared.arrivals.SkippedTo.{SkippedTo}

-- all that is kept of what was received
pub record IncomingModel : Type 0 where
  -- how many messages became ready
  pub messages_received : ℕ
  pub ready : List MessageContent
  -- the streams by their identifiers
  pub streams : List (ℕ × StreamModel)
  -- parts of unordered messages of DATA
  pub unordered : List RunModel
  -- the number of the TSN that was handled last
  pub last_tsn_number : ℕ

-- nothing was received yet
abbrev pub nothing : IncomingModel
nothing = record { messages_received = 0; ready = []; streams = []; unordered = []; last_tsn_number = 2 ^ 32 }

-- how much of the receive window is in use, if each part and each whole message that waits counts so much beside its bytes
abbrev pub held_used : ℕ → IncomingModel → ℕ
held_used overhead incoming =
    ready_bytes incoming.ready + streams_used overhead incoming.streams + runs_used overhead incoming.unordered

abbrev pub stream_or_new : ℕ → Option StreamModel → StreamModel
stream_or_new id None = new_stream id
stream_or_new id (Some stream) = stream

-- The stream of this identifier. A missing one is like one on which nothing was received.
abbrev pub stream_on : ℕ → List (ℕ × StreamModel) → StreamModel
stream_on id streams = stream_or_new id (lookup (is_at (nat_cmp id)) streams)

-- The streams ascend by their identifiers, so each occurs once.
abbrev pub AreInOrder : List (ℕ × StreamModel) → Type 0
AreInOrder streams = IsStrictlySortedBy nat_cmp (keys_of streams)

-- Each stream is unchanged.
abbrev pub KeepsStreams : List (ℕ × StreamModel) → List (ℕ × StreamModel) → Type 0
KeepsStreams old new = (id : ℕ) → stream_on id new ≡ stream_on id old

-- Nothing changes. A stream on which nothing was received may be present or not.
pub record SameIncoming (old new : IncomingModel) : Type 0 where
  pub ready : new.ready ≡ old.ready
  pub received : new.messages_received ≡ old.messages_received
  pub streams : KeepsStreams old.streams new.streams
  pub unordered : new.unordered ≡ old.unordered
  pub last : new.last_tsn_number ≡ old.last_tsn_number

-- So many more messages became ready.
abbrev pub received_more : ℕ → ℕ → ℕ
received_more ready received = min (received + ready) (2 ^ 64 - 1)

-- A chunk of an unordered message of DATA was received: parts go by their TSNs.
pub record TakesUnorderedData (tsn_number : ℕ) (chunk : ChunkModel) (old new : IncomingModel) : Type 0 where
  pub taken : Taken
  pub does : TakesUnordered (data_part chunk tsn_number chunk.stream) (delivered_as chunk.stream) old.unordered old.ready taken new.unordered new.ready
  pub received : new.messages_received ≡ received_more taken.ready old.messages_received
  pub streams : new.streams ≡ old.streams

-- Another chunk was received, on its stream.
pub record TakesStreamData (tsn_number : ℕ) (chunk : ChunkModel) (old new : IncomingModel) : Type 0 where
  pub taken : Taken
  pub does : TakesOnStream tsn_number chunk (stream_on chunk.stream old.streams) old.ready taken (stream_on chunk.stream new.streams) new.ready
  pub others : (id : ℕ) → (id ≡ chunk.stream → ⊥) → stream_on id new.streams ≡ stream_on id old.streams
  pub received : new.messages_received ≡ received_more taken.ready old.messages_received
  pub unordered : new.unordered ≡ old.unordered

abbrev pub TakesChunk : ℕ → Numbering → ChunkModel → IncomingModel → IncomingModel → Type 0
TakesChunk tsn_number (Ordered ssn) chunk old new = TakesStreamData tsn_number chunk old new
TakesChunk tsn_number Unordered chunk old new = TakesUnorderedData tsn_number chunk old new
TakesChunk tsn_number (InterleavedOrdered mid fsn) chunk old new = TakesStreamData tsn_number chunk old new
TakesChunk tsn_number (InterleavedUnordered mid fsn) chunk old new = TakesStreamData tsn_number chunk old new

-- A chunk with this TSN was received.
pub record TakesIncomingChunk (tsn : ℕ) (chunk : ChunkModel) (old new : IncomingModel) : Type 0 where
  pub takes : TakesChunk (number_near old.last_tsn_number tsn) chunk.numbering chunk old new
  pub last : new.last_tsn_number ≡ number_near old.last_tsn_number tsn

-- a stream once an entry, or all of them in turn, are handled
abbrev pub skipped_on : SkippedTo → ℕ → StreamModel → StreamModel
skipped_on entry id stream = if skipped_stream entry == id then stream_after_skip entry stream else stream

abbrev pub stream_skipping : List SkippedTo → ℕ → StreamModel → StreamModel
stream_skipping [] id stream = stream
stream_skipping (entry ∷ entries) id stream = stream_skipping entries id (skipped_on entry id stream)

-- what becomes ready then
abbrev pub deliveries_of_skips : List SkippedTo → (ℕ → StreamModel) → List MessageContent
deliveries_of_skips [] streams = []
deliveries_of_skips (entry ∷ entries) streams =
    skip_deliveries entry (streams (skipped_stream entry)) ++ deliveries_of_skips entries (λ id. skipped_on entry id (streams id))

-- Messages of one stream are skipped; those that become ready are not counted yet.
pub record SkipsOne (entry : SkippedTo) (old new : IncomingModel) : Type 0 where
  pub streams : (id : ℕ) → stream_on id new.streams ≡ skipped_on entry id (stream_on id old.streams)
  pub ready : new.ready ≡ old.ready ++ skip_deliveries entry (stream_on (skipped_stream entry) old.streams)
  pub received : new.messages_received ≡ old.messages_received
  pub unordered : new.unordered ≡ old.unordered
  pub last : new.last_tsn_number ≡ old.last_tsn_number

-- Messages of the streams that are named are skipped.
pub record SkipsAll (entries : List SkippedTo) (old new : IncomingModel) : Type 0 where
  pub streams : (id : ℕ) → stream_on id new.streams ≡ stream_skipping entries id (stream_on id old.streams)
  pub ready : new.ready ≡ old.ready ++ deliveries_of_skips entries (λ id. stream_on id old.streams)
  pub received : new.messages_received ≡ old.messages_received
  pub unordered : new.unordered ≡ old.unordered
  pub last : new.last_tsn_number ≡ old.last_tsn_number

-- A FORWARD TSN or I-FORWARD-TSN whose TSN has this number is handled. The messages that it names are skipped. Parts of unordered
-- messages of DATA that begin at the number or before it are dropped.
pub record MovesTo (tsn_number : ℕ) (entries : List SkippedTo) (old new : IncomingModel) : Type 0 where
  pub streams : (id : ℕ) → stream_on id new.streams ≡ stream_skipping entries id (stream_on id old.streams)
  pub ready : new.ready ≡ old.ready ++ deliveries_of_skips entries (λ id. stream_on id old.streams)
  pub received : new.messages_received ≡ received_more (length (deliveries_of_skips entries (λ id. stream_on id old.streams))) old.messages_received
  pub unordered : new.unordered ≡ behind_place tsn_number old.unordered
  pub last : new.last_tsn_number ≡ tsn_number

abbrev pub MovesOn : ℕ → List SkippedTo → IncomingModel → IncomingModel → Type 0
MovesOn tsn entries old new = MovesTo (number_near old.last_tsn_number tsn) entries old new

-- ---- streams that start again; messages that are ready stay

-- Does the list name the number?
abbrev pub is_named : List ℕ → ℕ → Bool
is_named numbers number = list_any (λ named. named == number) numbers

-- the parts of unordered messages of DATA whose stream isn't named
abbrev pub parts_left : List ℕ → List RunModel → List RunModel
parts_left resets runs = filter (λ run. not (is_named resets run.number)) runs

-- What is ready stays, and what is counted of it.
pub record KeepsReady (old new : IncomingModel) : Type 0 where
  pub ready : new.ready ≡ old.ready
  pub received : new.messages_received ≡ old.messages_received
  pub last : new.last_tsn_number ≡ old.last_tsn_number

pub record ResetsEach (resets : List ℕ) (old new : IncomingModel) : Type 0 where
  pub streams : (id : ℕ) → stream_on id new.streams ≡ (if is_named resets id then new_stream id else stream_on id old.streams)
  pub unordered : new.unordered ≡ parts_left resets old.unordered
  pub kept : KeepsReady old new

pub record ResetsEveryStream (old new : IncomingModel) : Type 0 where
  pub streams : (id : ℕ) → stream_on id new.streams ≡ new_stream id
  pub unordered : new.unordered ≡ []
  pub kept : KeepsReady old new

-- The streams of the list start again; an empty list names all.
abbrev pub ResetsStreams : List ℕ → IncomingModel → IncomingModel → Type 0
ResetsStreams [] old new = ResetsEveryStream old new
ResetsStreams (reset ∷ resets) old new = ResetsEach (reset ∷ resets) old new
