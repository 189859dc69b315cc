-- What an association has received, across resets of streams: ordered messages of a stream become
-- ready in order (RFC 9260, section 6.6; RFC 8260; RFC 6525, section 5.2.2).
use Rattle.std.specs.Prelude.{◌≡◌, ◌^◌, ◌+◌, ◌-◌, ◌%◌, ◌<◌, ℕ, Bool, false, Option, None, List, [], length, ◌⊎◌, ◌≤◌, true, Some}
use Rattle.std.specs.List.{AllByRecursion}
use Rattle.dcsctp_spec_lemmas.specs.types.declared.arrivals.SkippedTo.{SkippedTo}
use Rattle.dcsctp_spec_lemmas.specs.types.declared.arrivals.SkippedTo.TheVariants.{Mid}
use Rattle.dcsctp_spec_lemmas.specs.spec.queues.Incoming.{IncomingModel, stream_on}
use Rattle.dcsctp_spec_lemmas.specs.spec.queues.Reassembly.{WaitingModel, WaitingSkips, DeferralModel, ReassemblyState, waiting_of, skips_of, entries_of, names_stream}
use Rattle.dcsctp_spec_lemmas.specs.spec.queues.Tracker.{TrackerState, has_received}
use Rattle.dcsctp_delivery_directions.specs.sending.Places.{HasEntry, at_place}
use Rattle.dcsctp_delivery_directions.specs.sending.Log.{SentMessages, Piece, History}
use Rattle.dcsctp_delivery_directions.specs.sending.Numbers.{IsCurrent}
use Rattle.dcsctp_delivery_directions.specs.sending.Naming.{IsOfPiece}
use Rattle.dcsctp_delivery_directions.specs.receiving.Ready.{AreDistinct, NamesCurrent}
use Rattle.dcsctp_delivery_directions.specs.receiving.Received.{CountsFromBase, DefersData, kept_entries}
use Rattle.dcsctp_delivery_directions.specs.receiving.Tracked.{Tracks, tracked_number}
use Rattle.dcsctp_delivery_directions.specs.order.Incoming.{IncomingOrdered}
use Rattle.dcsctp_delivery_directions.specs.order.Reading.{Watch, CountsFromZero}

-- no stream is between a reset and new numbers
abbrev pub none_quiet : ℕ → Bool
none_quiet id = false

-- No TSN was handled yet; or the number of the first is known, and all that is held is in order.
pub data ReassemblesInOrder
    (watch : ℕ → Watch) (user : SentMessages) (quiet : ℕ → Bool) (first : ℕ) (got read : List ℕ) (incoming : IncomingModel) : Type 0 where
  none_handled : got ≡ [] → incoming.last_tsn_number ≡ 2 ^ 32
      → ((base : ℕ) → IncomingOrdered watch user quiet [] base read incoming) → ReassemblesInOrder watch user quiet first got read incoming
  some_handled : (base : ℕ) → CountsFromBase first base incoming.last_tsn_number
      → IncomingOrdered watch user quiet got base read incoming → ReassemblesInOrder watch user quiet first got read incoming

-- The TSN carries a piece of a message without limits, on a stream of which it is known that all such TSNs were received that count
-- as received.
pub record IsKnownTsn (watch : ℕ → Watch) (history : History) (k : ℕ) : Type 0 where
  pub piece : Piece
  pub at : at_place k history.log ≡ Some (Some piece)
  pub free : piece.message.is_limited ≡ false
  pub known : (watch piece.message.stream).knows_all ≡ true

-- ---- what is skipped

-- The last TSN before a deferred reset was assigned, or is the one before the first.
abbrev pub IsLastAssigned : History → ℕ → Option DeferralModel → Type 0
IsLastAssigned history first None = Unit {0}
IsLastAssigned history first (Some deferral) =
    (bound : ℕ) × (bound ≤ length history.log) × (deferral.last_tsn ≡ (first + bound + (2 ^ 32 - 1)) % 2 ^ 32)

-- What waits for it is of its streams.
abbrev pub IsNamedWaiting : Option DeferralModel → Type 0
IsNamedWaiting None = Unit {0}
IsNamedWaiting (Some deferral) = AllByRecursion (λ (one : WaitingModel). names_stream deferral.streams one.chunk.stream ≡ true) deferral.waiting

-- An entry that waits passes TSNs that count as received.
pub record IsKeptSkip (history : History) (first cumulative : ℕ) (entry : SkippedTo) : Type 0 where
  pub offset : ℕ
  pub low : tracked_number first offset ≤ cumulative
  pub names : NamesCurrent history (offset + 1) entry

-- An entry waits that skips ordered messages of the stream, and with them the one of the TSN of this offset.
pub record WillSkip (history : History) (first cumulative id : ℕ) (skips : Option WaitingSkips) (number : ℕ) : Type 0 where
  pub mid : ℕ
  pub has : HasEntry (2 ^ 16 + id, Mid (record { 0 = id }) false mid) (entries_of skips)
  pub kept : IsKeptSkip history first cumulative (Mid (record { 0 = id }) false mid)
  pub below : number ≤ kept.offset

-- how far a receiver is: its cumulative TSN, the next number of a stream, and the entries that wait
pub record SkipState : Type 0 where
  pub cumulative : ℕ
  pub next : ℕ
  pub skips : Option WaitingSkips

-- The message of the piece has a number below the next one of its stream; or it will be skipped.
abbrev pub IsSkipped : History → ℕ → ℕ → SkipState → Piece → ℕ → Type 0
IsSkipped history first id reached piece number =
    (piece.mid + 2 ^ 32 < history.floors id false + reached.next) ⊎ WillSkip history first reached.cumulative id reached.skips number

-- Each TSN of an ordered message of the stream that counts as received was received, or its message is skipped.
abbrev pub AreTakenOrSkipped : History → ℕ → List ℕ → TrackerState → ℕ → ℕ → Option WaitingSkips → Type 0
AreTakenOrSkipped history first taken tracker id next skips =
    (n : ℕ) (f : Piece) → f.message.stream ≡ id → f.message.is_unordered ≡ false → IsCurrent history f → IsOfPiece history.log f n → has_received tracker (tracked_number first n) ≡ true
    → (HasEntry n taken × (at_place n history.log ≡ Some (Some f))) ⊎ IsSkipped history first id (record { cumulative = tracker.cumulative; next = next; skips = skips }) f n

-- What is known of FORWARD-TSNs. With a receive window of 2^63 bytes or less each TSN that counts as received was received, or is
-- passed by one that skips its message.
pub record KnowsSkips (watch : ℕ → Watch) (user : SentMessages) (quiet : ℕ → Bool) (first : ℕ) (taken : List ℕ) (tracker : TrackerState) (reassembly : ReassemblyState) : Type 0 where
  pub kept : AllByRecursion (IsKeptSkip user.history first tracker.cumulative) (kept_entries (skips_of reassembly.deferral))
  pub each : reassembly.max_size ≤ 2 ^ 63 → (id : ℕ) → id < 2 ^ 16 → (watch id).knows_all ≡ true → quiet id ≡ false → CountsFromZero user.history id
      → AreTakenOrSkipped user.history first taken tracker id (stream_on id reassembly.incoming.streams).next (skips_of reassembly.deferral)

-- ---- all of it

-- All that an association has received in order whose peer has this log. Messages with limits may have been skipped. `taken` has the offsets
-- that the tracker knows, `got` those that the reassembly queue has handled, and `later` those that wait for the end of a deferred
-- reset. With a receive window of 2^63 bytes or less no data is dropped whose TSN counts as received.
pub record HasReceivedInOrder
    (watch : ℕ → Watch) (user : SentMessages) (quiet : ℕ → Bool) (first : ℕ) (read : List ℕ) (tracker : TrackerState) (reassembly : ReassemblyState) : Type 0 where
  pub taken : List ℕ
  pub got : List ℕ
  pub later : List ℕ
  pub tracks : Tracks first (length user.history.log) taken tracker
  pub got_taken : (k : ℕ) → HasEntry k got → HasEntry k taken
  pub later_taken : (k : ℕ) → HasEntry k later → HasEntry k taken
  pub either : (k : ℕ) → HasEntry k taken → HasEntry k got ⊎ HasEntry k later
  pub exact : reassembly.max_size ≤ 2 ^ 63 → (k : ℕ) → IsKnownTsn watch user.history k → has_received tracker (tracked_number first k) ≡ true → HasEntry k taken
  pub apart : (k : ℕ) → HasEntry k later → HasEntry k got → ⊥
  pub distinct : AreDistinct later
  pub holds : ReassemblesInOrder watch user quiet first got read reassembly.incoming
  pub defers : DefersData user.history first later (waiting_of reassembly.deferral)
  pub skips : KnowsSkips watch user quiet first taken tracker reassembly
