-- Order over one direction of an association without interleaving: ordered messages of a stream are
-- read in the order in which they were queued (RFC 9260, section 6.6).
use Rattle.std.specs.Prelude.{◌≡◌, ◌==◌, ◌&&◌, ◌<◌, ◌≤◌, ◌^◌, not, ℕ, suc, true, false, List, [], ◌∷◌, length, if◌then◌else◌}
use Rattle.dcsctp_spec_lemmas.specs.types.declared.options.Options.{Options}
use Rattle.dcsctp_delivery_directions.specs.sending.Log.{Message}
use Rattle.dcsctp_delivery_directions.specs.sending.Losing.{AreUnlimited}
use Rattle.dcsctp_delivery_directions.specs.directions.Forwards.{NoneForwards}
use Rattle.dcsctp_delivery_directions.specs.directions.Directions.{Direction, KeepsAll, DirectionRun, assigned_count}
use Rattle.dcsctp_delivery_directions.specs.order.Delivered.{AreDeliveredInOrder, AreDeliveredWithoutGaps}

-- Without interleaving each message that was read was queued, none twice, and the ordered ones of each stream in the order of
-- reading. This holds where the sender began with number 0 on each stream, has begun no request to reset streams, and skips
-- nothing, if fewer than 2^31 TSNs were assigned. Stream sequence numbers have 16 bits: a receiver takes TSNs up to 65,535 ahead,
-- and each message has one at least.
abbrev pub PlainDirectionsDeliverInOrder : Type 0
PlainDirectionsDeliverInOrder =
    (options : Options) (first size : ℕ) (direction : Direction) → DirectionRun options first size direction
    → first < 2 ^ 32 → assigned_count direction < 2 ^ 31 → length direction.queued < 2 ^ 64 → size ≤ 2 ^ 63 → direction.queues.queue.is_interleaved ≡ false
    → direction.beginning.from_zero ≡ true → direction.asking.requests ≡ [] → NoneForwards direction.sent → AreDeliveredInOrder direction.queued direction.read

-- What was read of each stream's ordered messages is a prefix of what was queued, if besides no message may be abandoned (it
-- has no lifetime, and no limit on retransmissions), and the sender began with all that was queued before and drops nothing for a
-- reset of a stream. Then it skips nothing.
abbrev pub PlainDirectionsDeliverWithoutGaps : Type 0
PlainDirectionsDeliverWithoutGaps =
    (options : Options) (first size : ℕ) (direction : Direction) → DirectionRun options first size direction
    → first < 2 ^ 32 → assigned_count direction < 2 ^ 31 → length direction.queued < 2 ^ 64 → size ≤ 2 ^ 63 → direction.queues.queue.is_interleaved ≡ false
    → direction.beginning.from_zero ≡ true → KeepsAll direction.beginning → AreUnlimited direction.queued → AreDeliveredWithoutGaps direction.queued direction.read

-- ---- few messages on each stream

-- how many ordered messages of the stream these are
abbrev pub ordered_on : ℕ → List Message → ℕ
ordered_on id [] = 0
ordered_on id (message ∷ earlier) = if (message.stream == id) && not message.is_unordered then suc (ordered_on id earlier) else ordered_on id earlier

-- Each stream has fewer than 2^15.
abbrev pub FewOnEachStream : List Message → Type 0
FewOnEachStream queued = (id : ℕ) → ordered_on id queued < 2 ^ 15

-- Ordered messages are read in order also where TSNs are passed with a FORWARD-TSN (RFC 3758), if few were queued on each stream.
-- A receiver reads the stream sequence number of a FORWARD-TSN as the number nearest to its next one. That is right while fewer
-- than 2^15 messages lie between.
abbrev pub PlainFewDeliverInOrder : Type 0
PlainFewDeliverInOrder =
    (options : Options) (first size : ℕ) (direction : Direction) → DirectionRun options first size direction
    → first < 2 ^ 32 → assigned_count direction < 2 ^ 31 → length direction.queued < 2 ^ 64 → direction.queues.queue.is_interleaved ≡ false
    → direction.beginning.from_zero ≡ true → direction.asking.requests ≡ [] → FewOnEachStream direction.queued → AreDeliveredInOrder direction.queued direction.read
