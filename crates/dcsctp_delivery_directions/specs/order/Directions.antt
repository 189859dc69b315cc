-- Order over one direction of an association: ordered messages of a stream are read in the order in
-- which they were queued, across resets of streams (RFC 9260, section 6.6; RFC 8260; RFC 6525).
use Rattle.std.specs.Prelude.{◌≡◌, ◌<◌, ◌^◌, ℕ, true, length}
use Rattle.dcsctp_spec_lemmas.specs.types.declared.options.Options.{Options}
use Rattle.dcsctp_delivery_directions.specs.sending.Losing.{AreUnlimited}
use Rattle.dcsctp_delivery_directions.specs.directions.Directions.{Direction, KeepsAll, DirectionRun, assigned_count}
use Rattle.dcsctp_delivery_directions.specs.order.Delivered.{AreDeliveredInOrder, AreDeliveredWithoutGaps}

-- With interleaving each message that was read was queued, none twice, and the ordered ones of each stream in the order of
-- reading, also where streams are reset. This holds where the sender began with number 0 on each stream, if fewer than 2^31 TSNs
-- were assigned.
abbrev pub DirectionsDeliverInOrder : Type 0
DirectionsDeliverInOrder =
    (options : Options) (first size : ℕ) (direction : Direction) → DirectionRun options first size direction
    → first < 2 ^ 32 → assigned_count direction < 2 ^ 31 → length direction.queued < 2 ^ 64 → direction.queues.queue.is_interleaved ≡ true
    → direction.beginning.from_zero ≡ true → AreDeliveredInOrder direction.queued direction.read

-- With interleaving what was read of each stream's ordered messages is a prefix of what was queued: none is left out before
-- another. This holds where no message may be abandoned, and where the sender began with number 0 on each stream and with all
-- that was queued before, and drops nothing for a reset: then it begins none.
abbrev pub DirectionsDeliverWithoutGaps : Type 0
DirectionsDeliverWithoutGaps =
    (options : Options) (first size : ℕ) (direction : Direction) → DirectionRun options first size direction
    → first < 2 ^ 32 → assigned_count direction < 2 ^ 31 → length direction.queued < 2 ^ 64 → direction.queues.queue.is_interleaved ≡ true
    → direction.beginning.from_zero ≡ true → KeepsAll direction.beginning → AreUnlimited direction.queued
    → AreDeliveredWithoutGaps direction.queued direction.read
