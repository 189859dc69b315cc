-- What a receiver has performed of what its peer's user asked for, and what is read in each epoch of a
-- stream (RFC 6525, section 5.2.2).
use Rattle.std.specs.Prelude.{◌≡◌, ◌<◌, ◌+◌, ◌^◌, ℕ, Bool, true, Option, None, Some, List, [], ◌∷◌, length, if◌then◌else◌, ◌&&◌, ◌≤◌, nat_le}
use Rattle.dcsctp_spec.specs.types.declared.options.Options.{Options}
use Rattle.dcsctp_spec.specs.types.queues.Messages.{MessageContent}
use Rattle.dcsctp_spec.specs.queues.Reassembly.{names_stream}
use Rattle.dcsctp_spec.specs.types.queues.SendStreams.{Stream}
use Rattle.dcsctp_delivery_directions.specs.sending.Numbers.{is_handed_out, stream_named}
use Rattle.dcsctp_delivery_directions.specs.sending.Places.{HasEntry}
use Rattle.dcsctp_delivery_directions.specs.sending.Log.{Message}
use Rattle.dcsctp_delivery_directions.specs.directions.Directions.{Beginning, Direction, DirectionStep, commits, performs, performs_earlier, DirectionRun, begins, goes_on, starts, assigned_count}
use Rattle.dcsctp_delivery_directions.specs.order.Queue.{Cut, Separates, LeaveNoGapBefore, HaveAllBefore}
use Rattle.dcsctp_delivery_directions.specs.order.Delivered.{AreDeliveredInOrder}
use Rattle.dcsctp_delivery_directions.specs.epochs.Sending.{EpochBounds}
use Rattle.dcsctp_delivery_directions.specs.epochs.Directions.{asked_of}

-- with a reset that was performed, if it is known how many messages were queued when it was asked for
abbrev pub cut_added : ℕ → (ℕ → Bool) → Option ℕ → List Cut → List Cut
cut_added index wholes None cuts = cuts
cut_added index wholes (Some place) cuts = record { index = index; place = place; is_whole = wholes place } ∷ cuts

-- Did nothing of the stream wait when a reset was asked for at this place, so that the receiver has all before it? The sender began
-- with all that was queued, and the receive window is of 2^63 bytes or less.
abbrev pub is_cut_whole : Bool → Beginning → ℕ → ℕ → Bool
is_cut_whole sized beginning id place = beginning.has_all && (beginning.empties id place && sized)

-- once these streams were reset: a request names them by fields of 16 bits, and an empty list names all
abbrev pub cuts_with : List ℕ → ℕ → (ℕ → ℕ → Bool) → (ℕ → EpochBounds) → (ℕ → List Cut) → ℕ → List Cut
cuts_with streams index wholes asked cuts id = if names_stream streams id then cut_added index (wholes id) (asked id).newest (cuts id) else cuts id

-- once the resets of the streams that are handed out have ended
abbrev pub cuts_ended : List Stream → ℕ → (ℕ → ℕ → Bool) → (ℕ → EpochBounds) → (ℕ → List Cut) → ℕ → List Cut
cuts_ended streams index wholes asked cuts id = if is_handed_out (stream_named id streams).pause then cut_added index (wholes id) (asked id).newest (cuts id) else cuts id

-- the resets of each stream that were performed or have ended, newest first, once this step was done
abbrev pub cuts_after : Bool → (old direction : Direction) → DirectionStep old direction → (ℕ → EpochBounds) → (ℕ → List Cut) → ℕ → List Cut
cuts_after sized old _ (performs newest earlier new asks unknown reached own leaves) asked cuts = cuts_with newest.reset.streams (length old.read + length new.incoming.ready) (is_cut_whole sized old.beginning) asked cuts
cuts_after sized old _ (performs_earlier newest earlier new asks unknown reached own leaves) asked cuts = cuts_with newest.reset.streams (length old.read + length new.incoming.ready) (is_cut_whole sized old.beginning) asked cuts
cuts_after sized old _ (commits go_on) asked cuts = cuts_ended old.queues.queue.streams (length old.read + length old.reassembly.incoming.ready) (is_cut_whole sized old.beginning) asked cuts
cuts_after sized old _ step asked cuts = cuts

-- and in a run
abbrev pub cuts_of : (options : Options) (first size : ℕ) (direction : Direction) → DirectionRun options first size direction → ℕ → List Cut
cuts_of options first size _ (begins direction begun) = λ id. []
cuts_of options first size _ (goes_on old direction run step) = cuts_after (nat_le size (2 ^ 63)) old direction step (asked_of options first size old run) (cuts_of options first size old run)
cuts_of options first size _ (starts old queued sender_queues beginning run awaited fit waits none begun) = λ id. []

-- when its user asks for a reset of a stream; or a reset may be asked for at any time, if the sender began without some of what was
-- queued
abbrev pub known_asks : Beginning → ℕ → ℕ → Bool
known_asks beginning id count = if beginning.has_all then beginning.asks id count else true

-- What was read is in order, and each reset of a stream that was performed separates what was queued before it was asked for from
-- what was queued since. No message without limits is left out of an epoch before another. If nothing waited when it was asked for,
-- and all was read that could be then, none of its epoch is missing.
pub record AreDeliveredByEpoch (sized : Bool) (asks : ℕ → ℕ → Bool) (cuts : ℕ → List Cut) (queued : List Message) (read : List MessageContent) : Type 0 where
  pub ordered : AreDeliveredInOrder queued read
  pub epochs : (id : ℕ) (cut : Cut) → HasEntry cut (cuts id) → Separates queued id cut.index cut.place ordered.delivered.places
  pub no_gaps : (id : ℕ) (cut : Cut) → HasEntry cut (cuts id) → LeaveNoGapBefore sized (asks id) queued id cut.place ordered.delivered.places
  pub no_gap : (id : ℕ) → LeaveNoGapBefore sized (asks id) queued id (length queued) ordered.delivered.places
  pub before : (id : ℕ) (cut : Cut) → HasEntry cut (cuts id) → cut.place ≤ length queued
  pub complete : (id : ℕ) (cut : Cut) → HasEntry cut (cuts id) → cut.is_whole ≡ true → cut.index ≤ length ordered.delivered.places → HaveAllBefore (asks id) queued id cut ordered.delivered.places

-- With interleaving it is so where the sender began with number 0 on each stream, if fewer than 2^31 TSNs were assigned.
abbrev pub DirectionsDeliverByEpoch : Type 0
DirectionsDeliverByEpoch =
    (options : Options) (first size : ℕ) (direction : Direction) (run : DirectionRun options first size direction) → first < 2 ^ 32 → assigned_count direction < 2 ^ 31 → length direction.queued < 2 ^ 64
    → direction.queues.queue.is_interleaved ≡ true → direction.beginning.from_zero ≡ true → AreDeliveredByEpoch (nat_le size (2 ^ 63)) (known_asks direction.beginning) (cuts_of options first size direction run) direction.queued direction.read
