-- What the user of a direction asked for: the resets of its streams (RFC 6525, section 5.1.2). What was
-- queued before a request is sent before the reset, or never, and what was queued since after it.
use Rattle.std.specs.Prelude.{◌≡◌, ◌<◌, ◌^◌, ℕ, Bool, true, false, length}
use Rattle.dcsctp_spec.specs.types.declared.options.Options.{Options}
use Rattle.dcsctp_delivery_directions.specs.sending.Log.{History}
use Rattle.dcsctp_delivery_directions.specs.sending.Flushes.{PacketsSay, QueuesFollowLog}
use Rattle.dcsctp_delivery_directions.specs.directions.Directions.{Direction, DirectionStep, prepares, commits, DirectionRun, begins, goes_on, starts}
use Rattle.dcsctp_delivery_directions.specs.epochs.Sending.{EpochBounds, never_asked, asked_with, asked_ended, is_open, SendsByEpoch, IsKnown}

-- what was asked for on each stream, once this step was done
abbrev pub asked_after : (old direction : Direction) → DirectionStep old direction → (ℕ → EpochBounds) → ℕ → EpochBounds
asked_after old _ (prepares ids fit dropped) asked = asked_with ids old.queues.queue.streams (length old.queued) asked
asked_after old _ (commits go_on) asked = asked_ended old.queues.queue.streams asked
asked_after old _ step asked = asked

-- and in a run: nothing is known of what was asked for before the association
abbrev pub asked_of : (options : Options) (first size : ℕ) (direction : Direction) → DirectionRun options first size direction → ℕ → EpochBounds
asked_of options first size _ (begins direction begun) = λ id. never_asked
asked_of options first size _ (goes_on old direction run step) = asked_after old direction step (asked_of options first size old run)
asked_of options first size _ (starts old queued sender_queues beginning run awaited fit waits none begun) = λ id. never_asked

-- which streams were open where the association began
abbrev pub opened_of : (options : Options) (first size : ℕ) (direction : Direction) → DirectionRun options first size direction → ℕ → Bool
opened_of options first size _ (begins direction begun) = λ id. is_open id direction.queues.queue.streams
opened_of options first size _ (goes_on old direction run step) = opened_of options first size old run
opened_of options first size _ (starts old queued sender_queues beginning run awaited fit waits none begun) = λ id. is_open id sender_queues.queue.streams

-- The sender has sent what the history says, each stream by epochs. Of streams that were open first, it is known when a reset was
-- asked for that hasn't ended.
pub record SendsAllByEpoch (first : ℕ) (direction : Direction) (opened : ℕ → Bool) (asked : ℕ → EpochBounds) : Type 0 where
  pub history : History
  pub queues : QueuesFollowLog direction.queued history first direction.acknowledged direction.queues
  pub packets : PacketsSay history first direction.acknowledged direction.sent
  pub by_epoch : (id : ℕ) → SendsByEpoch (length direction.queued) history direction.queues.queue id (asked id)
  pub known : (id : ℕ) → opened id ≡ true → is_open id direction.queues.queue.streams ≡ false → IsKnown (asked id)

-- It is so where messages interleave.
abbrev pub DirectionsSendByEpoch : Type 0
DirectionsSendByEpoch =
    (options : Options) (first size : ℕ) (direction : Direction) (run : DirectionRun options first size direction) → first < 2 ^ 32 → length direction.queued < 2 ^ 64 → direction.queues.queue.is_interleaved ≡ true
    → SendsAllByEpoch first direction (opened_of options first size direction run) (asked_of options first size direction run)
