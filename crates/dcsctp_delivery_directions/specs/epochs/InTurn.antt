-- Resets that a sender's user asks for, with interleaving or without (RFC 6525, sections 5.1.2 and 5.2.2): what is sent before
-- and since, by TSNs, and what a receiver reads before and since, where requests end in turn.
use Rattle.std.specs.Prelude.{◌≡◌, ◌<◌, ◌≤◌, ◌^◌, ℕ, Bool, true, false, Some, List, length, if◌then◌else◌}
use Rattle.dcsctp_spec.specs.types.declared.options.Options.{Options}
use Rattle.dcsctp_spec.specs.types.queues.Messages.{MessageContent}
use Rattle.dcsctp_spec.specs.types.queues.SendStreams.{Stream}
use Rattle.dcsctp_spec.specs.queues.Reassembly.{names_stream}
use Rattle.dcsctp_spec.specs.queues.SendQueue.{SendQueueState}
use Rattle.dcsctp_delivery_directions.specs.sending.Places.{HasEntry, at_place}
use Rattle.dcsctp_delivery_directions.specs.sending.Log.{Message, Piece, History}
use Rattle.dcsctp_delivery_directions.specs.sending.Numbers.{stream_named, is_handed_out}
use Rattle.dcsctp_delivery_directions.specs.sending.Flushes.{PacketsSay, QueuesFollowLog}
use Rattle.dcsctp_delivery_directions.specs.directions.Directions.{AreDelivered, PerformedReset, Direction, DirectionStep, commits, rolls_back, performs, performs_earlier, resets, DirectionRun, begins, goes_on, starts, assigned_count}
use Rattle.dcsctp_delivery_directions.specs.order.Queue.{Separates}
use Rattle.dcsctp_delivery_directions.specs.epochs.Sending.{AllFrom, EpochBounds, is_open, HaltsIfAsked, IsKnown}
use Rattle.dcsctp_delivery_directions.specs.epochs.Directions.{asked_of, opened_of}

-- ---- what is sent

-- how many TSNs were assigned when the last reset of each stream ended
abbrev pub starts_ended : List Stream → ℕ → (ℕ → ℕ) → ℕ → ℕ
starts_ended streams count before id = if is_handed_out (stream_named id streams).pause then count else before id

abbrev pub starts_after : (old direction : Direction) → DirectionStep old direction → (ℕ → ℕ) → ℕ → ℕ
starts_after old _ (commits go_on) before = starts_ended old.queues.queue.streams (assigned_count old) before
starts_after old _ step before = before

abbrev pub starts_of : (options : Options) (first size : ℕ) (direction : Direction) → DirectionRun options first size direction → ℕ → ℕ
starts_of options first size _ (begins direction begun) = λ id. 0
starts_of options first size _ (goes_on old direction run step) = starts_after old direction step (starts_of options first size old run)
starts_of options first size _ (starts old queued sender_queues beginning run awaited fit waits none begun) = λ id. 0

-- What was sent on the stream since its last reset ended, from this TSN on, and what waits on it, was queued since that was asked
-- for. While the stream is paused it stops before its newest request. So many messages were queued by now.
pub record SendsAsAsked (count : ℕ) (history : History) (queue : SendQueueState) (id start : ℕ) (asked : EpochBounds) : Type 0 where
  pub from : (n : ℕ) (f : Piece) → start ≤ n → at_place n history.log ≡ Some (Some f) → f.message.stream ≡ id → asked.ended ≤ f.place
  pub waits : AllFrom asked.ended (stream_named id queue.streams).messages
  pub stops : HaltsIfAsked asked.newest history queue id
  pub newest : (place : ℕ) → asked.newest ≡ Some place → (asked.ended ≤ place) × (place ≤ count)
  pub ended : asked.ended ≤ count

-- The sender has sent what the history says, on each stream as it was asked for.
pub record SendsAllAsAsked (first : ℕ) (direction : Direction) (opened : ℕ → Bool) (begun : ℕ → ℕ) (asked : ℕ → EpochBounds) : Type 0 where
  pub history : History
  pub queues : QueuesFollowLog direction.queued history first direction.acknowledged direction.queues
  pub packets : PacketsSay history first direction.acknowledged direction.sent
  pub each : (id : ℕ) → SendsAsAsked (length direction.queued) history direction.queues.queue id (begun id) (asked id)
  pub known : (id : ℕ) → opened id ≡ true → is_open id direction.queues.queue.streams ≡ false → IsKnown (asked id)

-- It is so with interleaving and without, also where a request fails.
abbrev pub DirectionsSendAsAsked : Type 0
DirectionsSendAsAsked =
    (options : Options) (first size : ℕ) (direction : Direction) (run : DirectionRun options first size direction) → first < 2 ^ 32 → length direction.queued < 2 ^ 64
    → SendsAllAsAsked first direction (opened_of options first size direction run) (starts_of options first size direction run) (asked_of options first size direction run)

-- ---- what is read

-- A request ends only if its reset was performed, and no other has no end. None fails. And only the newest is performed, if it
-- wasn't before.
abbrev pub EndsInTurn : (old direction : Direction) → DirectionStep old direction → Type 0
EndsInTurn old _ (commits go_on) = (old.asking.out ≤ 1) × (old.asking.is_performed ≡ true)
EndsInTurn old _ (rolls_back unmixed) = ⊥
EndsInTurn old _ (performs newest earlier new asks unknown reached own leaves) = old.asking.is_performed ≡ false
EndsInTurn old _ (performs_earlier newest earlier new asks unknown reached own leaves) = old.asking.is_performed ≡ false
EndsInTurn old _ (resets streams new unmixed some leaves) = ⊥
EndsInTurn old _ step = Unit {0}

-- So it is throughout the run, since the sender began.
abbrev pub RunsInTurn : (options : Options) (first size : ℕ) (direction : Direction) → DirectionRun options first size direction → Type 0
RunsInTurn options first size _ (begins direction begun) = Unit {0}
RunsInTurn options first size _ (goes_on old direction run step) = RunsInTurn options first size old run × EndsInTurn old direction step
RunsInTurn options first size _ (starts old queued sender_queues beginning run awaited fit waits none begun) = Unit {0}

-- The reset was asked for when so many messages were queued. Of the messages of the stream the first ones, up to this index, were
-- queued before, and none of the others.
pub record IsSplitAsAsked (asks : ℕ → ℕ → Bool) (queued : List Message) (id index : ℕ) (places : List ℕ) : Type 0 where
  pub place : ℕ
  pub asked : asks id place ≡ true
  pub before : place ≤ length queued
  pub separates : Separates queued id index place places

-- Each message that was read was queued, none twice; and each reset that was performed separates them so on each stream that it
-- names.
pub record AreSplitInTurn (asks : ℕ → ℕ → Bool) (performed : List PerformedReset) (queued : List Message) (read : List MessageContent) : Type 0 where
  pub delivered : AreDelivered queued read
  pub split : (id : ℕ) (reset : PerformedReset) → HasEntry reset performed → names_stream reset.streams id ≡ true → IsSplitAsAsked asks queued id reset.index delivered.places

-- Without interleaving it is so where requests end in turn, and the sender began with number 0 on each stream, if fewer than 2^31
-- TSNs were assigned. Messages may have limits, and any number may be outstanding.
abbrev pub DirectionsSplitAsAsked : Type 0
DirectionsSplitAsAsked =
    (options : Options) (first size : ℕ) (direction : Direction) (run : DirectionRun options first size direction) → RunsInTurn options first size direction run → first < 2 ^ 32 → assigned_count direction < 2 ^ 31 → length direction.queued < 2 ^ 64
    → direction.queues.queue.is_interleaved ≡ false → direction.beginning.from_zero ≡ true → AreSplitInTurn direction.beginning.asks direction.performed direction.queued direction.read

-- So it is where requests end in turn, as the sender began.
abbrev pub DirectionsSplitInTurn : Type 0
DirectionsSplitInTurn =
    (options : Options) (first size : ℕ) (direction : Direction) → DirectionRun options first size direction → first < 2 ^ 32 → assigned_count direction < 2 ^ 31 → length direction.queued < 2 ^ 64
    → direction.queues.queue.is_interleaved ≡ false → direction.beginning.from_zero ≡ true → direction.beginning.in_turn ≡ true → AreSplitInTurn direction.beginning.asks direction.performed direction.queued direction.read
