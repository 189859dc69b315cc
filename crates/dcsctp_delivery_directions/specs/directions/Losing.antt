-- Where no message has limits, none is left out as messages are sent, in a direction whose sender
-- keeps all that was queued. It resets no stream.
use Rattle.std.specs.Prelude.{◌≡◌, ◌<◌, ◌^◌, ℕ, [], length}
use Rattle.dcsctp_spec.specs.types.declared.options.Options.{Options}
use Rattle.dcsctp_delivery_directions.specs.sending.Log.{History}
use Rattle.dcsctp_delivery_directions.specs.sending.Flushes.{PacketsSay, QueuesFollowLog}
use Rattle.dcsctp_delivery_directions.specs.sending.Losing.{AreUnlimited, NoneLost}
use Rattle.dcsctp_delivery_directions.specs.directions.Directions.{Direction, KeepsAll, DirectionRun}

-- The sender has sent what the history says, and has left out no message.
pub record LeavesOutNone (first : ℕ) (direction : Direction) : Type 0 where
  pub history : History
  pub queues : QueuesFollowLog direction.queued history first direction.acknowledged direction.queues
  pub packets : PacketsSay history first direction.acknowledged direction.sent
  pub none : NoneLost direction.queued history.log direction.queues.queue.streams

-- A sender that keeps all that was queued has begun no reset of its streams (RFC 6525, section 5.1.2).
abbrev pub KeptAskNothing : Type 0
KeptAskNothing =
    (options : Options) (first size : ℕ) (direction : Direction) → DirectionRun options first size direction → KeepsAll direction.beginning → direction.asking.requests ≡ []

-- This holds where no message has limits, and the sender keeps all that was queued.
abbrev pub UnlimitedLeaveOutNone : Type 0
UnlimitedLeaveOutNone =
    (options : Options) (first size : ℕ) (direction : Direction) → DirectionRun options first size direction → first < 2 ^ 32 → length direction.queued < 2 ^ 64 → AreUnlimited direction.queued
    → KeepsAll direction.beginning → LeavesOutNone first direction
