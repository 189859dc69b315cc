-- A stream that is to be reset, if an allocation fails.
use Rattle.std.specs.Prelude.{◌≡◌, ◌⊎◌, ℕ}
use Rattle.dcsctp_api.specs.spec.queues.SendQueue.{SendQueueState}
use Rattle.dcsctp_api.specs.spec.queues.OwnResets.{with_used}

-- Nothing has changed, except that the stream may count as used.
abbrev pub IsUsedAtMost : ℕ → SendQueueState → SendQueueState → Type 0
IsUsedAtMost id old new = (new ≡ old) ⊎ (new ≡ with_used id old)
