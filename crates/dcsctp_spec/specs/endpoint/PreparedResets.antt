-- Its own streams that the user resets: what a socket refuses, what leaves the send queue, and what is sent (RFC 6525, section
-- 5.1.2).
use Rattle.std.specs.Prelude.{◌≡◌, ℕ, Option, None, Some, List, [], if◌then◌else◌}
use Rattle.dcsctp_types.specs.declared.association.Held.{Held}
use Rattle.dcsctp_spec.specs.queues.OwnResets.{prepared_all, prepare_all_events}
use Rattle.dcsctp_spec.specs.queues.SendQueue.{SendQueueState}
use Rattle.dcsctp_spec.specs.endpoint.Endpoint.{Endpoint, held_by_core}
use Rattle.dcsctp_spec.specs.endpoint.Outcome.{Outcome, still, behind}
use Rattle.dcsctp_spec.specs.endpoint.DataOutcomes.{FlushTurn}

-- ---- what is refused

pub data ResetRefusal : Type 0 where
  -- The peer isn't known.
  not_connected : ResetRefusal
  -- Resets of streams weren't negotiated.
  not_supported : ResetRefusal

abbrev pub refusal_of_peer : Option Held → Option ResetRefusal
refusal_of_peer None = Some not_connected
refusal_of_peer (Some held) = if held.capabilities.reconfig then None else Some not_supported

-- why no stream can be reset
abbrev pub reset_refusal : Endpoint → Option ResetRefusal
reset_refusal e = refusal_of_peer (held_by_core e.core)

-- ---- the turn

-- with this queue below
abbrev pub endpoint_with_queue : Endpoint → SendQueueState → Endpoint
endpoint_with_queue e queue = record e { queues = record e.queues { queue = queue } }

-- The streams are prepared, and then what waits is sent.
pub record PreparesResets (e : Endpoint) (ids : List ℕ) (o : Outcome) : Type 0 where
  pub flushed : Outcome
  pub flushes : FlushTurn (endpoint_with_queue e (prepared_all ids e.queues.queue)) flushed
  pub is : o ≡ behind [] (prepare_all_events ids e.queues.queue) flushed

-- If it is refused, nothing happens.
abbrev pub PreparesUnlessRefused : Option ResetRefusal → Endpoint → List ℕ → Outcome → Type 0
PreparesUnlessRefused (Some refusal) e ids o = o ≡ still e
PreparesUnlessRefused None e ids o = PreparesResets e ids o

-- The user resets the streams of these numbers.
abbrev pub OwnResetsTurn : Endpoint → List ℕ → Outcome → Type 0
OwnResetsTurn e ids o = PreparesUnlessRefused (reset_refusal e) e ids o
