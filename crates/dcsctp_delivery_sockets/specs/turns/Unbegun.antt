-- A socket that has had no association has begun no message, so its queue is at number 0 when the
-- first one begins, with `follow_rfc` or without (RFC 9260, section 6.5).
use Rattle.std.specs.Prelude.{◌≡◌, ◌<◌, ◌^◌, ℕ, true, false, None, Some, List, length}
use Rattle.std.specs.List.{AllByRecursion}
use Rattle.dcsctp_spec_lemmas.specs.types.declared.options.Options.{Options}
use Rattle.dcsctp_spec_lemmas.specs.types.queues.SendStreams.{Stream, next_numbers}
use Rattle.dcsctp_spec_lemmas.specs.spec.association.Effect.{identity_of, identity_of_core}
use Rattle.dcsctp_spec_lemmas.specs.spec.endpoint.Endpoint.{Endpoint}
use Rattle.dcsctp_spec_lemmas.specs.spec.endpoint.Outcome.{Outcome}
use Rattle.dcsctp_spec_lemmas.specs.spec.endpoint.Turn.{Input, Turn}
use Rattle.dcsctp_spec_lemmas.specs.spec.queues.OwnResets.{is_open_pause}
use Rattle.dcsctp_spec_lemmas.specs.spec.queues.SendQueue.{SendQueueState, empty_queue}
use Rattle.dcsctp_delivery_directions.specs.sending.Numbers.{stream_named}
use Rattle.dcsctp_delivery_directions.specs.sending.Log.{Message}
use Rattle.dcsctp_delivery_directions.specs.sending.Losing.{AllWaitOn}
use Rattle.dcsctp_delivery_directions.specs.sending.Queueing.{QueueWaits}
use Rattle.dcsctp_delivery_directions.specs.directions.Directions.{BeginsAtZero}
use Rattle.dcsctp_delivery_sockets.specs.turns.Actions.{content_of_input, queued_after, BeginsAssociation, IsOpening, IsCall}

-- No message is under way, the next one of each stream, ordered or not, has SSN 0 and MID 0, and none is to be reset.
pub record IsAtZero (queue : SendQueueState) : Type 0 where
  pub idle : AllByRecursion (λ (stream : Stream). stream.under_way ≡ None) queue.streams
  pub ordered : (id : ℕ) → next_numbers false (stream_named id queue.streams) ≡ (0, 0)
  pub unordered : (id : ℕ) → next_numbers true (stream_named id queue.streams) ≡ (0, 0)
  pub unpaused : (id : ℕ) → is_open_pause (stream_named id queue.streams).pause ≡ true

-- All that was queued on a stream waits after the turn, and the stream isn't to be reset, if it was so before: without an association
-- a call that resets streams is refused.
abbrev pub StaysWaiting : Endpoint → Input → Outcome → Type 0
StaysWaiting e input o =
    (id : ℕ) (queued : List Message) → QueueWaits queued e.queues.queue → length (queued_after e input queued) < 2 ^ 64
    → AllWaitOn id queued e.queues.queue.streams → AllWaitOn id (queued_after e input queued) o.after.queues.queue.streams

-- There is still no association, and the queue is still at 0; or an association begins in this turn.
pub data UnbegunTurns (e : Endpoint) (input : Input) (o : Outcome) : Type 0 where
  stays_unbegun : identity_of_core o.after.core ≡ None → o.after.queues.transfer ≡ None → IsAtZero o.after.queues.queue → StaysWaiting e input o → UnbegunTurns e input o
  begins_first : (begun : BeginsAssociation e o) → IsOpening (content_of_input input) → identity_of_core o.after.core ≡ Some (identity_of begun.my begun.held) → UnbegunTurns e input o

-- This holds for each turn of a socket without an association.
abbrev pub StaysAtZero : Type 0
StaysAtZero =
    (e : Endpoint) (input : Input) (o : Outcome) → identity_of_core e.core ≡ None → e.queues.transfer ≡ None → IsAtZero e.queues.queue → IsCall input → Turn e input o → UnbegunTurns e input o

-- An association that begins with such a queue begins with number 0 on each stream, and with SSN 0.
abbrev pub UnbegunBeginsAtZero : Type 0
UnbegunBeginsAtZero =
    (e : Endpoint) (o : Outcome) (begun : BeginsAssociation e o) → IsAtZero e.queues.queue → BeginsAtZero begun.queue

-- And all that waits on a stream that isn't to be reset is kept.
abbrev pub UnbegunBeginsWaiting : Type 0
UnbegunBeginsWaiting =
    (e : Endpoint) (o : Outcome) (begun : BeginsAssociation e o) (id : ℕ) (queued : List Message) → IsAtZero e.queues.queue
    → AllWaitOn id queued e.queues.queue.streams → AllWaitOn id queued begun.queue.streams

-- A socket that was just made has such a queue.
abbrev pub FreshIsAtZero : Type 0
FreshIsAtZero = (options : Options) → IsAtZero (empty_queue options)
