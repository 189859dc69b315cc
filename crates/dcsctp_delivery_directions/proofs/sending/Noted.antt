-- A history stays true once a reset of our streams is recorded in it.
use Rattle.std.proofs.Common.{◌≡◌, ℕ, Bool, true, false, List, ◌++◌, ap, inr}
use Rattle.std.specs.Prelude.{Option, None, Some}
use Rattle.dcsctp_spec.specs.types.declared.ids.StreamId.{StreamId}
use Rattle.dcsctp_spec.specs.types.declared.sending.UnderWay.{UnderWay}
use Rattle.dcsctp_spec.specs.queues.Filling.{Stage}
use Rattle.dcsctp_spec.specs.types.queues.SendStreams.{Stream}
use Rattle.dcsctp_spec.specs.endpoint.BegunResets.{BegunReset}
use Rattle.dcsctp_delivery_directions.specs.sending.Log.{Message, Slot, IsLogOfPieces, History, log_extended, with_mark}
use Rattle.dcsctp_delivery_directions.specs.sending.Numbers.{stream_named, AreCurrent, LastIs, CountsByKind, NumbersMessages}
use Rattle.dcsctp_delivery_directions.specs.sending.Stages.{Bears, Pends, AreMarks, Stands}
use Rattle.dcsctp_delivery_directions.specs.sending.Pieces.{HoldsQueued}
use Rattle.dcsctp_spec.specs.queues.SendQueue.{SendQueueState}
use Rattle.dcsctp_delivery_directions.proofs.sending.GivingUp.{append_twice, grown_twice}

-- a reset that is recorded between two parts of the log may be recorded after both
pub marked_twice : (begun : Option BegunReset) (ids : List ℕ) (bound : ℕ) (newer older : List Slot) (history : History) → with_mark begun ids bound (log_extended (newer ++ older) history) ≡ log_extended newer (with_mark begun ids bound (log_extended older history))
marked_twice None ids bound newer older history = grown_twice newer older history
marked_twice (Some begun) ids bound newer older history = ap (λ (l : List Slot). with_mark (Some begun) ids bound (record history { log = l })) (append_twice newer older history.log)

counts_marked : (begun : BegunReset) (ids : List ℕ) (bound : ℕ) (history : History) (b : Bool) (streams : List Stream) (held : Option StreamId) → CountsByKind b history streams held → CountsByKind b (with_mark (Some begun) ids bound history) streams held
counts_marked begun ids bound history false streams held c = record { turns = λ id start. c.turns id (record { floor = start.floor; none = λ mark has names. start.none mark (inr has) names }); closes = c.closes; rests = c.rests }
counts_marked begun ids bound history true streams held c =
    record { counts = c.counts; few = c.few; next = c.next; below = c.below; apart = c.apart; going = λ id. going id (stream_named id streams).under_way (c.going id); dense = c.dense }
  where
    going : (id : ℕ) (v : Option UnderWay) → LastIs history streams c.counts id v → LastIs (with_mark (Some begun) ids bound history) streams c.counts id v
    going id None last = tt
    going id (Some v) last = record { waiting = last.waiting; front = last.front; mid = last.mid; is = last.is; from = last.from; last = last.last; came = last.came }

numbers_marked : (begun : BegunReset) (ids : List ℕ) (bound : ℕ) (history : History) (queue : SendQueueState) → NumbersMessages history queue → NumbersMessages (with_mark (Some begun) ids bound history) queue
numbers_marked begun ids bound history queue numbers =
    record { kinds = numbers.kinds; counts = counts_marked begun ids bound history queue.is_interleaved queue.streams queue.held numbers.counts; kept = numbers.kept; whole = numbers.whole; rests = numbers.rests }

-- what holds of the stage before the reset is recorded, and what holds once it is
pub stands_marked : (begun : Option BegunReset) (ids : List ℕ) (bound : ℕ) (queued : List Message) (history : History) (first acknowledged : ℕ) (stage : Stage) → HoldsQueued queued history.log stage.waiting.streams → IsLogOfPieces queued history.log
    → Bears (with_mark begun ids bound history) first acknowledged stage.queue.outstanding → Pends (with_mark begun ids bound history) stage.queue.reset_begun → AreMarks (with_mark begun ids bound history) first stage.waiting.streams
    → NumbersMessages history stage.waiting → stage.queue.outstanding.is_interleaved ≡ stage.waiting.is_interleaved → Stands queued (with_mark begun ids bound history) first acknowledged stage
stands_marked None ids bound queued history first acknowledged stage queue_holds cut bears pends marks numbers kind =
    record { queue_holds = queue_holds; cut = cut; bears = bears; pends = pends; marks = marks; numbers = numbers; kind = kind }
stands_marked (Some begun) ids bound queued history first acknowledged stage queue_holds cut bears pends marks numbers kind =
    record { queue_holds = queue_holds; cut = cut; bears = bears; pends = pends; marks = marks; numbers = numbers_marked begun ids bound history stage.waiting numbers; kind = kind }

-- the floors are the same
pub current_before : (begun : Option BegunReset) (ids : List ℕ) (bound : ℕ) (older : List Slot) (history : History) (slots : List Slot) → AreCurrent (with_mark begun ids bound (log_extended older history)) slots → AreCurrent history slots
current_before None ids bound older history slots current = current
current_before (Some begun) ids bound older history slots current = current
