-- Where nothing is skipped, what becomes ready of a stream's ordered messages has no gap (RFC 9260,
-- section 6.6).
use Rattle.std.specs.Prelude.{◌<◌, ◌≤◌, ℕ, false, List, [], ◌++◌}
use Rattle.dcsctp_spec_lemmas.specs.spec.queues.Runs.{WholeModel}
use Rattle.dcsctp_spec_lemmas.specs.spec.queues.IncomingStreams.{StreamModel, new_stream}
use Rattle.dcsctp_delivery_directions.specs.sending.Log.{Message, History}
use Rattle.dcsctp_delivery_directions.specs.order.Queue.{IsOrderedOn, LeaveNoGap}
use Rattle.dcsctp_delivery_directions.specs.order.Rising.{FillRow}
use Rattle.dcsctp_delivery_directions.specs.order.Order.{IsSentAs, AreReadAs, StreamInOrder, AreFilled}
use Rattle.dcsctp_delivery_directions.specs.order.Reading.{CountsFromZero}

-- All numbers before the next one are among those that were read or are ready at first,
abbrev pub NewStreamsAreFilled : Type 0
NewStreamsAreFilled = (history : History) (id : ℕ) → AreFilled history id [] (new_stream id).next

-- and once a row became ready.
abbrev pub RowsFill : Type 0
RowsFill =
    (history : History) (id next end : ℕ) (all more : List ℕ) (delivered : List WholeModel) → AreReadAs history id more delivered → FillRow next end delivered → AreFilled history id all next
    → AreFilled history id (all ++ more) end

-- A message that was queued before one that was sent was sent as well, since the numbers of the stream began at 0.
abbrev pub SendsInTurn : List Message → History → ℕ → Type 0
SendsInTurn queued history id =
    (earlier later mid : ℕ) → IsOrderedOn queued id earlier → IsSentAs history id later mid → earlier < later → (m : ℕ) × IsSentAs history id earlier m × (history.floors id false ≤ m)

-- Then there is no gap.
abbrev pub FilledLeavesNoGap : Type 0
FilledLeavesNoGap =
    (queued : List Message) (history : History) (id : ℕ) (all waits : List ℕ) (stream : StreamModel) → CountsFromZero history id → SendsInTurn queued history id
    → StreamInOrder queued history id all waits stream → AreFilled history id all stream.next → LeaveNoGap queued id all
