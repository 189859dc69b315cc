-- Where no message may expire, none that was queued is left out as messages are sent (RFC 9260,
-- section 6.9).
use Rattle.std.specs.Prelude.{ℕ, Some, List, ◌∷◌}
use Rattle.dcsctp_spec_lemmas.specs.spec.endpoint.Event.{Event}
use Rattle.dcsctp_spec_lemmas.specs.spec.queues.SendQueue.{SendQueueState}
use Rattle.dcsctp_spec_lemmas.specs.spec.queues.Sending.{Fragment, TakesFragment}
use Rattle.dcsctp_delivery_directions.specs.sending.Log.{Message, History, IsLogOfPieces}
pub use Rattle.dcsctp_delivery_directions.specs.sending.Losing.{WasSentOf, StillWaits, NoneLost, NoneExpires}
use Rattle.dcsctp_delivery_directions.specs.sending.Numbers.{AreCurrent}
use Rattle.dcsctp_delivery_directions.specs.sending.Pieces.{HoldsQueued, HandsOutPiece}
use Rattle.dcsctp_delivery_directions.specs.order.Reading.{CountsFromZero}
use Rattle.dcsctp_delivery_directions.specs.order.Gaps.{SendsInTurn}

-- Where none that waits may expire, none is lost as a fragment is handed out.
abbrev pub HandingLosesNone : Type 0
HandingLosesNone =
    (queued : List Message) (history : History) (now max : ℕ) (old new : SendQueueState) (told_before told_after : List (Event (List ℕ))) (part : Fragment)
    → NoneExpires old.streams → TakesFragment now max old told_before part new told_after → (hands : HandsOutPiece queued history part new)
    → NoneLost queued history.log old.streams → NoneLost queued (Some hands.piece ∷ history.log) new.streams

-- Then messages of a stream are sent in turn, where it wasn't reset.
abbrev pub LosingNoneSendsInTurn : Type 0
LosingNoneSendsInTurn =
    (queued : List Message) (history : History) (id : ℕ) (queue : SendQueueState) → CountsFromZero history id → AreCurrent history history.log → IsLogOfPieces queued history.log
    → HoldsQueued queued history.log queue.streams → NoneLost queued history.log queue.streams → SendsInTurn queued history id
