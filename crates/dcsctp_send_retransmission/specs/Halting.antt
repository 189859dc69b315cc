-- Why no more chunks go into a packet (RFC 9260, section 6.1).
use Rattle.std.specs.Prelude.{◌≡◌, ℕ, ◌+◌, ◌<◌, ◌≤◌, Bool, true, false, Some, List, slice_get}
use Rattle.dcsctp_api.specs.spec.queues.SendQueue.{SendQueueState}
use Rattle.dcsctp_api.specs.spec.queues.Items.{Item, item_size, marked_items, changed_between}
use Rattle.dcsctp_api.specs.types.declared.progress.Change.TheVariants.{SendAgain}
use Rattle.dcsctp_api.specs.spec.queues.Outstanding.{OutstandingState, header, next_tsn}
use Rattle.dcsctp_api.specs.spec.queues.NextItem.{HaltsAgain, Halts}
use Rattle.dcsctp_api.specs.spec.queues.Retransmission.{RetransmissionState}
use Rattle.dcsctp_send_retransmission.specs.Sending.{PacksOutstanding}

-- what a try to send the item at the place again does, by whether it fits
abbrev pub SendsAgain : ℕ → OutstandingState → ℕ → OutstandingState → ℕ → Bool → Type 0
SendsAgain place old room new left true = new ≡ record old { items = changed_between (SendAgain (next_tsn old)) place (place + 1) old.items }
SendsAgain place old room new left false = (new ≡ old) × (left ≡ room) × IsLonger room place old
  where
    IsLonger : ℕ → ℕ → OutstandingState → Type 0
    IsLonger room place outstanding = (item : Item) → slice_get outstanding.items place ≡ Some item → room < item_size (header outstanding) item

-- what a try to send the first marked item again leaves: fewer that wait, or a reason and no more of them
abbrev pub GoesAgain : ℕ → RetransmissionState → RetransmissionState → ℕ → Bool → Type 0
GoesAgain now old new room true = marked_items new.outstanding.items < marked_items old.outstanding.items
GoesAgain now old new room false = (marked_items new.outstanding.items ≤ marked_items old.outstanding.items) × HaltsAgain now room new

-- TSNs of outstanding items fill a packet of that many bytes as far as possible.
pub record FillsUp (now bytes : ℕ) (queue : RetransmissionState) (waiting : SendQueueState) (tsns : List ℕ) : Type 0 where
  pub used : ℕ
  pub packed : PacksOutstanding queue.outstanding tsns used
  pub room : ℕ
  pub sum : used + room ≡ bytes
  pub halts : Halts now room queue waiting
