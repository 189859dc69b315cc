-- Which messages are abandoned before a FORWARD-TSN (RFC 3758, sections 3.5 and 4.1).
use Rattle.std.specs.Prelude.{◌≡◌, ◌<◌, ℕ, true, false, Some, List, slice_get}
use Rattle.dcsctp_spec.specs.queues.Filling.{Stage, GivesUpItem, StageSteps}
use Rattle.dcsctp_spec.specs.queues.NextItem.{is_abandonment_due}
use Rattle.dcsctp_spec.specs.queues.Items.{Item}
use Rattle.dcsctp_types.specs.queues.Progress.{is_unacknowledged}
use Rattle.dcsctp_spec.specs.queues.Retransmission.{RetransmissionState}

-- Each item before this place was acknowledged or abandoned.
abbrev pub NoneAwaitedBefore : ℕ → List Item → Type 0
NoneAwaitedBefore place items = (k : ℕ) (item : Item) → k < place → slice_get items k ≡ Some item → is_unacknowledged item.progress.state ≡ false

-- The item at this place is due to be abandoned, and none before it is awaited.
pub record IsDueForAbandoning (now place : ℕ) (queue : RetransmissionState) : Type 0 where
  pub none_awaited : NoneAwaitedBefore place queue.outstanding.items
  pub item : Item
  pub at : slice_get queue.outstanding.items place ≡ Some item
  pub due : is_abandonment_due now queue.partial_reliability item ≡ true

-- No such item is left.
abbrev pub NoneDue : ℕ → RetransmissionState → Type 0
NoneDue now queue = (place : ℕ) → IsDueForAbandoning now place queue → ⊥

-- The message of such an item is abandoned.
pub record GivesUpFirst (now : ℕ) (old new : Stage) : Type 0 where
  pub place : ℕ
  pub is_due : IsDueForAbandoning now place old.queue
  pub gives_up : GivesUpItem now place old new

-- Messages are abandoned one after the other, until none is due.
pub record GivesUpAll (now : ℕ) (old new : Stage) : Type 0 where
  pub steps : StageSteps (GivesUpFirst now) old new
  pub none_left : NoneDue now new.queue
