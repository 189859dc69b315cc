-- A fast retransmission (RFC 9260, section 7.2.4).
use Rattle.std.specs.Prelude.{◌≡◌, ◌⊎◌, ◌-◌, ℕ, Bool, true, false, None, List, [], ◌∷◌}
use Rattle.dcsctp_spec.specs.endpoint.Timers.{TimerModel}
use Rattle.dcsctp_spec.specs.queues.Filling.{Stage, SendsMarked, StageSteps}
use Rattle.dcsctp_spec.specs.queues.NextItem.{is_abandonment_due, IsNextMarked, WaitsForRoom}
use Rattle.dcsctp_spec.specs.queues.Items.{Item, marked_items}
use Rattle.dcsctp_types.specs.queues.Progress.{is_marked}
use Rattle.dcsctp_spec.specs.queues.Retransmission.{RetransmissionState, timer_with, counted_again}
use Rattle.dcsctp_spec.specs.queues.SendQueue.{SendQueueState}

-- The first item that waits to be sent again is due to be abandoned.
pub record IsFirstDue (now : ℕ) (queue : RetransmissionState) : Type 0 where
  pub place : ℕ
  pub next : IsNextMarked place queue.outstanding.items
  pub due : is_abandonment_due now queue.partial_reliability next.marked.item ≡ true

-- Why no more chunks are sent at once. None waits to be sent again, or the first that does is due to be abandoned or doesn't fit.
abbrev pub HaltsAtOnce : ℕ → ℕ → RetransmissionState → Type 0
HaltsAtOnce now room queue = (marked_items queue.outstanding.items ≡ 0) ⊎ (IsFirstDue now queue ⊎ WaitsForRoom room queue.outstanding)

-- does the first item wait to be sent again?
abbrev pub is_first_marked : List Item → Bool
is_first_marked [] = false
is_first_marked (item ∷ items) = is_marked item.progress.state

-- Is the first item among those that were sent again? Then it waited for that, and no longer does.
abbrev pub SendsFirst : List Item → List Item → Bool → Type 0
SendsFirst old new true = (is_first_marked old ≡ true) × (is_first_marked new ≡ false)
SendsFirst old new false = is_first_marked new ≡ is_first_marked old

-- the timer is stopped, so that it starts again, if the first item is sent again
abbrev pub timer_restarted : Bool → TimerModel → TimerModel
timer_restarted true timer = record timer { running = None }
timer_restarted false timer = timer

-- a packet of that many bytes, before anything is in it
abbrev pub empty_stage : RetransmissionState → SendQueueState → ℕ → Stage
empty_stage state waiting bytes = record { queue = state; waiting = waiting; told = []; tsns = []; room = bytes }

-- These TSNs are sent at once, as many as fit into that many bytes. What waits in the send queue stays.
pub record SendsAtOnce (now bytes : ℕ) (waiting : SendQueueState) (old new : RetransmissionState) (tsns : List ℕ) : Type 0 where
  pub resent : RetransmissionState
  pub room : ℕ
  pub steps : StageSteps (SendsMarked now) (empty_stage (record old { fast_retransmit_due = false }) waiting bytes) (record (empty_stage resent waiting room) { tsns = tsns })
  pub halts : HaltsAtOnce now room resent
  pub sends_first : Bool
  pub first : SendsFirst old.outstanding.items resent.outstanding.items sends_first
  pub is : let state = counted_again (bytes - room) resent in
      new ≡ record state { timer = timer_with now state.outstanding.items (timer_restarted sends_first state.timer) }
