-- What is in flight, call by call (RFC 9260, sections 6 and 7).
use Rattle.std.specs.Prelude.{◌≡◌, ℕ, Result, Ok, Err, ◌<◌, ◌≤◌, List, ◌++◌, length, if◌then◌else◌}
use Rattle.std.specs.Option.{option_map}
use Rattle.std.specs.Duration.{as_nanos}
use Rattle.std.specs.declared.alloc.AllocError.{AllocError}
use Rattle.dcsctp_api.specs.wire.declared.chunk.sack.GapAckBlock.{GapAckBlock}
use Rattle.dcsctp_api.specs.types.declared.progress.Change.TheVariants.{Abandon}
use Rattle.dcsctp_api.specs.spec.endpoint.Event.{Event}
use Rattle.dcsctp_api.specs.spec.endpoint.Timers.{is_expired_timer}
use Rattle.dcsctp_api.specs.spec.queues.Acknowledging.{AcknowledgesItems, has_acknowledged, delivered_up_to}
use Rattle.dcsctp_api.specs.spec.queues.Items.{changed_between}
use Rattle.dcsctp_api.specs.spec.queues.Outstanding.{acknowledged_count}
use Rattle.dcsctp_api.specs.spec.queues.Retransmission.{RetransmissionState, after_expiry, with_items}
use Rattle.dcsctp_api.specs.spec.queues.RoundTrip.{MeasuresRoundTrip}
use Rattle.dcsctp_send_queue.specs.Telling.{AddsFront}
use Rattle.dcsctp_send_retransmission.specs.Outstanding.{MayAddEnd}
use Rattle.dcsctp_send_retransmission.specs.declared.handle_sack_result.HandleSackResult.{HandleSackResult}
use Rattle.dcsctp_send_retransmission.specs.declared.handle_sack_result.HandleSackResult.TheVariants.{Invalid, Valid}
use Rattle.dcsctp_send_retransmission.specs.Answers.{SaysAnswer}

-- What is left once this moment has come: if the timer expires, all that was in flight is lost.
abbrev pub queue_come_to : ℕ → RetransmissionState → RetransmissionState
queue_come_to now queue = if is_expired_timer now queue.timer.running then after_expiry now queue else queue

-- ---- a SACK

-- what is in flight, and the events so far
pub record QueueAndEvents : Type 0 where
  pub queue : RetransmissionState
  pub events : List (Event (List ℕ))

abbrev pub queue_and_events : RetransmissionState → List (Event (List ℕ)) → QueueAndEvents
queue_and_events queue events = record { queue = queue; events = events }

-- What a SACK does to the queue and the events, by its result.
abbrev pub HandlesSackInQueue : ℕ → ℕ → ℕ → List GapAckBlock → QueueAndEvents → QueueAndEvents → Result HandleSackResult AllocError → Type 0
HandlesSackInQueue now cumulative window blocks old new (Ok Invalid) =
    (length old.queue.outstanding.items < acknowledged_count old.queue.outstanding cumulative)
    × (new.queue ≡ old.queue) × (new.events ≡ old.events)
HandlesSackInQueue now cumulative window blocks old new (Ok (Valid rtt reset_error_counter)) =
    (acknowledged_count old.queue.outstanding cumulative ≤ length old.queue.outstanding.items)
    × AcknowledgesItems now cumulative window blocks old.queue new.queue
    × (new.events ≡ old.events ++ delivered_up_to cumulative old.queue)
    × MeasuresRoundTrip now (acknowledged_count old.queue.outstanding cumulative) blocks old.queue.outstanding.items (option_map as_nanos rtt)
    × (reset_error_counter ≡ has_acknowledged old.queue new.queue)
    × SaysAnswer reset_error_counter (acknowledged_count old.queue.outstanding cumulative) blocks old.queue.outstanding.items
HandlesSackInQueue now cumulative window blocks old new (Err error) =
    (acknowledged_count old.queue.outstanding cumulative ≤ length old.queue.outstanding.items)
    × (new.queue ≡ old.queue) × AddsFront old.events (delivered_up_to cumulative old.queue) new.events

-- ---- what is abandoned

-- An abandoned item may be added as the end of a message; nothing else changes.
pub record MayGrow (old new : RetransmissionState) : Type 0 where
  pub ends : MayAddEnd old.outstanding new.outstanding
  pub rest : new ≡ record old { outstanding = new.outstanding }

-- A row of items round this place is abandoned, which are the message's, with the end that was added.
pub record AbandonsItems (place : ℕ) (old new : RetransmissionState) : Type 0 where
  pub grown : RetransmissionState
  pub grows : MayGrow old grown
  pub start : ℕ
  pub end : ℕ
  pub from : start ≤ place
  pub to : place < end
  pub is : new ≡ with_items (changed_between Abandon start end grown.outstanding.items) grown
