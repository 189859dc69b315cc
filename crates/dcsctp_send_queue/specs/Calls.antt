-- What is left of a send queue if an allocation fails.
use Rattle.std.specs.Prelude.{◌≡◌, ◌⊎◌, ℕ, true, None, Some, List, ◌++◌}
use Rattle.dcsctp_api.specs.spec.endpoint.Event.{Event}
use Rattle.dcsctp_api.specs.types.declared.sending.UnderWay.{UnderWay}
use Rattle.dcsctp_api.specs.types.queues.SendStreams.{Waiting, front_of, stream_at, IsNext}
use Rattle.dcsctp_api.specs.spec.queues.SendQueue.{SendQueueState}
use Rattle.dcsctp_api.specs.spec.queues.Sending.{Chooses, Drops, drop_events, produced_events, is_too_old, next_progress, IsMessageUnderWay}
use Rattle.dcsctp_send_queue.specs.Telling.{AddsFront}

-- The message that is dropped next, and the events about it. No stream is held.
pub record DropsNext (now : ℕ) (queue : SendQueueState) (events : List (Event (List ℕ))) : Type 0 where
  pub idle : queue.held ≡ None
  pub place : ℕ
  pub message : Waiting
  pub next : IsNext queue.streams place
  pub front : front_of (stream_at queue.streams place).messages ≡ Some message
  pub expired : is_too_old now message (stream_at queue.streams place) ≡ true
  pub is : events ≡ drop_events place 0 message queue

-- The fragment that is taken next, and the events about it.
pub record PartNext (now max : ℕ) (old queue : SendQueueState) (events : List (Event (List ℕ))) : Type 0 where
  pub place : ℕ
  pub message : Waiting
  pub under_way : UnderWay
  pub front : front_of (stream_at queue.streams place).messages ≡ Some message
  pub chosen : Chooses now max old old.held queue place
  pub come : under_way ≡ next_progress message (stream_at queue.streams place)
  pub is : events ≡ produced_events place max message under_way queue

-- An allocation fails, once messages are dropped that are too old to be started: the first of the next events are added.
pub record StopsTaking (now max : ℕ) (old : SendQueueState) (told_before : List (Event (List ℕ))) (new : SendQueueState) (told_after : List (Event (List ℕ))) : Type 0 where
  pub events : List (Event (List ℕ))
  pub drops : Drops now old events new
  pub coming : List (Event (List ℕ))
  pub next : DropsNext now new coming ⊎ PartNext now max old new coming
  pub tells : AddsFront (told_before ++ events) coming told_after

-- An allocation fails, and the first of the events about what would be dropped are added.
pub record StopsDiscarding (queue : SendQueueState) (stream message_id : ℕ) (told_before told_after : List (Event (List ℕ))) : Type 0 where
  pub named : IsMessageUnderWay queue stream message_id
  pub tells : AddsFront told_before (drop_events named.place named.under_way.sent named.message queue) told_after
