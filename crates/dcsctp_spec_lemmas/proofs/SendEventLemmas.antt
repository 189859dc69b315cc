-- The events of streams that are prepared to be reset.
use Rattle.std.proofs.Common.{◌≡◌, ◌∙◌, ℕ, ◌++◌, Bool, true, false, if◌then◌else◌, Option, None, Some, List, [], ◌∷◌, map, refl, sym, ap}
use Rattle.std.proofs.lemmas.List.{map-append}
use Rattle.dcsctp_spec.specs.endpoint.Event.{Event, event_map, buffered_amount_low, total_buffered_amount_low}
use Rattle.dcsctp_spec.specs.Packet.{Emission}
use Rattle.dcsctp_spec.specs.types.queues.SendStreams.{Waiting, Stream}
use Rattle.dcsctp_spec.specs.queues.SendEvents.{expiry_events, expiries, falls_low, low_events}
use Rattle.dcsctp_spec.specs.queues.SendQueue.{SendQueueState, queue_stream}
use Rattle.dcsctp_spec.specs.queues.OwnResets.{is_open_pause, dropped_of, dropped_size, with_used, queue_with_prepared, prepare_events_of, prepare_events, prepare_all_events}
use Rattle.dcsctp_spec.specs.endpoint.FlushOutcomes.{FillingEvent, amount_is_low, total_amount_is_low, message_has_expired, message_ends, filling_event}

abbrev Events : Type 0
Events = List (Event Emission)

-- ---- they are among those that a flush may report

pub record AreTold (events : Events) : Type 0 where
  pub told : List FillingEvent
  pub is : events ≡ map filling_event told

told_none : AreTold []
told_none = record { told = []; is = refl }

told_both : (a b : Events) → AreTold a → AreTold b → AreTold (a ++ b)
told_both a b first later =
    record {
      told = first.told ++ later.told;
      is = ap (λ (x : Events). x ++ b) first.is
          ∙ (ap (λ (x : Events). map filling_event first.told ++ x) later.is ∙ sym (map-append filling_event first.told later.told));
    }

told_low_by : (b c : Bool) (id : ℕ) → AreTold ((if b then buffered_amount_low id ∷ [] else []) ++ (if c then total_buffered_amount_low ∷ [] else []))
told_low_by true true id = record { told = amount_is_low id ∷ total_amount_is_low ∷ []; is = refl }
told_low_by true false id = record { told = amount_is_low id ∷ []; is = refl }
told_low_by false true id = record { told = total_amount_is_low ∷ []; is = refl }
told_low_by false false id = told_none

told_low : (stream : Stream) (total_threshold total by : ℕ) → AreTold (low_events stream total_threshold total by)
told_low stream total_threshold total by = told_low_by (falls_low stream.threshold stream.amount by) (falls_low total_threshold total by) stream.id

told_expiry_by : (message : Waiting) (name : Option ℕ) → message.lifecycle ≡ name → AreTold (expiry_events message)
told_expiry_by message None is = rw is told_none
told_expiry_by message (Some id) is = rw is (record { told = message_has_expired id ∷ message_ends id ∷ []; is = refl })

told_expiries : (messages : List Waiting) → AreTold (expiries messages)
told_expiries [] = told_none
told_expiries (message ∷ messages) = told_both (expiry_events message) (expiries messages) (told_expiry_by message message.lifecycle refl) (told_expiries messages)

told_in : (id : ℕ) (queue : SendQueueState) → AreTold (prepare_events_of id queue)
told_in id queue = by_pause (is_open_pause (queue_stream queue id).pause)
  where
    by_pause : (b : Bool) → AreTold (if b then low_events (queue_stream queue id) queue.total_threshold queue.total_amount (dropped_size id queue) ++ expiries (dropped_of id queue) else [])
    by_pause true =
        told_both (low_events (queue_stream queue id) queue.total_threshold queue.total_amount (dropped_size id queue)) (expiries (dropped_of id queue))
        (told_low (queue_stream queue id) queue.total_threshold queue.total_amount (dropped_size id queue)) (told_expiries (dropped_of id queue))
    by_pause false = told_none

pub told_prepared : (ids : List ℕ) (queue : SendQueueState) → AreTold (prepare_all_events ids queue)
told_prepared [] queue = told_none
told_prepared (id ∷ ids) queue =
    told_both (prepare_events id queue) (prepare_all_events ids (queue_with_prepared id queue)) (told_in id (with_used id queue)) (told_prepared ids (queue_with_prepared id queue))

-- ---- they are the same with any form of packet

module _ {P Q : Type 0} (f : P → Q) where
  abbrev Of : Type 0 → Type 0
  Of X = List (Event X)

  both_mapped : (a b : Of P) (c d : Of Q) → map (event_map f) a ≡ c → map (event_map f) b ≡ d → map (event_map f) (a ++ b) ≡ c ++ d
  both_mapped a b c d first later = map-append (event_map f) a b ∙ (ap (λ (x : Of Q). x ++ map (event_map f) b) first ∙ ap (λ (x : Of Q). c ++ x) later)

  low_mapped_by : (b c : Bool) (id : ℕ) → map (event_map f) ((if b then buffered_amount_low id ∷ [] else []) ++ (if c then total_buffered_amount_low ∷ [] else []))
      ≡ (if b then buffered_amount_low id ∷ [] else []) ++ (if c then total_buffered_amount_low ∷ [] else [])
  low_mapped_by true true id = refl
  low_mapped_by true false id = refl
  low_mapped_by false true id = refl
  low_mapped_by false false id = refl

  low_mapped : (stream : Stream) (total_threshold total by : ℕ) → map (event_map f) (low_events stream total_threshold total by) ≡ low_events stream total_threshold total by
  low_mapped stream total_threshold total by = low_mapped_by (falls_low stream.threshold stream.amount by) (falls_low total_threshold total by) stream.id

  expiry_mapped : (message : Waiting) (name : Option ℕ) → message.lifecycle ≡ name → map (event_map f) (expiry_events message) ≡ expiry_events message
  expiry_mapped message None is = rw is refl
  expiry_mapped message (Some id) is = rw is refl

  expiries_mapped : (messages : List Waiting) → map (event_map f) (expiries messages) ≡ expiries messages
  expiries_mapped [] = refl
  expiries_mapped (message ∷ messages) =
      both_mapped (expiry_events message) (expiries messages) (expiry_events message) (expiries messages) (expiry_mapped message message.lifecycle refl) (expiries_mapped messages)

  mapped_in : (id : ℕ) (queue : SendQueueState) → map (event_map f) (prepare_events_of id queue) ≡ prepare_events_of id queue
  mapped_in id queue = by_pause (is_open_pause (queue_stream queue id).pause)
    where
      by_pause : (b : Bool) → map (event_map f) (if b then low_events (queue_stream queue id) queue.total_threshold queue.total_amount (dropped_size id queue) ++ expiries (dropped_of id queue) else [])
          ≡ (if b then low_events (queue_stream queue id) queue.total_threshold queue.total_amount (dropped_size id queue) ++ expiries (dropped_of id queue) else [])
      by_pause true =
          both_mapped (low_events (queue_stream queue id) queue.total_threshold queue.total_amount (dropped_size id queue)) (expiries (dropped_of id queue))
          (low_events (queue_stream queue id) queue.total_threshold queue.total_amount (dropped_size id queue)) (expiries (dropped_of id queue))
          (low_mapped (queue_stream queue id) queue.total_threshold queue.total_amount (dropped_size id queue)) (expiries_mapped (dropped_of id queue))
      by_pause false = refl

  pub prepare_mapped : (id : ℕ) (queue : SendQueueState) → map (event_map f) (prepare_events id queue) ≡ prepare_events id queue
  prepare_mapped id queue = mapped_in id (with_used id queue)
