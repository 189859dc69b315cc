-- The events of messages that are sent.
use Rattle.std.specs.Prelude.{ℕ, ◌-◌, ◌&&◌, nat_lt, nat_le, Bool, Option, None, Some, List, [], ◌∷◌, ◌++◌, if◌then◌else◌}
use Rattle.dcsctp_spec.specs.endpoint.Event.{Event, buffered_amount_low, total_buffered_amount_low, lifecycle_message_fully_sent, lifecycle_message_expired, lifecycle_end}
use Rattle.dcsctp_types.specs.queues.SendStreams.{Waiting, Stream}

-- A message with a name was abandoned before it was fully sent.
abbrev pub expiry_events : {P : Type 0} → Waiting → List (Event P)
expiry_events message = named message.lifecycle
  where
    named : {P : Type 0} → Option ℕ → List (Event P)
    named None = []
    named (Some id) = lifecycle_message_expired id ∷ lifecycle_end id ∷ []

-- A message with a name was fully sent.
abbrev pub sent_events : {P : Type 0} → Waiting → List (Event P)
sent_events message = named message.lifecycle
  where
    named : {P : Type 0} → Option ℕ → List (Event P)
    named None = []
    named (Some id) = lifecycle_message_fully_sent id ∷ []

-- These messages were abandoned, in their order.
abbrev pub expiries : {P : Type 0} → List Waiting → List (Event P)
expiries [] = []
expiries (message ∷ messages) = expiry_events message ++ expiries messages

-- Does an amount that falls by that much fall from above its threshold to it or below?
abbrev pub falls_low : ℕ → ℕ → ℕ → Bool
falls_low threshold amount by = nat_lt threshold amount && nat_le (amount - by) threshold

-- That much leaves a stream, and all streams together. The stream's event comes first.
abbrev pub low_events : {P : Type 0} → Stream → ℕ → ℕ → ℕ → List (Event P)
low_events stream total_threshold total by =
    (if falls_low stream.threshold stream.amount by then buffered_amount_low stream.id ∷ [] else [])
    ++ (if falls_low total_threshold total by then total_buffered_amount_low ∷ [] else [])
