-- The events that a socket reports, with a parameter for packets: in the machine their contents,
-- outside their bytes.
use Rattle.std.specs.Prelude.{ℕ, List, [], ◌∷◌}
use Rattle.dcsctp_types.specs.declared.kinds.ErrorKind.{ErrorKind}

pub data Event (P : Type 0) : Type 0 where
  sent : P → Event P
  connected : Event P
  closed : Event P
  connection_restarted : Event P
  aborted : ErrorKind → List ℕ → Event P
  error : ErrorKind → List ℕ → Event P
  buffered_amount_low : ℕ → Event P
  total_buffered_amount_low : Event P
  streams_reset_failed : List ℕ → Event P
  streams_reset_performed : List ℕ → Event P
  incoming_stream_reset : List ℕ → Event P
  lifecycle_message_fully_sent : ℕ → Event P
  lifecycle_message_maybe_expired : ℕ → Event P
  lifecycle_message_expired : ℕ → Event P
  lifecycle_message_delivered : ℕ → Event P
  lifecycle_end : ℕ → Event P

-- the same event with another form of packet
abbrev pub event_map : {P Q : Type 0} → (P → Q) → Event P → Event Q
event_map f (sent packet) = sent (f packet)
event_map f connected = connected
event_map f closed = closed
event_map f connection_restarted = connection_restarted
event_map f (aborted kind text) = aborted kind text
event_map f (error kind text) = error kind text
event_map f (buffered_amount_low stream) = buffered_amount_low stream
event_map f total_buffered_amount_low = total_buffered_amount_low
event_map f (streams_reset_failed streams) = streams_reset_failed streams
event_map f (streams_reset_performed streams) = streams_reset_performed streams
event_map f (incoming_stream_reset streams) = incoming_stream_reset streams
event_map f (lifecycle_message_fully_sent id) = lifecycle_message_fully_sent id
event_map f (lifecycle_message_maybe_expired id) = lifecycle_message_maybe_expired id
event_map f (lifecycle_message_expired id) = lifecycle_message_expired id
event_map f (lifecycle_message_delivered id) = lifecycle_message_delivered id
event_map f (lifecycle_end id) = lifecycle_end id

-- the packets among events, in order
abbrev pub packets_of_events : {P : Type 0} → List (Event P) → List P
packets_of_events [] = []
packets_of_events (sent packet ∷ events) = packet ∷ packets_of_events events
packets_of_events (event ∷ events) = packets_of_events events
