-- What an event says, apart from where in memory it lies.
use Rattle.std.specs.Prelude.{ℕ, List, string_bytes}
use Rattle.dcsctp_spec_lemmas.specs.spec.endpoint.Event.{Event, sent, connected, closed, connection_restarted, aborted, error, buffered_amount_low, total_buffered_amount_low, streams_reset_failed, streams_reset_performed, incoming_stream_reset, lifecycle_message_fully_sent, lifecycle_message_maybe_expired, lifecycle_message_expired, lifecycle_message_delivered, lifecycle_end}
use Rattle.dcsctp_spec_lemmas.specs.types.Ids.{lifecycle_number, stream_numbers}
use Rattle.dcsctp_api.specs.declared.events.SocketEvent.{SocketEvent}
use Rattle.dcsctp_api.specs.declared.events.SocketEvent.TheVariants.{SendPacket, OnConnected, OnClosed, OnConnectionRestarted, OnAborted, OnError, OnBufferedAmountLow, OnTotalBufferedAmountLow, OnStreamsResetFailed, OnStreamsResetPerformed, OnIncomingStreamReset, OnLifecycleMessageFullySent, OnLifecycleMessageMaybeExpired, OnLifecycleMessageExpired, OnLifecycleMessageDelivered, OnLifecycleEnd}

-- what an event says: a packet and a text as bytes, streams and messages as their numbers
abbrev pub event_content : SocketEvent → Event (List ℕ)
event_content (SendPacket packet) = sent packet.items
event_content OnConnected = connected
event_content OnClosed = closed
event_content OnConnectionRestarted = connection_restarted
event_content (OnAborted kind text) = aborted kind (string_bytes text)
event_content (OnError kind text) = error kind (string_bytes text)
event_content (OnBufferedAmountLow id) = buffered_amount_low id.0
event_content OnTotalBufferedAmountLow = total_buffered_amount_low
event_content (OnStreamsResetFailed ids) = streams_reset_failed (stream_numbers ids.items)
event_content (OnStreamsResetPerformed ids) = streams_reset_performed (stream_numbers ids.items)
event_content (OnIncomingStreamReset ids) = incoming_stream_reset (stream_numbers ids.items)
event_content (OnLifecycleMessageFullySent id) = lifecycle_message_fully_sent (lifecycle_number id)
event_content (OnLifecycleMessageMaybeExpired id) = lifecycle_message_maybe_expired (lifecycle_number id)
event_content (OnLifecycleMessageExpired id) = lifecycle_message_expired (lifecycle_number id)
event_content (OnLifecycleMessageDelivered id) = lifecycle_message_delivered (lifecycle_number id)
event_content (OnLifecycleEnd id) = lifecycle_end (lifecycle_number id)
