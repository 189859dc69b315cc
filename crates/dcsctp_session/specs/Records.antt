-- The numbers by which C reads events, messages and metrics.
use Rattle.std.specs.Prelude.{◌≡◌, ◌==◌, string_bytes, ℕ, Bool, length}
use Rattle.dcsctp_core.specs.types.Ids.{lifecycle_number}
use Rattle.dcsctp_core.specs.types.declared.kinds.ErrorKind.{ErrorKind}
use Rattle.dcsctp_core.specs.types.declared.kinds.ErrorKind.TheVariants as errors
use Rattle.dcsctp_core.specs.types.declared.kinds.SctpImplementation.{SctpImplementation}
use Rattle.dcsctp_core.specs.types.declared.kinds.SctpImplementation.TheVariants as implementations
use Rattle.dcsctp_core.specs.types.declared.message.Message.{Message}
use Rattle.dcsctp_core.specs.api.declared.events.SocketEvent.{SocketEvent}
use Rattle.dcsctp_core.specs.api.declared.events.SocketEvent.TheVariants as events
use Rattle.dcsctp_core.specs.api.declared.metrics.Counts.{Counts}
use Rattle.dcsctp_core.specs.api.declared.metrics.Metrics.{Metrics}
use Rattle.dcsctp_session.specs.Options.{time_number, flag_number}
use Rattle.dcsctp_session.specs.declared.records.CountsRecord.{CountsRecord}
use Rattle.dcsctp_session.specs.declared.records.EventRecord.{EventRecord}
use Rattle.dcsctp_session.specs.declared.records.MessageRecord.{MessageRecord}
use Rattle.dcsctp_session.specs.declared.records.MetricsRecord.{MetricsRecord}

-- ---- events

abbrev pub error_number : ErrorKind → ℕ
error_number errors.NoError = 0
error_number errors.TooManyRetries = 1
error_number errors.NotConnected = 2
error_number errors.ParseFailed = 3
error_number errors.WrongSequence = 4
error_number errors.PeerReported = 5
error_number errors.ProtocolViolation = 6
error_number errors.ResourceExhaustion = 7
error_number errors.UnsupportedOperation = 8

-- an event that is nothing but its kind; 0 is no event
abbrev pub plain_record : ℕ → EventRecord
plain_record kind = record { lifecycle_id = 0; length = 0; kind = kind; error_kind = 0; stream_id = 0; reserved = 0 }

abbrev pub event_record : SocketEvent → EventRecord
event_record (events.SendPacket packet) = record (plain_record 1) { length = length packet.items }
event_record events.OnConnected = plain_record 2
event_record events.OnClosed = plain_record 3
event_record events.OnConnectionRestarted = plain_record 4
event_record (events.OnAborted kind text) = record (plain_record 5) { length = length (string_bytes text); error_kind = error_number kind }
event_record (events.OnError kind text) = record (plain_record 6) { length = length (string_bytes text); error_kind = error_number kind }
event_record (events.OnBufferedAmountLow stream) = record (plain_record 7) { stream_id = stream.0 }
event_record events.OnTotalBufferedAmountLow = plain_record 8
event_record (events.OnStreamsResetFailed streams) = record (plain_record 9) { length = length streams.items }
event_record (events.OnStreamsResetPerformed streams) = record (plain_record 10) { length = length streams.items }
event_record (events.OnIncomingStreamReset streams) = record (plain_record 11) { length = length streams.items }
event_record (events.OnLifecycleMessageFullySent id) = record (plain_record 12) { lifecycle_id = lifecycle_number id }
event_record (events.OnLifecycleMessageMaybeExpired id) = record (plain_record 13) { lifecycle_id = lifecycle_number id }
event_record (events.OnLifecycleMessageExpired id) = record (plain_record 14) { lifecycle_id = lifecycle_number id }
event_record (events.OnLifecycleMessageDelivered id) = record (plain_record 15) { lifecycle_id = lifecycle_number id }
event_record (events.OnLifecycleEnd id) = record (plain_record 16) { lifecycle_id = lifecycle_number id }

-- ---- messages

abbrev pub no_message : MessageRecord
no_message = record { length = 0; ppid = 0; stream_id = 0; reserved = 0 }

abbrev pub message_record : Message → MessageRecord
message_record message = record { length = length message.payload.items; ppid = message.ppid.0; stream_id = message.stream_id.0; reserved = 0 }

-- ---- metrics

abbrev pub implementation_number : SctpImplementation → ℕ
implementation_number implementations.Unknown = 0
implementation_number implementations.DcsctpRs = 1
implementation_number implementations.DcsctpCc = 2
implementation_number implementations.UsrSctp = 3
implementation_number implementations.Other = 4

-- the bytes of a record of metrics
abbrev pub metrics_size : ℕ
metrics_size = 104

-- Does the record have that size? A caller may have that of another version.
abbrev pub has_metrics_size : MetricsRecord → Bool
has_metrics_size numbers = numbers.size == metrics_size

-- what was counted
pub record SaysCounts (numbers : MetricsRecord) (metrics : Metrics) : Type 0 where
  pub tx_packets : numbers.tx_packets_count ≡ metrics.tx_packets_count
  pub tx_messages : numbers.tx_messages_count ≡ metrics.tx_messages_count
  pub rtx_packets : numbers.rtx_packets_count ≡ metrics.rtx_packets_count
  pub rtx_bytes : numbers.rtx_bytes_count ≡ metrics.rtx_bytes_count
  pub rx_packets : numbers.rx_packets_count ≡ metrics.rx_packets_count
  pub rx_messages : numbers.rx_messages_count ≡ metrics.rx_messages_count

-- how the association is
pub record SaysAssociation (numbers : MetricsRecord) (metrics : Metrics) : Type 0 where
  pub cwnd : numbers.cwnd_bytes ≡ metrics.cwnd_bytes
  pub srtt : numbers.srtt ≡ time_number metrics.srtt
  pub unacknowledged : numbers.unack_data_count ≡ metrics.unack_data_count
  pub window : numbers.peer_rwnd_bytes ≡ metrics.peer_rwnd_bytes
  pub peer : numbers.peer_implementation ≡ implementation_number metrics.peer_implementation
  pub interleaving : numbers.uses_message_interleaving ≡ flag_number metrics.uses_message_interleaving
  pub zero_checksum : numbers.uses_zero_checksum ≡ flag_number metrics.uses_zero_checksum
  pub incoming : numbers.negotiated_maximum_incoming_streams ≡ metrics.negotiated_maximum_incoming_streams
  pub outgoing : numbers.negotiated_maximum_outgoing_streams ≡ metrics.negotiated_maximum_outgoing_streams

-- The numbers say these metrics.
pub record SaysMetrics (numbers : MetricsRecord) (metrics : Metrics) : Type 0 where
  pub size : numbers.size ≡ metrics_size
  pub counts : SaysCounts numbers metrics
  pub association : SaysAssociation numbers metrics
  pub reserved : numbers.reserved ≡ 0

-- ---- counts

-- the bytes of a record of counts
abbrev pub counts_size : ℕ
counts_size = 32

-- Does the record have that size? A caller may have that of another version.
abbrev pub has_counts_size : CountsRecord → Bool
has_counts_size numbers = numbers.size == counts_size

abbrev pub counts_record : Counts → CountsRecord
counts_record counts =
    record {
      size = counts_size;
      rx_packets_count = counts.rx_packets_count;
      tx_packets_count = counts.tx_packets_count;
      tx_messages_count = counts.tx_messages_count;
    }
