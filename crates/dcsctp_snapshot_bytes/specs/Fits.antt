-- Each number of a snapshot fits its field, as it does in a `SocketHandoverState`.
use Rattle.std.specs.Prelude.{◌<◌, ◌^◌, List, length, IfSome, FitsSigned}
use Rattle.std.specs.Int.{w32}
use Rattle.std.specs.List.{AllByRecursion}
use Rattle.dcsctp_types.specs.declared.snapshot.HandoverCapabilities.{HandoverCapabilities}
use Rattle.dcsctp_types.specs.declared.snapshot.HandoverOutgoingStream.{HandoverOutgoingStream}
use Rattle.dcsctp_types.specs.declared.snapshot.HandoverOrderedStream.{HandoverOrderedStream}
use Rattle.dcsctp_types.specs.declared.snapshot.HandoverUnorderedStream.{HandoverUnorderedStream}
use Rattle.dcsctp_types.specs.SnapshotItems.{QueuedPart, OutstandingPart}
use Rattle.dcsctp_types.specs.Snapshot.{SendPart, ReceivePart, Snapshot}

-- as many as a count can say, and each fits
pub record FitsElements {A : Type 0} (Fits : A → Type 0) (elements : List A) : Type 0 where
  pub count : length elements < 2 ^ 64
  pub each : AllByRecursion Fits elements

pub record FitsQueued (message : QueuedPart) : Type 0 where
  pub stream_id : message.stream_id < 2 ^ 16
  pub ppid : message.ppid < 2 ^ 32
  pub payload : length message.payload < 2 ^ 64
  pub expires_in_ms : IfSome message.expires_in_ms (FitsSigned w32)
  pub max_retransmissions : message.max_retransmissions < 2 ^ 16
  pub lifecycle_id : message.lifecycle_id < 2 ^ 64
  pub message_id : message.message_id < 2 ^ 64
  pub remaining_offset : message.remaining_offset < 2 ^ 64
  pub mid : IfSome message.mid (λ number. number < 2 ^ 32)
  pub ssn : IfSome message.ssn (λ number. number < 2 ^ 16)
  pub fsn : message.fsn < 2 ^ 32

pub record FitsFragment (sent : OutstandingPart) : Type 0 where
  pub stream_id : sent.stream_id < 2 ^ 16
  pub ssn : sent.ssn < 2 ^ 16
  pub mid : sent.mid < 2 ^ 32
  pub fsn : sent.fsn < 2 ^ 32
  pub ppid : sent.ppid < 2 ^ 32
  pub payload : length sent.payload < 2 ^ 64

pub record FitsSending (sent : OutstandingPart) : Type 0 where
  pub message_id : sent.message_id < 2 ^ 64
  pub lifecycle_id : sent.lifecycle_id < 2 ^ 64
  pub expires_in_ms : IfSome sent.expires_in_ms (FitsSigned w32)
  pub max_retransmissions : sent.max_retransmissions < 2 ^ 16
  pub retransmission_count : sent.retransmission_count < 2 ^ 16
  pub time_since_sent_ms : FitsSigned w32 sent.time_since_sent_ms

pub record FitsOutstanding (sent : OutstandingPart) : Type 0 where
  pub fragment : FitsFragment sent
  pub sending : FitsSending sent

pub record FitsOutgoing (stream : HandoverOutgoingStream) : Type 0 where
  pub id : stream.id < 2 ^ 16
  pub next_ssn : stream.next_ssn < 2 ^ 16
  pub next_unordered_mid : stream.next_unordered_mid < 2 ^ 32
  pub next_ordered_mid : stream.next_ordered_mid < 2 ^ 32
  pub priority : stream.priority < 2 ^ 16

pub record FitsOrdered (stream : HandoverOrderedStream) : Type 0 where
  pub id : stream.id < 2 ^ 16
  pub next_ssn : stream.next_ssn < 2 ^ 32

pub record FitsUnordered (stream : HandoverUnorderedStream) : Type 0 where
  pub id : stream.id < 2 ^ 16

pub record FitsSend (tx : SendPart) : Type 0 where
  pub next_tsn : tx.next_tsn < 2 ^ 32
  pub next_reset_req_sn : tx.next_reset_req_sn < 2 ^ 32
  pub cwnd : tx.cwnd < 2 ^ 32
  pub rwnd : tx.rwnd < 2 ^ 32
  pub ssthresh : tx.ssthresh < 2 ^ 32
  pub partial_bytes_acked : tx.partial_bytes_acked < 2 ^ 32
  pub last_cumulative_tsn_ack : tx.last_cumulative_tsn_ack < 2 ^ 32
  pub next_outgoing_message_id : tx.next_outgoing_message_id < 2 ^ 64
  pub streams : FitsElements FitsOutgoing tx.streams
  pub queued_messages : FitsElements FitsQueued tx.queued_messages
  pub outstanding_data : FitsElements FitsOutstanding tx.outstanding_data

pub record FitsReceived (rx : ReceivePart) : Type 0 where
  pub last_cumulative_acked_tsn : rx.last_cumulative_acked_tsn < 2 ^ 32
  pub last_assembled_tsn : rx.last_assembled_tsn < 2 ^ 32
  pub last_completed_deferred_reset_req_sn : rx.last_completed_deferred_reset_req_sn < 2 ^ 32
  pub last_completed_reset_req_sn : rx.last_completed_reset_req_sn < 2 ^ 32
  pub ordered_streams : FitsElements FitsOrdered rx.ordered_streams
  pub unordered_streams : FitsElements FitsUnordered rx.unordered_streams

pub record FitsCapabilities (capabilities : HandoverCapabilities) : Type 0 where
  pub negotiated_maximum_incoming_streams : capabilities.negotiated_maximum_incoming_streams < 2 ^ 16
  pub negotiated_maximum_outgoing_streams : capabilities.negotiated_maximum_outgoing_streams < 2 ^ 16

pub record FitsSnapshot (state : Snapshot) : Type 0 where
  pub my_verification_tag : state.my_verification_tag < 2 ^ 32
  pub my_initial_tsn : state.my_initial_tsn < 2 ^ 32
  pub peer_verification_tag : state.peer_verification_tag < 2 ^ 32
  pub peer_initial_tsn : state.peer_initial_tsn < 2 ^ 32
  pub tie_tag : state.tie_tag < 2 ^ 64
  pub capabilities : FitsCapabilities state.capabilities
  pub tx : FitsSend state.tx
  pub rx : FitsReceived state.rx
