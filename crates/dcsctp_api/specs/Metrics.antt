-- What a socket shows of its work.
use Rattle.std.specs.Prelude.{◌≡◌, ◌==◌, ℕ, ◌+◌, ◌-◌, ◌^◌, min, not, Option, None, Some}
use Rattle.std.specs.Int.{div_ceil}
use Rattle.std.specs.Duration.{as_nanos}
use Rattle.dcsctp_spec_lemmas.specs.types.declared.association.Held.{Held}
use Rattle.dcsctp_spec_lemmas.specs.types.declared.capabilities.Capabilities.{Capabilities}
use Rattle.dcsctp_spec_lemmas.specs.spec.endpoint.Endpoint.{Endpoint, Counts, held_by_core}
use Rattle.dcsctp_spec_lemmas.specs.spec.queues.Items.{unacknowledged_items}
use Rattle.dcsctp_spec_lemmas.specs.spec.queues.Retransmission.{RetransmissionState, window_left}
use Rattle.dcsctp_spec_lemmas.specs.spec.queues.SendQueue.{SendQueueState}
use Rattle.dcsctp_spec_lemmas.specs.spec.queues.Transfer.{Transfer}
use Rattle.dcsctp_api.specs.declared.metrics.Counts as shown
use Rattle.dcsctp_api.specs.declared.metrics.Metrics.{Metrics}

-- what these counts are in the definitions
abbrev pub counts_of : shown.Counts → Counts
counts_of counts = record { packets_received = counts.rx_packets_count; packets_sent = counts.tx_packets_count; messages_queued = counts.tx_messages_count }

-- what was counted over the socket's life
pub record ShowsCounts (counts : Counts) (metrics : Metrics) : Type 0 where
  pub sent : metrics.tx_packets_count ≡ counts.packets_sent
  pub queued : metrics.tx_messages_count ≡ counts.messages_queued
  pub received : metrics.rx_packets_count ≡ counts.packets_received

-- what was negotiated
pub record ShowsCapabilities (capabilities : Capabilities) (metrics : Metrics) : Type 0 where
  pub interleaving : metrics.uses_message_interleaving ≡ capabilities.message_interleaving
  pub zero_checksum : metrics.uses_zero_checksum ≡ not (capabilities.zero_checksum_method.0 == 0)
  pub incoming : metrics.negotiated_maximum_incoming_streams ≡ capabilities.negotiated_maximum_incoming_streams
  pub outgoing : metrics.negotiated_maximum_outgoing_streams ≡ capabilities.negotiated_maximum_outgoing_streams

-- a packet's header and one of DATA (RFC 9260, sections 3.1 and 3.3.1)
abbrev pub headers : ℕ
headers = 28

-- how many packets the payloads that wait would take if they were one message
abbrev pub packets_waiting : ℕ → SendQueueState → ℕ
packets_waiting mtu queue = div_ceil queue.total_amount (mtu - headers)

-- the chunks that are neither acknowledged nor abandoned, and that estimate of those that wait
abbrev pub unacknowledged_data : ℕ → SendQueueState → RetransmissionState → ℕ
unacknowledged_data mtu queue state =
    min (unacknowledged_items state.outstanding.items + packets_waiting mtu queue) (2 ^ 64 - 1)

-- what is in flight, and how the path and the peer are
pub record ShowsTransfer (mtu : ℕ) (queue : SendQueueState) (transfer : Transfer) (metrics : Metrics) : Type 0 where
  pub packets_again : metrics.rtx_packets_count ≡ transfer.retransmission.packets_retransmitted
  pub bytes_again : metrics.rtx_bytes_count ≡ transfer.retransmission.bytes_retransmitted
  pub cwnd : metrics.cwnd_bytes ≡ transfer.retransmission.congestion.cwnd
  pub srtt : as_nanos metrics.srtt ≡ transfer.timeout.srtt
  pub unacknowledged : metrics.unack_data_count ≡ unacknowledged_data mtu queue transfer.retransmission
  pub messages : metrics.rx_messages_count ≡ transfer.reassembly.incoming.messages_received
  pub window : metrics.peer_rwnd_bytes ≡ min (window_left transfer.retransmission) (2 ^ 32 - 1)

pub record ShowsAssociation (e : Endpoint) (held : Held) (transfer : Transfer) (metrics : Metrics) : Type 0 where
  pub counts : ShowsCounts e.counts metrics
  pub peer : metrics.peer_implementation ≡ e.peer_implementation
  pub capabilities : ShowsCapabilities held.capabilities metrics
  pub below : ShowsTransfer e.options.mtu e.queues.queue transfer metrics

-- Metrics are shown where the peer is known.
abbrev pub ShowsKnownMetrics : Endpoint → Option Held → Option Transfer → Option Metrics → Type 0
ShowsKnownMetrics e (Some held) (Some transfer) (Some metrics) = ShowsAssociation e held transfer metrics
ShowsKnownMetrics e (Some held) (Some transfer) None = ⊥
ShowsKnownMetrics e (Some held) None metrics = metrics ≡ None
ShowsKnownMetrics e None transfer metrics = metrics ≡ None

abbrev pub ShowsMetrics : Endpoint → Option Metrics → Type 0
ShowsMetrics e metrics = ShowsKnownMetrics e (held_by_core e.core) e.queues.transfer metrics
