-- Which options a socket can be made with, and what they mean for packets.
use Rattle.std.specs.Prelude.{◌≡◌, ◌≤◌, ◌<◌, ◌^◌, ◌-◌, ◌*◌, ◌%◌, min, ℕ, pos, true, false, Some, None}
use Rattle.std.specs.Duration.{as_nanos}
use Rattle.dcsctp_types.specs.declared.options.Options.{Options}
use Rattle.dcsctp_types.specs.Sizes.{greatest_length}
use Rattle.dcsctp_wire.specs.declared.packet.WireOptions.{WireOptions}

-- the size of a packet that is sent: `mtu`, or what the length of a chunk can say, rounded down to a multiple of 4
abbrev pub packet_size_limit : Options → ℕ
packet_size_limit options = min options.mtu greatest_length - min options.mtu greatest_length % 4

pub record IsValid (options : Options) : Type 0 where
  pub least_size : 32 ≤ packet_size_limit options
  pub greatest_size : options.mtu ≤ greatest_length
  pub receive_window : options.max_receiver_window_buffer_size < 2 ^ 32
  pub send_buffer : options.max_send_buffer_size < 2 ^ 32

-- The numbers that are put into packets fit their fields, as those of options in memory do.
pub record FitsOptions (options : Options) : Type 0 where
  pub local_port : options.local_port < 2 ^ 16
  pub remote_port : options.remote_port < 2 ^ 16
  pub inbound_streams : options.announced_maximum_incoming_streams < 2 ^ 16
  pub outbound_streams : options.announced_maximum_outgoing_streams < 2 ^ 16
  pub zero_checksum_method : options.zero_checksum_alternate_error_detection_method.0 < 2 ^ 32

-- the ports of packets out
pub record Ports : Type 0 where
  pub local : ℕ
  pub remote : ℕ

abbrev pub ports_of : Options → Ports
ports_of options = record { local = options.local_port; remote = options.remote_port }

-- what the reader of packets knows of the options
abbrev pub wire_options : Options → WireOptions
wire_options options =
    record {
      local_port = options.local_port;
      disable_checksum_verification = options.disable_checksum_verification;
      zero_checksum_alternate_error_detection_method = options.zero_checksum_alternate_error_detection_method.0;
    }

-- a number of nanoseconds from milliseconds
abbrev pub milliseconds : ℕ → ℕ
milliseconds n = n * 1_000_000

-- The same except for `max_message_size`, which the user may set later.
abbrev pub SameOptions : Options → Options → Type 0
SameOptions old new = new ≡ record old { max_message_size = new.max_message_size }

-- The options of a user who sets none.
pub record IsDefault (options : Options) : Type 0 where
  pub local_port : options.local_port ≡ 5000
  pub remote_port : options.remote_port ≡ 5000
  pub announced_maximum_incoming_streams : options.announced_maximum_incoming_streams ≡ 65535
  pub announced_maximum_outgoing_streams : options.announced_maximum_outgoing_streams ≡ 65535
  pub mtu : options.mtu ≡ 1191
  pub max_message_size : options.max_message_size ≡ 262144
  pub default_stream_priority : options.default_stream_priority ≡ 256
  pub max_receiver_window_buffer_size : options.max_receiver_window_buffer_size ≡ 5242880
  pub max_send_buffer_size : options.max_send_buffer_size ≡ 2000000
  pub per_stream_send_queue_limit : options.per_stream_send_queue_limit ≡ 2000000
  pub total_buffered_amount_low_threshold : options.total_buffered_amount_low_threshold ≡ 1800000
  pub default_stream_buffered_amount_low_threshold : options.default_stream_buffered_amount_low_threshold ≡ 0
  pub rtt_max : as_nanos options.rtt_max ≡ milliseconds 60000
  pub rto_initial : as_nanos options.rto_initial ≡ milliseconds 500
  pub rto_max : as_nanos options.rto_max ≡ milliseconds 60000
  pub rto_min : as_nanos options.rto_min ≡ milliseconds 400
  pub t1_init_timeout : as_nanos options.t1_init_timeout ≡ milliseconds 1000
  pub t1_cookie_timeout : as_nanos options.t1_cookie_timeout ≡ milliseconds 1000
  pub cookie_lifetime : as_nanos options.cookie_lifetime ≡ milliseconds 60000
  pub t2_shutdown_timeout : as_nanos options.t2_shutdown_timeout ≡ milliseconds 1000
  pub max_timer_backoff_duration : options.max_timer_backoff_duration ≡ None
  pub heartbeat_interval : as_nanos options.heartbeat_interval ≡ milliseconds 30000
  pub delayed_ack_max_timeout : as_nanos options.delayed_ack_max_timeout ≡ milliseconds 200
  pub min_rtt_variance : as_nanos options.min_rtt_variance ≡ milliseconds 220
  pub cwnd_mtus_initial : options.cwnd_mtus_initial ≡ 10
  pub cwnd_mtus_min : options.cwnd_mtus_min ≡ 4
  pub avoid_fragmentation_cwnd_mtus : options.avoid_fragmentation_cwnd_mtus ≡ 6
  pub immediate_sack_under_cwnd_mtus : options.immediate_sack_under_cwnd_mtus ≡ 10
  pub max_burst : options.max_burst ≡ pos 4
  pub max_retransmissions : options.max_retransmissions ≡ Some 10
  pub max_init_retransmits : options.max_init_retransmits ≡ Some 8
  pub enable_partial_reliability : options.enable_partial_reliability ≡ true
  pub enable_message_interleaving : options.enable_message_interleaving ≡ false
  pub heartbeat_interval_include_rtt : options.heartbeat_interval_include_rtt ≡ true
  pub zero_checksum_method : options.zero_checksum_alternate_error_detection_method.0 ≡ 0
  pub disable_checksum_verification : options.disable_checksum_verification ≡ false
  pub enable_handover_with_outstanding_data : options.enable_handover_with_outstanding_data ≡ false
  pub follow_rfc : options.follow_rfc ≡ false
