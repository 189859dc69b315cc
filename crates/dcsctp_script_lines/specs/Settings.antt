-- The options that a script can set: which field a name stands for, and what its value may be.
use Rattle.std.specs.Prelude.{◌≡◌, ◌⊎◌, ◌*◌, ◌-◌, ◌^◌, ℕ, ℤ, Bool, true, false, Option, Some, None, List, codes}
use Rattle.std.specs.declared.time.Duration.{Duration}
use Rattle.std.specs.Duration.{as_nanos}
use Rattle.dcsctp_types.specs.declared.options.Options.{Options}
use Rattle.dcsctp_types.specs.declared.kinds.ZeroChecksumAlternateErrorDetectionMethod.{ZeroChecksumAlternateErrorDetectionMethod}
use Rattle.dcsctp_script_lines.specs.Number.{ReadsNumber, ReadsSignedNumber, ReadsLimit}

-- ---- the field of a name

-- ports, counts of streams and a priority
pub data SetsCount (count : ℕ) (old : Options) : List ℕ → Options → Type 0 where
  local_port_is : SetsCount count old (codes "local_port") (record old { local_port = count })
  remote_port_is : SetsCount count old (codes "remote_port") (record old { remote_port = count })
  announced_maximum_incoming_streams_is : SetsCount count old (codes "announced_maximum_incoming_streams") (record old { announced_maximum_incoming_streams = count })
  announced_maximum_outgoing_streams_is : SetsCount count old (codes "announced_maximum_outgoing_streams") (record old { announced_maximum_outgoing_streams = count })
  default_stream_priority_is : SetsCount count old (codes "default_stream_priority") (record old { default_stream_priority = count })

-- sizes, thresholds and congestion windows
pub data SetsSize (size : ℕ) (old : Options) : List ℕ → Options → Type 0 where
  mtu_is : SetsSize size old (codes "mtu") (record old { mtu = size })
  max_message_size_is : SetsSize size old (codes "max_message_size") (record old { max_message_size = size })
  max_receiver_window_buffer_size_is : SetsSize size old (codes "max_receiver_window_buffer_size") (record old { max_receiver_window_buffer_size = size })
  max_send_buffer_size_is : SetsSize size old (codes "max_send_buffer_size") (record old { max_send_buffer_size = size })
  per_stream_send_queue_limit_is : SetsSize size old (codes "per_stream_send_queue_limit") (record old { per_stream_send_queue_limit = size })
  total_buffered_amount_low_threshold_is : SetsSize size old (codes "total_buffered_amount_low_threshold") (record old { total_buffered_amount_low_threshold = size })
  default_stream_buffered_amount_low_threshold_is : SetsSize size old (codes "default_stream_buffered_amount_low_threshold") (record old { default_stream_buffered_amount_low_threshold = size })
  cwnd_mtus_initial_is : SetsSize size old (codes "cwnd_mtus_initial") (record old { cwnd_mtus_initial = size })
  cwnd_mtus_min_is : SetsSize size old (codes "cwnd_mtus_min") (record old { cwnd_mtus_min = size })
  avoid_fragmentation_cwnd_mtus_is : SetsSize size old (codes "avoid_fragmentation_cwnd_mtus") (record old { avoid_fragmentation_cwnd_mtus = size })
  immediate_sack_under_cwnd_mtus_is : SetsSize size old (codes "immediate_sack_under_cwnd_mtus") (record old { immediate_sack_under_cwnd_mtus = size })

-- times that are always there
pub data SetsTime (time : Duration) (old : Options) : List ℕ → Options → Type 0 where
  rtt_max_is : SetsTime time old (codes "rtt_max") (record old { rtt_max = time })
  rto_initial_is : SetsTime time old (codes "rto_initial") (record old { rto_initial = time })
  rto_max_is : SetsTime time old (codes "rto_max") (record old { rto_max = time })
  rto_min_is : SetsTime time old (codes "rto_min") (record old { rto_min = time })
  t1_init_timeout_is : SetsTime time old (codes "t1_init_timeout") (record old { t1_init_timeout = time })
  t1_cookie_timeout_is : SetsTime time old (codes "t1_cookie_timeout") (record old { t1_cookie_timeout = time })
  cookie_lifetime_is : SetsTime time old (codes "cookie_lifetime") (record old { cookie_lifetime = time })
  t2_shutdown_timeout_is : SetsTime time old (codes "t2_shutdown_timeout") (record old { t2_shutdown_timeout = time })
  heartbeat_interval_is : SetsTime time old (codes "heartbeat_interval") (record old { heartbeat_interval = time })
  delayed_ack_max_timeout_is : SetsTime time old (codes "delayed_ack_max_timeout") (record old { delayed_ack_max_timeout = time })
  min_rtt_variance_is : SetsTime time old (codes "min_rtt_variance") (record old { min_rtt_variance = time })

-- what is true or false
pub data SetsFlag (flag : Bool) (old : Options) : List ℕ → Options → Type 0 where
  enable_partial_reliability_is : SetsFlag flag old (codes "enable_partial_reliability") (record old { enable_partial_reliability = flag })
  enable_message_interleaving_is : SetsFlag flag old (codes "enable_message_interleaving") (record old { enable_message_interleaving = flag })
  heartbeat_interval_include_rtt_is : SetsFlag flag old (codes "heartbeat_interval_include_rtt") (record old { heartbeat_interval_include_rtt = flag })
  disable_checksum_verification_is : SetsFlag flag old (codes "disable_checksum_verification") (record old { disable_checksum_verification = flag })
  enable_handover_with_outstanding_data_is : SetsFlag flag old (codes "enable_handover_with_outstanding_data") (record old { enable_handover_with_outstanding_data = flag })
  follow_rfc_is : SetsFlag flag old (codes "follow_rfc") (record old { follow_rfc = flag })

-- ---- the value that a text says

-- so many milliseconds
abbrev pub SaysTime : List ℕ → Duration → Type 0
SaysTime value time = (millis : ℕ) × ReadsNumber value (2 ^ 64 - 1) (Some millis) × (as_nanos time ≡ millis * 10 ^ 6)

-- so many milliseconds, or no limit; or it says neither
abbrev pub ReadsTimeLimit : List ℕ → Option (Option Duration) → Type 0
ReadsTimeLimit value None = ReadsLimit value (2 ^ 64 - 1) None
ReadsTimeLimit value (Some None) = ReadsLimit value (2 ^ 64 - 1) (Some None)
ReadsTimeLimit value (Some (Some time)) =
    (millis : ℕ) × ReadsLimit value (2 ^ 64 - 1) (Some (Some millis)) × (as_nanos time ≡ millis * 10 ^ 6)

-- the words for true and false
abbrev pub SaysFlag : List ℕ → Bool → Type 0
SaysFlag value true = value ≡ codes "true"
SaysFlag value false = value ≡ codes "false"

-- ---- both

-- what may be without a limit, and the burst, which may be negative
pub data SetsLimit (value : List ℕ) (old : Options) : List ℕ → Options → Type 0 where
  max_burst_is : (burst : ℤ) → ReadsSignedNumber value (Some burst) → SetsLimit value old (codes "max_burst") (record old { max_burst = burst })
  max_timer_backoff_duration_is : (longest : Option Duration) → ReadsTimeLimit value (Some longest)
      → SetsLimit value old (codes "max_timer_backoff_duration") (record old { max_timer_backoff_duration = longest })
  max_retransmissions_is : (most : Option ℕ) → ReadsLimit value (2 ^ 32 - 1) (Some most)
      → SetsLimit value old (codes "max_retransmissions") (record old { max_retransmissions = most })
  max_init_retransmits_is : (most : Option ℕ) → ReadsLimit value (2 ^ 32 - 1) (Some most)
      → SetsLimit value old (codes "max_init_retransmits") (record old { max_init_retransmits = most })

-- the alternate error detection method
pub data SetsMethod (value : List ℕ) (old : Options) : List ℕ → Options → Type 0 where
  method_is : (method : ZeroChecksumAlternateErrorDetectionMethod) → ReadsNumber value (2 ^ 32 - 1) (Some method.0)
      → SetsMethod value old (codes "zero_checksum_alternate_error_detection_method") (record old { zero_checksum_alternate_error_detection_method = method })

abbrev pub SetsSaidCount : List ℕ → List ℕ → Options → Options → Type 0
SetsSaidCount name value old new = (count : ℕ) × ReadsNumber value (2 ^ 16 - 1) (Some count) × SetsCount count old name new

abbrev pub SetsSaidSize : List ℕ → List ℕ → Options → Options → Type 0
SetsSaidSize name value old new = (size : ℕ) × ReadsNumber value (2 ^ 64 - 1) (Some size) × SetsSize size old name new

abbrev pub SetsSaidTime : List ℕ → List ℕ → Options → Options → Type 0
SetsSaidTime name value old new = (time : Duration) × SaysTime value time × SetsTime time old name new

abbrev pub SetsSaidFlag : List ℕ → List ℕ → Options → Options → Type 0
SetsSaidFlag name value old new = (flag : Bool) × SaysFlag value flag × SetsFlag flag old name new

-- The option of this name has the value that this text says, and no other option changes.
abbrev pub SetsOption : List ℕ → List ℕ → Options → Options → Type 0
SetsOption name value old new =
    SetsSaidCount name value old new ⊎ SetsMethod value old name new ⊎ SetsSaidSize name value old new ⊎ SetsSaidTime name value old new
    ⊎ SetsLimit value old name new ⊎ SetsSaidFlag name value old new

-- ---- an answer

-- This happens; or it can't, whatever the options were to be, and they stay.
abbrev pub SetsIfPossible : (Options → Options → Type 0) → Options → Bool → Options → Type 0
SetsIfPossible Sets old true new = Sets old new
SetsIfPossible Sets old false new = (new ≡ old) × ((any : Options) → Sets old any → ⊥)
