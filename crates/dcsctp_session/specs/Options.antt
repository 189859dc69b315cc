-- What the numbers that C writes say of options.
use Rattle.std.specs.Prelude.{◌≡◌, ◌==◌, ◌-◌, ◌^◌, ◌&&◌, ◌||◌, nat_lt, bit_and, ℕ, min, not, if◌then◌else◌, Bool, true, false, Option, Some, None, option_map}
use Rattle.std.specs.Duration.{as_nanos}
use Rattle.std.specs.declared.time.Duration.{Duration}
use Rattle.dcsctp_core.specs.types.Ids.{lifecycle_number}
use Rattle.dcsctp_core.specs.types.Settings.{IsDefault, milliseconds}
use Rattle.dcsctp_core.specs.types.declared.ids.LifecycleId.{LifecycleId}
use Rattle.dcsctp_core.specs.types.declared.options.Options.{Options}
use Rattle.dcsctp_core.specs.types.declared.message.SendOptions.{SendOptions}
use Rattle.dcsctp_session.specs.declared.options.OptionsRecord.{OptionsRecord}
use Rattle.dcsctp_session.specs.declared.options.SendOptionsRecord.{SendOptionsRecord}

-- the greatest number of nanoseconds of a field, which means none as well
abbrev pub never : ℕ
never = 2 ^ 64 - 1

abbrev pub time_number : Duration → ℕ
time_number time = min (as_nanos time) never

abbrev pub optional_time_number : Option Duration → ℕ
optional_time_number None = never
optional_time_number (Some time) = time_number time

-- the time that a number of nanoseconds says, of which the greatest says none
abbrev pub optional_nanos : ℕ → Option ℕ
optional_nanos nanos = if nanos == never then None else Some nanos

abbrev pub no_option_limit : ℕ
no_option_limit = 2 ^ 32 - 1

abbrev pub limit_number : Option ℕ → ℕ
limit_number None = no_option_limit
limit_number (Some limit) = limit

abbrev pub optional_limit : ℕ → Option ℕ
optional_limit number = if number == no_option_limit then None else Some number

-- Zero says no, and all else yes.
abbrev pub flag : ℕ → Bool
flag number = not (number == 0)

-- the bytes of a record of options
abbrev pub options_size : ℕ
options_size = 216

-- Does the record have that size? A caller may have that of another version.
abbrev pub has_options_size : OptionsRecord → Bool
has_options_size numbers = numbers.size == options_size

-- sizes and counts
pub record SaysSizes (numbers : OptionsRecord) (options : Options) : Type 0 where
  pub mtu : options.mtu ≡ numbers.mtu
  pub max_message_size : options.max_message_size ≡ numbers.max_message_size
  pub max_receiver_window_buffer_size : options.max_receiver_window_buffer_size ≡ numbers.max_receiver_window_buffer_size
  pub max_send_buffer_size : options.max_send_buffer_size ≡ numbers.max_send_buffer_size
  pub per_stream_send_queue_limit : options.per_stream_send_queue_limit ≡ numbers.per_stream_send_queue_limit
  pub total_buffered_amount_low_threshold : options.total_buffered_amount_low_threshold ≡ numbers.total_buffered_amount_low_threshold
  pub default_stream_buffered_amount_low_threshold : options.default_stream_buffered_amount_low_threshold ≡ numbers.default_stream_buffered_amount_low_threshold
  pub cwnd_mtus_initial : options.cwnd_mtus_initial ≡ numbers.cwnd_mtus_initial
  pub cwnd_mtus_min : options.cwnd_mtus_min ≡ numbers.cwnd_mtus_min
  pub max_burst : options.max_burst ≡ numbers.max_burst
  pub default_stream_priority : options.default_stream_priority ≡ numbers.default_stream_priority

-- times in nanoseconds, and limits
pub record SaysTimes (numbers : OptionsRecord) (options : Options) : Type 0 where
  pub rtt_max : as_nanos options.rtt_max ≡ numbers.rtt_max
  pub rto_initial : as_nanos options.rto_initial ≡ numbers.rto_initial
  pub rto_max : as_nanos options.rto_max ≡ numbers.rto_max
  pub rto_min : as_nanos options.rto_min ≡ numbers.rto_min
  pub t1_init_timeout : as_nanos options.t1_init_timeout ≡ numbers.t1_init_timeout
  pub t1_cookie_timeout : as_nanos options.t1_cookie_timeout ≡ numbers.t1_cookie_timeout
  pub cookie_lifetime : as_nanos options.cookie_lifetime ≡ numbers.cookie_lifetime
  pub max_timer_backoff_duration : option_map as_nanos options.max_timer_backoff_duration ≡ optional_nanos numbers.max_timer_backoff_duration
  pub heartbeat_interval : as_nanos options.heartbeat_interval ≡ numbers.heartbeat_interval
  pub delayed_ack_max_timeout : as_nanos options.delayed_ack_max_timeout ≡ numbers.delayed_ack_max_timeout
  pub min_rtt_variance : as_nanos options.min_rtt_variance ≡ numbers.min_rtt_variance
  pub max_retransmissions : options.max_retransmissions ≡ optional_limit numbers.max_retransmissions
  pub max_init_retransmits : options.max_init_retransmits ≡ optional_limit numbers.max_init_retransmits

-- the same of numbers that are written: a time that doesn't fit is the greatest that does
pub record ShowsTimes (numbers : OptionsRecord) (options : Options) : Type 0 where
  pub rtt_max : numbers.rtt_max ≡ time_number options.rtt_max
  pub rto_initial : numbers.rto_initial ≡ time_number options.rto_initial
  pub rto_max : numbers.rto_max ≡ time_number options.rto_max
  pub rto_min : numbers.rto_min ≡ time_number options.rto_min
  pub t1_init_timeout : numbers.t1_init_timeout ≡ time_number options.t1_init_timeout
  pub t1_cookie_timeout : numbers.t1_cookie_timeout ≡ time_number options.t1_cookie_timeout
  pub cookie_lifetime : numbers.cookie_lifetime ≡ time_number options.cookie_lifetime
  pub max_timer_backoff_duration : numbers.max_timer_backoff_duration ≡ optional_time_number options.max_timer_backoff_duration
  pub heartbeat_interval : numbers.heartbeat_interval ≡ time_number options.heartbeat_interval
  pub delayed_ack_max_timeout : numbers.delayed_ack_max_timeout ≡ time_number options.delayed_ack_max_timeout
  pub min_rtt_variance : numbers.min_rtt_variance ≡ time_number options.min_rtt_variance
  pub max_retransmissions : numbers.max_retransmissions ≡ limit_number options.max_retransmissions
  pub max_init_retransmits : numbers.max_init_retransmits ≡ limit_number options.max_init_retransmits

-- ports, streams and what is offered
pub record SaysOffers (numbers : OptionsRecord) (options : Options) : Type 0 where
  pub local_port : options.local_port ≡ numbers.local_port
  pub remote_port : options.remote_port ≡ numbers.remote_port
  pub incoming_streams : options.announced_maximum_incoming_streams ≡ numbers.announced_maximum_incoming_streams
  pub outgoing_streams : options.announced_maximum_outgoing_streams ≡ numbers.announced_maximum_outgoing_streams
  pub zero_checksum_method : options.zero_checksum_alternate_error_detection_method.0 ≡ numbers.zero_checksum_method
  pub partial_reliability : options.enable_partial_reliability ≡ flag numbers.enable_partial_reliability
  pub message_interleaving : options.enable_message_interleaving ≡ flag numbers.enable_message_interleaving
  pub handover : options.enable_handover_with_outstanding_data ≡ flag numbers.enable_handover_with_outstanding_data
  pub follow_rfc : options.follow_rfc ≡ flag numbers.follow_rfc

-- The numbers say these options, as far as options have an effect. Where the caller checks checksums, the socket accepts each.
pub record SaysOptions (numbers : OptionsRecord) (options : Options) : Type 0 where
  pub sizes : SaysSizes numbers options
  pub times : SaysTimes numbers options
  pub offers : SaysOffers numbers options
  pub checksum_verification : options.disable_checksum_verification ≡ (flag numbers.disable_checksum_verification || flag numbers.checksum_offload)

-- what is written of a switch
abbrev pub flag_number : Bool → ℕ
flag_number false = 0
flag_number true = 1

-- Switches are written as 0 or 1. A caller who checks checksums has switched no check off.
pub record ShowsFlags (numbers : OptionsRecord) (options : Options) (offload : Bool) : Type 0 where
  pub partial_reliability : numbers.enable_partial_reliability ≡ flag_number options.enable_partial_reliability
  pub message_interleaving : numbers.enable_message_interleaving ≡ flag_number options.enable_message_interleaving
  pub checksum_verification : numbers.disable_checksum_verification ≡ flag_number (options.disable_checksum_verification && not offload)
  pub handover : numbers.enable_handover_with_outstanding_data ≡ flag_number options.enable_handover_with_outstanding_data
  pub follow_rfc : numbers.follow_rfc ≡ flag_number options.follow_rfc
  pub checksum_offload : numbers.checksum_offload ≡ flag_number offload

-- The numbers are written for these options, and for whether the caller makes and checks checksums.
pub record ShowsOptions (numbers : OptionsRecord) (options : Options) (offload : Bool) : Type 0 where
  pub size : numbers.size ≡ options_size
  pub sizes : SaysSizes numbers options
  pub times : ShowsTimes numbers options
  pub offers : SaysOffers numbers options
  pub flags : ShowsFlags numbers options offload

-- The options of a caller in C who sets none: the default ones, but that the RFCs are followed where the port doesn't, that no wait
-- for an answer but the first is longer than this, and that 60 of them may be in vain, in a handshake too.
abbrev pub standard_options : Duration → Options → Options
standard_options longest options =
    record options {
      follow_rfc = true;
      max_timer_backoff_duration = Some longest;
      max_retransmissions = Some 60;
      max_init_retransmits = Some 60;
    }

-- The numbers are written for these, and the longest wait is 3 s.
pub record ShowsDefault (numbers : OptionsRecord) : Type 0 where
  pub options : Options
  pub longest : Duration
  pub shows : ShowsOptions numbers (standard_options longest options) false
  pub default : IsDefault options
  pub wait : as_nanos longest ≡ milliseconds 3000

-- a value that counts if the bit is set
abbrev pub where_set : {T : Type 0} → Bool → T → Option T
where_set true x = Some x
where_set false x = None

-- is this bit of the flags set?
abbrev pub has_bit : ℕ → ℕ → Bool
has_bit flags bit = not (bit_and flags bit == 0)

-- the number of a name, 0 for none
abbrev pub name_number : Option LifecycleId → ℕ
name_number None = 0
name_number (Some id) = lifecycle_number id

-- Are all bits 0 that have no meaning, those of what is reserved too?
abbrev pub is_valid_sending : SendOptionsRecord → Bool
is_valid_sending numbers = nat_lt numbers.flags 8 && numbers.reserved == 0

-- The numbers say how a message is to be sent.
pub record SaysSendOptions (numbers : SendOptionsRecord) (options : SendOptions) : Type 0 where
  pub unordered : options.unordered ≡ has_bit numbers.flags 1
  pub lifetime : option_map as_nanos options.lifetime ≡ where_set (has_bit numbers.flags 2) numbers.lifetime
  pub max_retransmissions : options.max_retransmissions ≡ where_set (has_bit numbers.flags 4) numbers.max_retransmissions
  pub lifecycle_id : name_number options.lifecycle_id ≡ numbers.lifecycle_id
