-- The retransmission timeout by the round trips that were measured (RFC 9260, section 6.3.1). Durations are
-- whole nanoseconds.
use Rattle.std.specs.Prelude.{ℕ, ◌+◌, ◌-◌, ◌*◌, ◌/◌, min, max, Option, None, Some, nat_lt, if◌then◌else◌}
use Rattle.std.specs.Duration.{as_nanos}
use Rattle.dcsctp_types.specs.declared.options.Options.{Options}
use Rattle.dcsctp_spec.specs.endpoint.Timers.{longest_wait}

-- the bounds that the options set
pub record TimeoutBounds : Type 0 where
  -- a longer round trip isn't taken into account
  pub rtt_max : ℕ
  pub rto_min : ℕ
  pub rto_max : ℕ
  -- the least that counts for four variances
  pub min_rtt_variance : ℕ

pub record TimeoutState : Type 0 where
  -- the retransmission timeout
  pub rto : ℕ
  -- the smoothed round trip
  pub srtt : ℕ
  -- None: no round trip was measured yet
  pub variance : Option ℕ
  pub bounds : TimeoutBounds
  -- the longest that a timer which began with this timeout waits once it has expired, if it repeats a request; None: no limit
  pub longest_wait : Option ℕ

-- before any round trip was measured: neither duration is cut
abbrev pub new_timeout : Options → TimeoutState
new_timeout options =
    record {
      rto = as_nanos options.rto_initial;
      srtt = as_nanos options.rto_initial;
      variance = None;
      bounds = record {
        rtt_max = as_nanos options.rtt_max;
        rto_min = as_nanos options.rto_min;
        rto_max = as_nanos options.rto_max;
        min_rtt_variance = as_nanos options.min_rtt_variance;
      };
      longest_wait = longest_wait options;
    }

-- |a - b|
abbrev pub absolute_difference : ℕ → ℕ → ℕ
absolute_difference a b = max a b - min a b

-- SRTT with one more round trip: the first as it is, later ones with weight 1/8
abbrev pub smoothed_round_trip : Option ℕ → ℕ → ℕ → ℕ
smoothed_round_trip None srtt rtt = rtt
smoothed_round_trip (Some variance) srtt rtt = (7 * srtt + rtt) / 8

-- RTTVAR with one more round trip: half the first, later ones with weight 1/4
abbrev pub variance_with : Option ℕ → ℕ → ℕ → ℕ
variance_with None srtt rtt = rtt / 2
variance_with (Some variance) srtt rtt = (3 * variance + absolute_difference srtt rtt) / 4

-- RTO = SRTT + 4 * RTTVAR, raised to the least and then cut to the greatest
abbrev pub timeout_for : TimeoutBounds → ℕ → ℕ → ℕ
timeout_for bounds srtt variance = min (max (srtt + max (4 * variance) bounds.min_rtt_variance) bounds.rto_min) bounds.rto_max

-- the timeout with this smoothed round trip and variance
abbrev pub measured_timeout : TimeoutState → ℕ → ℕ → TimeoutState
measured_timeout timeout srtt variance =
    record timeout { rto = timeout_for timeout.bounds srtt variance; srtt = srtt; variance = Some variance }

-- one more round trip
abbrev pub timeout_after : ℕ → TimeoutState → TimeoutState
timeout_after rtt timeout =
    if nat_lt timeout.bounds.rtt_max rtt then timeout
    else measured_timeout timeout (smoothed_round_trip timeout.variance timeout.srtt rtt) (variance_with timeout.variance timeout.srtt rtt)
