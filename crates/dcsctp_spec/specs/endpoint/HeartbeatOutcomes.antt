-- Whether the peer is still there: HEARTBEAT and its answer, their timers, and the count of errors (RFC 9260, sections
-- 3.3.5, 3.3.6, 8.1 and 8.3).
use Rattle.std.specs.Prelude.{◌==◌, ℕ, ◌+◌, ◌-◌, ◌%◌, ◌^◌, min, Bool, false, nat_lt, Option, None, Some, List, [], ◌∷◌, length, codes, if◌then◌else◌}
use Rattle.std.specs.Duration.{as_nanos}
use Rattle.std.specs.Option.{option_map}
use Rattle.std.specs.Int.{w32, to_be_bytes}
use Rattle.dcsctp_types.specs.wire.Content.{ParameterContent, heartbeat_info}
use Rattle.dcsctp_types.specs.wire.Fields.{u32_at}
use Rattle.dcsctp_types.specs.declared.association.Held.{Held}
use Rattle.dcsctp_types.specs.declared.kinds.BackoffAlgorithm.TheVariants.{Fixed}
use Rattle.dcsctp_types.specs.declared.kinds.ErrorKind.TheVariants.{ParseFailed}
use Rattle.dcsctp_types.specs.declared.options.Options.{Options}
use Rattle.dcsctp_types.specs.Sizes.{word_size}
use Rattle.dcsctp_spec.specs.Packet.{heartbeat, heartbeat_ack, plain, Emission}
use Rattle.dcsctp_spec.specs.endpoint.Endpoint.{Endpoint, Core, cookie_echoed, open_in}
use Rattle.dcsctp_spec.specs.endpoint.Timers.{RunningTimer, TimerSettings, started_timer, timer_after_expiry}
use Rattle.dcsctp_spec.specs.endpoint.TransferMoves.{timed_transfer}
use Rattle.dcsctp_spec.specs.endpoint.Outcome.{Outcome, still, reports, emits, answers_with, to_peer}

-- ---- the count of errors (RFC 9260, section 8.1)

-- One more error, if there is a limit. The count stops one above the limit, and at the greatest number of 32 bits.
abbrev pub error_counted : Option ℕ → ℕ → ℕ
error_counted None count = 0
error_counted (Some limit) count = min (count + 1) (min (limit + 1) (2 ^ 32 - 1))

-- are there more errors than the limit allows?
abbrev pub is_exhausted : Option ℕ → ℕ → Bool
is_exhausted None count = false
is_exhausted (Some limit) count = nat_lt limit count

-- ---- chunks

-- A HEARTBEAT of a known peer is answered with its parameters, if they fit. With the option one of a packet is.
abbrev pub heartbeat_outcome : Endpoint → Core → List ParameterContent → Outcome
heartbeat_outcome e (cookie_echoed my held cookie) parameters = answers_with e (to_peer held (plain (heartbeat_ack parameters)))
heartbeat_outcome e (open_in phase my held) parameters = answers_with e (to_peer held (plain (heartbeat_ack parameters)))
heartbeat_outcome e core parameters = still e

-- The first Heartbeat Info counts,
abbrev pub first_heartbeat_info : List ParameterContent → Option (List ℕ)
first_heartbeat_info [] = None
first_heartbeat_info (heartbeat_info info ∷ parameters) = Some info
first_heartbeat_info (parameter ∷ parameters) = first_heartbeat_info parameters

-- and it has the counter alone, in four bytes.
abbrev pub counter_of : Option (List ℕ) → Option ℕ
counter_of None = None
counter_of (Some info) = if length info == word_size then Some (u32_at 0 info) else None

abbrev pub invalid_info_text : List ℕ
invalid_info_text = codes "Failed to parse HEARTBEAT-ACK; Invalid info parameter"

-- the round trip that a HEARTBEAT's answer measures: by the RFC its first one (RFC 9260, section 8.3)
abbrev pub heartbeat_round_trip : Endpoint → Option ℕ
heartbeat_round_trip e = if e.options.follow_rfc then option_map (λ sent. e.moment - sent) e.heartbeat_sent else None

-- The peer is there: no answer is awaited, and no error counts.
abbrev pub endpoint_answered : Endpoint → Endpoint
endpoint_answered e =
    record e {
      error_count = 0;
      heartbeat_sent = None;
      timers = record e.timers { heartbeat_timeout = None };
      queues = record e.queues { transfer = option_map (timed_transfer (heartbeat_round_trip e)) e.queues.transfer };
    }

-- A HEARTBEAT ACK counts if it carries the present counter.
abbrev pub heartbeat_ack_outcome : Endpoint → Option ℕ → Outcome
heartbeat_ack_outcome e None = reports e ParseFailed invalid_info_text
heartbeat_ack_outcome e (Some counter) = if counter == e.heartbeat_counter then still (endpoint_answered e) else still e

-- ---- timers

-- what is left of a timer that expires at this moment
abbrev pub expired_of : ℕ → Option RunningTimer → Option RunningTimer
expired_of moment None = None
expired_of moment (Some timer) = timer_after_expiry moment timer

-- An answer is awaited for as long as the first retransmission timeout, once.
abbrev pub heartbeat_timeout_settings : Options → TimerSettings
heartbeat_timeout_settings options =
    record { duration = as_nanos options.rto_initial; terms = record { backoff = Fixed; max_restarts = Some 0; max_backoff = None } }

-- The interval continues.
abbrev pub interval_expired : Endpoint → Endpoint
interval_expired e = record e { timers = record e.timers { heartbeat_interval = expired_of e.moment e.timers.heartbeat_interval } }

-- The counter goes up by one, modulo 2^32, and its answer is awaited.
abbrev pub beating : Endpoint → Endpoint
beating e =
    record e {
      heartbeat_counter = (e.heartbeat_counter + 1) % 2 ^ 32;
      heartbeat_sent = Some e.moment;
      timers = record e.timers { heartbeat_timeout = started_timer e.moment (heartbeat_timeout_settings e.options) };
    }

-- a HEARTBEAT with this counter
abbrev pub heartbeat_emission : Held → ℕ → Emission
heartbeat_emission held counter = to_peer held (plain (heartbeat (heartbeat_info (to_be_bytes w32 counter) ∷ [])))

abbrev pub beat : Endpoint → Held → Outcome
beat e held = emits (beating e) [] (heartbeat_emission held (beating e).heartbeat_counter)

-- A HEARTBEAT is sent, if the peer is known.
abbrev pub interval_outcome : Endpoint → Core → Outcome
interval_outcome e (cookie_echoed my held cookie) = beat (interval_expired e) held
interval_outcome e (open_in phase my held) = beat (interval_expired e) held
interval_outcome e core = still (interval_expired e)

-- The answer didn't come: an error is counted.
abbrev pub timeout_outcome : Endpoint → Outcome
timeout_outcome e =
    still (record e {
      error_count = error_counted e.options.max_retransmissions e.error_count;
      timers = record e.timers { heartbeat_timeout = expired_of e.moment e.timers.heartbeat_timeout };
    })
