-- The congestion window (RFC 9260, sections 7.2.1 to 7.2.4). Sizes are bytes; each stops at the greatest number of
-- 64 bits. Each definition is one rule of the standard, in other words. Laws over all of them are in dcsctp_spec_laws.
use Rattle.std.specs.Prelude.{ℕ, ◌+◌, ◌-◌, ◌*◌, ◌/◌, ◌%◌, ◌^◌, min, max, Bool, Option, None, Some, nat_lt, nat_le, if◌then◌else◌}
use Rattle.dcsctp_types.specs.declared.options.Options.{Options}
use Rattle.dcsctp_types.specs.declared.congestion.Acknowledged.{Acknowledged}
use Rattle.dcsctp_types.specs.declared.congestion.CongestionControl.{CongestionControl}

-- no greater than a number of 64 bits can be
abbrev pub capped_u64 : ℕ → ℕ
capped_u64 size = min size (2 ^ 64 - 1)

-- Before anything is sent, the window is the initial one, and the threshold is the receive window that the peer announced
-- (section 7.2.1).
abbrev pub new_congestion : Options → ℕ → CongestionControl
new_congestion options window =
    record {
      cwnd = capped_u64 (options.cwnd_mtus_initial * options.mtu);
      ssthresh = window;
      partial_bytes_acked = 0;
      recovery_exit = None;
      mtu = options.mtu;
      least_ssthresh = capped_u64 (options.cwnd_mtus_min * options.mtu);
    }

-- ---- loss

-- After a loss the threshold is half the window, but not below the least (section 7.2.3).
abbrev pub ssthresh_after_loss : CongestionControl → ℕ
ssthresh_after_loss control = max (control.cwnd / 2) control.least_ssthresh

-- When the retransmission timer expires, the threshold is lowered, and the window is one MTU (section 7.2.3). Fast recovery
-- ends, since all that was outstanding is sent again.
abbrev pub after_timeout : CongestionControl → CongestionControl
after_timeout control =
    record control { cwnd = control.mtu; ssthresh = ssthresh_after_loss control; partial_bytes_acked = 0; recovery_exit = None }

-- When fast recovery begins, the threshold is lowered, and the window is the threshold (section 7.2.4). The TSN `exit` ends it:
-- the highest that is outstanding.
abbrev pub in_recovery : ℕ → CongestionControl → CongestionControl
in_recovery exit control =
    record control {
      cwnd = ssthresh_after_loss control;
      ssthresh = ssthresh_after_loss control;
      partial_bytes_acked = 0;
      recovery_exit = Some exit;
    }

-- Where TSNs are found lost outside fast recovery, it begins. Within it, further losses don't lower the window again (section
-- 7.2.4).
abbrev pub after_loss : Option ℕ → ℕ → CongestionControl → CongestionControl
after_loss None exit control = in_recovery exit control
after_loss (Some under_way) exit control = control

-- Is the TSN acknowledged by this cumulative one? It is if it is at most 2^31 - 1 before it (RFC 9260, section 1.6).
abbrev pub is_passed : ℕ → ℕ → Bool
is_passed cumulative tsn = nat_lt ((cumulative + (2 ^ 32 - tsn)) % 2 ^ 32) (2 ^ 31)

-- Fast recovery ends when its exit is acknowledged cumulatively (section 7.2.4).
abbrev pub exit_after : ℕ → Option ℕ → Option ℕ
exit_after cumulative None = None
exit_after cumulative (Some exit) = if is_passed cumulative exit then None else Some exit

-- ---- an acknowledgement

-- In slow start the window grows by the bytes that are acknowledged, but at most by one MTU. It grows only if the cumulative TSN
-- advances and the window was fully used (section 7.2.1).
abbrev pub slow_start : Acknowledged → CongestionControl → CongestionControl
slow_start ack control =
    if ack.advances then (if ack.was_full then record control { cwnd = capped_u64 (control.cwnd + min ack.bytes control.mtu) } else control) else control

-- In congestion avoidance the window grows by one MTU when as many bytes as it has were acknowledged, if it was fully used. Then
-- these bytes are subtracted from the count. If it wasn't fully used, the count stops at the window (section 7.2.2).
abbrev pub with_partial : Acknowledged → ℕ → CongestionControl → CongestionControl
with_partial ack partial control =
    if nat_lt partial control.cwnd then record control { partial_bytes_acked = partial }
    else if ack.was_full then record control { cwnd = capped_u64 (control.cwnd + control.mtu); partial_bytes_acked = partial - control.cwnd }
    else record control { partial_bytes_acked = control.cwnd }

-- In congestion avoidance each acknowledgement adds the bytes that it newly acknowledges to the count (section 7.2.2).
abbrev pub avoidance : Acknowledged → CongestionControl → CongestionControl
avoidance ack control = with_partial ack (capped_u64 (control.partial_bytes_acked + ack.bytes)) control

-- When all that was sent is acknowledged, the count is 0 again (section 7.2.2).
abbrev pub settled_control : Acknowledged → CongestionControl → CongestionControl
settled_control ack control = if ack.is_last then record control { partial_bytes_acked = 0 } else control

-- While the window isn't above the threshold, it is slow start; else it is congestion avoidance (sections 7.2.1 and 7.2.2).
abbrev pub window_grown : Acknowledged → CongestionControl → CongestionControl
window_grown ack control = if nat_le control.cwnd control.ssthresh then slow_start ack control else avoidance ack control

-- In fast recovery an acknowledgement leaves the window (section 7.2.4). Outside the window may grow.
abbrev pub after_acknowledgement : Acknowledged → Option ℕ → CongestionControl → CongestionControl
after_acknowledgement ack None control = settled_control ack (window_grown ack control)
after_acknowledgement ack (Some exit) control = control
