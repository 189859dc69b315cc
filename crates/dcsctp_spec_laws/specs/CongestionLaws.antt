-- What bounds the congestion window (RFC 9260, sections 7.2.1 to 7.2.4), over every acknowledgement, loss and timeout.
use Rattle.std.specs.Prelude.{◌≡◌, ℕ, ◌+◌, ◌/◌, ◌^◌, ◌<◌, ◌≤◌, min, max, true, None, Some}
use Rattle.dcsctp_spec_lemmas.specs.types.declared.congestion.Acknowledged.{Acknowledged}
use Rattle.dcsctp_spec_lemmas.specs.types.declared.congestion.CongestionControl.{CongestionControl}
use Rattle.dcsctp_spec_lemmas.specs.types.queues.Congestion.{after_acknowledgement, after_loss, after_timeout}

-- what an acknowledgement, a loss whose recovery ends at this TSN, and a timeout lead to
abbrev pub control_acknowledged : Acknowledged → CongestionControl → CongestionControl
control_acknowledged ack control = after_acknowledgement ack control.recovery_exit control

abbrev pub control_after_loss : ℕ → CongestionControl → CongestionControl
control_after_loss exit control = after_loss control.recovery_exit exit control

-- An acknowledgement outside fast recovery has made the window grow.
pub record GrowsByAcknowledgement (ack : Acknowledged) (control : CongestionControl) : Type 0 where
  -- The window was fully used.
  pub full : ack.was_full ≡ true
  -- In slow start the cumulative TSN has advanced, and the window grows by no more than was acknowledged.
  pub slowly_started : control.cwnd ≤ control.ssthresh → (ack.advances ≡ true) × ((control_acknowledged ack control).cwnd ≤ control.cwnd + ack.bytes)
  -- In congestion avoidance as many bytes as the window has were acknowledged since it last grew.
  pub avoided : control.ssthresh < control.cwnd → control.cwnd ≤ control.partial_bytes_acked + ack.bytes

-- the window and what it is made of, as numbers of 64 bits; and it isn't below an MTU and the least threshold
pub record IsBounded (control : CongestionControl) : Type 0 where
  pub cwnd : control.cwnd < 2 ^ 64
  pub mtu : control.mtu < 2 ^ 64
  pub least : control.least_ssthresh < 2 ^ 64
  pub low : min control.mtu control.least_ssthresh ≤ control.cwnd

pub record WindowIsBounded : Type 0 where
  -- An acknowledgement lets the window grow by one MTU at most, and never shrink. The threshold stays.
  pub grows_little : (ack : Acknowledged) (control : CongestionControl) → (control_acknowledged ack control).cwnd ≤ control.cwnd + control.mtu
  pub never_shrinks : (ack : Acknowledged) (control : CongestionControl) → control.cwnd < 2 ^ 64 → control.cwnd ≤ (control_acknowledged ack control).cwnd
  pub same_threshold : (ack : Acknowledged) (control : CongestionControl) → (control_acknowledged ack control).ssthresh ≡ control.ssthresh
  -- It grows only if it was fully used, and by what was acknowledged.
  pub grows : (ack : Acknowledged) (control : CongestionControl) → control.cwnd < (control_acknowledged ack control).cwnd → GrowsByAcknowledgement ack control
  -- In fast recovery an acknowledgement leaves all, and so does a loss.
  pub recovery_stays : (ack : Acknowledged) (exit : ℕ) (control : CongestionControl) → control.recovery_exit ≡ Some exit
      → control_acknowledged ack control ≡ control
  pub lost_once : (exit later : ℕ) (control : CongestionControl) → control.recovery_exit ≡ Some exit → control_after_loss later control ≡ control
  -- Outside, a loss sets the window to the threshold: half of what it was, but at least the least one. Fast recovery begins.
  pub loss_halves : (exit : ℕ) (control : CongestionControl) → control.recovery_exit ≡ None
      → (control_after_loss exit control).cwnd ≡ max (control.cwnd / 2) control.least_ssthresh
  pub loss_threshold : (exit : ℕ) (control : CongestionControl) → control.recovery_exit ≡ None
      → (control_after_loss exit control).ssthresh ≡ (control_after_loss exit control).cwnd
  pub loss_begins : (exit : ℕ) (control : CongestionControl) → control.recovery_exit ≡ None → (control_after_loss exit control).recovery_exit ≡ Some exit
  -- A timeout leaves one MTU, the threshold as a loss does, and no fast recovery.
  pub timeout_window : (control : CongestionControl) → (after_timeout control).cwnd ≡ control.mtu
  pub timeout_threshold : (control : CongestionControl) → (after_timeout control).ssthresh ≡ max (control.cwnd / 2) control.least_ssthresh
  pub timeout_ends : (control : CongestionControl) → (after_timeout control).recovery_exit ≡ None
  -- Each of them keeps the window within these bounds.
  pub acknowledgement_keeps : (ack : Acknowledged) (control : CongestionControl) → IsBounded control → IsBounded (control_acknowledged ack control)
  pub loss_keeps : (exit : ℕ) (control : CongestionControl) → IsBounded control → IsBounded (control_after_loss exit control)
  pub timeout_keeps : (control : CongestionControl) → IsBounded control → IsBounded (after_timeout control)
