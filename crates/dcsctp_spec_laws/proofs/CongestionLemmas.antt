-- The bounds of the congestion window, by cases on what the acknowledgement says.
use Rattle.std.proofs.Common.{◌≡◌, ℕ, ◌+◌, ◌-◌, ◌^◌, ◌<◌, ◌≤◌, nat_le, nat_lt, Bool, true, false, cond, min, Option, None, Some, refl, ap, arith}
use Rattle.std.proofs.lemmas.Bool.Decides.{nat_tests}
use Rattle.dcsctp_spec_lemmas.specs.types.declared.congestion.Acknowledged.{Acknowledged}
use Rattle.dcsctp_spec_lemmas.specs.types.declared.congestion.CongestionControl.{CongestionControl}
use Rattle.dcsctp_spec_lemmas.specs.types.queues.Congestion.{capped_u64, after_acknowledgement, after_loss, slow_start, avoidance, window_grown}
use Rattle.dcsctp_spec_laws.specs.CongestionLaws.{control_acknowledged, control_after_loss, IsBounded, WindowIsBounded}

-- what an acknowledgement does to the window, and what it leaves
record Bounds (ack : Acknowledged) (control new : CongestionControl) : Type 0 where
  pub little : new.cwnd ≤ control.cwnd + control.mtu
  pub shrinks : control.cwnd < 2 ^ 64 → control.cwnd ≤ new.cwnd
  pub high : control.cwnd < 2 ^ 64 → new.cwnd < 2 ^ 64
  pub threshold : new.ssthresh ≡ control.ssthresh
  pub mtu : new.mtu ≡ control.mtu
  pub least : new.least_ssthresh ≡ control.least_ssthresh
  pub full : control.cwnd < new.cwnd → ack.was_full ≡ true
  pub slowly : control.cwnd < new.cwnd → control.cwnd ≤ control.ssthresh → (ack.advances ≡ true) × (new.cwnd ≤ control.cwnd + ack.bytes)
  pub avoided : control.cwnd < new.cwnd → control.ssthresh < control.cwnd → control.cwnd ≤ control.partial_bytes_acked + ack.bytes

-- the window stays
bounds_same : (ack : Acknowledged) (control : CongestionControl) (partial : ℕ) → Bounds ack control (record control { partial_bytes_acked = partial })
bounds_same ack control partial =
    record {
      little = omega arith;
      shrinks = λ small. omega arith;
      high = λ small. small;
      threshold = refl;
      mtu = refl;
      least = refl;
      full = λ more. absurd (omega (arith, more));
      slowly = λ more slow. absurd (omega (arith, more));
      avoided = λ more above. absurd (omega (arith, more));
    }

bounds_slow : (ack : Acknowledged) (control : CongestionControl) (advances full : Bool) → ack.advances ≡ advances → ack.was_full ≡ full
    → control.cwnd ≤ control.ssthresh
    → Bounds ack control (cond advances (cond full (record control { cwnd = capped_u64 (control.cwnd + min ack.bytes control.mtu) }) control) control)
bounds_slow ack control false full advances was_full slow = bounds_same ack control control.partial_bytes_acked
bounds_slow ack control true false advances was_full slow = bounds_same ack control control.partial_bytes_acked
bounds_slow ack control true true advances was_full slow =
    record {
      little = omega arith;
      shrinks = λ small. omega (arith, small);
      high = λ small. omega (arith, small);
      threshold = refl;
      mtu = refl;
      least = refl;
      full = λ more. was_full;
      slowly = λ more still. (advances, omega arith);
      avoided = λ more above. absurd (omega (arith, slow, above));
    }

bounds_avoidance : (ack : Acknowledged) (control : CongestionControl) (partial : ℕ) (below full : Bool) → nat_lt partial control.cwnd ≡ below
    → ack.was_full ≡ full → partial ≤ control.partial_bytes_acked + ack.bytes → control.ssthresh < control.cwnd
    → Bounds ack control
    (cond below (record control { partial_bytes_acked = partial })
    (cond full (record control { cwnd = capped_u64 (control.cwnd + control.mtu); partial_bytes_acked = partial - control.cwnd })
    (record control { partial_bytes_acked = control.cwnd })))
bounds_avoidance ack control partial true full below was_full counts above = bounds_same ack control partial
bounds_avoidance ack control partial false false below was_full counts above = bounds_same ack control control.cwnd
bounds_avoidance ack control partial false true below was_full counts above =
    record {
      little = omega arith;
      shrinks = λ small. omega (arith, small);
      high = λ small. omega (arith, small);
      threshold = refl;
      mtu = refl;
      least = refl;
      full = λ more. was_full;
      slowly = λ more slow. absurd (omega (arith, slow, above));
      avoided = λ more above_it. let reached : control.cwnd ≤ partial = grind (arith, nat_tests, below) in omega (arith, counts, reached);
    }

bounds_grown : (ack : Acknowledged) (control : CongestionControl) (slow : Bool) → nat_le control.cwnd control.ssthresh ≡ slow
    → Bounds ack control (cond slow (slow_start ack control) (avoidance ack control))
bounds_grown ack control true is = bounds_slow ack control ack.advances ack.was_full refl refl (grind (arith, nat_tests, is))
bounds_grown ack control false is =
    bounds_avoidance ack control (capped_u64 (control.partial_bytes_acked + ack.bytes))
    (nat_lt (capped_u64 (control.partial_bytes_acked + ack.bytes)) control.cwnd) ack.was_full refl refl (omega arith) (grind (arith, nat_tests, is))

-- The count is none of the window.
bounds_settled : (ack : Acknowledged) (control new : CongestionControl) (last : Bool) → Bounds ack control new
    → Bounds ack control (cond last (record new { partial_bytes_acked = 0 }) new)
bounds_settled ack control new false bounds = bounds
bounds_settled ack control new true bounds =
    record {
      little = bounds.little;
      shrinks = bounds.shrinks;
      high = bounds.high;
      threshold = bounds.threshold;
      mtu = bounds.mtu;
      least = bounds.least;
      full = bounds.full;
      slowly = bounds.slowly;
      avoided = bounds.avoided;
    }

bounds_by : (ack : Acknowledged) (control : CongestionControl) (exit : Option ℕ) → Bounds ack control (after_acknowledgement ack exit control)
bounds_by ack control (Some exit) = bounds_same ack control control.partial_bytes_acked
bounds_by ack control None =
    bounds_settled ack control (window_grown ack control) ack.is_last
    (bounds_grown ack control (nat_le control.cwnd control.ssthresh) refl)

bounds : (ack : Acknowledged) (control : CongestionControl) → Bounds ack control (control_acknowledged ack control)
bounds ack control = bounds_by ack control control.recovery_exit

-- ---- loss

in_recovery_stays : (ack : Acknowledged) (exit : ℕ) (control : CongestionControl) → control.recovery_exit ≡ Some exit
    → control_acknowledged ack control ≡ control
in_recovery_stays ack exit control is = ap (λ found. after_acknowledgement ack found control) is

in_recovery_lost : (exit later : ℕ) (control : CongestionControl) → control.recovery_exit ≡ Some exit → control_after_loss later control ≡ control
in_recovery_lost exit later control is = ap (λ found. after_loss found later control) is

loss_bounded : (exit : ℕ) (control : CongestionControl) (found : Option ℕ) → IsBounded control → IsBounded (after_loss found exit control)
loss_bounded exit control (Some under_way) bounded = bounded
loss_bounded exit control None bounded =
    record { cwnd = omega (arith, bounded.cwnd, bounded.least); mtu = bounded.mtu; least = bounded.least; low = omega arith }

acknowledgement_bounded : (ack : Acknowledged) (control : CongestionControl) → IsBounded control → IsBounded (control_acknowledged ack control)
acknowledgement_bounded ack control bounded =
    let b = bounds ack control in
    record {
      cwnd = b.high bounded.cwnd;
      mtu = rw b.mtu bounded.mtu;
      least = rw b.least bounded.least;
      low = rw (b.mtu, b.least) (omega (arith, bounded.low, b.shrinks bounded.cwnd));
    }

pub window_is_bounded : WindowIsBounded
window_is_bounded =
    record {
      grows_little = λ ack control. (bounds ack control).little;
      never_shrinks = λ ack control. (bounds ack control).shrinks;
      same_threshold = λ ack control. (bounds ack control).threshold;
      grows = λ ack control more.
          let b = bounds ack control in record { full = b.full more; slowly_started = b.slowly more; avoided = b.avoided more };
      recovery_stays = in_recovery_stays;
      lost_once = in_recovery_lost;
      loss_halves = λ exit control is. ap (λ found. (after_loss found exit control).cwnd) is;
      loss_threshold = λ exit control is. rw is refl;
      loss_begins = λ exit control is. ap (λ found. (after_loss found exit control).recovery_exit) is;
      timeout_window = λ control. refl;
      timeout_threshold = λ control. refl;
      timeout_ends = λ control. refl;
      acknowledgement_keeps = acknowledgement_bounded;
      loss_keeps = λ exit control bounded. loss_bounded exit control control.recovery_exit bounded;
      timeout_keeps = λ control bounded. record { cwnd = bounded.mtu; mtu = bounded.mtu; least = bounded.least; low = omega arith };
    }
