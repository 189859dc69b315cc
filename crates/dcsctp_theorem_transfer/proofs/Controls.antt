-- Each change of the congestion window keeps room for a packet.
use Rattle.std.proofs.Common.{◌≡◌, ◌≤◌, ◌<◌, ◌+◌, ◌*◌, ◌^◌, ℕ, zero, suc, nat_le, nat_lt, Bool, true, false, if◌then◌else◌, Option, None, Some, refl, ◌∙◌, arith}
use Rattle.dcsctp_spec_lemmas.specs.types.declared.congestion.Acknowledged.{Acknowledged}
use Rattle.dcsctp_spec_lemmas.specs.types.declared.congestion.CongestionControl.{CongestionControl}
use Rattle.dcsctp_spec_lemmas.specs.types.declared.options.Options.{Options}
use Rattle.dcsctp_spec_lemmas.specs.types.queues.Congestion.{capped_u64, new_congestion, after_timeout, after_loss, slow_start, with_partial, avoidance, settled_control, window_grown, after_acknowledgement}
use Rattle.dcsctp_spec_laws.specs.CongestionLaws.{IsBounded}
use Rattle.dcsctp_spec_laws.proofs.CongestionLemmas.{window_is_bounded}
use Rattle.dcsctp_theorem_transfer.specs.Windows.{AllowPacket}

-- The size of a packet and the least threshold stay.
pub record StayLeast (old new : CongestionControl) : Type 0 where
  pub mtu : new.mtu ≡ old.mtu
  pub least : new.least_ssthresh ≡ old.least_ssthresh

by_test : (b : Bool) (old one other : CongestionControl) → StayLeast old one → StayLeast old other → StayLeast old (if b then one else other)
by_test true old one other first second = first
by_test false old one other first second = second

same_least : (control : CongestionControl) → StayLeast control control
same_least control = record { mtu = refl; least = refl }

slow_stays : (ack : Acknowledged) (control : CongestionControl) → StayLeast control (slow_start ack control)
slow_stays ack control =
    by_test ack.advances control _ control (by_test ack.was_full control _ control (record { mtu = refl; least = refl }) (same_least control)) (same_least control)

partial_stays : (ack : Acknowledged) (partial : ℕ) (control : CongestionControl) → StayLeast control (with_partial ack partial control)
partial_stays ack partial control =
    by_test (nat_lt partial control.cwnd) control _ _ (record { mtu = refl; least = refl })
    (by_test ack.was_full control _ _ (record { mtu = refl; least = refl }) (record { mtu = refl; least = refl }))

grown_stays : (ack : Acknowledged) (control : CongestionControl) → StayLeast control (window_grown ack control)
grown_stays ack control =
    by_test (nat_le control.cwnd control.ssthresh) control (slow_start ack control) (avoidance ack control) (slow_stays ack control)
    (partial_stays ack (capped_u64 (control.partial_bytes_acked + ack.bytes)) control)

settled_stays : (ack : Acknowledged) (old control : CongestionControl) → StayLeast old control → StayLeast old (settled_control ack control)
settled_stays ack old control stays = by_test ack.is_last old _ control (record { mtu = stays.mtu; least = stays.least }) stays

acknowledged_stays : (ack : Acknowledged) (exit : Option ℕ) (control : CongestionControl) → StayLeast control (after_acknowledgement ack exit control)
acknowledged_stays ack None control = settled_stays ack control (window_grown ack control) (grown_stays ack control)
acknowledged_stays ack (Some exit) control = same_least control

lost_stays : (found : Option ℕ) (exit : ℕ) (control : CongestionControl) → StayLeast control (after_loss found exit control)
lost_stays None exit control = record { mtu = refl; least = refl }
lost_stays (Some under_way) exit control = same_least control

-- ---- room for a packet

-- The options allow it.
pub record Allows (options : Options) : Type 0 where
  pub packet : AllowPacket options
  pub small : options.mtu < 2 ^ 64

pub record IsWide (options : Options) (control : CongestionControl) : Type 0 where
  pub within : IsBounded control
  pub mtu : control.mtu ≡ options.mtu
  pub least : control.least_ssthresh ≡ capped_u64 (options.cwnd_mtus_min * options.mtu)

-- so many packets are as long as one, at least
many_fit : (count size : ℕ) → 1 ≤ count → size ≤ count * size
many_fit zero size one = absurd (omega (arith, one))
many_fit (suc more) size one = omega arith

pub new_wide : (options : Options) (window : ℕ) → Allows options → IsWide options (new_congestion options window)
new_wide options window allows =
    let first : options.mtu ≤ options.cwnd_mtus_initial * options.mtu = many_fit options.cwnd_mtus_initial options.mtu allows.packet.initial in
    let small : options.mtu < 2 ^ 64 = allows.small in
    record {
      within = record { cwnd = omega arith; mtu = small; least = omega arith; low = omega (arith, first, small) };
      mtu = refl;
      least = refl;
    }

stays_wide : (options : Options) (old new : CongestionControl) → IsWide options old → StayLeast old new → IsBounded new → IsWide options new
stays_wide options old new h stays within = record { within = within; mtu = stays.mtu ∙ h.mtu; least = stays.least ∙ h.least }

pub acknowledged_wide : (options : Options) (ack : Acknowledged) (control : CongestionControl) → IsWide options control
    → IsWide options (after_acknowledgement ack control.recovery_exit control)
acknowledged_wide options ack control h =
    stays_wide options control _ h (acknowledged_stays ack control.recovery_exit control) (window_is_bounded.acknowledgement_keeps ack control h.within)

pub lost_wide : (options : Options) (exit : ℕ) (control : CongestionControl) → IsWide options control → IsWide options (after_loss control.recovery_exit exit control)
lost_wide options exit control h = stays_wide options control _ h (lost_stays control.recovery_exit exit control) (window_is_bounded.loss_keeps exit control h.within)

pub timeout_wide : (options : Options) (control : CongestionControl) → IsWide options control → IsWide options (after_timeout control)
timeout_wide options control h = stays_wide options control _ h (record { mtu = refl; least = refl }) (window_is_bounded.timeout_keeps control h.within)

pub exit_wide : (options : Options) (exit : Option ℕ) (control : CongestionControl) → IsWide options control → IsWide options (record control { recovery_exit = exit })
exit_wide options exit control h =
    record { within = record { cwnd = h.within.cwnd; mtu = h.within.mtu; least = h.within.least; low = h.within.low }; mtu = h.mtu; least = h.least }

-- It holds a packet.
pub wide_holds : (options : Options) (control : CongestionControl) → Allows options → IsWide options control → options.mtu ≤ control.cwnd
wide_holds options control allows h =
    let least : options.mtu ≤ options.cwnd_mtus_min * options.mtu = many_fit options.cwnd_mtus_min options.mtu allows.packet.least in
    omega (arith, least, allows.small, h.within.low, h.mtu, h.least)
