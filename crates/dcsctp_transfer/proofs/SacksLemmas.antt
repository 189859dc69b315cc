-- A SACK that is taken into account.
use Rattle.std.proofs.Common.{◌≡◌, ℕ, ◌≤◌, ◌<◌, nat_le, Bool, true, false, if◌then◌else◌, Option, None, Some, refl, arith}
use Rattle.std.proofs.lemmas.Bool.Decides.{nat_tests}
use Rattle.dcsctp_send_retransmission.specs.spec.queues.Acknowledging.{is_sack_valid, has_acknowledged}
use Rattle.dcsctp_send_retransmission.specs.spec.queues.Outstanding.{acknowledged_count}
use Rattle.dcsctp_send_retransmission.specs.spec.queues.Retransmission.{RetransmissionState, outstanding_count, after_expiry}
use Rattle.dcsctp_send_retransmission.specs.spec.queues.Transfer.{Transfer}
use Rattle.dcsctp_send_retransmission.specs.spec.endpoint.TransferMoves.{timed_transfer}
use Rattle.dcsctp_transfer.specs.Sacks.{lost_if_due}

pub is_valid : (state : RetransmissionState) (tsn : ℕ) → acknowledged_count state.outstanding tsn ≤ outstanding_count state → is_sack_valid state tsn ≡ true
is_valid state tsn within = test (acknowledged_count state.outstanding tsn) (outstanding_count state) within
  where
    test : (n m : ℕ) → n ≤ m → nat_le n m ≡ true
    test n m less = grind (arith, nat_tests)

pub is_invalid : (state : RetransmissionState) (tsn : ℕ) → outstanding_count state < acknowledged_count state.outstanding tsn → is_sack_valid state tsn ≡ false
is_invalid state tsn beyond = test (acknowledged_count state.outstanding tsn) (outstanding_count state) beyond
  where
    test : (n m : ℕ) → m < n → nat_le n m ≡ false
    test n m less = grind (arith, nat_tests)

-- valid and not valid at once: this can't be
pub told_if_valid : {A : Type 0} (b : Bool) → b ≡ true → b ≡ false → A
told_if_valid true is isnt = absurd (cc)
told_if_valid false is isnt = absurd (cc)

-- by whether the timer expires
pub lost_by : (b : Bool) (now : ℕ) (transfer : Transfer) → record transfer { retransmission = if b then after_expiry now transfer.retransmission else transfer.retransmission } ≡ lost_if_due b now transfer
lost_by true now transfer = refl
lost_by false now transfer = refl

-- A round trip leaves what is acknowledged.
pub timed_acknowledges : (round_trip : Option ℕ) (old : RetransmissionState) (transfer : Transfer) → has_acknowledged old (timed_transfer round_trip transfer).retransmission ≡ has_acknowledged old transfer.retransmission
timed_acknowledges None old transfer = refl
timed_acknowledges (Some round_trip) old transfer = refl
