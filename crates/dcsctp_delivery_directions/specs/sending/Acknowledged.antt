-- What a SACK and the retransmission timer leave in flight (RFC 9260, sections 6.2.1 and 6.3.3).
use Rattle.std.specs.Prelude.{◌≡◌, ◌+◌, ℕ, true, List}
use Rattle.dcsctp_spec.specs.wire.declared.chunk.sack.GapAckBlock.{GapAckBlock}
use Rattle.dcsctp_spec.specs.queues.Acknowledging.{is_sack_valid, AcknowledgesItems}
use Rattle.dcsctp_spec.specs.queues.Outstanding.{acknowledged_count}
use Rattle.dcsctp_spec.specs.queues.Retransmission.{RetransmissionState, after_expiry}
use Rattle.dcsctp_delivery_directions.specs.sending.Log.{History}
use Rattle.dcsctp_delivery_directions.specs.sending.Stages.{Bears}

-- What a SACK leaves in flight carries what the log has.
abbrev pub AcknowledgingKeeps : Type 0
AcknowledgingKeeps =
    (history : History) (first acknowledged now cumulative window : ℕ) (blocks : List GapAckBlock) (old new : RetransmissionState) → is_sack_valid old cumulative ≡ true → Bears history first acknowledged old.outstanding
    → AcknowledgesItems now cumulative window blocks old new → Bears history first (acknowledged + acknowledged_count old.outstanding cumulative) new.outstanding

-- So does what the timer marks as lost.
abbrev pub LosingKeeps : Type 0
LosingKeeps = (history : History) (first acknowledged now : ℕ) (state : RetransmissionState) → Bears history first acknowledged state.outstanding → Bears history first acknowledged (after_expiry now state).outstanding
