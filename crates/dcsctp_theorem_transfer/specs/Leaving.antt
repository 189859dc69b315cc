-- Data that a SACK acknowledges leaves what is outstanding (RFC 9260, section 6.2.1), and data that is the next one expected is
-- acknowledged by the SACKs after it (section 6.2).
use Rattle.std.specs.Prelude.{◌≡◌, ◌≤◌, ◌+◌, ◌-◌, ℕ, Bool}
use Rattle.dcsctp_spec_lemmas.specs.wire.Content.{SackContent}
use Rattle.dcsctp_spec_lemmas.specs.spec.endpoint.TransferMoves.{TakesSack}
use Rattle.dcsctp_spec_lemmas.specs.spec.queues.Outstanding.{acknowledged_count}
use Rattle.dcsctp_spec_lemmas.specs.spec.queues.Ranges.{IsBeyond}
use Rattle.dcsctp_spec_lemmas.specs.spec.queues.Retransmission.{outstanding_count}
use Rattle.dcsctp_spec_lemmas.specs.spec.queues.Tracker.{TrackerState, nearest_number, tracker_after_data}
use Rattle.dcsctp_spec_lemmas.specs.spec.queues.Transfer.{Transfer}

-- As many items leave as its cumulative TSN acknowledges.
abbrev pub AcknowledgedDataLeaves : Type 0
AcknowledgedDataLeaves =
    (now : ℕ) (sack : SackContent) (old new : Transfer) → TakesSack now sack old new
    → outstanding_count new.retransmission ≡ outstanding_count old.retransmission - acknowledged_count old.retransmission.outstanding sack.cumulative_tsn_ack

-- The cumulative TSN moves past the first one that was missing.
abbrev pub NextDataIsAcknowledged : Type 0
NextDataIsAcknowledged =
    (tsn : ℕ) (immediate : Bool) (tracker : TrackerState) → IsBeyond tracker.cumulative tracker.ranges → nearest_number tracker.cumulative tsn ≡ tracker.cumulative + 1
    → tracker.cumulative + 1 ≤ (tracker_after_data tsn immediate tracker).cumulative

-- Both ends of an acknowledgement.
pub record DataLeaves : Type 0 where
  pub sender : AcknowledgedDataLeaves
  pub receiver : NextDataIsAcknowledged
