-- A sender hears of data that arrived: a SACK that acknowledges more passes it, and shows that the peer is there (RFC 9260, sections
-- 6.2.1 and 8.1).
use Rattle.std.specs.Prelude.{◌≡◌, ◌≤◌, ◌<◌, ℕ, false, Some, slice_get}
use Rattle.dcsctp_spec_lemmas.specs.wire.Content.{SackContent, sack_chunk}
use Rattle.dcsctp_spec_lemmas.specs.spec.Packet.{plain, unworked}
use Rattle.dcsctp_spec_lemmas.specs.spec.endpoint.CallTurns.{Transition, IsTurn}
use Rattle.dcsctp_spec_lemmas.specs.spec.endpoint.Endpoint.{Endpoint}
use Rattle.dcsctp_spec_lemmas.specs.spec.endpoint.TransferMoves.{TakesSack}
use Rattle.dcsctp_spec_lemmas.specs.spec.endpoint.Turn.{chunk_input}
use Rattle.dcsctp_spec_lemmas.specs.spec.queues.Items.{Item}
use Rattle.dcsctp_spec_lemmas.specs.spec.queues.Outstanding.{tsn_at, acknowledged_count}
use Rattle.dcsctp_spec_lemmas.specs.spec.queues.Retransmission.{outstanding_count}
use Rattle.dcsctp_spec_lemmas.specs.spec.queues.Transfer.{Transfer}
use Rattle.dcsctp_theorem_transfer.specs.Deadlines.{IsOpen}

-- The association is open. The SACK's cumulative TSN ack is of the lowest outstanding TSN or a later one, and of one that was sent. No
-- SACK has acknowledged the lowest before.
pub record AcknowledgesLowest (e : Endpoint) (transfer : Transfer) (sack : SackContent) : Type 0 where
  pub is_open : IsOpen e.core
  pub has : e.queues.transfer ≡ Some transfer
  pub some : 1 ≤ acknowledged_count transfer.retransmission.outstanding sack.cumulative_tsn_ack
  pub sent : acknowledged_count transfer.retransmission.outstanding sack.cumulative_tsn_ack ≤ outstanding_count transfer.retransmission
  pub lowest : Item
  pub at : slice_get transfer.retransmission.outstanding.items 0 ≡ Some lowest
  pub anew : lowest.progress.was_acknowledged ≡ false

-- Fewer items are outstanding, before more is sent. Once that is over, the lowest TSN is the first that isn't acknowledged, and no
-- error counts.
pub record HasHeard (e : Endpoint) (old : Transfer) (sack : SackContent) (after : Endpoint) : Type 0 where
  pub heard : Transfer
  pub takes : TakesSack e.moment sack old heard
  pub fewer : outstanding_count heard.retransmission < outstanding_count old.retransmission
  pub left : Transfer
  pub has : after.queues.transfer ≡ Some left
  pub passed : left.retransmission.outstanding.first_tsn
      ≡ tsn_at old.retransmission.outstanding (acknowledged_count old.retransmission.outstanding sack.cumulative_tsn_ack)
  pub errors : after.error_count ≡ 0

-- So it is of each turn of such a SACK.
abbrev pub SenderHears : Type 0
SenderHears =
    (e : Endpoint) (transfer : Transfer) (tag : ℕ) (sack : SackContent) (turn : Transition) → IsTurn e (chunk_input tag (plain (unworked (sack_chunk sack)))) turn
    → AcknowledgesLowest e transfer sack → HasHeard e transfer sack turn.outcome.after
