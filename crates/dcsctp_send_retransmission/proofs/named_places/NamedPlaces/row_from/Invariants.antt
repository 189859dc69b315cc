use Rattle.std.proofs.Common.{length, ◌-◌}
use Rattle.dcsctp_send_retransmission.proofs.named_places.NamedPlaces.row_from.Given as goal

abbrev pub decreases-loop-row : goal.decreases-loop-row
decreases-loop-row l = length l.rows - l.row
