use Rattle.dcsctp_delivery_directions.proofs.sending.Pieces.{hands_out}
use Rattle.dcsctp_delivery_directions.proofs.sending_laws.pieces_follow.Goals as goal

pub returns : goal.returns
returns c = λ queued log now max old new told_before told_after part. hands_out queued log now max old new told_before told_after part
