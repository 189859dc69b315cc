use Rattle.dcsctp_delivery_directions.proofs.sending.ChunkCounts.{flushes_assign_few}
use Rattle.dcsctp_delivery_directions.proofs.sending_laws.flushes_assign_few.Goals as goal

pub returns : goal.returns
returns c = flushes_assign_few
