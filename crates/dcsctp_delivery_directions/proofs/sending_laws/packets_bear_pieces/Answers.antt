use Rattle.dcsctp_delivery_directions.proofs.sending.Chunks.{packets_bear}
use Rattle.dcsctp_delivery_directions.proofs.sending_laws.packets_bear_pieces.Goals as goal

pub returns : goal.returns
returns c = packets_bear
