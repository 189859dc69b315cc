use Rattle.dcsctp_delivery_directions.proofs.sending.Flushes.{flush_sends}
use Rattle.dcsctp_delivery_directions.proofs.sending_laws.flushes_send_pieces.Goals as goal

pub returns : goal.returns
returns c = flush_sends
