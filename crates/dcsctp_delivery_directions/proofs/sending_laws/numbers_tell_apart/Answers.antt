use Rattle.dcsctp_delivery_directions.proofs.sending.Counting.{told}
use Rattle.dcsctp_delivery_directions.proofs.sending_laws.numbers_tell_apart.Goals as goal

pub returns : goal.returns
returns c = told
