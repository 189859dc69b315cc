use Rattle.dcsctp_delivery_directions.proofs.sending.GivingUp.{give_up_all_stays}
use Rattle.dcsctp_delivery_directions.proofs.sending_laws.giving_up_keeps.Goals as goal

pub returns : goal.returns
returns c = give_up_all_stays
