use Rattle.dcsctp_spec_runs.proofs.ReadBackLemmas.{offer_reads_back, capabilities_hold_offer}
use Rattle.dcsctp_spec_runs.proofs.laws.offer_reads_back.Goals as goal

pub returns : goal.returns
returns c = record { announced = offer_reads_back; held = capabilities_hold_offer }
