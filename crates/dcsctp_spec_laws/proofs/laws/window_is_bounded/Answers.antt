use Rattle.dcsctp_spec_laws.proofs.CongestionLemmas.{window_is_bounded}
use Rattle.dcsctp_spec_laws.proofs.laws.window_is_bounded.Goals as goal

pub returns : goal.returns
returns c = window_is_bounded
