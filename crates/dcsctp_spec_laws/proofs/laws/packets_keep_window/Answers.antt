use Rattle.dcsctp_spec_laws.proofs.WindowLemmas.{packets_keep_window}
use Rattle.dcsctp_spec_laws.proofs.laws.packets_keep_window.Goals as goal

pub returns : goal.returns
returns c = packets_keep_window
