use Rattle.dcsctp_spec_laws.proofs.FlushWindowLemmas.{flushes_keep_window}
use Rattle.dcsctp_spec_laws.proofs.laws.flushes_keep_window.Goals as goal

pub returns : goal.returns
returns c = flushes_keep_window
