use Rattle.dcsctp_spec_lemmas.proofs.CookieLemmas.{cookie_reads_back}
use Rattle.dcsctp_spec_runs.proofs.laws.cookie_reads_back.Goals as goal

pub returns : goal.returns
returns c = cookie_reads_back
