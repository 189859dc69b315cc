use Rattle.dcsctp_spec_laws.proofs.PartLemmas.{window_counts_parts}
use Rattle.dcsctp_spec_laws.proofs.laws.window_counts_parts.Goals as goal

pub returns : goal.returns
returns c = window_counts_parts
