use Rattle.dcsctp_spec_lemmas.proofs.types_lemmas.ReadinessLemmas.{readiness_contains}
use Rattle.dcsctp_spec_runs.proofs.laws.readiness_contains.Goals as goal

pub returns : goal.returns
returns c = readiness_contains
