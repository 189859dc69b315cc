use Rattle.dcsctp_spec_laws.proofs.TrackedLemmas.{trackers_stay_tracked}
use Rattle.dcsctp_spec_laws.proofs.laws.trackers_stay_tracked.Goals as goal

pub returns : goal.returns
returns c = trackers_stay_tracked
