use Rattle.dcsctp_core_resets.specs.Requests.{held_with}
use Rattle.dcsctp_core_resets.proofs.RequestLemmas.{again_as}
use Rattle.dcsctp_core_resets.proofs.requests.repeated.Goals as goal

pub returns-in-InProgress : goal.returns-in-InProgress
returns-in-InProgress c = λ base. rw c.in-InProgress.is (again_as base c.args.last _ _ (c.perform_or_defer.ensures (held_with base c.args.last)))
