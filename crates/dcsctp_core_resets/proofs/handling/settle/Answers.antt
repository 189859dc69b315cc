use Rattle.dcsctp_core_resets.proofs.SettlingLemmas.{retried_settles}
use Rattle.dcsctp_core_resets.proofs.handling.settle.Goals as goal

pub returns-in-InProgress : goal.returns-in-InProgress
returns-in-InProgress g c =
    rw c.in-InProgress.is (retried_settles c.args.context.now c.retry_reset.new.state c.heed_answer.new.context c.retry_reset.ensures c.heed_answer.ensures)
