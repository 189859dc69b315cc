use Rattle.dcsctp_core_resets.proofs.SettlingLemmas.{asked_lent, asked_nobody}
use Rattle.dcsctp_core_resets.proofs.handling.keep_last.Goals as goal

pub returns-in-None : goal.returns-in-None
returns-in-None g c = asked_nobody c.args.context.now c.args.last c.in-None.ensures.tcb

pub returns-in-Some : goal.returns-in-Some
returns-in-Some g c = asked_lent c.args.context.now c.in-Some.tcb.now c.args.last c.in-Some.ensures.tcb
