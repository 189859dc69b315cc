use Rattle.dcsctp_core.specs.Reconfiguring.{request_renumbered}
use Rattle.dcsctp_core_resets.proofs.SettlingLemmas.{unchanged_nobody, changed_lent}
use Rattle.dcsctp_core_resets.proofs.reconfiguration.renumber.Goals as goal

pub returns-in-None : goal.returns-in-None
returns-in-None c = unchanged_nobody request_renumbered c.args.state.now c.in-None.ensures.tcb

pub returns-in-Some : goal.returns-in-Some
returns-in-Some c = changed_lent request_renumbered c.args.state.now c.in-Some.tcb.now c.renumber_reset.new.self c.in-Some.ensures.tcb c.renumber_reset.ensures
