use Rattle.std.proofs.Common.{ap, ◌∙◌}
use Rattle.dcsctp_core.specs.View.{own_request}
use Rattle.dcsctp_core.specs.Answering.{request_ended}
use Rattle.dcsctp_core_resets.proofs.SettlingLemmas.{unchanged_nobody, changed_lent}
use Rattle.dcsctp_core_resets.proofs.handling.end_reset.Goals as goal

pub returns-in-None : goal.returns-in-None
returns-in-None c =
    let none = c.in-None.ensures.tcb in
    record { answer = ap own_request none; left = unchanged_nobody request_ended c.args.state.now none }

pub returns-in-Some : goal.returns-in-Some
returns-in-Some c =
    let holds = c.in-Some.ensures.tcb in
    let ended = c.end_reset.ensures in
    record { answer = ended.answer ∙ ap own_request holds; left = changed_lent request_ended c.args.state.now c.in-Some.tcb.now c.end_reset.new.self holds ended.left }
