use Rattle.std.proofs.Common.{sym, subst, ◌∙◌}
use Rattle.dcsctp_core.specs.types.declared.schedule.Act.{Act}
use Rattle.dcsctp_core.specs.types.Schedule.{act_content, IsHonestAct}
use Rattle.dcsctp_world.proofs.Honest.{honest_at}
use Rattle.dcsctp_world.proofs.act.are_honest.Goals as goal

pub returns-in-Outside : goal.returns-in-Outside
returns-in-Outside c = (
  (λ no. absurd (cc)),
  (λ honest.
      absurd (subst (λ (act : Act). IsHonestAct (act_content act)) (sym c.act-item.is ∙ c.in-Outside.is)
      (honest_at c.args.acts.now c.loop-act.act-index c.act-item.result c.loop-act-test.true honest))),
)
