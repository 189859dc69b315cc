use Rattle.std.proofs.Common.{Err, [], subst}
use Rattle.dcsctp_core.specs.types.declared.schedule.Step.{Step}
use Rattle.dcsctp_core.specs.types.Schedule.{step_content, step_act}
use Rattle.dcsctp_world.specs.Acts.{AppliesWithPromises, Applies, Ran}
use Rattle.dcsctp_world.specs.Parts.{world_of}
use Rattle.dcsctp_world.specs.Recording.{Recording}
use Rattle.dcsctp_world.specs.Shown.{WorldView}
use Rattle.dcsctp_world.proofs.Agreeing.{world_keeps}
use Rattle.dcsctp_world.proofs.Applying.{ran_none, ran_next, ran_out_among}
use Rattle.dcsctp_world.proofs.world.World.run.Goals as goal

pub loop-step-init : goal.loop-step-init
loop-step-init g c =
    let inside = world_of c.self.inside.a c.self.inside.b c.self.inside.acts.items c.self.inside.failed in
    let keeps = world_keeps c.socket_laws.ensures c.cookie_laws.ensures c.users_read_what_was_sent.ensures c.transfer_laws.ensures c.recovery_laws.ensures c.progress_laws.ensures inside (c.self.invariant c.if-self.false) in
    subst (λ (w : WorldView (Recording g.row.R.Denot)). Ran g.R.Rng.stream [] w w) c.self.view_is (ran_none g.R.Rng.stream inside c.if-self.false keeps)

pub loop-step-preserved : goal.loop-step-preserved
loop-step-preserved g c =
    ran_next g.R.Rng.stream c.args.steps.now c.loop-step.step-index c.step-item.result c.in_ok-apply.field-0 c.args.self.now c.loop-step.self c.apply.new.self
    c.loop-step-test.true c.loop-step.invariant
    (subst (λ (s : Step). AppliesWithPromises g.R.Rng.stream (step_act (step_content s)) c.in_ok-apply.field-0 c.loop-step.self c.apply.new.self) c.step-item.is c.in_ok-apply.ensures)

pub returns-in_err-apply : goal.returns-in_err-apply
returns-in_err-apply g c =
    ran_out_among g.R.Rng.stream c.args.steps.now c.loop-step.step-index c.step-item.result c.in_err-apply.field-0.0 c.args.self.now c.loop-step.self c.apply.new.self
    c.loop-step-test.true c.loop-step.invariant
    (subst (λ (s : Step). Applies g.R.Rng.stream (step_act (step_content s)) c.loop-step.self (Err c.in_err-apply.field-0.0) c.apply.new.self) c.step-item.is c.in_err-apply.ensures)
    c.from_residual.result c.from_residual.ensures.1
