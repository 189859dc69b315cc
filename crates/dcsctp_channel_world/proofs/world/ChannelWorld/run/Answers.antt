use Rattle.std.proofs.Common.{Err, [], subst}
use Rattle.dcsctp_channel_world.specs.declared.step.ChannelStep.{ChannelStep}
use Rattle.dcsctp_channel_world.specs.Promises.{AppliesStep, AppliesStepOrFails, RunsChannelSteps}
use Rattle.dcsctp_channel_world.specs.Shown.{WorldParts, WorldShown, parts_of_world, world_shown}
use Rattle.dcsctp_channel_world.proofs.Applying.{promises_kept}
use Rattle.dcsctp_channel_world.proofs.Running.{ran_none, ran_next, ran_out_among}
use Rattle.dcsctp_channel_world.proofs.world.ChannelWorld.run.Goals as goal

pub loop-step-init : goal.loop-step-init
loop-step-init g c =
    let shown : WorldParts _ → WorldShown = world_shown g.S.DcSctpSocket.user_view in
    let inside : WorldShown = shown (parts_of_world c.self.inside.a c.self.inside.b c.self.inside.failed) in
    subst (λ (w : WorldParts _). RunsChannelSteps [] (shown w) (shown w)) c.self.view_is
    (ran_none inside c.if-self.false (promises_kept c.channels_run_sockets.ensures inside (c.self.invariant c.if-self.false)))

pub loop-step-preserved : goal.loop-step-preserved
loop-step-preserved g c =
    let shown : WorldParts _ → WorldShown = world_shown g.S.DcSctpSocket.user_view in
    ran_next c.args.steps.now c.loop-step.step-index c.step-item.result c.in_ok-apply.field-0 (shown c.args.self.now) (shown c.loop-step.self) (shown c.apply.new.self)
    c.loop-step-test.true c.loop-step.invariant
    (subst (λ (s : ChannelStep). AppliesStep s c.in_ok-apply.field-0 (shown c.loop-step.self) (shown c.apply.new.self)) c.step-item.is c.in_ok-apply.ensures)

pub returns-in_err-apply : goal.returns-in_err-apply
returns-in_err-apply g c =
    let shown : WorldParts _ → WorldShown = world_shown g.S.DcSctpSocket.user_view in
    ran_out_among c.args.steps.now c.loop-step.step-index c.step-item.result c.in_err-apply.field-0.0 (shown c.args.self.now) (shown c.loop-step.self) (shown c.apply.new.self)
    c.loop-step-test.true c.loop-step.invariant
    (subst (λ (s : ChannelStep). AppliesStepOrFails s (shown c.loop-step.self) (Err c.in_err-apply.field-0.0) (shown c.apply.new.self)) c.step-item.is c.in_err-apply.ensures)
    c.from_residual.result c.from_residual.ensures.1
