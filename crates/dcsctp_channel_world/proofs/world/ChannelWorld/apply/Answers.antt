use Rattle.std.proofs.Common.{subst}
use Rattle.dcsctp_channel_world.specs.Promises.{AppliesStep}
use Rattle.dcsctp_channel_world.specs.Shown.{WorldParts, WorldShown, parts_of_world, world_shown}
use Rattle.dcsctp_channel_world.proofs.Applying.{step_applied, step_shows}
use Rattle.dcsctp_channel_world.proofs.world.ChannelWorld.apply.Goals as goal

pub invariant_of-self : goal.invariant_of-self
invariant_of-self g c =
    let shown : WorldParts _ → WorldShown = world_shown g.S.DcSctpSocket.user_view in
    λ runs. step_shows c.args.step.now c.in-Ok.reply (shown (parts_of_world c.self.inside.a c.self.inside.b c.self.inside.failed))
    (shown (parts_of_world c.move_end.new.a c.move_end.new.b c.self.inside.failed)) c.step_fits.ensures (c.self.invariant runs) c.in-Ok.ensures

pub returns-in-Ok : goal.returns-in-Ok
returns-in-Ok g c =
    let shown : WorldParts _ → WorldShown = world_shown g.S.DcSctpSocket.user_view in
    let new : WorldShown = shown (parts_of_world c.move_end.new.a c.move_end.new.b c.self.inside.failed) in
    subst (λ (w : WorldParts _). AppliesStep c.args.step.now c.in-Ok.reply (shown w) new) c.self.view_is
    (step_applied c.channels_run_sockets.ensures c.args.step.now c.in-Ok.reply (shown (parts_of_world c.self.inside.a c.self.inside.b c.self.inside.failed)) new
    c.if-self.false c.if-self.false c.step_fits.ensures (c.self.invariant c.if-self.false) c.in-Ok.ensures)
