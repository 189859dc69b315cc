use Rattle.std.proofs.Common.{true, subst}
use Rattle.dcsctp_core.specs.types.Schedule.{StepContent, step_act, step_content}
use Rattle.dcsctp_world.specs.Recording.{Recording}
use Rattle.dcsctp_world.specs.Shown.{WorldView}
use Rattle.dcsctp_world.specs.Acts.{Applies, ActRanOutOfMemory}
use Rattle.dcsctp_world.specs.Parts.{world_of}
use Rattle.dcsctp_world.proofs.Applying.{copy_refused}
use Rattle.dcsctp_world.proofs.world.World.apply.Goals as goal

pub returns-in-Ok : goal.returns-in-Ok
returns-in-Ok g c =
    subst (λ (step : StepContent). Applies g.R.Rng.stream (step_act step) c.args.self.now c.apply_act.result c.apply_act.new.self) c.in-Ok.ensures c.apply_act.ensures

pub returns-in-Err : goal.returns-in-Err
returns-in-Err g c =
    let new = world_of c.self.inside.a c.self.inside.b c.self.inside.acts.items true in
    subst (λ (w : WorldView (Recording g.row.R.Denot)). ActRanOutOfMemory (step_act (step_content c.args.step.now)) w new) c.self.view_is
    (copy_refused (step_act (step_content c.args.step.now)) (world_of c.self.inside.a c.self.inside.b c.self.inside.acts.items c.self.inside.failed) c.if-self.false)
