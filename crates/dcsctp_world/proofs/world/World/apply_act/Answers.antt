use Rattle.std.proofs.Common.{true, subst}
use Rattle.dcsctp_core.specs.types.Schedule.{act_content}
use Rattle.dcsctp_core.specs.types.declared.schedule.Side.TheVariants as sides
use Rattle.dcsctp_world.specs.Recording.{Recording, recorded_stream}
use Rattle.dcsctp_world.specs.Shown.{WorldView}
use Rattle.dcsctp_world.specs.Acts.{AppliesWithPromises, ActRanOutOfMemory}
use Rattle.dcsctp_world.specs.Parts.{world_of}
use Rattle.dcsctp_world.proofs.Applying.{KnownLaws, act_applied, ran_out_in}
use Rattle.dcsctp_world.proofs.world.World.apply_act.Goals as goal

pub perform_and_keep-requires-clause-a : goal.perform_and_keep-requires-clause-a
perform_and_keep-requires-clause-a g c = ((c.self.invariant c.if-self.false).is_run.sides sides.A).waiting

pub perform_and_keep-requires-clause-b : goal.perform_and_keep-requires-clause-b
perform_and_keep-requires-clause-b g c = ((c.self.invariant c.if-self.false).is_run.sides sides.B).waiting

pub returns-in-Ok : goal.returns-in-Ok
returns-in-Ok g c =
    let new = world_of c.perform_and_keep.new.a c.perform_and_keep.new.b c.perform_and_keep.new.acts.items c.self.inside.failed in
    let laws : KnownLaws = record {
      sockets = c.socket_laws.ensures;
      cookies = c.cookie_laws.ensures;
      delivery = c.users_read_what_was_sent.ensures;
      transfers = c.transfer_laws.ensures;
      recovery = c.recovery_laws.ensures;
      progress = c.progress_laws.ensures;
      sound = c.sockets_stay_sound.ensures;
      restores = c.restored_sockets_begin_nothing.ensures;
    } in
    subst (λ (w : WorldView (Recording g.row.R.Denot)). AppliesWithPromises g.R.Rng.stream (act_content c.args.act) c.in-Ok.reply w new) c.self.view_is
    (act_applied g.R.Rng.stream laws (act_content c.args.act) c.in-Ok.reply c.self.inside.a c.self.inside.b c.perform_and_keep.new.a c.perform_and_keep.new.b
    c.self.inside.acts.items c.perform_and_keep.new.acts.items c.self.inside.failed c.if-self.false c.act_fits.ensures c.self.invariant c.in-Ok.ensures.call c.in-Ok.ensures.whole)

pub returns-in-Err : goal.returns-in-Err
returns-in-Err g c =
    let new = world_of c.perform_and_keep.new.a c.perform_and_keep.new.b c.perform_and_keep.new.acts.items true in
    subst (λ (w : WorldView (Recording g.row.R.Denot)). ActRanOutOfMemory (act_content c.args.act) w new) c.self.view_is
    (ran_out_in (recorded_stream g.R.Rng.stream) (act_content c.args.act) _ c.self.inside.a c.self.inside.b c.perform_and_keep.new.a c.perform_and_keep.new.b
    c.self.inside.acts.items c.perform_and_keep.new.acts.items c.self.inside.failed c.if-self.false (λ runs. (c.self.invariant runs).is_run) c.in-Err.ensures.call)

pub invariant_of-self : goal.invariant_of-self
invariant_of-self g c =
    let new = world_of c.perform_and_keep.new.a c.perform_and_keep.new.b c.perform_and_keep.new.acts.items c.self.inside.failed in
    let applied : AppliesWithPromises g.R.Rng.stream (act_content c.args.act) c.in-Ok.reply c.args.self.now new = returns-in-Ok g c in
    λ runs. record { is_run = applied.keeps.run; whole = applied.keeps.whole }
