use Rattle.std.proofs.Common.{false, refl, ap, ◌∙◌}
use Rattle.dcsctp_core.specs.types.declared.options.Options.{Options}
use Rattle.dcsctp_spec_runs.specs.Sockets.{Both}
use Rattle.dcsctp_world.specs.Parts.{world_of}
use Rattle.dcsctp_world.specs.Recording.{Recording, fresh_recording}
use Rattle.dcsctp_world.specs.Run.{GoesWell}
use Rattle.dcsctp_world.specs.Shown.{WorldView, fresh_side_shown}
use Rattle.dcsctp_world.proofs.Agreeing.{world_keeps}
use Rattle.dcsctp_world.proofs.Running.{is_fresh, fresh_is_run, is_run_of_own}
use Rattle.dcsctp_world.proofs.Whole.{fresh_whole}
use Rattle.dcsctp_world.proofs.world.World.new.Goals as goal
use Rattle.dcsctp_world.proofs.world.World.new.Goals.{After-new-5}

pub returns-clause-fresh : goal.returns-clause-fresh
returns-clause-fresh g c =
    let options : Both Options = record { a = c.args.a.now; b = c.args.b.now } in
    let generators : Both (Recording g.row.R.Denot) = record { a = fresh_recording c.args.rng_a; b = fresh_recording c.args.rng_b } in
    is_fresh c.in_ok-a.a c.in_ok-b.b c.new-5.result.items options generators
    (c.in_ok-a.ensures.fresh ∙ ap (fresh_side_shown options.a) c.new.ensures) (c.in_ok-b.ensures.fresh ∙ ap (fresh_side_shown options.b) c.new-3.ensures) c.new-5.ensures.items

pub invariant_of-result : goal.invariant_of-result
invariant_of-result g c =
    let options : Both Options = record { a = c.args.a.now; b = c.args.b.now } in
    let generators : Both (Recording g.row.R.Denot) = record { a = fresh_recording c.args.rng_a; b = fresh_recording c.args.rng_b } in
    let world : WorldView (Recording g.row.R.Denot) = world_of c.in_ok-a.a c.in_ok-b.b c.new-5.result.items false in
    λ runs. record {
      is_run = is_run_of_own options world
          (fresh_is_run options generators world (returns-clause-fresh g c)
          (record { valid = c.requires.a; fits = c.options_fit.ensures }) (record { valid = c.requires.b; fits = c.options_fit-2.ensures }));
      whole = fresh_whole options c.args.rng_a c.args.rng_b world (returns-clause-fresh g c);
    }

pub returns-clause-keeps : goal.returns-clause-keeps
returns-clause-keeps g c =
    let world : WorldView (Recording g.row.R.Denot) = world_of c.in_ok-a.a c.in_ok-b.b c.new-5.result.items false in
    let well : GoesWell world = invariant_of-result g c refl in
    world_keeps c.socket_laws.ensures c.cookie_laws.ensures c.users_read_what_was_sent.ensures c.transfer_laws.ensures c.recovery_laws.ensures c.progress_laws.ensures world well
