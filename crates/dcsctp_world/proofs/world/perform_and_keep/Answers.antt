use Rattle.std.proofs.Common.{List, [], ◌∷◌, map, refl, ap, inl, inr, ◌∙◌}
use Rattle.std.proofs.lemmas.List.{map-append}
use Rattle.std.proofs.lemmas.Result.{err_from_is_err_and}
use Rattle.dcsctp_core.specs.types.declared.schedule.Act.{Act}
use Rattle.dcsctp_core.specs.types.Schedule.{act_content}
use Rattle.dcsctp_world.specs.Parts.{both}
use Rattle.dcsctp_world.specs.Recording.{recorded_stream}
use Rattle.dcsctp_world.proofs.Applying.{both_noted}
use Rattle.dcsctp_world.proofs.Stopping.{act_fails, act_moves, moved_in_part}
use Rattle.dcsctp_world.proofs.Whole.{noted_whole}
use Rattle.dcsctp_world.proofs.world.perform_and_keep.Goals as goal

pub returns-in_err-reply-clause-call : goal.returns-in_err-reply-clause-call
returns-in_err-reply-clause-call g c =
    let p = err_from_is_err_and c.from_residual.result c.from_residual.ensures.1 in
    rw (p.1, p.2)
    (act_fails (recorded_stream g.R.Rng.stream) (act_content c.args.act) _ c.args.a.now c.args.b.now c.move_side.new.a c.move_side.new.b c.args.acts.now.items c.in_err-reply.ensures)

pub returns-in_err-keep_association-clause-call : goal.returns-in_err-keep_association-clause-call
returns-in_err-keep_association-clause-call g c =
    let stream = recorded_stream g.R.Rng.stream in
    let old = both c.args.a.now c.args.b.now in
    let moved = both c.move_side.new.a c.move_side.new.b in
    let new = both c.keep_association.new.self c.move_side.new.b in
    let moves = act_moves stream (act_content c.args.act) c.in_ok-reply.reply old moved c.in_ok-reply.ensures in
    let p = err_from_is_err_and c.from_residual-in_err-keep_association.result c.from_residual-in_err-keep_association.ensures.1 in
    rw (p.1, p.2)
    (moved_in_part stream (act_content c.args.act) c.in_ok-reply.reply old moved new moves (inl c.in_err-keep_association.ensures) (inl refl), refl {a = map act_content c.args.acts.now.items})

pub returns-in_err-keep_association-2-clause-call : goal.returns-in_err-keep_association-2-clause-call
returns-in_err-keep_association-2-clause-call g c =
    let stream = recorded_stream g.R.Rng.stream in
    let old = both c.args.a.now c.args.b.now in
    let moved = both c.move_side.new.a c.move_side.new.b in
    let new = both c.keep_association.new.self c.keep_association-2.new.self in
    let moves = act_moves stream (act_content c.args.act) c.in_ok-reply.reply old moved c.in_ok-reply.ensures in
    let p = err_from_is_err_and c.from_residual-in_err-keep_association-2.result c.from_residual-in_err-keep_association-2.ensures.1 in
    rw (p.1, p.2)
    (moved_in_part stream (act_content c.args.act) c.in_ok-reply.reply old moved new moves (inr c.in_ok-keep_association.ensures) (inl c.in_err-keep_association-2.ensures), refl {a = map act_content c.args.acts.now.items})

pub returns-in_err-push-clause-call : goal.returns-in_err-push-clause-call
returns-in_err-push-clause-call g c =
    let stream = recorded_stream g.R.Rng.stream in
    let old = both c.args.a.now c.args.b.now in
    let moved = both c.move_side.new.a c.move_side.new.b in
    let new = both c.keep_association.new.self c.keep_association-2.new.self in
    let moves = act_moves stream (act_content c.args.act) c.in_ok-reply.reply old moved c.in_ok-reply.ensures in
    let p = err_from_is_err_and c.from_residual-in_err-push.result c.from_residual-in_err-push.ensures.1 in
    rw (p.1, p.2) (
      moved_in_part stream (act_content c.args.act) c.in_ok-reply.reply old moved new moves (inr c.in_ok-keep_association.ensures) (inr c.in_ok-keep_association-2.ensures),
      ap (λ (l : List Act). map act_content l) c.in_err-push.ensures.items,
    )

pub returns-clause-call : goal.returns-clause-call
returns-clause-call g c =
    let old = both c.args.a.now c.args.b.now in
    let moved = both c.move_side.new.a c.move_side.new.b in
    let new = both c.keep_association.new.self c.keep_association-2.new.self in
    record {
      runs = refl;
      goes_on = refl;
      moved = moved;
      moves = act_moves (recorded_stream g.R.Rng.stream) (act_content c.args.act) c.in_ok-reply.reply old moved c.in_ok-reply.ensures;
      sides = both_noted moved new c.in_ok-keep_association.ensures c.in_ok-keep_association-2.ensures;
      acts = ap (λ (l : List Act). map act_content l) c.in_ok-push.ensures.items ∙ map-append act_content c.args.acts.now.items (c.args.act ∷ []);
    }

-- a word wasn't kept
pub returns-then-not-are_whole-clause-call : goal.returns-then-not-are_whole-clause-call
returns-then-not-are_whole-clause-call g c =
    let stream = recorded_stream g.R.Rng.stream in
    let old = both c.args.a.now c.args.b.now in
    let moved = both c.move_side.new.a c.move_side.new.b in
    let moves = act_moves stream (act_content c.args.act) c.in_ok-reply.reply old moved c.in_ok-reply.ensures in
    (moved_in_part stream (act_content c.args.act) c.in_ok-reply.reply old moved moved moves (inl refl) (inl refl), refl {a = map act_content c.args.acts.now.items})

pub returns-clause-whole : goal.returns-clause-whole
returns-clause-whole g c =
    let moved = both c.move_side.new.a c.move_side.new.b in
    let new = both c.keep_association.new.self c.keep_association-2.new.self in
    noted_whole moved new (c.are_whole.ensures.0 c.if-not-are_whole.false) (both_noted moved new c.in_ok-keep_association.ensures c.in_ok-keep_association-2.ensures)
