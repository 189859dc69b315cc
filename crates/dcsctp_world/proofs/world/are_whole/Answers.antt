use Rattle.std.proofs.Common.{sym, ap, ◌∙◌}
use Rattle.dcsctp_world.specs.Parts.{both}
use Rattle.dcsctp_world.specs.Recording.{Recording}
use Rattle.dcsctp_world.proofs.Whole.{whole_by_a, whole_by_b}
use Rattle.dcsctp_world.proofs.world.are_whole.Goals as goal

pub returns-then-is_whole : goal.returns-then-is_whole
returns-then-is_whole g c =
    whole_by_b (both c.args.a.now c.args.b.now) c.is_whole-then-is_whole.result
    (sym (c.is_whole.ensures ∙ ap (λ (r : Recording g.row.R.Denot). r.is_whole) c.generator.ensures) ∙ c.if-is_whole.true)
    (c.is_whole-then-is_whole.ensures ∙ ap (λ (r : Recording g.row.R.Denot). r.is_whole) c.generator-then-is_whole.ensures)

pub returns-else-is_whole : goal.returns-else-is_whole
returns-else-is_whole g c =
    whole_by_a (both c.args.a.now c.args.b.now) c.is_whole.result c.if-is_whole.false
    (c.is_whole.ensures ∙ ap (λ (r : Recording g.row.R.Denot). r.is_whole) c.generator.ensures)
