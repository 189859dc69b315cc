-- What both generators have kept.
use Rattle.std.proofs.Common.{◌≡◌, ◌↔◌, Bool, true, false, IsTrue, refl, sym, subst, ◌∙◌}
use Rattle.dcsctp_core.specs.types.declared.options.Options.{Options}
use Rattle.dcsctp_core.specs.types.declared.schedule.Side.TheVariants as sides
use Rattle.dcsctp_spec_runs.specs.Sockets.{Both}
use Rattle.dcsctp_world.specs.Acts.{with_associations}
use Rattle.dcsctp_world.specs.Drawing.{AreWhole}
use Rattle.dcsctp_world.specs.Recording.{Recording, fresh_recording}
use Rattle.dcsctp_world.specs.Shown.{ShownSide, WorldView, fresh_world}

pub both_whole : {R : Type 0} (both : Both (ShownSide (Recording R))) → both.a.socket.view.generator.is_whole ≡ true → both.b.socket.view.generator.is_whole ≡ true → AreWhole both
both_whole both a b sides.A = a
both_whole both a b sides.B = b

-- where A's has, and where it hasn't
pub whole_by_b : {R : Type 0} (both : Both (ShownSide (Recording R))) (b : Bool) → both.a.socket.view.generator.is_whole ≡ true → b ≡ both.b.socket.view.generator.is_whole → IsTrue b ↔ AreWhole both
whole_by_b both b first is = ((λ yes. both_whole both first (sym is ∙ yes)), (λ whole. is ∙ whole sides.B))

pub whole_by_a : {R : Type 0} (both : Both (ShownSide (Recording R))) (a : Bool) → a ≡ false → a ≡ both.a.socket.view.generator.is_whole → IsTrue a ↔ AreWhole both
whole_by_a both a not_whole is = ((λ yes. absurd (cc)), (λ whole. is ∙ whole sides.A))

noted_whole_at : {R : Type 0} (moved : Both (ShownSide (Recording R))) → AreWhole moved → AreWhole (with_associations moved)
noted_whole_at moved whole sides.A = whole sides.A
noted_whole_at moved whole sides.B = whole sides.B

-- the associations were recorded
pub noted_whole : {R : Type 0} (moved new : Both (ShownSide (Recording R))) → AreWhole moved → new ≡ with_associations moved → AreWhole new
noted_whole {R = R} moved new whole is = subst (λ (both : Both (ShownSide (Recording R))). AreWhole both) (sym is) (noted_whole_at moved whole)

-- in a world that was just made
pub fresh_whole : {R : Type 0} (options : Both Options) (a b : R) (world : WorldView (Recording R)) → world ≡ fresh_world options (record { a = fresh_recording a; b = fresh_recording b }) → AreWhole world.sides
fresh_whole {R = R} options a b world is =
    let generators : Both (Recording R) = record { a = fresh_recording a; b = fresh_recording b } in
    subst (λ (w : WorldView (Recording R)). AreWhole w.sides) (sym is) (both_whole (fresh_world options generators).sides refl refl)
