use Rattle.std.proofs.Common.{◌≡◌, arith, sym, ◌∙◌, subst}
use Rattle.dcsctp_channels.specs.Layer.{layer_view}
use Rattle.dcsctp_channels.proofs.Keeping.{keeps_refl}
use Rattle.dcsctp_channels.proofs.Placing.{IsPlace, place_is, place_is_none, closed_none, closed_waiting}
use Rattle.dcsctp_channels.proofs.closing.close_waiting.Goals as goal

pub take_out-requires : goal.take_out-requires
take_out-requires c =
    let there = place_is c.args.id.0 0 c.in-Some.place c.args.layer.now.waiting.items (sym c.place_of.ensures ∙ c.in-Some.is) in
    let at = there.1 in
    let lt = there.2.within in omega arith

pub returns-in_default : goal.returns-in_default
returns-in_default c =
    let none = place_is_none c.args.id.0 0 c.args.layer.now.waiting.items (sym c.place_of.ensures ∙ c.in_default.is) in
    (keeps_refl (layer_view c.args.layer.now), closed_none c.args.id.0 (layer_view c.args.layer.now) none.same none.ends)

pub returns : goal.returns
returns c =
    let there = place_is c.args.id.0 0 c.in-Some.place c.args.layer.now.waiting.items (sym c.place_of.ensures ∙ c.in-Some.is) in
    let at : there.0 ≡ c.in-Some.place = let p = there.1 in omega arith in
    let place = subst (IsPlace c.args.id.0 c.args.layer.now.waiting.items) at there.2 in
    closed_waiting c.args.id.0 (layer_view c.args.layer.now) _ _ _ c.report.result place.removed place.ends c.take_out.ensures c.report.ensures
