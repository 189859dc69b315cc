use Rattle.std.proofs.lemmas.List.Elements.{same_from_all_zip}
use Rattle.dcsctp_channel_world.proofs.Keeping.{same_opening, opened_kept}
use Rattle.dcsctp_channel_world.proofs.watched_end.keep_opened.Goals as goal

pub returns-in_ok-push-in-Ok-None-clause-done : goal.returns-in_ok-push-in-Ok-None-clause-done
returns-in_ok-push-in-Ok-None-clause-done c =
    let options = c.args.options.now in
    let copy = c.in_ok-options-in-Ok-None.options in
    let copies = c.in_ok-options-in-Ok-None.ensures.cases in
    opened_kept c.args.opened.now.items c.push.new.self.items c.in-Ok-None.id copy options c.args.answer c.in_ok-push-in-Ok-None.ensures.items
    (same_opening options copy (same_from_all_zip _ _ _ copies.0.0 (λ x y h. h)) (same_from_all_zip _ _ _ copies.1.0.0 (λ x y h. h)) copies.1.1.0)
    c.in-Ok-None.is-0 c.in-Ok-None.is-1
