use Rattle.std.proofs.Common.{refl}
use Rattle.dcsctp_send_queue.specs.Pausing.{is_standing_under_way}
use Rattle.dcsctp_send_queue.proofs.PauseLemmas.{front_met, none_met}
use Rattle.dcsctp_send_queue.proofs.UnderWayLemmas.{none_found, found_going, not_lost_going}
use Rattle.dcsctp_send_queue.proofs.streams.Streams.first_under_way.Goals as goal

pub returns-in_err-id-clause-none : goal.returns-in_err-id-clause-none
returns-in_err-id-clause-none c =
    none_found c.from_residual.result c.args.self.now
    (none_met is_standing_under_way _ _ _ _ c.self.view_is c.self.invariant.paused.under_way c.self.inside.paused.under_way.ok.0 (λ some. let other = c.in_err-id.ensures.variant.1 some in cc))

pub returns-in-Ok-clause-some : goal.returns-in-Ok-clause-some
returns-in-Ok-clause-some c =
    let first = front_met is_standing_under_way _ _ _ _ c.in_ok-id.field-0.now c.self.view_is c.self.invariant.paused.under_way c.self.inside.paused.under_way.ok.0 (c.in_ok-id.ensures.variant.0 refl) c.in_ok-id.ensures.lookup in
    found_going _ c.in-Ok.place _ c.in-Ok.ensures.ascending c.in-Ok.ensures.can first.0 first.1 c.in-Ok.ensures.found

pub returns-in-Err-clause-none : goal.returns-in-Err-clause-none
returns-in-Err-clause-none c =
    let first = front_met is_standing_under_way _ _ _ _ c.in_ok-id.field-0.now c.self.view_is c.self.invariant.paused.under_way c.self.inside.paused.under_way.ok.0 (c.in_ok-id.ensures.variant.0 refl) c.in_ok-id.ensures.lookup in
    absurd (not_lost_going _ _ _ c.in-Err.ensures.can first.0 first.1 c.in-Err.ensures.found)
