use Rattle.std.proofs.Common.{refl}
use Rattle.dcsctp_send_queue.proofs.HandedOutLemmas.{found_out, not_lost_out}
use Rattle.dcsctp_send_queue.proofs.PauseLemmas.{front_met}
use Rattle.dcsctp_send_queue.specs.Pausing.{is_standing_handed_out}
use Rattle.dcsctp_send_queue.proofs.streams.Streams.first_handed_out.Goals as goal

pub returns-in-Ok-clause-some : goal.returns-in-Ok-clause-some
returns-in-Ok-clause-some c =
    let first = front_met is_standing_handed_out _ _ _ _ c.in_ok-id.field-0.now c.self.view_is c.self.invariant.paused.handed_out c.self.inside.paused.handed_out.ok.0 (c.in_ok-id.ensures.variant.0 refl) c.in_ok-id.ensures.lookup in
    (c.in-Ok.ensures.found.0, found_out _ c.in-Ok.place _ c.in-Ok.ensures.ascending first.0 first.1 c.in-Ok.ensures.found)

pub returns-in-Err-clause-none : goal.returns-in-Err-clause-none
returns-in-Err-clause-none c =
    let first = front_met is_standing_handed_out _ _ _ _ c.in_ok-id.field-0.now c.self.view_is c.self.invariant.paused.handed_out c.self.inside.paused.handed_out.ok.0 (c.in_ok-id.ensures.variant.0 refl) c.in_ok-id.ensures.lookup in
    absurd (not_lost_out _ _ _ first.0 first.1 c.in-Err.ensures.found)
