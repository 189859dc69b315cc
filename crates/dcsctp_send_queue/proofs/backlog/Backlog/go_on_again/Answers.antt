use Rattle.std.proofs.Common.{ℕ, refl, ap, ◌∙◌}
use Rattle.dcsctp_api.specs.spec.queues.SendQueue.{SendQueueState}
use Rattle.dcsctp_api.specs.spec.queues.Sending.{reserve_begun, reserved_after}
use Rattle.dcsctp_send_queue.proofs.RestoringLemmas.{found_can, continued_is, held-continued, continued_not_lost}
use Rattle.dcsctp_send_queue.specs.Backlog.{queue_of}
use Rattle.dcsctp_send_queue.proofs.backlog.Backlog.go_on_again.Goals as goal

pub go_on-requires : goal.go_on-requires
go_on-requires c =
    record {
      place = c.in-Ok.ensures.found.0;
      can = found_can (queue_of c.args.self.now) c.args.stream_id c.in-Ok.place c.args.under_way c.in-Ok.ensures.ascending c.in-Ok.ensures.found c.requires;
    }

pub returns-in-Ok-clause-whole : goal.returns-in-Ok-clause-whole
returns-in-Ok-clause-whole c message is size =
    let whole = c.hold_again.ensures message is in
    let takes = c.reserve_begun.ensures ∙ ap (λ (n : ℕ). reserve_begun n c.args.under_way) size in
    c.reserve.ensures
    ∙ (ap {A = SendQueueState} (λ (q : SendQueueState). record q { reserved = reserved_after 0 c.reserve_begun.result q }) whole
    ∙ continued_is (queue_of c.args.self.now) c.args.stream_id c.in-Ok.place message c.args.under_way c.go_on.new.self _ _ c.in-Ok.ensures.ascending c.in-Ok.ensures.found c.go_on.ensures refl
    (ap (λ (n : ℕ). reserved_after 0 n (queue_of c.args.self.now)) takes))

pub returns-in-Ok-clause-held : goal.returns-in-Ok-clause-held
returns-in-Ok-clause-held c message is held =
    let whole = c.reserve.ensures ∙ ap {A = SendQueueState} (λ (q : SendQueueState). record q { reserved = reserved_after 0 c.reserve_begun.result q }) (c.hold_again.ensures message is) in
    held-continued (queue_of c.args.self.now) c.args.stream_id c.in-Ok.place message c.args.under_way c.reserve.new.self.streams c.reserve.new.self.held c.in-Ok.ensures.found
    (ap (λ (q : SendQueueState). q.streams) whole ∙ c.go_on.ensures) (ap (λ (q : SendQueueState). q.held) whole) held

pub returns-in-Err-clause-whole : goal.returns-in-Err-clause-whole
returns-in-Err-clause-whole c message is size = absurd (continued_not_lost (queue_of c.args.self.now) c.args.stream_id _ c.args.under_way c.in-Err.ensures.found c.requires)

pub returns-in-Err-clause-held : goal.returns-in-Err-clause-held
returns-in-Err-clause-held c message is held = held
