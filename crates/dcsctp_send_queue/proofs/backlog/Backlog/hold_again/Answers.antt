use Rattle.std.proofs.Common.{rules, Option, ap, refl}
use Rattle.dcsctp_api.specs.types.declared.ids.StreamId.{StreamId}
use Rattle.dcsctp_send_queue.proofs.RestoringLemmas.{held_kept, held_new}
use Rattle.dcsctp_send_queue.specs.Backlog.{queue_of}
use Rattle.dcsctp_send_queue.proofs.backlog.Backlog.hold_again.Goals as goal

pub returns-then-is_none : goal.returns-then-is_none
returns-then-is_none c message is =
    ap {A = Option StreamId} (λ (h : Option StreamId). record (queue_of c.args.self.now) { held = h })
    (held_new c.held_by-self.result c.args.stream_id message (queue_of c.args.self.now) (search rules) (c.held_by-self.ensures message is))

pub returns-else-is_none : goal.returns-else-is_none
returns-else-is_none c message is =
    ap {A = Option StreamId} (λ (h : Option StreamId). record (queue_of c.args.self.now) { held = h })
    (held_kept c.args.self.now.held c.args.stream_id message (queue_of c.args.self.now) (search rules) refl)
