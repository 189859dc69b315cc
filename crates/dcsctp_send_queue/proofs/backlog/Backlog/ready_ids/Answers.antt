use Rattle.std.proofs.Common.{◌≡◌, length, min, arith}
use Rattle.dcsctp_send_queue.specs.Pausing.{ready_ids}
use Rattle.dcsctp_send_queue.proofs.ReadyLemmas.{ready_taken}
use Rattle.dcsctp_send_queue.proofs.backlog.Backlog.ready_ids.Goals as goal

pub returns-clause-ids : goal.returns-clause-ids
returns-clause-ids c =
    let place : c.loop-place.place ≡ min (length (ready_ids c.args.self.now.streams)) c.args.max = omega (arith, c.count_ready.ensures.count, c.min-place-end.ensures) in
    ready_taken c.args.self.now.streams c.loop-place.ids.items c.loop-place.place c.args.max place c.loop-place.invariant
