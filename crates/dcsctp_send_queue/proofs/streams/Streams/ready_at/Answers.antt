use Rattle.std.proofs.Common.{◌<◌, ap, arith, length}
use Rattle.dcsctp_send_queue.specs.Pausing.{ready_ids}
use Rattle.dcsctp_send_queue.proofs.streams.Streams.ready_at.Goals as goal

pub index-requires : goal.index-requires
index-requires c =
    let lt : c.args.place < length (ready_ids c.self.inside.items) = rw c.self.view_is c.requires in
    let same = ap length c.self.invariant.paused.ready in
    omega (arith, lt, same, c.self.inside.paused.ready.ok.0)
