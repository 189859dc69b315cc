use Rattle.std.proofs.Common.{◌≡◌, length, arith}
use Rattle.dcsctp_api.specs.types.queues.SendStreams.{IsAscending}
use Rattle.dcsctp_send_queue.proofs.StreamLemmas.{id_read}
use Rattle.dcsctp_send_queue.proofs.PlaceLemmas.{lesser_through, greater_from, above_from}
use Rattle.dcsctp_send_queue.proofs.streams.Streams.find.Goals as goal
use Rattle.dcsctp_send_queue.proofs.streams.Streams.find.Goals.{else-low-len-via-then-low-len+else-id-2, else-low-len-via-else-low-len}

pub halving-preserved-then-id : goal.halving-preserved-then-id
halving-preserved-then-id c =
    let ascending : IsAscending c.args.self.now = rw c.self.view_is at c.self.invariant.ranked.ascending in
    let is = id_read c.args.self.now _ _ _ _ c.self.view_is (omega arith) c.at.ensures c.id.ensures in
    record {
      in_range = (omega arith, omega arith);
      below = lesser_through c.args.self.now _ c.args.id.0 ascending (omega arith) (rw is at c.if-id.true);
      above = c.halving.invariant.above;
    }

pub halving-preserved : goal.halving-preserved
halving-preserved c =
    let ascending : IsAscending c.args.self.now = rw c.self.view_is at c.self.invariant.ranked.ascending in
    let is = id_read c.args.self.now _ _ _ _ c.self.view_is (omega arith) c.at.ensures c.id.ensures in
    record {
      in_range = (omega arith, omega arith);
      below = c.halving.invariant.below;
      above = greater_from c.args.self.now _ c.args.id.0 ascending (rw is at c.if-id.false);
    }

pub returns-clause-found : goal.returns-clause-found
returns-clause-found c =
    let ascending : IsAscending c.args.self.now = rw c.self.view_is at c.self.invariant.ranked.ascending in
    let inside : length c.self.inside.items ≡ length c.args.self.now = rw c.self.view_is in
    elim c.else-low-len.branch [
      | else-low-len-via-then-low-len+else-id-2 w ↦
          let is = id_read c.args.self.now _ _ _ _ c.self.view_is (omega arith) w.at-then-low-len.ensures w.id-then-low-len.ensures in
          let on = c.halving.invariant.above c.halving.low (omega arith) (omega arith) in
          (omega arith, c.halving.invariant.below, above_from c.args.self.now c.halving.low c.args.id.0 ascending (omega (arith, is, on)))
      | else-low-len-via-else-low-len w ↦
          (omega arith, c.halving.invariant.below, λ k on within. absurd (omega arith))
    ]
