use Rattle.std.proofs.Common.{◌<◌, length, refl}
use Rattle.dcsctp_send_queue.proofs.BytesLemmas.{bytes_same, can_same}
use Rattle.dcsctp_send_queue.proofs.PauseLemmas.{paused_same}
use Rattle.dcsctp_send_queue.proofs.StreamLemmas.{ranked_read_same}
use Rattle.dcsctp_send_queue.proofs.streams.Streams.use_turn.Goals as goal

pub invariant_of-self : goal.invariant_of-self
invariant_of-self c =
    let lt : c.args.place < length c.self.inside.items = rw c.self.view_is c.requires in
    record {
      ranked = ranked_read_same _ _ _ c.args.place _ _ c.self.invariant.ranked lt c.at_mut-stream.ensures.value
          (rw c.use_turn.ensures.left refl) (rw c.use_turn.ensures.left refl);
      paused = paused_same _ _ c.args.place _ _ c.self.invariant.ranked.ascending c.self.invariant.paused lt c.at_mut-stream.ensures.value
          (rw c.use_turn.ensures.left refl) (rw c.use_turn.ensures.left refl);
      bytes = bytes_same _ c.args.place _ _ c.self.invariant.bytes lt c.at_mut-stream.ensures.value (rw c.use_turn.ensures.left refl);
      can = can_same _ c.args.place _ _ c.self.invariant.can lt c.at_mut-stream.ensures.value (rw c.use_turn.ensures.left refl) (rw c.use_turn.ensures.left refl) (rw c.use_turn.ensures.left refl);
    }
