use Rattle.std.proofs.Common.{◌<◌, length, refl}
use Rattle.dcsctp_send_queue.proofs.BytesLemmas.{bytes_set, can_set}
use Rattle.dcsctp_send_queue.proofs.PauseLemmas.{paused_same}
use Rattle.dcsctp_send_queue.proofs.StreamLemmas.{holds_read, ranked_read}
use Rattle.dcsctp_send_queue.proofs.streams.Streams.set_priority.Goals as goal

pub move_turn-requires : goal.move_turn-requires
move_turn-requires c =
    let lt : c.args.place < length c.self.inside.items = rw c.self.view_is c.requires in
    holds_read _ _ _ c.args.place _ _ c.self.invariant.ranked lt c.at_mut-stream.ensures.value c.turn-before.ensures.turn

pub invariant_of-self : goal.invariant_of-self
invariant_of-self c =
    let lt : c.args.place < length c.self.inside.items = rw c.self.view_is c.requires in
    record {
      ranked = ranked_read _ _ _ _ _ c.args.place _ _ _ _ c.self.invariant.ranked lt c.at_mut-stream.ensures.value c.turn-before.ensures.turn c.turn-after.ensures.turn
          (rw c.set_priority.ensures refl) c.move_turn.ensures.turns c.move_turn.ensures.capacity;
      paused = paused_same _ _ c.args.place _ _ c.self.invariant.ranked.ascending c.self.invariant.paused lt c.at_mut-stream.ensures.value
          (rw c.set_priority.ensures refl) (rw c.set_priority.ensures refl);
      bytes = bytes_set _ c.args.place _ c.self.invariant.bytes c.turn-after.ensures.bytes;
      can = can_set _ c.args.place _ c.self.invariant.can c.turn-after.ensures.can;
    }
