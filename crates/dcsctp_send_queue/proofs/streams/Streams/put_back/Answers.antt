use Rattle.std.proofs.Common.{◌<◌, length, refl}
use Rattle.dcsctp_send_queue.proofs.BytesLemmas.{bytes_set, can_set}
use Rattle.dcsctp_send_queue.proofs.PauseLemmas.{holds_standing, paused_read}
use Rattle.dcsctp_send_queue.proofs.StreamLemmas.{holds_read, ranked_read}
use Rattle.dcsctp_send_queue.proofs.streams.Streams.put_back.Goals as goal

pub move_turn-requires : goal.move_turn-requires
move_turn-requires c =
    let lt : c.args.place < length c.self.inside.items = rw c.self.view_is c.requires in
    holds_read _ _ _ c.args.place _ _ c.self.invariant.ranked lt c.at_mut-stream.ensures.value c.turn-before.ensures.turn

pub move_stream-requires : goal.move_stream-requires
move_stream-requires c =
    let lt : c.args.place < length c.self.inside.items = rw c.self.view_is c.requires in
    holds_standing _ _ c.args.place _ _ _ c.self.invariant.ranked.ascending c.self.invariant.paused lt c.at_mut-stream.ensures.value c.id-id.ensures c.standing-stood.ensures

pub invariant_of-self : goal.invariant_of-self
invariant_of-self c =
    let lt : c.args.place < length c.self.inside.items = rw c.self.view_is c.requires in
    record {
      ranked = ranked_read _ _ _ _ _ c.args.place _ _ _ _ c.self.invariant.ranked lt c.at_mut-stream.ensures.value c.turn-before.ensures.turn c.turn-after.ensures.turn
          (rw c.put_back-sent.ensures.left refl) c.move_turn.ensures.turns c.move_turn.ensures.capacity;
      paused = paused_read _ _ _ c.args.place _ _ _ _ _ c.self.invariant.ranked.ascending c.self.invariant.paused lt c.at_mut-stream.ensures.value c.id-id.ensures
          c.standing-stood.ensures (rw c.put_back-sent.ensures.left refl) c.standing-stands.ensures c.move_stream.ensures;
      bytes = bytes_set _ c.args.place _ c.self.invariant.bytes c.turn-after.ensures.bytes;
      can = can_set _ c.args.place _ c.self.invariant.can c.turn-after.ensures.can;
    }
