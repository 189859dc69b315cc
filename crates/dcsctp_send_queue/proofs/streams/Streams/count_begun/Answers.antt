use Rattle.std.proofs.Common.{◌<◌, length}
use Rattle.dcsctp_send_queue.proofs.BytesLemmas.{bytes_same, can_same}
use Rattle.dcsctp_send_queue.proofs.PauseLemmas.{paused_same}
use Rattle.dcsctp_send_queue.proofs.StreamLemmas.{ranked_read_same, counted-id, counted-turn, counted-standing, counted-messages, counted-under_way}
use Rattle.dcsctp_send_queue.proofs.streams.Streams.count_begun.Goals as goal

pub invariant_of-self : goal.invariant_of-self
invariant_of-self c =
    let lt : c.args.place < length c.self.inside.items = rw c.self.view_is c.requires in
    record {
      ranked = ranked_read_same _ _ _ c.args.place _ _ c.self.invariant.ranked lt c.at_mut-stream.ensures.value
          (rw c.count_begun.ensures (counted-id c.args.is_interleaved c.args.is_unordered c.at_mut-stream.result.now)) (rw c.count_begun.ensures (counted-turn c.args.is_interleaved c.args.is_unordered c.at_mut-stream.result.now));
      paused = paused_same _ _ c.args.place _ _ c.self.invariant.ranked.ascending c.self.invariant.paused lt c.at_mut-stream.ensures.value
          (rw c.count_begun.ensures (counted-id c.args.is_interleaved c.args.is_unordered c.at_mut-stream.result.now)) (rw c.count_begun.ensures (counted-standing c.args.is_interleaved c.args.is_unordered c.at_mut-stream.result.now));
      bytes = bytes_same _ c.args.place _ _ c.self.invariant.bytes lt c.at_mut-stream.ensures.value (rw c.count_begun.ensures (counted-messages c.args.is_interleaved c.args.is_unordered c.at_mut-stream.result.now));
      can = can_same _ c.args.place _ _ c.self.invariant.can lt c.at_mut-stream.ensures.value (rw c.count_begun.ensures (counted-id c.args.is_interleaved c.args.is_unordered c.at_mut-stream.result.now))
          (rw c.count_begun.ensures (counted-messages c.args.is_interleaved c.args.is_unordered c.at_mut-stream.result.now)) (rw c.count_begun.ensures (counted-under_way c.args.is_interleaved c.args.is_unordered c.at_mut-stream.result.now));
    }
