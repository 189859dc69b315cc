use Rattle.std.proofs.Common.{◌≡◌, ◌++◌, take, map}
use Rattle.std.specs.List.{flat_map}
use Rattle.std.specs.Iterator.Adapters.{take_source, take_count}
use Rattle.dcsctp_receive_tracker.specs.Received.{range_of, ranges_of}
use Rattle.dcsctp_spec_lemmas.specs.spec.queues.Tracker.{block_bytes}
use Rattle.dcsctp_receive_tracker.proofs.BlockLemmas.{AreNear}
use Rattle.dcsctp_receive_tracker.proofs.data_tracker.gap_ack_blocks.Given as goal

abbrev pub invariant-loop-first : goal.invariant-loop-first
invariant-loop-first l =
    record {
      bytes : l.blocks.items ++ flat_map (block_bytes l.received.cumulative) (take (take_count l.first-iterator) (map range_of (take_source l.first-iterator))) ≡ flat_map (block_bytes l.received.cumulative) (take l.most (ranges_of l.received.ranges));
      near : AreNear l.received.cumulative (map range_of (take_source l.first-iterator));
    }
