use Rattle.std.proofs.Common.{◌≡◌, ◌+◌, map}
use Rattle.std.specs.BTreeMap.{btree_map_len}
use Rattle.dcsctp_receive_reassembly.specs.Held.{capped_u128}
use Rattle.dcsctp_api.specs.spec.queues.IncomingStreams.{streams_used}
use Rattle.dcsctp_receive_reassembly.specs.Reassembly.{entry_of}
use Rattle.dcsctp_receive_reassembly.proofs.skipping.forget_streams.Given as goal

abbrev pub invariant-loop-stream : goal.invariant-loop-stream
invariant-loop-stream l =
    record {
      size : capped_u128 (l.used + streams_used l.overhead (map entry_of l.streams.entries)) ≡ capped_u128 (streams_used l.overhead (map entry_of l.initial.streams.entries));
      bound : l.used ≡ capped_u128 l.used;
    }

abbrev pub decreases-loop-stream : goal.decreases-loop-stream
decreases-loop-stream l = btree_map_len l.streams
