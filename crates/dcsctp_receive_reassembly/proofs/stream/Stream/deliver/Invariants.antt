use Rattle.dcsctp_api.specs.types.queues.Messages.{message_content}
use Rattle.std.proofs.Common.{◌≡◌, ◌+◌, ◌≤◌, ◌++◌, map, length}
use Rattle.std.specs.VecDeque.{deque_len, deque_capacity}
use Rattle.std.specs.BTreeMap.{btree_map_len}
use Rattle.dcsctp_receive_reassembly.specs.Streams.{stream_model}
use Rattle.dcsctp_api.specs.spec.queues.IncomingStreams.{delivered_from, deliveries_from}
use Rattle.dcsctp_receive_reassembly.proofs.stream.Stream.deliver.Given as goal

-- What is delivered from here on, with what was, is what is delivered from the beginning.
abbrev pub invariant-loop-self : goal.invariant-loop-self
invariant-loop-self l =
    record {
      room : deque_len l.ready + btree_map_len l.self.waiting ≤ deque_capacity l.ready;
      capacity : deque_capacity l.ready ≡ deque_capacity l.initial.ready;
      bound : l.count + btree_map_len l.self.waiting ≤ btree_map_len l.initial.self.waiting;
      stream : delivered_from l.self.next (stream_model l.self) ≡ delivered_from l.initial.self.next (stream_model l.initial.self);
      ready : map message_content l.ready.items ++ deliveries_from l.self.next (stream_model l.self) ≡ map message_content l.initial.ready.items ++ deliveries_from l.initial.self.next (stream_model l.initial.self);
      count : l.count + length (deliveries_from l.self.next (stream_model l.self)) ≡ length (deliveries_from l.initial.self.next (stream_model l.initial.self));
    }

abbrev pub decreases-loop-self : goal.decreases-loop-self
decreases-loop-self l = btree_map_len l.self.waiting
