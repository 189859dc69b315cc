use Rattle.std.proofs.Common.{◌+◌, ◌≤◌, map, drop}
use Rattle.std.specs.VecDeque.{deque_len, deque_capacity}
use Rattle.dcsctp_api.specs.spec.queues.Incoming.{IncomingModel, stream_on, SkipsAll}
use Rattle.dcsctp_receive_reassembly.specs.Reassembly.{Balances, incoming_of, entry_of}
use Rattle.dcsctp_receive_reassembly.specs.Skipping.{AllMade, room_for}
use Rattle.dcsctp_receive_reassembly.proofs.incoming.Incoming.skip_all.Given as goal

-- Whatever the other entries lead to from here, all lead to from the beginning.
abbrev pub invariant-loop-entry : goal.invariant-loop-entry
invariant-loop-entry l =
    record {
      skips : (new : IncomingModel) → SkipsAll (drop l.entry-index l.entries) (incoming_of l.self) new → SkipsAll l.entries (incoming_of l.initial.self) new;
      made : AllMade (drop l.entry-index l.entries) l.self.streams;
      room : deque_len l.self.ready + room_for (drop l.entry-index l.entries) (λ id. stream_on id (map entry_of l.self.streams.entries)) ≤ deque_capacity l.self.ready;
      used : Balances l.overhead l.initial.self l.self;
    }
