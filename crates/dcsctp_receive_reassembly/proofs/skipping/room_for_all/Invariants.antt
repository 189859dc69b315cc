use Rattle.std.proofs.Common.{◌≡◌, ◌+◌, map, drop}
use Rattle.dcsctp_api.specs.spec.queues.Incoming.{stream_on}
use Rattle.dcsctp_api.specs.types.StreamTables.{marks}
use Rattle.dcsctp_receive_reassembly.specs.Held.{capped_usize}
use Rattle.dcsctp_receive_reassembly.specs.Reassembly.{entry_of}
use Rattle.dcsctp_receive_reassembly.specs.Skipping.{room_beyond, room_for}
use Rattle.dcsctp_receive_reassembly.proofs.skipping.room_for_all.Given as goal

-- What is counted, with what is left to count, is all.
abbrev pub invariant-loop-entry : goal.invariant-loop-entry
invariant-loop-entry l =
    record {
      room : capped_usize (l.room + room_beyond (marks l.seen) (drop l.entry-index l.entries) (λ id. stream_on id (map entry_of l.streams.entries))) ≡ capped_usize (room_for l.entries (λ id. stream_on id (map entry_of l.streams.entries)));
      bound : l.room ≡ capped_usize l.room;
    }
