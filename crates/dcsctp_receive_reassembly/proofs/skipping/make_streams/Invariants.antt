use Rattle.std.proofs.Common.{◌≡◌, ℕ, map, take}
use Rattle.dcsctp_api.specs.spec.queues.IncomingStreams.{streams_used}
use Rattle.dcsctp_receive_reassembly.specs.Reassembly.{entry_of}
use Rattle.dcsctp_api.specs.spec.queues.Incoming.{KeepsStreams}
use Rattle.dcsctp_receive_reassembly.specs.Skipping.{AllMade}
use Rattle.dcsctp_receive_reassembly.proofs.skipping.make_streams.Given as goal

abbrev pub invariant-loop-entry : goal.invariant-loop-entry
invariant-loop-entry l =
    record {
      made : AllMade (take l.entry-index l.entries) l.streams;
      streams : KeepsStreams (map entry_of l.initial.streams.entries) (map entry_of l.streams.entries);
      used : (overhead : ℕ) → streams_used overhead (map entry_of l.streams.entries) ≡ streams_used overhead (map entry_of l.initial.streams.entries);
    }
