use Rattle.std.proofs.Common.{◌≡◌, ℕ, map}
use Rattle.dcsctp_api.specs.spec.queues.Incoming.{stream_on}
use Rattle.dcsctp_api.specs.spec.queues.IncomingStreams.{streams_used}
use Rattle.dcsctp_api.specs.spec.queues.ReceivedParts.{restored_stream}
use Rattle.dcsctp_receive_reassembly.specs.Handover.{restored_over}
use Rattle.dcsctp_receive_reassembly.specs.Reassembly.{entry_of}
use Rattle.dcsctp_receive_reassembly.proofs.handover.restored_streams.Given as goal

-- With those that are left, which come before these in the list, all are restored.
abbrev pub invariant-loop-state : goal.invariant-loop-state
invariant-loop-state l =
    record {
      streams : (id : ℕ) → restored_over l.state-iterator.iter.rest.now id (stream_on id (map entry_of l.streams.entries)) ≡ restored_stream id l.states;
      used : (overhead : ℕ) → streams_used overhead (map entry_of l.streams.entries) ≡ 0;
    }
