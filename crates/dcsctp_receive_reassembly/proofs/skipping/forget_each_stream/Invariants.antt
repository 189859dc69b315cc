use Rattle.std.proofs.Common.{◌≡◌, ◌-◌, ◌≤◌, ℕ, map, drop, if◌then◌else◌}
use Rattle.dcsctp_api.specs.types.Ids.{stream_numbers}
use Rattle.dcsctp_receive_reassembly.specs.Held.{capped_u128}
use Rattle.dcsctp_api.specs.spec.queues.Incoming.{is_named, stream_on}
use Rattle.dcsctp_api.specs.spec.queues.IncomingStreams.{streams_used}
use Rattle.dcsctp_receive_reassembly.specs.Reassembly.{entry_of}
use Rattle.dcsctp_api.specs.spec.queues.IncomingStreams.{new_stream}
use Rattle.dcsctp_receive_reassembly.proofs.skipping.forget_each_stream.Given as goal

-- What the other streams lead to from here, all lead to from the beginning.
abbrev pub invariant-loop-id : goal.invariant-loop-id
invariant-loop-id l =
    record {
      streams : (other : ℕ) → (if is_named (stream_numbers (drop l.id-index l.ids)) other then new_stream other else stream_on other (map entry_of l.streams.entries)) ≡ (if is_named (stream_numbers l.ids) other then new_stream other else stream_on other (map entry_of l.initial.streams.entries));
      less : streams_used l.overhead (map entry_of l.streams.entries) ≤ streams_used l.overhead (map entry_of l.initial.streams.entries);
      size : l.used ≡ capped_u128 (streams_used l.overhead (map entry_of l.initial.streams.entries) - streams_used l.overhead (map entry_of l.streams.entries));
    }
