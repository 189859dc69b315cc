use Rattle.std.proofs.Common.{◌≡◌, ◌++◌, map}
use Rattle.dcsctp_api.specs.spec.queues.ReceivedParts.{ordered_stream}
use Rattle.dcsctp_receive_reassembly.specs.Reassembly.{entry_of}
use Rattle.dcsctp_receive_reassembly.proofs.handover.ordered_streams.Given as goal

-- The streams so far, and those that are left, are all.
abbrev pub invariant-loop-id : goal.invariant-loop-id
invariant-loop-id l =
    record { all : l.list.items ++ map (λ entry. ordered_stream entry.0 entry.1) (map entry_of l.id-iterator) ≡ map (λ entry. ordered_stream entry.0 entry.1) (map entry_of l.streams.entries) }
