use Rattle.std.proofs.Common.{◌≡◌, map}
use Rattle.std.specs.List.{list_any}
use Rattle.dcsctp_api.specs.spec.queues.Readiness.{holds_parts}
use Rattle.dcsctp_receive_reassembly.specs.Reassembly.{entry_of}
use Rattle.dcsctp_receive_reassembly.proofs.incoming.any_holds_parts.Given as goal

-- None of the streams so far holds parts.
abbrev pub invariant-loop-stream : goal.invariant-loop-stream
invariant-loop-stream l =
    record { any : list_any (λ entry. holds_parts entry.1) (map entry_of l.streams.entries) ≡ list_any (λ entry. holds_parts entry.1) (map entry_of l.stream-iterator) }
