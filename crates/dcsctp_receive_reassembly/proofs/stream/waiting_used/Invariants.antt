use Rattle.std.proofs.Common.{◌≡◌, ◌+◌, map}
use Rattle.dcsctp_receive_reassembly.specs.Streams.{waiting_whole}
use Rattle.dcsctp_receive_reassembly.specs.Held.{capped_u128}
use Rattle.dcsctp_api.specs.spec.queues.Runs.{wholes_used}
use Rattle.dcsctp_receive_reassembly.proofs.stream.waiting_used.Given as goal

-- What is counted, with what is left to count, is all.
abbrev pub invariant-loop-message : goal.invariant-loop-message
invariant-loop-message l =
    record {
      size : capped_u128 (l.used + wholes_used l.overhead (map waiting_whole l.message-iterator)) ≡ capped_u128 (wholes_used l.overhead (map waiting_whole l.waiting.entries));
      bound : l.used ≡ capped_u128 l.used;
    }
