use Rattle.std.proofs.Common.{◌≡◌, map, take}
use Rattle.dcsctp_receive_reassembly.specs.Held.{capped_u128}
use Rattle.dcsctp_api.specs.spec.queues.Runs.{payloads_used}
use Rattle.dcsctp_receive_reassembly.proofs.runs.payloads_used.Given as goal

abbrev pub invariant-loop-index : goal.invariant-loop-index
invariant-loop-index l =
    l.used ≡ capped_u128 (payloads_used l.overhead (map (λ payload. payload.items) (take l.index l.payloads.items)))
