use Rattle.std.proofs.Common.{◌≡◌, map, take}
use Rattle.dcsctp_receive_reassembly.specs.Held.{capped_usize}
use Rattle.dcsctp_api.specs.spec.queues.Runs.{payloads_used}
use Rattle.dcsctp_receive_reassembly.proofs.runs.size_of.Given as goal

abbrev pub invariant-loop-index : goal.invariant-loop-index
invariant-loop-index l =
    l.size ≡ capped_usize (payloads_used 0 (map (λ payload. payload.items) (take l.index l.payloads.items)))
