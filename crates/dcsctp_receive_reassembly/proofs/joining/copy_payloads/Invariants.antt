use Rattle.std.proofs.Common.{◌≡◌, ◌++◌, map, take}
use Rattle.dcsctp_api.specs.spec.queues.Runs.{joined_bytes}
use Rattle.dcsctp_receive_reassembly.proofs.joining.copy_payloads.Given as goal

abbrev pub invariant-loop-index : goal.invariant-loop-index
invariant-loop-index l =
    l.joined.items ≡ l.initial.joined.items ++ joined_bytes (map (λ payload. payload.items) (take l.index l.payloads.items))
