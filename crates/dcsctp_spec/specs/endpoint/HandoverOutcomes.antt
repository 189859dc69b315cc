-- How an association leaves for another process.
use Rattle.std.specs.Prelude.{[]}
use Rattle.dcsctp_spec.specs.endpoint.Event as events
use Rattle.dcsctp_spec.specs.endpoint.Endpoint.{Endpoint, Core, open_in, established}
use Rattle.dcsctp_spec.specs.endpoint.Outcome.{Outcome, still, quiet}
use Rattle.dcsctp_spec.specs.endpoint.EndOutcomes.{ended_outcome}

-- It ends here, and nothing is sent to the peer. Only one that is open and not shutting down can be handed over.
abbrev pub hand_over_outcome : Endpoint → Core → Outcome
hand_over_outcome e (open_in established my held) = ended_outcome (quiet e [] []) events.closed
hand_over_outcome e core = still e
