-- Streams of equal priority take turns by the RFC if a socket has `follow_rfc` (RFC 8260, sections 3.2
-- and 3.5). No turn changes that.
use Rattle.std.specs.Prelude.{◌≡◌}
use Rattle.dcsctp_spec_lemmas.specs.types.declared.options.Options.{Options}
use Rattle.dcsctp_spec_lemmas.specs.spec.endpoint.Endpoint.{Endpoint}
use Rattle.dcsctp_spec_lemmas.specs.spec.endpoint.Outcome.{Outcome}
use Rattle.dcsctp_spec_lemmas.specs.spec.endpoint.Turn.{Input, Turn}
use Rattle.dcsctp_spec_lemmas.specs.spec.queues.SendQueue.{empty_queue}
use Rattle.dcsctp_delivery_sockets.specs.turns.Asking.{own_of, SomeFit}
use Rattle.dcsctp_delivery_sockets.specs.turns.Actions.{IsCall}
use Rattle.dcsctp_delivery_sockets.specs.turns.Runs.{TakesTurnsByOption, OpensSmall}

-- The queue of a socket that was just made goes by the option,
abbrev pub FreshTakesTurns : Type 0
FreshTakesTurns = (options : Options) → (empty_queue options).takes_turns ≡ options.follow_rfc

-- and so it does after each turn that leaves the option.
abbrev pub TurnsStayByOption : Type 0
TurnsStayByOption =
    (e : Endpoint) (input : Input) (o : Outcome) → SomeFit (own_of e) → OpensSmall e input o → o.after.options.follow_rfc ≡ e.options.follow_rfc → IsCall input → Turn e input o
    → TakesTurnsByOption e → TakesTurnsByOption o.after
