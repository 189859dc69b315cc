-- An association that a turn records exists after it.
use Rattle.std.specs.Prelude.{◌≡◌, Some}
use Rattle.dcsctp_spec_lemmas.specs.spec.endpoint.Endpoint.{Endpoint, closed}
use Rattle.dcsctp_spec_lemmas.specs.spec.endpoint.Outcome.{Outcome}
use Rattle.dcsctp_spec_runs.specs.Past.{HasEffect}
use Rattle.dcsctp_spec_lemmas.specs.spec.endpoint.Turn.{Input, Turn}
use Rattle.dcsctp_spec_lemmas.specs.spec.association.Effect.{AssociationIdentity, holds, ends, identity_of_core}
use Rattle.dcsctp_delivery_sockets.specs.turns.Actions.{IsCall}

-- An association that is recorded in a turn exists after it.
abbrev pub HoldsMean : Type 0
HoldsMean = (e : Endpoint) (input : Input) (o : Outcome) (link : AssociationIdentity) → IsCall input → Turn e input o → HasEffect (holds link) o.effects → identity_of_core o.after.core ≡ Some link

-- After a turn that records an end there is none.
abbrev pub EndsMean : Type 0
EndsMean = (e : Endpoint) (input : Input) (o : Outcome) → IsCall input → Turn e input o → HasEffect ends o.effects → o.after.core ≡ closed
