-- One answer a packet, by the RFCs' rules.
use Rattle.std.specs.Prelude.{◌≡◌, false, List}
use Rattle.dcsctp_spec_lemmas.specs.wire.Content.{ParameterContent}
use Rattle.dcsctp_spec_lemmas.specs.types.declared.association.Held.{Held}
use Rattle.dcsctp_spec_lemmas.specs.spec.Packet.{Introduction}
use Rattle.dcsctp_spec_lemmas.specs.spec.Reconfiguration.{ResetParameter}
use Rattle.dcsctp_spec_lemmas.specs.spec.endpoint.Endpoint.{Endpoint, Core, may_answer}
use Rattle.dcsctp_spec_lemmas.specs.spec.endpoint.HandshakeOutcomes.{InitTurn}
use Rattle.dcsctp_spec_lemmas.specs.spec.endpoint.HeartbeatOutcomes.{heartbeat_outcome}
use Rattle.dcsctp_spec_lemmas.specs.spec.endpoint.Outcome.{Outcome, still}
use Rattle.dcsctp_spec_lemmas.specs.spec.endpoint.ResetOutcomes.{responses_outcome}

-- Where a chunk of the packet was answered, an INIT and a HEARTBEAT change nothing, and a RE-CONFIG isn't answered.
pub record NoneIsAnswered (e : Endpoint) : Type 0 where
  pub inits : (theirs : Introduction) (o : Outcome) → InitTurn e theirs o → o ≡ still e
  pub heartbeats : (core : Core) (parameters : List ParameterContent) → heartbeat_outcome e core parameters ≡ still e
  pub requests : (held : Held) (responses : List ResetParameter) → responses_outcome e held responses ≡ still e

abbrev pub OneIsAnswered : Type 0
OneIsAnswered = (e : Endpoint) → may_answer e ≡ false → NoneIsAnswered e
