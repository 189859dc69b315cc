-- What holds of a chunk's answer, whether its packet may still bring one or not.
use Rattle.std.proofs.Common.{ℕ, Bool, true, false, []}
use Rattle.dcsctp_spec.specs.types.declared.options.Options.{Options}
use Rattle.dcsctp_spec.specs.Packet.{Introduction, Emission}
use Rattle.dcsctp_spec.specs.endpoint.Endpoint.{Endpoint, Core, may_answer}
use Rattle.dcsctp_spec.specs.endpoint.Outcome.{Outcome, still, emits, answering, answered_if_allowed, answers_with}
use Rattle.dcsctp_spec.specs.endpoint.HandshakeOutcomes.{init_outcome, init_answered}
use Rattle.dcsctp_spec.specs.association.Choices.{Choices}
use Rattle.dcsctp_spec.specs.association.Controlled.{IsControlled}
use Rattle.dcsctp_spec.specs.association.Effect.{Change, no_change}
use Rattle.dcsctp_spec.specs.association.HandshakeChanges.{init_change, answered_init_change}

answered_at : (may : Bool) (P : Outcome → Type 0) (e : Endpoint) (emission : Emission) → P (still e) → P (answering (emits e [] emission)) → P (answered_if_allowed may e emission)
answered_at false P e emission rests goes = rests
answered_at true P e emission rests goes = goes

pub answered_by : (P : Outcome → Type 0) (e : Endpoint) (emission : Emission) → P (still e) → P (answering (emits e [] emission)) → P (answers_with e emission)
answered_by P e emission rests goes = answered_at (may_answer e) P e emission rests goes

init_at : (may : Bool) (P : Outcome → Type 0) (e : Endpoint) (theirs : Introduction) (word next : ℕ)
    → P (still e) → P (answering (init_outcome e theirs e.core word next)) → P (init_answered may e theirs word next)
init_at false P e theirs word next rests goes = rests
init_at true P e theirs word next rests goes = goes

pub init_by : (P : Outcome → Type 0) (e : Endpoint) (theirs : Introduction) (word next : ℕ)
    → P (still e) → P (answering (init_outcome e theirs e.core word next)) → P (init_answered (may_answer e) e theirs word next)
init_by P e theirs word next rests goes = init_at (may_answer e) P e theirs word next rests goes

-- That it is counted concerns no association.
pub answering_controlled : (e : Endpoint) (o : Outcome) (change : Change) → IsControlled e o change → IsControlled e (answering o) change
answering_controlled e o change h =
    record { core = h.core; options = h.options; observations = h.observations; effects = h.effects; following = h.following }

change_at : (may : Bool) (P : Change → Type 0) (options : Options) (core : Core) (theirs : Introduction) (choices : Choices)
    → P (no_change core) → P (init_change options core theirs choices) → P (answered_init_change may options core theirs choices)
change_at false P options core theirs choices rests goes = rests
change_at true P options core theirs choices rests goes = goes

-- of the association
pub change_by : (P : Change → Type 0) (options : Options) (core : Core) (theirs : Introduction) (choices : Choices)
    → P (no_change core) → P (init_change options core theirs choices) → P (answered_init_change choices.may_answer options core theirs choices)
change_by P options core theirs choices rests goes = change_at choices.may_answer P options core theirs choices rests goes
