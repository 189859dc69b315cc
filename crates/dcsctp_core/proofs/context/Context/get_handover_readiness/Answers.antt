use Rattle.std.proofs.Common.{◌≡◌, sym, subst, refl, Some}
use Rattle.dcsctp_transfer.specs.types.declared.association.Held.{Held}
use Rattle.dcsctp_transfer.specs.spec.endpoint.Endpoint.{established, held_by_core}
use Rattle.dcsctp_transfer.specs.spec.Handover.{readiness_by_core, readiness_open}
use Rattle.dcsctp_core.specs.declared.state.OpenPhase.{OpenPhase}
use Rattle.dcsctp_core.specs.declared.state.State.{State}
use Rattle.dcsctp_core.specs.View.{core_of, endpoint_of, held_of, phase_of_open}
use Rattle.dcsctp_core.proofs.context.Context.get_handover_readiness.Goals as goal

pub returns-in-Established-clause-reasons : goal.returns-in-Established-clause-reasons
returns-in-Established-clause-reasons g c =
    let e = endpoint_of c.args.self.now in
    let found = c.readiness_of_parts-of_parts.result.0 in
    let held = held_of c.in-Open.opened.tcb in
    let Q : OpenPhase → Type 0 = λ phase. found ≡ readiness_open e (phase_of_open phase) held in
    let P : State → Type 0 = λ state. ((held : Held) → held_by_core (core_of state) ≡ Some held → found ≡ readiness_open e established held) → found ≡ readiness_by_core e (core_of state) in
    subst P (sym c.in-Open.is) (λ reasons. subst Q (sym c.in-Established.is) (reasons held refl)) c.readiness_of_parts-of_parts.ensures.reasons
