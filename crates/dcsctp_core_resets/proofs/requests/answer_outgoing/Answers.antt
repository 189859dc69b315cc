use Rattle.std.proofs.Common.{subst}
use Rattle.dcsctp_core.specs.spec.association.ResetChanges.{RequestPlace, outgoing_by_place}
use Rattle.dcsctp_core_resets.specs.Requests.{in_state, AnswersAs, held_with}
use Rattle.dcsctp_core_resets.proofs.RequestLemmas.{accepted_as}
use Rattle.dcsctp_core_resets.proofs.requests.answer_outgoing.Goals as goal

pub returns-in-Next : goal.returns-in-Next
returns-in-Next c =
    λ base. subst (λ (place : RequestPlace). AnswersAs base c.answer_next.result (outgoing_by_place (held_with base c.args.last) c.args.number (in_state c.args.state) place)) c.in-Next.ensures
    (accepted_as base c.args.last c.args.number _ _ (c.answer_next.ensures (held_with base c.args.last)))

pub returns-in-Astray : goal.returns-in-Astray
returns-in-Astray c = λ base. subst (λ (place : RequestPlace). AnswersAs base c.refused.result (outgoing_by_place (held_with base c.args.last) c.args.number (in_state c.args.state) place)) c.in-Astray.ensures (c.refused.ensures base)
