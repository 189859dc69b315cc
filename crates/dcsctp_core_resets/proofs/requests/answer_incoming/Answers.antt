use Rattle.std.proofs.Common.{subst}
use Rattle.dcsctp_core.specs.spec.association.ResetChanges.{RequestPlace, incoming_by_place}
use Rattle.dcsctp_core_resets.specs.Requests.{AnswersAs, held_with}
use Rattle.dcsctp_core_resets.proofs.requests.answer_incoming.Goals as goal

pub returns-in-Astray : goal.returns-in-Astray
returns-in-Astray c = λ base. subst (λ (place : RequestPlace). AnswersAs base c.refused.result (incoming_by_place (held_with base c.args.last) c.args.number place)) c.in-Astray.ensures (c.refused.ensures base)
