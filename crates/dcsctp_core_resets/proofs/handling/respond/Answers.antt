use Rattle.std.proofs.Common.{◌==◌, List, length, sym, ap, subst, ◌∙◌}
use Rattle.dcsctp_core.specs.wire.Content.{ParameterContent, re_config_chunk}
use Rattle.dcsctp_core.specs.wire.declared.parameter.Parameter.{Parameter}
use Rattle.dcsctp_core.specs.Handling.{AnswersPeer}
use Rattle.dcsctp_core_resets.specs.Requests.{reset_parameters}
use Rattle.dcsctp_core_resets.proofs.HandlingLemmas.{some_said, responses_sent}
use Rattle.dcsctp_core_resets.proofs.handling.respond.Goals as goal

pub returns : goal.returns
returns g c =
    let old = c.args.context.now in
    λ are. responses_sent g.R.Rng.stream old c.answer_peer.result c.answer_peer.new.self (reset_parameters c.args.responses.items)
    (some_said c.args.responses.items (ap (λ (ps : List Parameter). length ps == 0) (sym c.as_slice.ensures.value)
    ∙ sym c.is_empty.ensures ∙ c.if-is_empty.false))
    (subst (λ (ps : List ParameterContent). AnswersPeer (re_config_chunk ps) old c.answer_peer.result c.answer_peer.new.self) (sym are)
    c.answer_peer.ensures)
