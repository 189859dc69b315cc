use Rattle.std.proofs.Common.{◌+◌, true, List, take, drop, refl, sym, subst, ◌∙◌, arith}
use Rattle.std.proofs.lemmas.List.{take_all}
use Rattle.dcsctp_core.specs.spec.Reconfiguration.{ResetParameter}
use Rattle.dcsctp_core.specs.wire.declared.parameter.Parameter.{Parameter}
use Rattle.dcsctp_core_resets.specs.declared.requests.HandledRequests.{HandledRequests}
use Rattle.dcsctp_core_resets.specs.Requests.{in_state, HandlesParameters, reset_parameters}
use Rattle.dcsctp_core_resets.proofs.RequestLemmas.{Progress, none_so_far, one_more, none_if, none_yet, parameters_more, parameters_split, second_worked, ends_worked}
use Rattle.dcsctp_core_resets.proofs.requests.handle_requests.Goals.{else-worked-via-then-worked+else-is_outgoing, else-worked-via-else-worked}
use Rattle.dcsctp_core_resets.proofs.requests.handle_requests.Goals as goal

pub loop-parameter-init : goal.loop-parameter-init
loop-parameter-init c = record { done = none_so_far (in_state c.args.state) c.args.last c.args.outstanding _ _ c.new.ensures.items refl; refused = c.is_empty.ensures }

-- A second outgoing request ends it.
pub returns-then-is_outgoing : goal.returns-then-is_outgoing
returns-then-is_outgoing c =
    let i = c.loop-parameter.parameter-index in
    let parameters = c.args.parameters.now in
    let refused : HandledRequests = record c.loop-parameter.worked { is_refused = true } in
    subst (λ (ps : List ResetParameter). HandlesParameters (in_state c.args.state) c.args.last c.args.outstanding ps refused) (sym (parameters_split parameters i _ c.loop-parameter-test.true))
    (second_worked (in_state c.args.state) c.args.last c.args.outstanding (reset_parameters (take i parameters)) (reset_parameters (drop (i + 1) parameters)) _ c.loop-parameter.worked refused
    c.loop-parameter.invariant.done c.if-worked.true (sym c.is_outgoing.ensures ∙ c.if-is_outgoing.true) refl)

pub loop-parameter-preserved : goal.loop-parameter-preserved
loop-parameter-preserved c =
    let i = c.loop-parameter.parameter-index in
    let parameters = c.args.parameters.now in
    let step = c.in_ok-handle_parameter.ensures in
    record {
      done = subst (λ (ps : List ResetParameter). Progress (in_state c.args.state) c.args.last c.args.outstanding ps c.handle_parameter.new.self) (sym (parameters_more parameters i _ c.loop-parameter-test.true))
          (one_more (in_state c.args.state) c.args.last c.args.outstanding (reset_parameters (take i parameters)) _ c.loop-parameter.worked c.handle_parameter.new.self
          (elim c.else-worked.branch [
            | else-worked-via-then-worked+else-is_outgoing w ↦ none_if _ _ (sym w.is_outgoing.ensures ∙ w.if-is_outgoing.false)
            | else-worked-via-else-worked w ↦ none_yet _ _ w.if-worked.false
          ])
          c.loop-parameter.invariant.done step);
      refused = step.refused ∙ c.loop-parameter.invariant.refused;
    }

pub returns : goal.returns
returns c =
    let parameters = c.args.parameters.now in
    ends_worked (in_state c.args.state) c.args.last c.args.outstanding parameters c.loop-parameter.worked
    (subst (λ (ps : List Parameter). Progress (in_state c.args.state) c.args.last c.args.outstanding (reset_parameters ps) c.loop-parameter.worked)
    (take_all c.loop-parameter.parameter-index parameters (omega (arith, c.loop-parameter-test.false))) c.loop-parameter.invariant.done) c.loop-parameter.invariant.refused
