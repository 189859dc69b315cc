use Rattle.std.proofs.Common.{List, [], ◌∷◌, append_assoc, subst, sym, ◌∙◌}
use Rattle.std.proofs.lemmas.List.{map_push, append-nil}
use Rattle.dcsctp_wire.specs.Content.{ParameterContent, parameter_content}
use Rattle.dcsctp_wire.specs.Fields.{parameter_of}
use Rattle.dcsctp_wire.specs.Format.{IsReadAsItem, AreParameters}
use Rattle.dcsctp_wire.proofs.Frames.{some_left, none_left}
use Rattle.dcsctp_wire.proofs.Items.{one_is_read, others, none_are}
use Rattle.dcsctp_wire.proofs.parameter.read_parameters.Goals as goal

pub returns-in_default-clause-malformed : goal.returns-in_default-clause-malformed
returns-in_default-clause-malformed c = λ _ ps h.
    let left = c.loop-rest.invariant.only ps h in
    none_are (IsReadAsItem parameter_of) c.loop-rest.rest.now (some_left c.loop-rest.rest.now (sym c.is_empty.ensures ∙ c.loop-rest-test.true)) c.in_default.ensures.gives left.0 left.1

pub loop-rest-preserved : goal.loop-rest-preserved
loop-rest-preserved c =
    let begins = c.in-Some.ensures.gives in
    let pushed = map_push parameter_content c.loop-rest.parameters.items c.in-Some.parameter in
    record {
      found = λ qs h. rw (c.in_ok-push.ensures.items, pushed, append_assoc) (c.loop-rest.invariant.found (parameter_content c.in-Some.parameter ∷ qs) (c.in-Some.after.now, begins, h));
      only = λ ps h. let left = c.loop-rest.invariant.only ps h in others (IsReadAsItem parameter_of) (one_is_read parameter_of) (parameter_content c.in-Some.parameter) c.in-Some.after.now c.loop-rest.rest.now begins left.0 left.1;
    }

pub returns-clause-found : goal.returns-clause-found
returns-clause-found c =
    subst (λ (ps : List ParameterContent). AreParameters ps c.args.bytes.now) (append-nil _) (c.loop-rest.invariant.found [] (none_left c.loop-rest.rest.now (sym c.is_empty.ensures ∙ c.loop-rest-test.false)))
