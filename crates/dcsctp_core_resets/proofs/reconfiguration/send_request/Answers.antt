use Rattle.std.proofs.Common.{List, ap, sym, subst, ◌∙◌}
use Rattle.std.specs.List.{AllByRecursion, flat_map}
use Rattle.std.specs.Int.{w16, to_be_bytes}
use Rattle.dcsctp_core.specs.types.declared.ids.StreamId.{StreamId}
use Rattle.dcsctp_core.specs.types.Ids.{stream_numbers}
use Rattle.dcsctp_core.specs.declared.state.State.{State}
use Rattle.dcsctp_core.specs.Resetting.{IsStream}
use Rattle.dcsctp_core.specs.View.{view_of, Moves}
use Rattle.dcsctp_core_resets.specs.Repeating.{repeated_turn}
use Rattle.dcsctp_core_resets.proofs.RepeatingLemmas.{request_sent}
use Rattle.dcsctp_core_resets.proofs.reconfiguration.send_request.Goals as goal

pub returns-in_ok-is_sent-in-Some-reset_request : goal.returns-in_ok-is_sent-in-Some-reset_request
returns-in_ok-is_sent-in-Some-reset_request g c =
    let streams = c.deref.ensures.value in
    let old = c.args.context.now in
    subst (λ (s : State). Moves g.R.Rng.stream (view_of old) (repeated_turn c.args.is_renewed (view_of old)) (view_of (record c.emit_request.new.context { state = s }))) (sym c.renumber_where.ensures)
    (request_sent g.R.Rng.stream old c.emit_request.new.context c.in-Some.tcb.now c.in-Some-reset_request.request c.number_of-number.result
    c.last_tsn_of-last_tsn.result c.deref-in-Some-reset_request.result.now c.in_ok-is_sent-in-Some-reset_request.is_sent c.args.is_renewed c.number_of-number.ensures
    (sym c.in-Some.ensures) c.in-Some-reset_request.is
    c.last_tsn_of-last_tsn.ensures c.last_tsn_of-last_tsn.type_inv
    (subst (λ (ids : List StreamId). AllByRecursion IsStream (stream_numbers ids)) streams c.in_ok-streams-in-Some-reset_request.ensures.fit)
    (c.deref-in-Some-reset_request.ensures.value ∙ c.in_ok-streams-in-Some-reset_request.ensures.bytes ∙ ap (λ (ids : List StreamId). flat_map (to_be_bytes w16) (stream_numbers ids)) streams)
    (rw (sym c.says_new.ensures) (rw (sym c.number_answered.ensures) c.in_ok-is_sent-in-Some-reset_request.ensures)))
