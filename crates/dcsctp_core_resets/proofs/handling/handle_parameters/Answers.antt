use Rattle.std.proofs.Common.{Option, ap, refl, subst}
use Rattle.std.specs.Prelude.{is_some}
use Rattle.std.proofs.lemmas.Result.{err_from_is_err_and}
use Rattle.dcsctp_core.specs.declared.transmission_control_block.TransmissionControlBlock.{TransmissionControlBlock}
use Rattle.dcsctp_core.specs.View.{performed_reset, view_of}
use Rattle.dcsctp_core.proofs.LendingLemmas.{found, nobody}
use Rattle.dcsctp_core_resets.specs.Requests.{held_now, reset_parameters}
use Rattle.dcsctp_core_resets.specs.Resets.{HandlesForConnection}
use Rattle.dcsctp_core_resets.proofs.HandlingLemmas.{peer_of, rests, reset_refused, reset_by, asked_from, kept_so, still_held, carried_so, carried_cut, nobody_asked}
use Rattle.dcsctp_core_resets.proofs.handling.handle_parameters.Goals as goal

pub returns-in_default : goal.returns-in_default
returns-in_default g c =
    let old = c.args.context.now in
    rests g.R.Rng.stream old (reset_parameters c.args.parameters.now) (ap is_some (nobody old.state c.in_default.ensures))

pub returns-in_err-worked : goal.returns-in_err-worked
returns-in_err-worked g c =
    let old = c.args.context.now in
    rw (err_from_is_err_and c.from_residual.result c.from_residual.ensures.1).1
    (reset_refused old (peer_of old.state (ap is_some (found old.state c.in-Some.tcb.now c.in-Some.ensures))) (reset_parameters c.args.parameters.now) (view_of old).events refl)

pub returns-in_err-keep_renewable : goal.returns-in_err-keep_renewable
returns-in_err-keep_renewable g c =
    let old = c.args.context.now in
    rw (err_from_is_err_and c.from_residual-in_err-keep_renewable.result c.from_residual-in_err-keep_renewable.ensures.1).1
    (reset_refused old (peer_of old.state (ap is_some (found old.state c.in-Some.tcb.now c.in-Some.ensures))) (reset_parameters c.args.parameters.now) (view_of c.keep_renewable.new.context).events
    (ap (λ x. (view_of x).events) c.in_err-keep_renewable.ensures))

pub returns-in_err-carry_out : goal.returns-in_err-carry_out
returns-in_err-carry_out g c =
    let old = c.args.context.now in
    let worked = c.in_ok-worked.worked in
    let parameters = reset_parameters c.args.parameters.now in
    let chunk = subst (λ (held : Option TransmissionControlBlock). HandlesForConnection old.options.follow_rfc (performed_reset old.renewable) held parameters worked) c.in-Some.ensures c.in_ok-worked.ensures in
    let kept = c.in_ok-keep_renewable.ensures in
    let here = asked_from old c.keep_renewable.new.context c.keep_last.new.context kept.0 worked.last kept.2 c.keep_last.ensures in
    rw (err_from_is_err_and c.from_residual-in_err-carry_out.result c.from_residual-in_err-carry_out.ensures.1).1
    (carried_cut old c.keep_last.new.context c.carry_out.new.context (peer_of old.state (ap is_some (found old.state c.in-Some.tcb.now c.in-Some.ensures))) kept.0 worked _ parameters chunk here c.requested-request.ensures.wanted
    (c.in_err-carry_out.ensures (nobody_asked old c.keep_last.new.context kept.0 worked parameters chunk here)))

pub returns : goal.returns
returns g c =
    let old = c.args.context.now in
    let worked = c.in_ok-worked.worked in
    let parameters = reset_parameters c.args.parameters.now in
    let peer = peer_of old.state (ap is_some (found old.state c.in-Some.tcb.now c.in-Some.ensures)) in
    let chunk = subst (λ (held : Option TransmissionControlBlock). HandlesForConnection old.options.follow_rfc (performed_reset old.renewable) held parameters worked) c.in-Some.ensures c.in_ok-worked.ensures in
    let kept = c.in_ok-keep_renewable.ensures in
    let here = asked_from old c.keep_renewable.new.context c.keep_last.new.context kept.0 worked.last kept.2 c.keep_last.ensures in
    let so = kept_so old kept.0 c.in-Some.tcb.now parameters worked c.requested-request.result c.in-Some.ensures c.requested-request.ensures.number c.requested-request.ensures.wanted kept.1 in
    let carried = carried_so old c.keep_last.new.context c.carry_out.new.context kept.0 worked _ parameters here c.requested-request.ensures.wanted
    (c.in_ok-carry_out.ensures (nobody_asked old c.keep_last.new.context kept.0 worked parameters chunk here)) in
    reset_by g.R.Rng.stream old c.carry_out.new.context peer kept.0 parameters worked chunk so carried.0 carried.1 carried.2 c.respond_and_flush.result c.respond_and_flush.new.context
    (c.respond_and_flush.ensures chunk.are (held_now peer.held worked) (still_held old c.carry_out.new.context peer kept.0 worked parameters carried.0 chunk carried.2))
