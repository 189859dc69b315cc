use Rattle.std.specs.Option.{option_map}
use Rattle.std.proofs.lemmas.Result.{err_from_is_err_and}
use Rattle.dcsctp_core_resets.specs.Resets.{reset_of_request}
use Rattle.dcsctp_core_resets.proofs.SettlingLemmas.{none_told, own_first, peer_first}
use Rattle.dcsctp_core_resets.proofs.handling.carry_out.Goals as goal

pub returns-in_err-tell : goal.returns-in_err-tell
returns-in_err-tell g c =
    λ asked. rw (err_from_is_err_and c.from_residual.result c.from_residual.ensures.1).1
    (none_told c.args.worked.now (option_map reset_of_request c.args.request) c.args.context.now c.settle-told.new.context c.tell.new.context c.settle-told.result (c.settle-told.ensures asked) c.in_err-tell.ensures)

pub returns-then-worked : goal.returns-then-worked
returns-then-worked g c =
    λ asked. own_first c.args.worked.now (option_map reset_of_request c.args.request) c.args.context.now c.settle-told.new.context c.tell.new.context c.settle-told.result c.carry_out_reset.result c.carry_out_reset.new.context c.if-worked.true
    (c.settle-told.ensures asked) c.in_ok-tell.ensures c.carry_out_reset.ensures

pub returns-in_err-carry_out_reset : goal.returns-in_err-carry_out_reset
returns-in_err-carry_out_reset g c =
    λ asked. rw (err_from_is_err_and c.from_residual-in_err-carry_out_reset.result c.from_residual-in_err-carry_out_reset.ensures.1).1
    (none_told c.args.worked.now (option_map reset_of_request c.args.request) c.args.context.now c.settle-told.new.context c.carry_out_reset-2.new.context c.settle-told.result (c.settle-told.ensures asked) c.in_err-carry_out_reset.ensures)

pub returns : goal.returns
returns g c =
    λ asked.
    let treated = c.in_ok-carry_out_reset.ensures in
    peer_first c.args.worked.now (option_map reset_of_request c.args.request) c.args.context.now c.settle-told.new.context c.carry_out_reset-2.new.context c.settle-told.result treated.0 c.tell-2.result c.tell-2.new.context c.if-worked.false
    (c.settle-told.ensures asked) treated.1 treated.2 c.tell-2.ensures
