use Rattle.std.proofs.Common.{refl}
use Rattle.std.proofs.lemmas.Result.{err_from_is_err_and}
use Rattle.dcsctp_transfer.specs.spec.endpoint.FlushOutcomes.{first_ask}
use Rattle.dcsctp_core.specs.View.{view_of}
use Rattle.dcsctp_core.proofs.AskLemmas.{first_returns, forward_refused, reset_refused}
use Rattle.dcsctp_core.proofs.CutLemmas.{cut_untold}
use Rattle.dcsctp_core.proofs.context.Context.fill_first.Goals as goal

pub returns-in_err-acknowledge : goal.returns-in_err-acknowledge
returns-in_err-acknowledge g c =
    rw (err_from_is_err_and c.from_residual.result c.from_residual.ensures.1).1
    (λ draft is. cut_untold first_ask (view_of c.args.self.now) draft (view_of c.args.self.now).events refl)

pub returns-in_err-forward_tsn : goal.returns-in_err-forward_tsn
returns-in_err-forward_tsn g c =
    rw (err_from_is_err_and c.from_residual-in_err-forward_tsn.result c.from_residual-in_err-forward_tsn.ensures.1).1
    (λ draft is. forward_refused c.args.packet.now c.acknowledge.new.packet c.args.self.now c.may_send_data-may_follow.result c.acknowledge.new.self draft c.forward_tsn.new.self
    c.in_ok-acknowledge.ensures.ok c.in_err-forward_tsn.ensures.turn)

pub returns-in_err-begin_reset : goal.returns-in_err-begin_reset
returns-in_err-begin_reset g c =
    rw (err_from_is_err_and c.from_residual-in_err-begin_reset.result c.from_residual-in_err-begin_reset.ensures.1).1
    (λ draft is. reset_refused c.args.packet.now c.acknowledge.new.packet c.forward_tsn.new.packet c.args.self.now c.may_send_data-may_follow.result c.acknowledge.new.self c.forward_tsn.new.self draft
    (view_of c.begin_reset.new.self).events c.may_send_data-may_follow.ensures is c.in_ok-acknowledge.ensures.ok c.in_ok-forward_tsn.ensures.turn c.in_err-begin_reset.ensures.turn)

pub returns : goal.returns
returns g c =
    first_returns c.args.packet.now c.acknowledge.new.packet c.forward_tsn.new.packet c.begin_reset.new.packet c.fill_with_data.new.packet c.args.self.now c.may_send_data-may_follow.result c.acknowledge.new.self
    c.forward_tsn.new.self c.begin_reset.new.self c.fill_with_data.result c.fill_with_data.new.self c.may_send_data-may_follow.ensures c.in_ok-acknowledge.ensures.ok c.in_ok-forward_tsn.ensures.turn
    c.in_ok-begin_reset.ensures.turn c.fill_with_data.ensures.turn c.fill_with_data.ensures.idle
