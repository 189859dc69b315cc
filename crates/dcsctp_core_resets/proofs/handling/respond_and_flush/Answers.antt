use Rattle.std.proofs.lemmas.Result.{err_from_is_err_and}
use Rattle.dcsctp_core.specs.View.{view_of}
use Rattle.dcsctp_core_resets.specs.Requests.{reset_parameters}
use Rattle.dcsctp_core_resets.proofs.HandlingLemmas.{refused_finish, finish_refused, finish_by}
use Rattle.dcsctp_core_resets.proofs.handling.respond_and_flush.Goals as goal

pub returns-then-worked : goal.returns-then-worked
returns-then-worked g c =
    λ are held holds. refused_finish g.R.Rng.stream c.args.context.now c.refuse.result c.refuse.new.context held c.args.worked.is_refused (reset_parameters c.args.parameters.now)
    (reset_parameters c.args.worked.responses.items) c.if-worked.true c.refuse.ensures

pub returns-in_err-respond : goal.returns-in_err-respond
returns-in_err-respond g c =
    rw (err_from_is_err_and c.from_residual.result c.from_residual.ensures.1).1
    (λ are held holds. finish_refused c.args.context.now (view_of c.respond.new.context) held c.args.worked.is_refused (reset_parameters c.args.parameters.now)
    (reset_parameters c.args.worked.responses.items) (c.in_err-respond.ensures are))

pub returns : goal.returns
returns g c =
    λ are held holds. finish_by g.R.Rng.stream c.args.context.now c.respond.new.context c.send_buffered_packets.result c.send_buffered_packets.new.self held c.args.worked.is_refused
    (reset_parameters c.args.parameters.now) (reset_parameters c.args.worked.responses.items) c.if-worked.false holds (c.in_ok-respond.ensures are) c.send_buffered_packets.ensures
