use Rattle.std.proofs.lemmas.Result.{err_from_is_err_and}
use Rattle.std.proofs.Common.{ap}
use Rattle.dcsctp_core.specs.spec.queues.SendQueue.{SendQueueState}
use Rattle.dcsctp_core.specs.api.Cookie.{cookie_of}
use Rattle.dcsctp_core.specs.View.{view_of}
use Rattle.dcsctp_core_handshake.proofs.AssociationSteps.{replaces, replaces_cut}
use Rattle.dcsctp_core_handshake.proofs.cookie_echo.replace.Goals as goal

pub returns-in_err-establish : goal.returns-in_err-establish
returns-in_err-establish g c =
    let old = c.args.context.now in
    rw (err_from_is_err_and c.from_residual.result c.from_residual.ensures.1).1
    (replaces_cut g.R.Rng.stream (view_of old) _ _ (cookie_of c.args.cookie.now)
    (ap (λ (queue : SendQueueState). view_of (record old { send_queue = queue })) c.reset.ensures) c.in_err-establish.ensures)

pub returns : goal.returns
returns g c =
    let old = c.args.context.now in
    replaces g.R.Rng.stream (view_of old) _ _ (cookie_of c.args.cookie.now)
    (ap (λ (queue : SendQueueState). view_of (record old { send_queue = queue })) c.reset.ensures) c.in_ok-establish.ensures
