use Rattle.std.proofs.lemmas.Result.{err_from_is_err_and}
use Rattle.dcsctp_core_resets.proofs.RepeatingLemmas.{expired_then, expired_cut}
use Rattle.dcsctp_core_resets.proofs.reconfiguration.handle_reconfiguration.Goals as goal

pub returns : goal.returns
returns g c =
    expired_then g.R.Rng.stream c.args.context.now c.expire_reconfiguration.new.self c.send_unless_exhausted.new.context c.expire_reconfiguration.result c.is_renewed-is_renewed.result
    c.is_renewed-is_renewed.ensures c.expire_reconfiguration.ensures.answer c.if-not-expire_reconfiguration.false c.expire_reconfiguration.ensures.left c.in_ok-send_unless_exhausted.ensures

pub returns-in_err-send_unless_exhausted : goal.returns-in_err-send_unless_exhausted
returns-in_err-send_unless_exhausted g c =
    rw (err_from_is_err_and c.from_residual.result c.from_residual.ensures.1).1
    (expired_cut c.args.context.now c.expire_reconfiguration.new.self c.send_unless_exhausted.new.context c.expire_reconfiguration.result c.expire_reconfiguration.ensures.answer
    c.if-not-expire_reconfiguration.false c.expire_reconfiguration.ensures.left c.in_err-send_unless_exhausted.ensures)
