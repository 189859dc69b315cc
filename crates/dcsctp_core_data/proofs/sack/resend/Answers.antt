use Rattle.std.proofs.lemmas.Result.{err_from_is_err_and}
use Rattle.dcsctp_core.specs.View.{view_of}
use Rattle.dcsctp_core_data.proofs.ResendLemmas.{resend_cut, resend_cut_later, resent}
use Rattle.dcsctp_core_data.proofs.sack.resend.Goals as goal

pub returns-in_err-send_at_once : goal.returns-in_err-send_at_once
returns-in_err-send_at_once g c =
    rw (err_from_is_err_and c.from_residual.result c.from_residual.ensures.1).1
    (λ some. resend_cut c.args.context.now (view_of c.send_at_once.new.self).events some c.in_err-send_at_once.ensures)

pub returns-in_err-send_buffered_packets : goal.returns-in_err-send_buffered_packets
returns-in_err-send_buffered_packets g c =
    rw (err_from_is_err_and c.from_residual-in_err-send_buffered_packets.result c.from_residual-in_err-send_buffered_packets.ensures.1).1
    (λ some. resend_cut_later g.R.Rng.stream c.args.context.now c.send_at_once.new.self (view_of c.send_buffered_packets.new.self).events some c.in_ok-send_at_once.ensures c.in_err-send_buffered_packets.ensures)

pub returns : goal.returns
returns g c =
    λ some. resent g.R.Rng.stream c.args.context.now c.send_at_once.new.self c.send_buffered_packets.new.self some c.in_ok-send_at_once.ensures c.in_ok-send_buffered_packets.ensures
