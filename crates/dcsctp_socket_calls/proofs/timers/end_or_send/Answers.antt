use Rattle.std.proofs.Common.{[], ◌∷◌, sym, ◌∙◌}
use Rattle.std.proofs.lemmas.Result.{err_from_is_err_and}
use Rattle.dcsctp_core.specs.spec.endpoint.Turn.{act_input}
use Rattle.dcsctp_core.specs.spec.association.Acts.{flushes}
use Rattle.dcsctp_core.specs.View.{view_of}
use Rattle.dcsctp_socket_calls.proofs.ExpiryLemmas.{abort_moves, abort_cut, send_moves, send_cut}
use Rattle.dcsctp_socket_calls.proofs.timers.end_or_send.Goals as goal

pub returns-in_err-abort_association : goal.returns-in_err-abort_association
returns-in_err-abort_association g c =
    rw (err_from_is_err_and c.from_residual.result c.from_residual.ensures.1).1
    (abort_cut g.R.Rng.stream (view_of c.args.context.now) (act_input flushes ∷ []) (view_of c.abort_association.new.context).events
    (sym c.has_too_many_errors.ensures ∙ c.if-has_too_many_errors.true) c.in_err-abort_association.ensures.turn)

pub returns-in_ok-abort_association : goal.returns-in_ok-abort_association
returns-in_ok-abort_association g c =
    abort_moves g.R.Rng.stream (view_of c.args.context.now) (view_of c.abort_association.new.context) (act_input flushes ∷ [])
    (sym c.has_too_many_errors.ensures ∙ c.if-has_too_many_errors.true) c.in_ok-abort_association.ensures.turn

pub returns-in_err-send_buffered_packets : goal.returns-in_err-send_buffered_packets
returns-in_err-send_buffered_packets g c =
    rw (err_from_is_err_and c.from_residual-in_err-send_buffered_packets.result c.from_residual-in_err-send_buffered_packets.ensures.1).1
    (send_cut g.R.Rng.stream (view_of c.args.context.now) (view_of c.send_buffered_packets.new.self).events
    (sym c.has_too_many_errors.ensures ∙ c.if-has_too_many_errors.false) c.in_err-send_buffered_packets.ensures)

pub returns-in_ok-send_buffered_packets : goal.returns-in_ok-send_buffered_packets
returns-in_ok-send_buffered_packets g c =
    send_moves g.R.Rng.stream (view_of c.args.context.now) (view_of c.send_buffered_packets.new.self)
    (sym c.has_too_many_errors.ensures ∙ c.if-has_too_many_errors.false) c.in_ok-send_buffered_packets.ensures
