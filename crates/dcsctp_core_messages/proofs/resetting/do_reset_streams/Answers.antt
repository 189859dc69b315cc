use Rattle.std.proofs.lemmas.Result.{err_from_is_err_and}
use Rattle.dcsctp_core.specs.types.Ids.{stream_numbers}
use Rattle.dcsctp_core.specs.api.Resets.{reset_refusal_of}
use Rattle.dcsctp_core.specs.View.{view_of}
use Rattle.dcsctp_core_messages.proofs.ResettingLemmas.{resets_refused, resets_done, resets_cut, resets_cut_later}
use Rattle.dcsctp_core_messages.proofs.resetting.do_reset_streams.Goals as goal

pub returns-in_err-prepare_streams-in-None-clause-turn : goal.returns-in_err-prepare_streams-in-None-clause-turn
returns-in_err-prepare_streams-in-None-clause-turn g c =
    rw (err_from_is_err_and c.from_residual.result c.from_residual.ensures.1).1
    (resets_cut g.R.Rng.stream (stream_numbers c.args.stream_ids.now) (view_of c.args.context.now) (view_of c.prepare_streams.new.context).events c.in-None.ensures
    c.in_err-prepare_streams-in-None.ensures)

pub returns-in_err-send_buffered_packets-in-None-clause-turn : goal.returns-in_err-send_buffered_packets-in-None-clause-turn
returns-in_err-send_buffered_packets-in-None-clause-turn g c =
    rw (err_from_is_err_and c.from_residual-in_err-send_buffered_packets-in-None.result c.from_residual-in_err-send_buffered_packets-in-None.ensures.1).1
    (resets_cut_later g.R.Rng.stream (stream_numbers c.args.stream_ids.now) (view_of c.args.context.now) (view_of c.prepare_streams.new.context) (view_of c.send_buffered_packets.new.self).events
    c.in-None.ensures c.in_ok-prepare_streams-in-None.ensures c.in_err-send_buffered_packets-in-None.ensures)

pub returns-in-Some-clause-turn : goal.returns-in-Some-clause-turn
returns-in-Some-clause-turn g c =
    (c.in-Some.ensures, resets_refused g.R.Rng.stream (stream_numbers c.args.stream_ids.now) (view_of c.args.context.now) (reset_refusal_of c.in-Some.error) c.in-Some.ensures)

pub returns-in_ok-send_buffered_packets-in-None-clause-turn : goal.returns-in_ok-send_buffered_packets-in-None-clause-turn
returns-in_ok-send_buffered_packets-in-None-clause-turn g c = (
  c.in-None.ensures,
  resets_done g.R.Rng.stream (stream_numbers c.args.stream_ids.now) (view_of c.args.context.now) (view_of c.prepare_streams.new.context) (view_of c.send_buffered_packets.new.self) c.in-None.ensures
      c.in_ok-prepare_streams-in-None.ensures c.in_ok-send_buffered_packets-in-None.ensures,
)
