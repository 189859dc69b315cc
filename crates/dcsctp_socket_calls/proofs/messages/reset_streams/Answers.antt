use Rattle.dcsctp_core.specs.types.Ids.{stream_numbers}
use Rattle.dcsctp_socket_calls.proofs.ResettingLemmas.{works_reset}
use Rattle.dcsctp_socket_calls.proofs.messages.reset_streams.Goals as goal

pub returns-clause-call : goal.returns-clause-call
returns-clause-call g c =
    works_reset g.R.Rng.stream (stream_numbers c.args.stream_ids.now) c.args.context.now c.begin_call.new.self c.do_reset_streams.new.context c.do_reset_streams.result
    c.begin_call.ensures c.do_reset_streams.ensures.turn
