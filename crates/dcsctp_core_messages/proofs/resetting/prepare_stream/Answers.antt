use Rattle.std.proofs.Common.{refl}
use Rattle.dcsctp_core.specs.declared.context.Context.{Context}
use Rattle.dcsctp_core_messages.proofs.ResettingLemmas.{tries_one}
use Rattle.dcsctp_core_messages.proofs.resetting.prepare_stream.Goals as goal

pub returns : goal.returns
returns g c =
    let old = c.args.context.now in
    let new : Context g.row.R.Denot = record old { send_queue = c.prepare_reset_stream.new.self; events = c.prepare_reset_stream.new.events } in
    tries_one g.R.Rng.stream c.args.stream_id.0 old c.prepare_reset_stream.result new refl c.prepare_reset_stream.ensures.tries
