use Rattle.std.proofs.lemmas.Result.{err_from_is_err_and}
use Rattle.dcsctp_world.specs.Rounds.{both_counts}
use Rattle.dcsctp_world.proofs.Following.{stops_among, stops_further}
use Rattle.dcsctp_world.proofs.Settling.{exchange_stops, exchange_done}
use Rattle.dcsctp_world.proofs.world.World.exchange.Goals as goal

pub returns-in_err-deliver_after-2 : goal.returns-in_err-deliver_after-2
returns-in_err-deliver_after-2 g c =
    let stream = g.R.Rng.stream in
    let p = err_from_is_err_and c.from_residual-in_err-deliver_after-2.result c.from_residual-in_err-deliver_after-2.ensures.1 in
    rw (p.1, p.2)
    (exchange_stops stream (both_counts c.args.settled) c.args.self.now c.deliver_after-2.new.self c.in_err-deliver_after-2.field-0.0
    (stops_further stream _ c.args.self.now c.deliver_after.new.self c.deliver_after-2.new.self c.in_err-deliver_after-2.field-0.0 c.in_ok-deliver_after.ensures
    (stops_among stream _ c.deliver_after.new.self c.deliver_after-2.new.self c.in_err-deliver_after-2.field-0.0 c.in_err-deliver_after-2.ensures)))

pub returns : goal.returns
returns g c =
    exchange_done g.R.Rng.stream (both_counts c.args.settled) (both_counts c.counts-shown.result) c.args.self.now c.deliver_after.new.self c.deliver_after-2.new.self
    c.counts-shown.ensures c.in_ok-deliver_after.ensures c.in_ok-deliver_after-2.ensures
