use Rattle.std.proofs.lemmas.Result.{err_from_is_err_and}
use Rattle.dcsctp_world.specs.Rounds.{both_counts}
use Rattle.dcsctp_world.proofs.Following.{ran_further, stops_further}
use Rattle.dcsctp_world.proofs.Settling.{exchange_stopped, round_stops, round_done}
use Rattle.dcsctp_world.proofs.world.World.quiet_round.Goals as goal

pub returns-in_err-first : goal.returns-in_err-first
returns-in_err-first g c =
    let stream = g.R.Rng.stream in
    let fault = c.in_err-first.field-0.0 in
    let p = err_from_is_err_and c.from_residual-in_err-first.result c.from_residual-in_err-first.ensures.1 in
    rw (p.1, p.2)
    (round_stops stream (both_counts c.args.settled) c.args.self.now c.exchange.new.self fault
    (stops_further stream _ c.args.self.now c.advance_clocks.new.self c.exchange.new.self fault c.in_ok-advance_clocks.ensures
    (exchange_stopped stream (both_counts c.args.settled) c.advance_clocks.new.self c.exchange.new.self fault c.in_err-first.ensures)))

pub returns-in_err-second : goal.returns-in_err-second
returns-in_err-second g c =
    let stream = g.R.Rng.stream in
    let fault = c.in_err-second.field-0.0 in
    let old = c.args.self.now in
    let w0 = c.advance_clocks.new.self in
    let w1 = c.exchange.new.self in
    let new = c.exchange-2.new.self in
    let ran = ran_further stream _ _ old w0 w1 c.in_ok-advance_clocks.ensures c.in_ok-first.ensures.1 in
    let p = err_from_is_err_and c.from_residual-in_err-second.result c.from_residual-in_err-second.ensures.1 in
    rw (p.1, p.2)
    (round_stops stream (both_counts c.args.settled) old new fault
    (stops_further stream _ old w1 new fault ran (exchange_stopped stream (both_counts c.in_ok-first.first) w1 new fault c.in_err-second.ensures)))

pub returns-in_err-third : goal.returns-in_err-third
returns-in_err-third g c =
    let stream = g.R.Rng.stream in
    let fault = c.in_err-third.field-0.0 in
    let old = c.args.self.now in
    let w0 = c.advance_clocks.new.self in
    let w1 = c.exchange.new.self in
    let w2 = c.exchange-2.new.self in
    let new = c.exchange-3.new.self in
    let ran = ran_further stream _ _ old w1 w2 (ran_further stream _ _ old w0 w1 c.in_ok-advance_clocks.ensures c.in_ok-first.ensures.1) c.in_ok-second.ensures.1 in
    let p = err_from_is_err_and c.from_residual-in_err-third.result c.from_residual-in_err-third.ensures.1 in
    rw (p.1, p.2)
    (round_stops stream (both_counts c.args.settled) old new fault
    (stops_further stream _ old w2 new fault ran (exchange_stopped stream (both_counts c.in_ok-second.second) w2 new fault c.in_err-third.ensures)))

pub returns-in_err-last : goal.returns-in_err-last
returns-in_err-last g c =
    let stream = g.R.Rng.stream in
    let fault = c.in_err-last.field-0.0 in
    let old = c.args.self.now in
    let w0 = c.advance_clocks.new.self in
    let w1 = c.exchange.new.self in
    let w2 = c.exchange-2.new.self in
    let w3 = c.exchange-3.new.self in
    let new = c.exchange-4.new.self in
    let ran = ran_further stream _ _ old w2 w3
    (ran_further stream _ _ old w1 w2 (ran_further stream _ _ old w0 w1 c.in_ok-advance_clocks.ensures c.in_ok-first.ensures.1) c.in_ok-second.ensures.1) c.in_ok-third.ensures.1 in
    let p = err_from_is_err_and c.from_residual-in_err-last.result c.from_residual-in_err-last.ensures.1 in
    rw (p.1, p.2)
    (round_stops stream (both_counts c.args.settled) old new fault
    (stops_further stream _ old w3 new fault ran (exchange_stopped stream (both_counts c.in_ok-third.third) w3 new fault c.in_err-last.ensures)))

pub returns : goal.returns
returns g c =
    round_done g.R.Rng.stream (both_counts c.args.settled) (both_counts c.in_ok-first.first) (both_counts c.in_ok-second.second) (both_counts c.in_ok-third.third)
    (both_counts c.in_ok-last.last) c.args.self.now c.advance_clocks.new.self c.exchange.new.self c.exchange-2.new.self c.exchange-3.new.self c.exchange-4.new.self
    c.in_ok-advance_clocks.ensures c.in_ok-first.ensures c.in_ok-second.ensures c.in_ok-third.ensures c.in_ok-last.ensures
