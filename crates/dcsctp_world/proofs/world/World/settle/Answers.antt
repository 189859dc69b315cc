use Rattle.std.proofs.Common.{ℕ, ◌≡◌, subst, arith}
use Rattle.std.proofs.lemmas.Result.{err_from_is_err_and}
use Rattle.dcsctp_world.specs.Rounds.{emitted_counts, both_counts, Settles}
use Rattle.dcsctp_world.proofs.Connecting.{settle_done}
use Rattle.dcsctp_world.proofs.Following.{stops_further}
use Rattle.dcsctp_world.proofs.Settling.{round_stopped, settle_stops, settle_begins, settles_further}
use Rattle.dcsctp_world.proofs.world.World.settle.Goals as goal

pub loop-round-init : goal.loop-round-init
loop-round-init g c = settle_begins g.R.Rng.stream (both_counts c.counts-settled.result) c.args.self.now c.run.new.self c.in_ok-run.ensures c.counts-settled.ensures

pub loop-round-preserved : goal.loop-round-preserved
loop-round-preserved g c =
    settles_further g.R.Rng.stream c.loop-round._round (emitted_counts c.args.self.now) (both_counts c.loop-round.settled) (both_counts c.in_ok-settled.settled)
    c.args.self.now c.loop-round.self c.quiet_round.new.self c.loop-round.invariant c.in_ok-settled.ensures

pub returns-in_err-settled : goal.returns-in_err-settled
returns-in_err-settled g c =
    let stream = g.R.Rng.stream in
    let fault = c.in_err-settled.field-0.0 in
    let now = c.loop-round.self in
    let new = c.quiet_round.new.self in
    let p = err_from_is_err_and c.from_residual-in_err-settled.result c.from_residual-in_err-settled.ensures.1 in
    rw (p.1, p.2)
    (settle_stops stream c.args.rounds c.args.self.now new fault
    (stops_further stream c.loop-round.invariant.steps c.args.self.now now new fault c.loop-round.invariant.ran
    (round_stopped stream (both_counts c.loop-round.settled) now new fault c.in_err-settled.ensures)))

pub returns : goal.returns
returns g c =
    let is : c.loop-round._round ≡ c.args.rounds = omega (arith, c.loop-round-test.false, c.loop-round.auto) in
    settle_done g.R.Rng.stream c.args.rounds (both_counts c.loop-round.settled) c.args.self.now c.run.new.self c.loop-round.self c.in_ok-run.ensures
    (subst (λ (n : ℕ). Settles g.R.Rng.stream n (emitted_counts c.args.self.now) (both_counts c.loop-round.settled) c.args.self.now c.loop-round.self) is c.loop-round.invariant)
