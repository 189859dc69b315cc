use Rattle.std.proofs.Common.{ℕ, ◌≡◌, ◌-◌, Err, subst, arith}
use Rattle.std.proofs.lemmas.Result.{err_from_is_err_and}
use Rattle.dcsctp_world.specs.Acts.{Ran, RunsSteps}
use Rattle.dcsctp_world.specs.Rounds.{delivery_steps}
use Rattle.dcsctp_world.proofs.Settling.{delivered_none, delivered_next, delivered_stops}
use Rattle.dcsctp_world.proofs.world.World.deliver_after.Goals as goal

pub loop-done-init : goal.loop-done-init
loop-done-init g c = delivered_none g.R.Rng.stream c.args.side c.args.first c.args.self.now c.run.new.self c.in_ok-run.ensures

pub loop-done-preserved : goal.loop-done-preserved
loop-done-preserved g c =
    delivered_next g.R.Rng.stream c.args.side c.args.first c.loop-done.done c.args.self.now c.loop-done.self c.run-in-loop-done.new.self c.loop-done.invariant c.in_ok-run-2.ensures

pub returns-in_err-run-2 : goal.returns-in_err-run-2
returns-in_err-run-2 g c =
    let p = err_from_is_err_and c.from_residual-in_err-run-2.result c.from_residual-in_err-run-2.ensures.1 in
    let is : c.saturating_sub-count.result ≡ c.args.last - c.args.first = c.saturating_sub-count.ensures in
    rw (p.1, p.2)
    (subst (λ (n : ℕ). RunsSteps g.R.Rng.stream (delivery_steps c.args.side c.args.first n) c.args.self.now (Err c.in_err-run-2.field-0.0) c.run-in-loop-done.new.self) is
    (delivered_stops g.R.Rng.stream c.args.side c.args.first c.loop-done.done c.saturating_sub-count.result c.in_err-run-2.field-0.0 c.args.self.now c.loop-done.self c.run-in-loop-done.new.self
    c.loop-done-test.true c.loop-done.invariant c.in_err-run-2.ensures))

pub returns : goal.returns
returns g c =
    let is : c.loop-done.done ≡ c.args.last - c.args.first = omega (arith, c.loop-done-test.false, c.loop-done.auto, c.saturating_sub-count.ensures) in
    subst (λ (n : ℕ). Ran g.R.Rng.stream (delivery_steps c.args.side c.args.first n) c.args.self.now c.loop-done.self) is c.loop-done.invariant
