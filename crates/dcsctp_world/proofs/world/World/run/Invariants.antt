use Rattle.std.proofs.Common.{take, map}
use Rattle.dcsctp_core.specs.types.Schedule.{step_content}
use Rattle.dcsctp_world.specs.Acts.{Ran}
use Rattle.dcsctp_world.proofs.world.World.run.Given as goal

-- the steps so far ran
abbrev pub invariant-loop-step : goal.invariant-loop-step
invariant-loop-step g l = Ran g.R.Rng.stream (map step_content (take l.step-index l.steps)) l.fn.self l.self
