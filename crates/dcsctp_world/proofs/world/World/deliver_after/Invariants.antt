use Rattle.dcsctp_world.specs.Acts.{Ran}
use Rattle.dcsctp_world.specs.Rounds.{delivery_steps}
use Rattle.dcsctp_world.proofs.world.World.deliver_after.Given as goal

-- So many were delivered.
abbrev pub invariant-loop-done : goal.invariant-loop-done
invariant-loop-done g l = Ran g.R.Rng.stream (delivery_steps l.side l.first l.done) l.fn.self l.self
