use Rattle.dcsctp_world.specs.Rounds.{emitted_counts, both_counts, Settles}
use Rattle.dcsctp_world.proofs.world.World.settle.Given as goal

-- So many rounds were made.
abbrev pub invariant-loop-round : goal.invariant-loop-round
invariant-loop-round g l = Settles g.R.Rng.stream l._round (emitted_counts l.fn.self) (both_counts l.settled) l.fn.self l.self
