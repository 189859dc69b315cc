use Rattle.std.proofs.Common.{take, map}
use Rattle.dcsctp_core.specs.types.Schedule.{act_content, AreHonest}
use Rattle.dcsctp_world.proofs.act.are_honest.Given as goal

abbrev pub invariant-loop-act : goal.invariant-loop-act
invariant-loop-act l = AreHonest (map act_content (take l.act-index l.acts))
