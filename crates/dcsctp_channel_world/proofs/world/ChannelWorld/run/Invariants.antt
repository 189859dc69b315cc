use Rattle.std.proofs.Common.{take}
use Rattle.dcsctp_channel_world.specs.Promises.{RunsChannelSteps}
use Rattle.dcsctp_channel_world.specs.Shown.{world_shown}
use Rattle.dcsctp_channel_world.proofs.world.ChannelWorld.run.Given as goal

-- the steps so far ran
abbrev pub invariant-loop-step : goal.invariant-loop-step
invariant-loop-step g l = RunsChannelSteps (take l.step-index l.steps) (world_shown g.S.DcSctpSocket.user_view l.fn.self) (world_shown g.S.DcSctpSocket.user_view l.self)
