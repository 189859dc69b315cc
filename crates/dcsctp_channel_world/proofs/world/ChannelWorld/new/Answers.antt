use Rattle.std.proofs.Common.{false, refl}
use Rattle.dcsctp_channel_world.specs.Shown.{parts_of_world, world_shown}
use Rattle.dcsctp_channel_world.proofs.Applying.{fresh_shows, promises_kept}
use Rattle.dcsctp_channel_world.proofs.world.ChannelWorld.new.Goals as goal

pub invariant_of-result : goal.invariant_of-result
invariant_of-result g c =
    let user_view = g.S.DcSctpSocket.user_view in
    λ runs. fresh_shows _ _ (user_view c.args.a) (user_view c.args.b) c.args.limits c.requires.a c.requires.b c.new.ensures c.new-2.ensures

pub returns-clause-keeps : goal.returns-clause-keeps
returns-clause-keeps g c =
    promises_kept c.channels_run_sockets.ensures (world_shown g.S.DcSctpSocket.user_view (parts_of_world c.new.result c.new-2.result false)) (invariant_of-result g c refl)
