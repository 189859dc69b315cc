use Rattle.std.proofs.Common.{Result}
use Rattle.dcsctp_channel_calls.specs.declared.channel.ChannelError.{ChannelError}
use Rattle.dcsctp_channel_calls.specs.Sending.{SetsChannelThreshold}
use Rattle.dcsctp_channels.specs.Layer.{layer_view}
use Rattle.dcsctp_channels.proofs.Answering.{runs_out}
use Rattle.dcsctp_channels.proofs.Keeping.{keeps_refl}
use Rattle.dcsctp_channels.proofs.channels.Channels.set_buffered_amount_low_threshold.Goals as goal

pub returns-in-Err : goal.returns-in-Err
returns-in-Err g c =
    runs_out {A = Result (Unit {0}) ChannelError} (SetsChannelThreshold c.args.id.0 c.args.bytes) _ _ (layer_view c.args.self.now.layer) c.fail.result c.if-self.false
    (keeps_refl _) c.fail.ensures.fault c.fail.ensures.fails
