use Rattle.dcsctp_channel_calls.specs.Handover.{channels_part}
use Rattle.dcsctp_channel_calls.specs.api.types.Snapshot.{snapshot}
use Rattle.dcsctp_channel_bytes.proofs.ChannelLaws.{are_read_back}
use Rattle.dcsctp_channel_bytes.proofs.both.to_bytes_with_channels.Goals as goal

pub returns-clause-read_back : goal.returns-clause-read_back
returns-clause-read_back c =
    are_read_back c.write_both.result (snapshot c.args.state.now) (channels_part c.args.channels.now) c.write_both.ensures.bytes c.write_both.ensures.fits
