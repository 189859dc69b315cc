use Rattle.std.proofs.Common.{◌≡◌, ◌-◌}
use Rattle.dcsctp_snapshot_bytes.specs.Fields.{leading_elements}
use Rattle.dcsctp_snapshot_bytes.proofs.Lists.{with_front}
use Rattle.dcsctp_channel_bytes.specs.Channels.{leading_channel}
use Rattle.dcsctp_channel_bytes.proofs.channels.read_elements.Given as goal

abbrev pub invariant-loop : goal.invariant-loop
invariant-loop l =
    with_front l.channels.items (leading_elements leading_channel (l.count - l.counter) l.reader.rest.now)
    ≡ leading_elements leading_channel l.count l.fn.reader.rest.now
