use Rattle.std.proofs.Common.{◌≡◌, ◌++◌, ◌∷◌, []}
use Rattle.std.proofs.lemmas.Result.{err_from_is_err_and}
use Rattle.dcsctp_snapshot_bytes.specs.Fields.{leading_elements}
use Rattle.dcsctp_snapshot_bytes.proofs.Lists.{goes_on, is_done}
use Rattle.dcsctp_channel_bytes.specs.Channels.{leading_channel}
use Rattle.dcsctp_channel_bytes.proofs.ChannelLists.{channels_end}
use Rattle.dcsctp_channel_bytes.proofs.channels.read_elements.Goals as goal

pub returns-in_err-read_channel : goal.returns-in_err-read_channel
returns-in_err-read_channel c =
    let p = err_from_is_err_and c.from_residual.result c.from_residual.ensures.1 in
    rw (p.1, p.2) (channels_end c.in_err-read_channel.field-0.0 c.loop.channels.items c.args.count c.loop.counter c.loop.reader.rest.now (leading_elements leading_channel c.args.count c.args.reader.now.rest.now) c.loop-test.true c.in_err-read_channel.ensures c.loop.invariant)

pub loop-preserved : goal.loop-preserved
loop-preserved c =
    let x = c.in_ok-read_channel.field-0 in
    let e : c.push.new.self.items ≡ c.loop.channels.items ++ x ∷ [] = c.in_ok-push.ensures.items in
    rw e (goes_on leading_channel c.loop.channels.items c.args.count c.loop.counter c.loop.reader.rest.now x c.read_channel.new.reader.rest.now (leading_elements leading_channel c.args.count c.args.reader.now.rest.now) c.loop-test.true c.in_ok-read_channel.ensures c.loop.invariant)

pub returns : goal.returns
returns c = is_done leading_channel c.loop.channels.items c.args.count c.loop.counter c.loop.reader.rest.now (leading_elements leading_channel c.args.count c.args.reader.now.rest.now) c.loop-test.false c.loop.invariant
