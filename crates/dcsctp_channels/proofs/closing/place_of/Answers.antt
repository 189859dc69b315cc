use Rattle.std.proofs.Common.{arith}
use Rattle.dcsctp_channels.proofs.Placing.{place_next, place_none}
use Rattle.dcsctp_channels.proofs.closing.place_of.Goals as goal

pub loop-place-preserved : goal.loop-place-preserved
loop-place-preserved c =
    record { rest = place_next c.args.id.0 c.loop-place.place c.args.layer.now.waiting.items c.index.result.now _ (omega arith) c.index.ensures c.if-index-id.false c.loop-place.invariant.rest }

pub returns : goal.returns
returns c = place_none c.args.id.0 c.loop-place.place c.args.layer.now.waiting.items _ (omega arith) c.loop-place.invariant.rest
