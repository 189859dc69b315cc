use Rattle.std.proofs.Common.{ap, ◌∙◌, arith}
use Rattle.dcsctp_core.specs.types.Ids.{stream_numbers}
use Rattle.dcsctp_core_resets.proofs.StreamLemmas.{one_more, all_streams}
use Rattle.dcsctp_core_resets.proofs.reading.streams_of.Goals as goal

pub loop-index-preserved : goal.loop-index-preserved
loop-index-preserved c =
    ap (λ items. stream_numbers items) c.in_ok-push.ensures.items
    ∙ one_more c.loop-index.streams.items c.loop-index.index c.args.request.now.streams.now _ c.loop-index.invariant c.stream.ensures
    (omega (arith, c.loop-index-test.true, c.stream_count-index-end.ensures))

pub returns : goal.returns
returns c =
    all_streams c.loop-index.streams.items c.loop-index.index c.args.request.now.streams.now c.loop-index.invariant
    (omega (arith, c.loop-index-test.false, c.stream_count-index-end.ensures))
