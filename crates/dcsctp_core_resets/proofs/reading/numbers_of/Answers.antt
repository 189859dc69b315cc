use Rattle.std.proofs.Common.{◌∙◌, arith}
use Rattle.dcsctp_core_resets.proofs.StreamLemmas.{number_more, all_numbers}
use Rattle.dcsctp_core_resets.proofs.reading.numbers_of.Goals as goal

pub loop-index-preserved : goal.loop-index-preserved
loop-index-preserved c =
    c.in_ok-push.ensures.items
    ∙ number_more c.loop-index.numbers.items c.loop-index.index c.args.request.now.streams.now _ c.loop-index.invariant c.stream.ensures
    (omega (arith, c.loop-index-test.true, c.stream_count-index-end.ensures))

pub returns : goal.returns
returns c =
    all_numbers c.loop-index.numbers.items c.loop-index.index c.args.request.now.streams.now c.loop-index.invariant
    (omega (arith, c.loop-index-test.false, c.stream_count-index-end.ensures))
