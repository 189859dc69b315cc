use Rattle.dcsctp_channels.specs.Layer.{layer_view}
use Rattle.dcsctp_channels.specs.Rows.{row_input}
use Rattle.dcsctp_channels.proofs.Loops.{takes_at}
use Rattle.dcsctp_channels.proofs.layer.take_rows.Goals as goal

pub loop-stream-preserved : goal.loop-stream-preserved
loop-stream-preserved c =
    takes_at c.args.streams.now c.loop-stream.stream-index (row_input c.args.row) (layer_view c.args.layer.now) (layer_view c.loop-stream.layer) (layer_view c.take_row.new.layer)
    c.loop-stream-test.true c.take_row.ensures.0 c.loop-stream.invariant c.in_ok-take_row.ensures.1
