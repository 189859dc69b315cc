use Rattle.std.proofs.Common.{drop}
use Rattle.dcsctp_channel_calls.specs.api.types.Ids.{stream_numbers}
use Rattle.dcsctp_channels.specs.Layer.{layer_view}
use Rattle.dcsctp_channels.specs.Rows.{row_input}
use Rattle.dcsctp_channels.proofs.Loops.{TakesFurther}
use Rattle.dcsctp_channels.proofs.layer.take_rows.Given as goal

abbrev pub invariant-loop-stream : goal.invariant-loop-stream
invariant-loop-stream l = TakesFurther (stream_numbers l.streams) (stream_numbers (drop l.stream-index l.streams)) (row_input l.row) (layer_view l.fn.layer) (layer_view l.layer)
