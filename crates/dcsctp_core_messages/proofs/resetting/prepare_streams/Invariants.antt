use Rattle.std.proofs.Common.{drop}
use Rattle.dcsctp_core.specs.types.Ids.{stream_numbers}
use Rattle.dcsctp_core.specs.View.{view_of}
use Rattle.dcsctp_core_messages.proofs.ResettingLemmas.{GoesOn}
use Rattle.dcsctp_core_messages.proofs.resetting.prepare_streams.Given as goal

-- What is left completes the whole.
abbrev pub invariant-loop-stream_id : goal.invariant-loop-stream_id
invariant-loop-stream_id g l =
    GoesOn g.R.Rng.stream (stream_numbers l.stream_ids) (view_of l.initial.context) (stream_numbers (drop l.stream_id-index l.stream_ids)) (view_of l.context)
