use Rattle.std.proofs.lemmas.Result.{on_ok_weaker}
use Rattle.dcsctp_core.specs.types.Ids.{stream_numbers}
use Rattle.dcsctp_core.specs.spec.endpoint.ResetOutcomes.{ResetsTransferStreams}
use Rattle.dcsctp_core.proofs.LendingLemmas.{changes_lent, changes_nobody}
use Rattle.dcsctp_core_resets.proofs.handling.reset_streams.Goals as goal

pub returns-in-None : goal.returns-in-None
returns-in-None c = changes_nobody (ResetsTransferStreams (stream_numbers c.args.streams.now)) c.args.state.now c.in-None.ensures.tcb

pub returns-in-Some : goal.returns-in-Some
returns-in-Some c =
    on_ok_weaker c.reset_streams.result
    (changes_lent (ResetsTransferStreams (stream_numbers c.args.streams.now)) c.args.state.now c.in-Some.tcb.now c.reset_streams.new.self c.in-Some.ensures.tcb) c.reset_streams.ensures.ok
