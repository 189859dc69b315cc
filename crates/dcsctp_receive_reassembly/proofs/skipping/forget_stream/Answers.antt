-- The stream that is removed is the one at the identifier.
use Rattle.std.proofs.Common.{Some, None, ap, sym, ◌∙◌}
use Rattle.dcsctp_receive_reassembly.specs.Held.{capped_u128}
use Rattle.dcsctp_api.specs.spec.queues.IncomingStreams.{kept_stream_used}
use Rattle.dcsctp_api.specs.spec.queues.IncomingStreams.{StreamModel}
use Rattle.dcsctp_receive_reassembly.proofs.ReassemblyLemmas.{stream_on-get}
use Rattle.dcsctp_receive_reassembly.proofs.StreamSums.{streams_used-removed}
use Rattle.dcsctp_receive_reassembly.proofs.WrittenLemmas.{removed_stream}
use Rattle.dcsctp_receive_reassembly.proofs.skipping.forget_stream.Goals as goal

pub returns-in-Some-clause-streams : goal.returns-in-Some-clause-streams
returns-in-Some-clause-streams c = removed_stream c.args.id.0 c.args.streams.now c.remove.new.self c.remove.ensures.updates

pub returns-in-None-clause-streams : goal.returns-in-None-clause-streams
returns-in-None-clause-streams c = removed_stream c.args.id.0 c.args.streams.now c.remove.new.self c.remove.ensures.updates

pub returns-in-Some-clause-used : goal.returns-in-Some-clause-used
returns-in-Some-clause-used c = streams_used-removed c.args.overhead c.args.id.0 c.args.streams.now c.remove.new.self c.remove.ensures.entries

pub returns-in-None-clause-used : goal.returns-in-None-clause-used
returns-in-None-clause-used c = streams_used-removed c.args.overhead c.args.id.0 c.args.streams.now c.remove.new.self c.remove.ensures.entries

pub returns-in-Some-clause-size : goal.returns-in-Some-clause-size
returns-in-Some-clause-size c =
    c.used.ensures ∙ ap (λ (stream : StreamModel). capped_u128 (kept_stream_used c.args.overhead stream)) (sym (stream_on-get c.args.id.0 c.args.streams.now (Some c.in-Some.stream) (sym c.in-Some.ensures.value)))

pub returns-in-None-clause-size : goal.returns-in-None-clause-size
returns-in-None-clause-size c =
    ap (λ (stream : StreamModel). capped_u128 (kept_stream_used c.args.overhead stream)) (sym (stream_on-get c.args.id.0 c.args.streams.now None (sym c.in-None.ensures.value)))
