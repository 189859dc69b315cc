-- The stream that the map has is the one at the identifier.
use Rattle.std.proofs.Common.{Some, None, length, arith, ap, sym}
use Rattle.std.proofs.lemmas.List.{length-map}
use Rattle.dcsctp_api.specs.spec.queues.IncomingStreams.{StreamModel}
use Rattle.dcsctp_receive_reassembly.specs.Streams.{waiting_whole}
use Rattle.dcsctp_receive_reassembly.proofs.ReassemblyLemmas.{stream_on-get}
use Rattle.dcsctp_receive_reassembly.proofs.skipping.waiting_on.Goals as goal

pub returns-in-Some : goal.returns-in-Some
returns-in-Some c =
    omega (arith, c.len.ensures, length-map c.in-Some.stream.now.waiting.entries waiting_whole, ap (λ (stream : StreamModel). length stream.waiting) (stream_on-get c.args.id.0 c.args.streams.now (Some c.in-Some.stream.now) (sym c.in-Some.ensures.value)))

pub returns-in-None : goal.returns-in-None
returns-in-None c =
    sym (ap (λ (stream : StreamModel). length stream.waiting) (stream_on-get c.args.id.0 c.args.streams.now None (sym c.in-None.ensures.value)))
