use Rattle.std.proofs.Common.{set, ap, sym, ◌∙◌, arith}
use Rattle.dcsctp_api.specs.types.queues.SendStreams.{stream_at}
use Rattle.dcsctp_api.specs.spec.queues.QueuedParts.{emptied_stream}
use Rattle.dcsctp_send_queue.proofs.Mapped.{mapped_to-none, mapped_to-all, mapped_to-step, length-mapped_to}
use Rattle.dcsctp_send_queue.proofs.streams.Streams.empty_all.Goals as goal

pub loop-place-init : goal.loop-place-init
loop-place-init c = sym (mapped_to-none emptied_stream c.args.self.now)

pub empty-requires : goal.empty-requires
empty-requires c =
    let len = length-mapped_to c.loop-place.place emptied_stream c.args.self.now in
    rw c.loop-place.invariant (omega (arith, len))

pub loop-place-preserved : goal.loop-place-preserved
loop-place-preserved c =
    c.empty.ensures ∙ (ap (λ s. set s c.loop-place.place (emptied_stream (stream_at s c.loop-place.place))) c.loop-place.invariant
    ∙ mapped_to-step c.loop-place.place _ emptied_stream c.args.self.now (omega arith) (omega arith))

pub returns : goal.returns
returns c = c.loop-place.invariant ∙ mapped_to-all c.loop-place.place emptied_stream c.args.self.now (omega arith)
