use Rattle.std.proofs.Common.{set, ap, sym, ◌∙◌, arith}
use Rattle.dcsctp_api.specs.types.queues.SendStreams.{renumbered_stream, stream_at}
use Rattle.dcsctp_send_queue.proofs.Mapped.{mapped_to-none, mapped_to-all, mapped_to-step, length-mapped_to}
use Rattle.dcsctp_send_queue.proofs.streams.Streams.begin_all_anew.Goals as goal

pub loop-place-init : goal.loop-place-init
loop-place-init c = sym (mapped_to-none renumbered_stream c.args.self.now)

pub begin_anew-requires : goal.begin_anew-requires
begin_anew-requires c =
    let len = length-mapped_to c.loop-place.place renumbered_stream c.args.self.now in
    rw c.loop-place.invariant (omega (arith, len))

pub loop-place-preserved : goal.loop-place-preserved
loop-place-preserved c =
    c.begin_anew.ensures ∙ (ap (λ s. set s c.loop-place.place (renumbered_stream (stream_at s c.loop-place.place))) c.loop-place.invariant
    ∙ mapped_to-step c.loop-place.place _ renumbered_stream c.args.self.now (omega arith) (omega arith))

pub returns : goal.returns
returns c = c.loop-place.invariant ∙ mapped_to-all c.loop-place.place renumbered_stream c.args.self.now (omega arith)
