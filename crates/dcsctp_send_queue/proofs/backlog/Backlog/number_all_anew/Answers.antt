use Rattle.std.proofs.Common.{ap, sym, ◌∙◌, length, subst, List, refl, arith}
use Rattle.dcsctp_api.specs.types.queues.SendStreams.{Stream}
use Rattle.dcsctp_api.specs.spec.queues.SendQueue.{SendQueueState, IsHeld, renumbered_under_way}
use Rattle.dcsctp_send_queue.proofs.Mapped.{mapped_to-none, mapped_to-all, length-mapped_to}
use Rattle.dcsctp_send_queue.proofs.NumberingLemmas.{anew_step, held-anew}
use Rattle.dcsctp_send_queue.specs.Backlog.{queue_of}
use Rattle.dcsctp_send_queue.proofs.backlog.Backlog.number_all_anew.Goals as goal

pub loop-place-init : goal.loop-place-init
loop-place-init c =
    ap {A = List Stream} (λ (s : List Stream). record (queue_of c.args.self.now) { is_interleaved = c.args.is_interleaved; streams = s })
    (sym (mapped_to-none (renumbered_under_way c.args.is_interleaved) c.args.self.now.streams))

pub number_anew-requires : goal.number_anew-requires
number_anew-requires c =
    let len = ap (λ (q : SendQueueState). length q.streams) c.loop-place.invariant ∙ length-mapped_to c.loop-place.place (renumbered_under_way c.args.is_interleaved) c.args.self.now.streams in
    omega (arith, len)

pub loop-place-preserved : goal.loop-place-preserved
loop-place-preserved c =
    anew_step c.args.is_interleaved (queue_of c.args.self.now) (queue_of c.loop-place.self) (queue_of c.number_anew.new.self) c.loop-place.place _ c.loop-place.invariant c.number_anew.ensures refl
    (omega arith)

pub returns : goal.returns
returns c =
    let all = mapped_to-all c.loop-place.place (renumbered_under_way c.args.is_interleaved) c.args.self.now.streams (omega arith) in
    let whole = c.loop-place.invariant
    ∙ ap {A = List Stream} (λ (s : List Stream). record (queue_of c.args.self.now) { is_interleaved = c.args.is_interleaved; streams = s }) all in
    record {
      whole = whole;
      held = subst (λ (q : SendQueueState). IsHeld q.held q.streams) (sym whole) (held-anew c.args.is_interleaved c.args.self.now.streams c.args.self.now.held c.requires);
    }
