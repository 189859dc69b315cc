use Rattle.std.proofs.Common.{◌+◌, ap, sym, subst, refl, ◌∙◌, List, get_or, arith}
use Rattle.dcsctp_api.specs.types.Ids.{stream_numbers}
use Rattle.dcsctp_api.specs.types.declared.ids.StreamId.{StreamId}
use Rattle.dcsctp_api.specs.types.queues.SendStreams.{Stream, handed_out}
use Rattle.dcsctp_api.specs.spec.queues.SendQueue.{stream_changed, SendQueueState, IsHeld}
use Rattle.dcsctp_send_queue.proofs.ReadyLemmas.{handing_out-step, handing_out-all}
use Rattle.dcsctp_send_queue.proofs.HeldLemmas.{held-handing_out}
use Rattle.dcsctp_send_queue.specs.Backlog.{queue_of}
use Rattle.dcsctp_send_queue.proofs.backlog.Backlog.hand_out.Goals as goal

pub loop-id-preserved : goal.loop-id-preserved
loop-id-preserved c =
    let d : StreamId = record { 0 = 0 } in
    c.hand_out_one.ensures
    ∙ (ap {A = SendQueueState} (λ (q : SendQueueState). record q { streams = stream_changed (get_or c.args.ids.now c.loop-id.id-index d).0 handed_out q.streams }) c.loop-id.invariant
    ∙ ap {A = List Stream} (λ (s : List Stream). record (queue_of c.args.self.now) { streams = s })
    (handing_out-step c.args.ids.now c.loop-id.id-index (c.loop-id.id-index + 1) d c.args.self.now.streams refl c.loop-id-test.true))

pub returns : goal.returns
returns c =
    let left = c.loop-id.invariant
    ∙ ap {A = List Stream} (λ (s : List Stream). record (queue_of c.args.self.now) { streams = s }) (handing_out-all c.args.ids.now c.loop-id.id-index c.args.self.now.streams (omega arith)) in
    record {
      left = left;
      held = λ held. subst (λ (q : SendQueueState). IsHeld q.held q.streams) (sym left) (held-handing_out (stream_numbers c.args.ids.now) c.args.self.now.streams c.args.self.now.held held);
    }
