use Rattle.std.proofs.Common.{◌≡◌, ◌∙◌, ℕ, List, [], false, ap, sym, subst, refl}
use Rattle.std.proofs.lemmas.Result.{err_from_is_err_and}
use Rattle.dcsctp_api.specs.spec.queues.Outstanding.{OutstandingState}
use Rattle.dcsctp_api.specs.spec.queues.Retransmission.{RetransmissionState}
use Rattle.dcsctp_send_retransmission.specs.Sending.{HandsOut}
use Rattle.dcsctp_send_retransmission.specs.States.{stage, StopsBetweenSteps}
use Rattle.dcsctp_api.specs.spec.queues.Filling.{SendsMarked, StageSteps}
use Rattle.dcsctp_send_retransmission.proofs.SendingLemmas.{fills_hand_out, counted_outstanding}
use Rattle.dcsctp_send_retransmission.proofs.StatesLemmas.{stops_any}
use Rattle.dcsctp_send_retransmission.proofs.retransmission_queue.RetransmissionQueue.get_chunks_for_fast_retransmit.Goals as goal

pub returns-in_err-restarts-clause-steps : goal.returns-in_err-restarts-clause-steps
returns-in_err-restarts-clause-steps c =
    rw (err_from_is_err_and c.from_residual.result c.from_residual.ensures.1).1 (λ waiting events.
    let P : List ℕ → Type 0 = λ tsns. StopsBetweenSteps c.args.now (SendsMarked c.args.now) (stage (record c.args.self.now { fast_retransmit_due = false }) waiting events tsns c.args.bytes) (stage c.send_again_at_once.new.self waiting events [] c.args.bytes) in
    subst P c.new.ensures.items (rw (← c.self.view_is)
    (stops_any c.args.now (SendsMarked c.args.now) _ c.send_again_at_once.new.self waiting events c.send_again_at_once.new.packet.tsns.items [] c.send_again_at_once.new.packet.room c.args.bytes (c.in_err-restarts.ensures.steps waiting events))))

pub returns-clause-hands : goal.returns-clause-hands
returns-clause-hands c =
    let O : RetransmissionState → OutstandingState = λ q. q.outstanding in
    let counted : O c.count_sent_again.new.self ≡ O c.send_again_at_once.new.self =
    ap O c.count_sent_again.ensures ∙ counted_outstanding c.saturating_sub.result c.send_again_at_once.new.self in
    let P : OutstandingState → Type 0 = λ m. HandsOut c.args.bytes m c.send_again_at_once.new.packet.tsns.items in
    subst P (sym (ap O c.time_again.ensures ∙ counted))
    (fills_hand_out c.args.bytes _ c.send_again_at_once.new.self (record { tsns = c.new.result; room = c.args.bytes }) c.send_again_at_once.new.packet c.new.ensures.items refl c.send_again_at_once.ensures.fills)

pub returns-clause-steps : goal.returns-clause-steps
returns-clause-steps c = λ waiting.
    let resent = c.send_again_at_once.new.self in
    let packet = c.send_again_at_once.new.packet in
    let P : List ℕ → Type 0 = λ tsns. StageSteps (SendsMarked c.args.now) (stage (record c.args.self.now { fast_retransmit_due = false }) waiting [] tsns c.args.bytes) (stage resent waiting [] packet.tsns.items packet.room) in
    record {
      resent = resent;
      room = packet.room;
      steps = subst P c.new.ensures.items (rw (← c.self.view_is) (c.in_ok-restarts.ensures.steps waiting []));
      halts = c.in_ok-restarts.ensures.halts;
      sends_first = c.in_ok-restarts.restarts;
      first = rw (← c.self.view_is) (c.in_ok-restarts.ensures.first);
      is = c.time_again.ensures ∙ rw (c.count_sent_again.ensures, c.saturating_sub.ensures) refl;
    }
