use Rattle.std.proofs.Common.{arith}
use Rattle.dcsctp_send_retransmission.proofs.SendingLemmas.{keeps_refl, fills_none, fills_trans}
use Rattle.dcsctp_send_retransmission.proofs.StatesLemmas.{steps_trans, stops_trans}
use Rattle.dcsctp_send_retransmission.specs.States.{stage}
use Rattle.dcsctp_api.specs.spec.queues.Filling.{StepAgain, none}
use Rattle.std.proofs.lemmas.Result.{err_from_is_err_and}
use Rattle.dcsctp_send_retransmission.proofs.retransmission_queue.RetransmissionQueue.send_again.Goals as goal

pub returns-in_err-send_one_again-clause-fills : goal.returns-in_err-send_one_again-clause-fills
returns-in_err-send_one_again-clause-fills c =
    fills_trans c.args.self.now c.args.packet.now c.loop-now.self c.loop-now.packet c.send_one_again.new.self c.send_one_again.new.packet c.loop-now.invariant.0 c.send_one_again.ensures.fills

pub returns-then-not-branch-clause-fills : goal.returns-then-not-branch-clause-fills
returns-then-not-branch-clause-fills c =
    fills_trans c.args.self.now c.args.packet.now c.loop-now.self c.loop-now.packet c.send_one_again.new.self c.send_one_again.new.packet c.loop-now.invariant.0 c.send_one_again.ensures.fills

pub loop-now-preserved : goal.loop-now-preserved
loop-now-preserved c =
    let one = rw c.if-not-branch.false at c.in_ok-send_one_again.ensures.one in
    let again = rw c.if-not-branch.false at c.in_ok-send_one_again.ensures.again in
    let before = c.loop-now.invariant.1 in (
      fills_trans c.args.self.now c.args.packet.now c.loop-now.self c.loop-now.packet c.send_one_again.new.self c.send_one_again.new.packet c.loop-now.invariant.0 c.send_one_again.ensures.fills,
      omega arith,
      steps_trans (StepAgain c.args.now) (stage c.args.self.now c.args.queue.now c.args.events.now c.args.packet.now.tsns.items c.args.packet.now.room) (stage c.loop-now.self c.loop-now.queue c.loop-now.events c.loop-now.packet.tsns.items c.loop-now.packet.room) (stage c.send_one_again.new.self c.send_one_again.new.queue c.send_one_again.new.events c.send_one_again.new.packet.tsns.items c.send_one_again.new.packet.room) c.loop-now.invariant.2 c.in_ok-send_one_again.ensures.steps,
    )

pub returns-then-not-branch-clause-halts : goal.returns-then-not-branch-clause-halts
returns-then-not-branch-clause-halts c =
    let again = rw c.if-not-branch.true at c.in_ok-send_one_again.ensures.again in
    again.1

pub returns-then-not-branch-clause-few : goal.returns-then-not-branch-clause-few
returns-then-not-branch-clause-few c =
    let one = rw c.if-not-branch.true at c.in_ok-send_one_again.ensures.one in
    let again = rw c.if-not-branch.true at c.in_ok-send_one_again.ensures.again in
    let fewer = again.0 in
    let before = c.loop-now.invariant.1 in
    omega arith

pub returns-in_err-send_one_again-clause-steps : goal.returns-in_err-send_one_again-clause-steps
returns-in_err-send_one_again-clause-steps c =
    rw (err_from_is_err_and c.from_residual.result c.from_residual.ensures.1).1
    (stops_trans c.args.now (StepAgain c.args.now) (stage c.args.self.now c.args.queue.now c.args.events.now c.args.packet.now.tsns.items c.args.packet.now.room) (stage c.loop-now.self c.loop-now.queue c.loop-now.events c.loop-now.packet.tsns.items c.loop-now.packet.room) (stage c.send_one_again.new.self c.send_one_again.new.queue c.send_one_again.new.events c.send_one_again.new.packet.tsns.items c.send_one_again.new.packet.room) c.loop-now.invariant.2 c.in_err-send_one_again.ensures.steps)

pub returns-then-not-branch-clause-steps : goal.returns-then-not-branch-clause-steps
returns-then-not-branch-clause-steps c =
    steps_trans (StepAgain c.args.now) (stage c.args.self.now c.args.queue.now c.args.events.now c.args.packet.now.tsns.items c.args.packet.now.room) (stage c.loop-now.self c.loop-now.queue c.loop-now.events c.loop-now.packet.tsns.items c.loop-now.packet.room) (stage c.send_one_again.new.self c.send_one_again.new.queue c.send_one_again.new.events c.send_one_again.new.packet.tsns.items c.send_one_again.new.packet.room) c.loop-now.invariant.2 c.in_ok-send_one_again.ensures.steps

pub loop-now-init : goal.loop-now-init
loop-now-init c = (fills_none c.args.self.now c.args.self.now c.args.packet.now (keeps_refl c.args.self.now), omega arith, none)
