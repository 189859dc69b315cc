use Rattle.std.proofs.Common.{sym, ◌∙◌, refl}
use Rattle.std.proofs.lemmas.Result.{err_from_is_err_and}
use Rattle.dcsctp_send_retransmission.specs.States.{stage}
use Rattle.dcsctp_api.specs.spec.queues.Filling.{StepNew, none}
use Rattle.dcsctp_send_retransmission.proofs.StatesLemmas.{steps_trans, stops_trans}
use Rattle.dcsctp_send_retransmission.proofs.FreshLemmas.{fresh_none, fresh_trans}
use Rattle.dcsctp_send_retransmission.proofs.SendingLemmas.{fills_trans, fills_none, keeps_refl}
use Rattle.dcsctp_send_retransmission.proofs.retransmission_queue.RetransmissionQueue.send_new.Goals as goal

pub returns-in_err-send_one_new-clause-fills : goal.returns-in_err-send_one_new-clause-fills
returns-in_err-send_one_new-clause-fills c =
    fills_trans c.args.self.now c.args.packet.now c.loop-now.self c.loop-now.packet c.send_one_new.new.self c.send_one_new.new.packet c.loop-now.invariant.0 c.send_one_new.ensures.fills

pub returns-then-not-branch-clause-fills : goal.returns-then-not-branch-clause-fills
returns-then-not-branch-clause-fills c =
    fills_trans c.args.self.now c.args.packet.now c.loop-now.self c.loop-now.packet c.send_one_new.new.self c.send_one_new.new.packet c.loop-now.invariant.0 c.send_one_new.ensures.fills

pub loop-now-preserved : goal.loop-now-preserved
loop-now-preserved c = (
  fills_trans c.args.self.now c.args.packet.now c.loop-now.self c.loop-now.packet c.send_one_new.new.self c.send_one_new.new.packet c.loop-now.invariant.0 c.send_one_new.ensures.fills,
  c.send_one_new.ensures.marks ∙ c.loop-now.invariant.1,
  fresh_trans c.args.now c.args.self.now.outstanding c.loop-now.self.outstanding c.send_one_new.new.self.outstanding c.args.packet.now.tsns.items c.loop-now.packet.tsns.items c.send_one_new.new.packet.tsns.items c.loop-now.invariant.2 c.in_ok-send_one_new.ensures.fresh,
  λ none_marked. steps_trans (StepNew c.args.now) (stage c.args.self.now c.args.queue.now c.args.events.now c.args.packet.now.tsns.items c.args.packet.now.room) (stage c.loop-now.self c.loop-now.queue c.loop-now.events c.loop-now.packet.tsns.items c.loop-now.packet.room) (stage c.send_one_new.new.self c.send_one_new.new.queue c.send_one_new.new.events c.send_one_new.new.packet.tsns.items c.send_one_new.new.packet.room) (c.loop-now.invariant.3 none_marked) (c.in_ok-send_one_new.ensures.steps (c.loop-now.invariant.1 ∙ none_marked) (sym c.can_send_data.ensures ∙ c.loop-now-test.true)),
)

pub loop-now-init : goal.loop-now-init
loop-now-init c = (fills_none c.args.self.now c.args.self.now c.args.packet.now (keeps_refl c.args.self.now), refl, fresh_none c.args.now c.args.self.now.outstanding c.args.self.now.outstanding c.args.packet.now.tsns.items c.args.packet.now.tsns.items refl refl, λ none_marked. none)

pub returns-then-not-branch-clause-fresh : goal.returns-then-not-branch-clause-fresh
returns-then-not-branch-clause-fresh c =
    fresh_trans c.args.now c.args.self.now.outstanding c.loop-now.self.outstanding c.send_one_new.new.self.outstanding c.args.packet.now.tsns.items c.loop-now.packet.tsns.items c.send_one_new.new.packet.tsns.items c.loop-now.invariant.2 c.in_ok-send_one_new.ensures.fresh

pub returns-in_err-send_one_new-clause-steps : goal.returns-in_err-send_one_new-clause-steps
returns-in_err-send_one_new-clause-steps c = λ none_marked.
    rw (err_from_is_err_and c.from_residual.result c.from_residual.ensures.1).1
    (stops_trans c.args.now (StepNew c.args.now) (stage c.args.self.now c.args.queue.now c.args.events.now c.args.packet.now.tsns.items c.args.packet.now.room) (stage c.loop-now.self c.loop-now.queue c.loop-now.events c.loop-now.packet.tsns.items c.loop-now.packet.room) (stage c.send_one_new.new.self c.send_one_new.new.queue c.send_one_new.new.events c.send_one_new.new.packet.tsns.items c.send_one_new.new.packet.room) (c.loop-now.invariant.3 none_marked) (c.in_err-send_one_new.ensures.steps (c.loop-now.invariant.1 ∙ none_marked) (sym c.can_send_data.ensures ∙ c.loop-now-test.true)))

pub returns-then-not-branch-clause-steps : goal.returns-then-not-branch-clause-steps
returns-then-not-branch-clause-steps c = λ none_marked.
    steps_trans (StepNew c.args.now) (stage c.args.self.now c.args.queue.now c.args.events.now c.args.packet.now.tsns.items c.args.packet.now.room) (stage c.loop-now.self c.loop-now.queue c.loop-now.events c.loop-now.packet.tsns.items c.loop-now.packet.room) (stage c.send_one_new.new.self c.send_one_new.new.queue c.send_one_new.new.events c.send_one_new.new.packet.tsns.items c.send_one_new.new.packet.room) (c.loop-now.invariant.3 none_marked) (c.in_ok-send_one_new.ensures.steps (c.loop-now.invariant.1 ∙ none_marked) (sym c.can_send_data.ensures ∙ c.loop-now-test.true))
