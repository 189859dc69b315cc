use Rattle.std.proofs.Common.{Option, false, refl, sym, subst, ◌∙◌, arith}
use Rattle.std.proofs.lemmas.Result.{err_from_is_err_and}
use Rattle.dcsctp_transfer.specs.spec.endpoint.FlushOutcomes.{later_ask, draft_to}
use Rattle.dcsctp_transfer.specs.spec.queues.Transfer.{Transfer}
use Rattle.dcsctp_core.specs.View.{view_of}
use Rattle.dcsctp_core.specs.Flushing.{NeedsNone}
use Rattle.dcsctp_core.proofs.AskLemmas.{later_cut}
use Rattle.dcsctp_core.proofs.FillLemmas.{fills_later}
use Rattle.dcsctp_core.proofs.FlushLemmas.{ask_cut, asks_for}
use Rattle.dcsctp_core.proofs.LendingLemmas.{found}
use Rattle.dcsctp_core.proofs.LoopLemmas.{completes_unmade, completes_none, packet_to, loop_goes_on, loop_ends, loop_cut}
use Rattle.dcsctp_core.proofs.RestLemmas.{asks_none}
use Rattle.dcsctp_core.proofs.context.Context.send_further.Goals as goal

pub returns-in_err-packet : goal.returns-in_err-packet
returns-in_err-packet g c =
    rw (err_from_is_err_and c.from_residual.result c.from_residual.ensures.1).1
    (λ held holds. completes_unmade g.R.Rng.stream held c.args.allowed (view_of c.args.self.now) c.loop-left.left (view_of c.loop-left.self) (c.loop-left.invariant held holds))

pub returns-in_err-fill_with_data : goal.returns-in_err-fill_with_data
returns-in_err-fill_with_data g c =
    rw (err_from_is_err_and c.from_residual-in_err-fill_with_data.result c.from_residual-in_err-fill_with_data.ensures.1).1
    (λ held holds. let done = c.loop-left.invariant held holds in
    loop_cut g.R.Rng.stream held c.args.allowed (view_of c.args.self.now) c.loop-left.left (view_of c.loop-left.self) (view_of c.fill_with_data.new.self).events c.loop-left-test.true done
    (later_cut _ (view_of c.loop-left.self) (view_of c.fill_with_data.new.self) (draft_to held) c.in_ok-packet.packet refl
    (packet_to c.loop-left.self.options c.loop-left.self.state c.in-Some.tcb.now held c.in_ok-packet.packet c.in-Some.ensures done.core c.in_ok-packet.ensures)
    (λ none. cc (c.in_err-fill_with_data.ensures.idle none)) c.in_err-fill_with_data.ensures.turn))

pub returns-in_err-send_unless_empty : goal.returns-in_err-send_unless_empty
returns-in_err-send_unless_empty g c =
    rw (err_from_is_err_and c.from_residual-in_err-send_unless_empty.result c.from_residual-in_err-send_unless_empty.ensures.1).1
    (λ held holds. let done = c.loop-left.invariant held holds in
    loop_cut g.R.Rng.stream held c.args.allowed (view_of c.args.self.now) c.loop-left.left (view_of c.loop-left.self) (view_of c.send_unless_empty.new.self).events c.loop-left-test.true done
    (ask_cut later_ask (view_of c.loop-left.self) (view_of c.fill_with_data.new.self) (view_of c.send_unless_empty.new.self) (draft_to held) c.fill_with_data.new.packet
    (fills_later (view_of c.loop-left.self) (draft_to held) (view_of c.fill_with_data.new.self) c.in_ok-packet.packet c.fill_with_data.new.packet
    (packet_to c.loop-left.self.options c.loop-left.self.state c.in-Some.tcb.now held c.in_ok-packet.packet c.in-Some.ensures done.core c.in_ok-packet.ensures) c.in_ok-fill_with_data.ensures.turn)
    c.send_unless_empty.ensures.size c.in_err-send_unless_empty.ensures.sends))

pub returns-then-not-branch : goal.returns-then-not-branch
returns-then-not-branch g c =
    λ held holds. let done = c.loop-left.invariant held holds in
    loop_ends g.R.Rng.stream held c.args.allowed (view_of c.args.self.now) c.loop-left.left (view_of c.loop-left.self) (view_of c.send_unless_empty.new.self) c.in_ok-send_unless_empty.field-0 c.loop-left-test.true c.if-not-branch.true done
    (asks_for g.R.Rng.stream later_ask (view_of c.loop-left.self) (view_of c.fill_with_data.new.self) (view_of c.send_unless_empty.new.self) (draft_to held) c.fill_with_data.new.packet c.in_ok-send_unless_empty.field-0
    (fills_later (view_of c.loop-left.self) (draft_to held) (view_of c.fill_with_data.new.self) c.in_ok-packet.packet c.fill_with_data.new.packet
    (packet_to c.loop-left.self.options c.loop-left.self.state c.in-Some.tcb.now held c.in_ok-packet.packet c.in-Some.ensures done.core c.in_ok-packet.ensures) c.in_ok-fill_with_data.ensures.turn)
    c.send_unless_empty.ensures.size c.in_ok-send_unless_empty.ensures.sends.0 c.in_ok-send_unless_empty.ensures.sends.1)

pub loop-left-preserved : goal.loop-left-preserved
loop-left-preserved g c =
    λ held holds. let done = c.loop-left.invariant held holds in
    loop_goes_on g.R.Rng.stream held c.args.allowed (view_of c.args.self.now) c.loop-left.left (view_of c.loop-left.self) (view_of c.send_unless_empty.new.self) c.in_ok-send_unless_empty.field-0 c.loop-left-test.true c.if-not-branch.false done
    (asks_for g.R.Rng.stream later_ask (view_of c.loop-left.self) (view_of c.fill_with_data.new.self) (view_of c.send_unless_empty.new.self) (draft_to held) c.fill_with_data.new.packet c.in_ok-send_unless_empty.field-0
    (fills_later (view_of c.loop-left.self) (draft_to held) (view_of c.fill_with_data.new.self) c.in_ok-packet.packet c.fill_with_data.new.packet
    (packet_to c.loop-left.self.options c.loop-left.self.state c.in-Some.tcb.now held c.in_ok-packet.packet c.in-Some.ensures done.core c.in_ok-packet.ensures) c.in_ok-fill_with_data.ensures.turn)
    c.send_unless_empty.ensures.size c.in_ok-send_unless_empty.ensures.sends.0 c.in_ok-send_unless_empty.ensures.sends.1)

pub returns : goal.returns
returns g c =
    λ held holds. completes_none g.R.Rng.stream held c.args.allowed (view_of c.args.self.now) c.loop-left.left (view_of c.loop-left.self) (omega (arith, c.loop-left-test.false)) (c.loop-left.invariant held holds)

pub returns-then-not-may_fill : goal.returns-then-not-may_fill
returns-then-not-may_fill g c =
    let here = c.loop-left.self in
    λ held holds. loop_ends g.R.Rng.stream held c.args.allowed (view_of c.args.self.now) c.loop-left.left (view_of here) (view_of here) false c.loop-left-test.true refl (c.loop-left.invariant held holds)
    (asks_none g.R.Rng.stream later_ask (view_of here) held
    (subst (λ (f : Option Transfer). NeedsNone later_ask here.send_queue f) (sym (found here.state c.in-Some.tcb.now c.in-Some.ensures))
    (refl, λ is. absurd (cc), λ is. absurd (cc), sym c.may_fill.ensures ∙ c.if-not-may_fill.true)))
