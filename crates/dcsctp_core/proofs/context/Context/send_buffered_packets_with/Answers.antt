use Rattle.std.proofs.Common.{sym, ap, ◌∙◌, subst, ◌-◌, ℕ, arith}
use Rattle.std.proofs.lemmas.Result.{err_from_is_err_and}
use Rattle.dcsctp_transfer.specs.spec.endpoint.FlushOutcomes.{first_ask, later_ask, draft_to, packets_allowed}
use Rattle.dcsctp_core.specs.View.{view_of, core_of}
use Rattle.dcsctp_core.specs.Flushing.{FlushesOrFails}
use Rattle.dcsctp_core.proofs.FlushLemmas.{ask_cut, asks_for}
use Rattle.dcsctp_core.proofs.LoopLemmas.{none_allowed, first_cut, first_last, first_then}
use Rattle.dcsctp_core.proofs.context.Context.send_buffered_packets_with.Goals as goal

pub returns-then-allowed-eq0 : goal.returns-then-allowed-eq0
returns-then-allowed-eq0 g c =
    λ draft is held holds. none_allowed g.R.Rng.stream first_ask (packets_allowed c.args.self.now.options.max_burst (core_of c.args.self.now.state)) (view_of c.args.self.now) draft (sym c.packets_allowed-allowed.ensures ∙ c.if-allowed-eq0.true)

pub returns-in_err-fill_first : goal.returns-in_err-fill_first
returns-in_err-fill_first g c =
    rw (err_from_is_err_and c.from_residual.result c.from_residual.ensures.1).1
    (λ draft is held holds. first_cut (packets_allowed c.args.self.now.options.max_burst (core_of c.args.self.now.state)) (view_of c.args.self.now) draft (view_of c.fill_first.new.self).events
    (omega (arith, c.packets_allowed-allowed.ensures, c.if-allowed-eq0.false)) (c.in_err-fill_first.ensures draft is))

pub returns-in_err-send_unless_empty : goal.returns-in_err-send_unless_empty
returns-in_err-send_unless_empty g c =
    rw (err_from_is_err_and c.from_residual-in_err-send_unless_empty.result c.from_residual-in_err-send_unless_empty.ensures.1).1
    (λ draft is held holds. first_cut (packets_allowed c.args.self.now.options.max_burst (core_of c.args.self.now.state)) (view_of c.args.self.now) draft (view_of c.send_unless_empty.new.self).events
    (omega (arith, c.packets_allowed-allowed.ensures, c.if-allowed-eq0.false))
    (ask_cut first_ask (view_of c.args.self.now) (view_of c.fill_first.new.self) (view_of c.send_unless_empty.new.self) draft c.fill_first.new.packet (c.in_ok-fill_first.ensures draft is)
    c.send_unless_empty.ensures.size c.in_err-send_unless_empty.ensures.sends))

pub returns-then-not-branch : goal.returns-then-not-branch
returns-then-not-branch g c =
    λ draft is held holds. first_last g.R.Rng.stream (packets_allowed c.args.self.now.options.max_burst (core_of c.args.self.now.state)) (view_of c.args.self.now) (view_of c.send_unless_empty.new.self) draft c.in_ok-send_unless_empty.field-0
    (omega (arith, c.packets_allowed-allowed.ensures, c.if-allowed-eq0.false)) c.if-not-branch.true
    (asks_for g.R.Rng.stream first_ask (view_of c.args.self.now) (view_of c.fill_first.new.self) (view_of c.send_unless_empty.new.self) draft c.fill_first.new.packet c.in_ok-send_unless_empty.field-0
    (c.in_ok-fill_first.ensures draft is) c.send_unless_empty.ensures.size c.in_ok-send_unless_empty.ensures.sends.0 c.in_ok-send_unless_empty.ensures.sends.1)

pub returns : goal.returns
returns g c =
    λ draft is held holds. first_then g.R.Rng.stream (packets_allowed c.args.self.now.options.max_burst (core_of c.args.self.now.state)) (view_of c.args.self.now) (view_of c.send_unless_empty.new.self) draft held c.send_further.result (view_of c.send_further.new.self) c.in_ok-send_unless_empty.field-0
    (omega (arith, c.packets_allowed-allowed.ensures, c.if-allowed-eq0.false)) c.if-not-branch.false holds
    (asks_for g.R.Rng.stream first_ask (view_of c.args.self.now) (view_of c.fill_first.new.self) (view_of c.send_unless_empty.new.self) draft c.fill_first.new.packet c.in_ok-send_unless_empty.field-0
    (c.in_ok-fill_first.ensures draft is) c.send_unless_empty.ensures.size c.in_ok-send_unless_empty.ensures.sends.0 c.in_ok-send_unless_empty.ensures.sends.1)
    (λ after still. subst (λ (n : ℕ). FlushesOrFails g.R.Rng.stream later_ask n (draft_to after) (view_of c.send_unless_empty.new.self) c.send_further.result (view_of c.send_further.new.self))
    (ap (λ (n : ℕ). n - 1) c.packets_allowed-allowed.ensures) (c.send_further.ensures after still))
