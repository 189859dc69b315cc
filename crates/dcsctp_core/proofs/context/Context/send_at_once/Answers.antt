use Rattle.std.proofs.Common.{Option, ◌∙◌, ap, sym, refl, subst}
use Rattle.std.proofs.lemmas.Result.{err_from_is_err_and}
use Rattle.dcsctp_transfer.specs.spec.queues.Transfer.{Transfer}
use Rattle.dcsctp_core.specs.declared.state.State.{State}
use Rattle.dcsctp_core.specs.Handling.{TakesPossibleTurn}
use Rattle.dcsctp_core.specs.Below.{has_lost_data, FlushesAtOnce, FillsLostAtOnce}
use Rattle.dcsctp_core.specs.View.{View, view_of}
use Rattle.dcsctp_core.proofs.AtOnceLemmas.{at_once_sent, none_at_once, at_once_no_peer, at_once_cut}
use Rattle.dcsctp_core.proofs.LendingLemmas.{found, kept, lent, left_with}
use Rattle.dcsctp_core.proofs.context.Context.send_at_once.Goals as goal

pub returns-then-not-has_data_at_once : goal.returns-then-not-has_data_at_once
returns-then-not-has_data_at_once g c =
    let old = c.args.self.now in
    let tcb = c.in-Some.tcb.now in
    let holds = c.in-Some.ensures.tcb in
    subst (λ (s : State). TakesPossibleTurn g.R.Rng.stream FlushesAtOnce (view_of old) (view_of (record old { state = s }))) (sym (kept old.state tcb holds))
    (none_at_once g.R.Rng.stream old (ap has_lost_data (found old.state tcb holds) ∙ sym c.has_data_at_once.ensures ∙ c.if-not-has_data_at_once.true))

pub returns-in_default : goal.returns-in_default
returns-in_default g c = at_once_no_peer g.R.Rng.stream c.args.self.now c.in_default.ensures.tcb

pub returns-in_err-packet : goal.returns-in_err-packet
returns-in_err-packet g c =
    rw (err_from_is_err_and c.from_residual.result c.from_residual.ensures.1).1
    (at_once_cut (view_of c.args.self.now) (view_of c.args.self.now).events refl)

pub returns-in_err-fill_at_once : goal.returns-in_err-fill_at_once
returns-in_err-fill_at_once g c =
    rw (err_from_is_err_and c.from_residual-in_err-fill_at_once.result c.from_residual-in_err-fill_at_once.ensures.1).1
    (at_once_cut (view_of c.args.self.now) (view_of c.args.self.now).events refl)

pub returns-in_err-send_unless_empty : goal.returns-in_err-send_unless_empty
returns-in_err-send_unless_empty g c =
    rw (err_from_is_err_and c.from_residual-in_err-send_unless_empty.result c.from_residual-in_err-send_unless_empty.ensures.1).1
    (at_once_cut (view_of c.args.self.now) (view_of c.send_unless_empty.new.self).events (ap (λ (v : View g.row.R.Denot). v.events) c.in_err-send_unless_empty.ensures.sends))

pub returns : goal.returns
returns g c =
    let old = c.args.self.now in
    let tcb = c.in-Some.tcb.now in
    let after = c.fill_at_once.new.self in
    let is = found old.state tcb c.in-Some.ensures.tcb in
    at_once_sent g.R.Rng.stream old tcb (left_with old.state tcb after) _ c.fill_at_once.new.packet _ (view_of c.send_unless_empty.new.self)
    (ap has_lost_data is ∙ sym c.has_data_at_once.ensures ∙ c.if-not-has_data_at_once.false) c.in-Some.ensures.tcb c.in_ok-packet.ensures
    (subst (λ (f : Option Transfer). FillsLostAtOnce old.moment f old.state c.in_ok-packet.packet (left_with old.state tcb after) c.fill_at_once.new.packet) (sym is) (after, lent old.state tcb after c.in-Some.ensures.tcb, c.in_ok-fill_at_once.ensures))
    c.send_unless_empty.ensures.size c.in_ok-send_unless_empty.ensures.sends.0 c.in_ok-send_unless_empty.ensures.sends.1
