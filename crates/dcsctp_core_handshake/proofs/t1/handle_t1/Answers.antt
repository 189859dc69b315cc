use Rattle.std.proofs.lemmas.Result.{err_from_is_err_and}
use Rattle.std.proofs.Common.{ap, subst}
use Rattle.dcsctp_core.specs.declared.state.State.{State}
use Rattle.dcsctp_core.specs.Handling.{TakesPossibleTurn, CutsSomeTurn}
use Rattle.dcsctp_core.specs.View.{View, Moves, view_of}
use Rattle.dcsctp_core_handshake.specs.Timing.{RepeatsHandshakePacket, give_up_turn}
use Rattle.dcsctp_core_handshake.proofs.T1Steps.{t1_again, t1_again_cut, t1_gave_up, t1_kept}
use Rattle.dcsctp_core_handshake.proofs.t1.handle_t1.Goals as goal

pub returns-in_err-send_again-in-Again : goal.returns-in_err-send_again-in-Again
returns-in_err-send_again-in-Again g c =
    let old = c.args.context.now in
    rw (err_from_is_err_and c.from_residual.result c.from_residual.ensures.1).1
    (t1_again_cut old (view_of c.send_again.new.context).events c.in-Again.ensures.answer
    (subst (λ (s : State). CutsSomeTurn RepeatsHandshakePacket (view_of (record old { state = s })) (view_of c.send_again.new.context).events) c.in-Again.ensures.left c.in_err-send_again-in-Again.ensures))

pub returns-in_ok-send_again-in-Again : goal.returns-in_ok-send_again-in-Again
returns-in_ok-send_again-in-Again g c =
    let old = c.args.context.now in
    t1_again g.R.Rng.stream old (view_of c.send_again.new.context) c.in-Again.ensures.answer
    (subst (λ (s : State). TakesPossibleTurn g.R.Rng.stream RepeatsHandshakePacket (view_of (record old { state = s })) (view_of c.send_again.new.context)) c.in-Again.ensures.left c.in_ok-send_again-in-Again.ensures)

pub returns-in_err-give_up-in-GaveUp : goal.returns-in_err-give_up-in-GaveUp
returns-in_err-give_up-in-GaveUp g c =
    let old = c.args.context.now in
    rw (err_from_is_err_and c.from_residual-in_err-give_up-in-GaveUp.result c.from_residual-in_err-give_up-in-GaveUp.ensures.1).1
    (t1_kept old (view_of c.give_up.new.context).events c.in-GaveUp.ensures.answer (ap (λ (v : View g.row.R.Denot). v.events) c.in_err-give_up-in-GaveUp.ensures))

pub returns-in_ok-give_up-in-GaveUp : goal.returns-in_ok-give_up-in-GaveUp
returns-in_ok-give_up-in-GaveUp g c =
    let old = c.args.context.now in
    t1_gave_up g.R.Rng.stream old (view_of c.give_up.new.context) c.in-GaveUp.ensures.answer
    (subst (λ (s : State). Moves g.R.Rng.stream (view_of (record old { state = s })) (give_up_turn (view_of (record old { state = s }))) (view_of c.give_up.new.context)) c.in-GaveUp.ensures.left c.in_ok-give_up-in-GaveUp.ensures)
