use Rattle.std.proofs.Common.{ℕ, List, Vec, Ok, Err, refl, sym, subst, ◌∙◌}
use Rattle.std.proofs.lemmas.Result.{err_from_is_err_and}
use Rattle.std.specs.declared.alloc.Global.{Global}
use Rattle.dcsctp_core.specs.types.declared.schedule.Side.TheVariants as sides
use Rattle.dcsctp_core.specs.types.Schedule.{act_content}
use Rattle.dcsctp_spec_runs.specs.Sockets.{TurnsOfAct}
use Rattle.dcsctp_world.specs.Growth.{HandlesAct, IsReply}
use Rattle.dcsctp_world.specs.Parts.{bytes_of_packets, shown_side, both}
use Rattle.dcsctp_world.proofs.Stopping.{moves_at}
use Rattle.dcsctp_world.proofs.world.move_side.Goals as goal

pub returns-in_err-reply-in-A : goal.returns-in_err-reply-in-A
returns-in_err-reply-in-A g c =
    let stream = g.R.Rng.stream in
    let act = act_content c.args.act.now in
    let mover = c.args.a.now in
    let p = err_from_is_err_and c.from_residual.result c.from_residual.ensures.1 in
    rw (p.1, p.2)
    (moves_at stream act sides.A _ (both c.args.a.now c.args.b.now) (both c.perform.new.self c.args.b.now) (sym c.side_of.ensures ∙ c.in-A.is)
    (subst (λ (bytes : List (Vec ℕ Global)). HandlesAct stream (TurnsOfAct mover.socket.view.endpoint (bytes_of_packets bytes) act) (IsReply mover.socket.view.endpoint (bytes_of_packets bytes) act)
    (shown_side mover) (Err c.in_err-reply-in-A.field-0.0) (shown_side c.perform.new.self)) c.deref.ensures.value c.in_err-reply-in-A.ensures) refl)

pub returns-in_ok-reply-in-A : goal.returns-in_ok-reply-in-A
returns-in_ok-reply-in-A g c =
    let stream = g.R.Rng.stream in
    let act = act_content c.args.act.now in
    let mover = c.args.a.now in
    moves_at stream act sides.A _ (both c.args.a.now c.args.b.now) (both c.perform.new.self c.args.b.now) (sym c.side_of.ensures ∙ c.in-A.is)
    (subst (λ (bytes : List (Vec ℕ Global)). HandlesAct stream (TurnsOfAct mover.socket.view.endpoint (bytes_of_packets bytes) act) (IsReply mover.socket.view.endpoint (bytes_of_packets bytes) act)
    (shown_side mover) (Ok c.in_ok-reply-in-A.reply) (shown_side c.perform.new.self)) c.deref.ensures.value c.in_ok-reply-in-A.ensures) refl

pub returns-in_err-reply-in-B : goal.returns-in_err-reply-in-B
returns-in_err-reply-in-B g c =
    let stream = g.R.Rng.stream in
    let act = act_content c.args.act.now in
    let mover = c.args.b.now in
    let p = err_from_is_err_and c.from_residual-in_err-reply-in-B.result c.from_residual-in_err-reply-in-B.ensures.1 in
    rw (p.1, p.2)
    (moves_at stream act sides.B _ (both c.args.a.now c.args.b.now) (both c.args.a.now c.perform-in-B.new.self) (sym c.side_of.ensures ∙ c.in-B.is)
    (subst (λ (bytes : List (Vec ℕ Global)). HandlesAct stream (TurnsOfAct mover.socket.view.endpoint (bytes_of_packets bytes) act) (IsReply mover.socket.view.endpoint (bytes_of_packets bytes) act)
    (shown_side mover) (Err c.in_err-reply-in-B.field-0.0) (shown_side c.perform-in-B.new.self)) c.deref-in-B.ensures.value c.in_err-reply-in-B.ensures) refl)

pub returns-in_ok-reply-in-B : goal.returns-in_ok-reply-in-B
returns-in_ok-reply-in-B g c =
    let stream = g.R.Rng.stream in
    let act = act_content c.args.act.now in
    let mover = c.args.b.now in
    moves_at stream act sides.B _ (both c.args.a.now c.args.b.now) (both c.args.a.now c.perform-in-B.new.self) (sym c.side_of.ensures ∙ c.in-B.is)
    (subst (λ (bytes : List (Vec ℕ Global)). HandlesAct stream (TurnsOfAct mover.socket.view.endpoint (bytes_of_packets bytes) act) (IsReply mover.socket.view.endpoint (bytes_of_packets bytes) act)
    (shown_side mover) (Ok c.in_ok-reply-in-B.reply) (shown_side c.perform-in-B.new.self)) c.deref-in-B.ensures.value c.in_ok-reply-in-B.ensures) refl
