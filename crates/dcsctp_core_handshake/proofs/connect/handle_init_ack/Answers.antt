use Rattle.std.proofs.lemmas.Result.{err_from_is_err_and}
use Rattle.std.proofs.Common.{List, map, ap, sym, ◌∙◌}
use Rattle.dcsctp_core.specs.wire.Content.{init_content, parameter_content}
use Rattle.dcsctp_core.specs.spec.Packet.{introduction_of_init, first_cookie}
use Rattle.dcsctp_core.specs.View.{core_of, view_of}
use Rattle.dcsctp_core_handshake.proofs.InitAckSteps.{works_elsewhere, works_accepted, works_accepted_cut}
use Rattle.dcsctp_core_handshake.proofs.connect.handle_init_ack.Goals as goal

pub returns-in-Closed : goal.returns-in-Closed
returns-in-Closed g c =
    let theirs = init_content c.args.init_ack.now in
    works_elsewhere g.R.Rng.stream c.args.context.now (introduction_of_init theirs) (first_cookie theirs.parameters) c.in-Closed.is

pub returns-in-Closed-2 : goal.returns-in-Closed-2
returns-in-Closed-2 g c =
    let theirs = init_content c.args.init_ack.now in
    works_elsewhere g.R.Rng.stream c.args.context.now (introduction_of_init theirs) (first_cookie theirs.parameters) c.in-Closed.is

pub returns-in-Closed-3 : goal.returns-in-Closed-3
returns-in-Closed-3 g c =
    let theirs = init_content c.args.init_ack.now in
    works_elsewhere g.R.Rng.stream c.args.context.now (introduction_of_init theirs) (first_cookie theirs.parameters) c.in-Closed.is

pub returns-in_err-echo_cookie-in-Some : goal.returns-in_err-echo_cookie-in-Some
returns-in_err-echo_cookie-in-Some g c =
    let theirs = init_content c.args.init_ack.now in
    rw (err_from_is_err_and c.from_residual-in_err-echo_cookie-in-Some.result c.from_residual-in_err-echo_cookie-in-Some.ensures.1).1
    (works_accepted_cut g.R.Rng.stream (view_of c.args.context.now) _ (introduction_of_init theirs) (first_cookie theirs.parameters) c.in-Some.cookie.now c.in-CookieWait.wait.my
    (ap core_of c.in-CookieWait.is) (ap (λ (ps : List _). first_cookie (map parameter_content ps)) (sym c.deref.ensures.value) ∙ sym c.in-Some.ensures) c.in_err-echo_cookie-in-Some.ensures)

pub returns-in_ok-echo_cookie-in-Some : goal.returns-in_ok-echo_cookie-in-Some
returns-in_ok-echo_cookie-in-Some g c =
    let theirs = init_content c.args.init_ack.now in
    works_accepted g.R.Rng.stream (view_of c.args.context.now) _ (introduction_of_init theirs) (first_cookie theirs.parameters) c.in-Some.cookie.now c.in-CookieWait.wait.my
    (ap core_of c.in-CookieWait.is) (ap (λ (ps : List _). first_cookie (map parameter_content ps)) (sym c.deref.ensures.value) ∙ sym c.in-Some.ensures) c.in_ok-echo_cookie-in-Some.ensures
