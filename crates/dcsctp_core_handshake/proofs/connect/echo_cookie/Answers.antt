use Rattle.std.proofs.lemmas.Result.{err_from_is_err_and}
use Rattle.std.proofs.Common.{refl, ap, rules}
use Rattle.dcsctp_core.specs.wire.Content.{init_content}
use Rattle.dcsctp_core.specs.spec.Packet.{introduction_of_init}
use Rattle.dcsctp_core.specs.declared.context.Context.{Context}
use Rattle.dcsctp_core.specs.View.{view_of}
use Rattle.dcsctp_core.specs.Drawing.{long_word}
use Rattle.dcsctp_core_handshake.proofs.InitAckSteps.{accepts, accepts_cut, acceptance_unmade}
use Rattle.dcsctp_core_handshake.proofs.connect.echo_cookie.Goals as goal

pub returns-in_err-echoed : goal.returns-in_err-echoed
returns-in_err-echoed g c =
    rw (err_from_is_err_and c.from_residual.result c.from_residual.ensures.1).1
    (acceptance_unmade g.R.Rng.stream (view_of c.args.context.now) _ c.args.my (introduction_of_init (init_content c.args.init_ack.now)) c.args.cookie.now refl)

pub returns-in_err-tie_tag : goal.returns-in_err-tie_tag
returns-in_err-tie_tag g c =
    rw (err_from_is_err_and c.from_residual-in_err-tie_tag.result c.from_residual-in_err-tie_tag.ensures.1).1
    (acceptance_unmade g.R.Rng.stream (view_of c.args.context.now) _ c.args.my (introduction_of_init (init_content c.args.init_ack.now)) c.args.cookie.now
    (ap (λ (x : Context g.row.R.Denot). (view_of x).events) c.in_err-tie_tag.ensures.0))

pub returns-in_err-send_cookie_echo : goal.returns-in_err-send_cookie_echo
returns-in_err-send_cookie_echo g c =
    let old = c.args.context.now in
    rw (err_from_is_err_and c.from_residual-in_err-send_cookie_echo.result c.from_residual-in_err-send_cookie_echo.ensures.1).1
    (accepts_cut g.R.Rng.stream (view_of old) _ _ c.args.my (introduction_of_init (init_content c.args.init_ack.now)) c.args.cookie.now (long_word (g.R.Rng.stream (view_of old).generator)) refl
    (search rules)
    (ap (λ (x : Context g.row.R.Denot). (view_of x).events) c.in_ok-tie_tag.ensures.only)
    c.in_err-send_cookie_echo.ensures)

pub returns : goal.returns
returns g c =
    let old = c.args.context.now in
    accepts g.R.Rng.stream (view_of old) _ _ c.args.my (introduction_of_init (init_content c.args.init_ack.now)) c.args.cookie.now (long_word (g.R.Rng.stream (view_of old).generator)) refl
    (search rules)
    (ap (λ (x : Context g.row.R.Denot). (view_of x).events) c.in_ok-tie_tag.ensures.only) (search rules)
    c.in_ok-send_cookie_echo.ensures
