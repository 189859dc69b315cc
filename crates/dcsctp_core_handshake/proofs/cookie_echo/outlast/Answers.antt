use Rattle.std.proofs.lemmas.Result.{err_from_is_err_and}
use Rattle.std.proofs.Common.{ap, map, ◌∙◌}
use Rattle.dcsctp_core.specs.api.Cookie.{cookie_of}
use Rattle.dcsctp_core.specs.api.Events.{event_content}
use Rattle.dcsctp_core.specs.declared.context.Context.{Context}
use Rattle.dcsctp_core.specs.View.{view_of}
use Rattle.dcsctp_core_handshake.proofs.AssociationSteps.{outlast_unmade, outlasting, outlasting_cut}
use Rattle.dcsctp_core_handshake.proofs.cookie_echo.outlast.Goals as goal

pub returns-in_err-tie_tag : goal.returns-in_err-tie_tag
returns-in_err-tie_tag g c =
    rw (err_from_is_err_and c.from_residual.result c.from_residual.ensures.1).1
    (outlast_unmade g.R.Rng.stream _ _ (cookie_of c.args.cookie.now) (ap (λ (x : Context g.row.R.Denot). (view_of x).events) c.in_err-tie_tag.ensures.0))

pub returns-in_err-add : goal.returns-in_err-add
returns-in_err-add g c =
    rw (err_from_is_err_and c.from_residual-in_err-add.result c.from_residual-in_err-add.ensures.1).1
    (outlast_unmade g.R.Rng.stream _ _ (cookie_of c.args.cookie.now)
    (ap (map event_content) c.in_err-add.ensures.err ∙ ap (λ (x : Context g.row.R.Denot). (view_of x).events) c.in_ok-tie_tag.ensures.only))

pub returns-in_err-send_cookie_ack : goal.returns-in_err-send_cookie_ack
returns-in_err-send_cookie_ack g c =
    rw (err_from_is_err_and c.from_residual-in_err-send_cookie_ack.result c.from_residual-in_err-send_cookie_ack.ensures.1).1
    (outlasting_cut g.R.Rng.stream c.args.context.now c.draw_u64.new.self c.add.new.self (cookie_of c.args.cookie.now) c.in_ok-tie_tag.tie_tag (view_of c.take_over.new.context) (view_of c.send_cookie_ack.new.context).events
    c.in_ok-tie_tag.ensures c.in_ok-add.ensures.ok c.take_over.ensures c.in_err-send_cookie_ack.ensures)

pub returns : goal.returns
returns g c =
    outlasting g.R.Rng.stream c.args.context.now c.draw_u64.new.self c.add.new.self (cookie_of c.args.cookie.now) c.in_ok-tie_tag.tie_tag (view_of c.take_over.new.context) (view_of c.send_cookie_ack.new.context)
    c.in_ok-tie_tag.ensures c.in_ok-add.ensures.ok c.take_over.ensures c.in_ok-send_cookie_ack.ensures
