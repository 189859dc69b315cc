use Rattle.std.proofs.lemmas.Result.{err_from_is_err_and}
use Rattle.std.proofs.Common.{ap}
use Rattle.dcsctp_core.specs.api.Cookie.{cookie_of}
use Rattle.dcsctp_core.specs.spec.endpoint.CookieEchoOutcomes.{invalid_tag_text}
use Rattle.dcsctp_core.specs.View.{View, view_of}
use Rattle.dcsctp_core_handshake.proofs.EchoSteps.{works_new, works_new_cut, works_colliding, works_colliding_cut, works_restart, works_maintain, works_maintain_cut, works_discard, refused_cut, unread_turn, untagged_turn, works_stale}
use Rattle.dcsctp_core_handshake.proofs.cookie_echo.handle_cookie_echo.Goals as goal

pub returns-in_err-refuse-in-Err : goal.returns-in_err-refuse-in-Err
returns-in_err-refuse-in-Err g c =
    let old = view_of c.args.context.now in
    rw (err_from_is_err_and c.from_residual.result c.from_residual.ensures.1).1
    (refused_cut old _ c.args.header_tag c.args.chunk.now.cookie.now c.in-Err.text.now (unread_turn old c.args.header_tag c.args.chunk.now.cookie.now c.in-Err.text.now c.in-Err.ensures)
    (ap (λ (v : View g.row.R.Denot). v.events) c.in_err-refuse-in-Err.ensures))

pub returns-in_err-refuse-in-InvalidTag : goal.returns-in_err-refuse-in-InvalidTag
returns-in_err-refuse-in-InvalidTag g c =
    let old = view_of c.args.context.now in
    rw (err_from_is_err_and c.from_residual-in_err-refuse-in-InvalidTag.result c.from_residual-in_err-refuse-in-InvalidTag.ensures.1).1
    (refused_cut old _ c.args.header_tag c.args.chunk.now.cookie.now invalid_tag_text (untagged_turn old c.args.header_tag c.args.chunk.now.cookie.now (cookie_of c.in-Ok.cookie) (record { reads = c.in-Ok.ensures; is = c.in-InvalidTag.ensures }))
    (ap (λ (v : View g.row.R.Denot). v.events) c.in_err-refuse-in-InvalidTag.ensures))

pub returns-in-Stale : goal.returns-in-Stale
returns-in-Stale g c =
    works_stale g.R.Rng.stream c.args.context.now c.refuse_stale.result c.refuse_stale.new.context c.args.header_tag c.args.chunk.now.cookie.now (cookie_of c.in-Ok.cookie) (record { reads = c.in-Ok.ensures; is = c.in-Stale.ensures })
    c.refuse_stale.ensures

pub returns-in-Discard : goal.returns-in-Discard
returns-in-Discard g c =
    works_discard g.R.Rng.stream (view_of c.args.context.now) c.args.header_tag c.args.chunk.now.cookie.now (cookie_of c.in-Ok.cookie) (record { reads = c.in-Ok.ensures; is = c.in-Discard.ensures })

pub returns-in_err-establish_new-in-EstablishNew : goal.returns-in_err-establish_new-in-EstablishNew
returns-in_err-establish_new-in-EstablishNew g c =
    rw (err_from_is_err_and c.from_residual-in_err-establish_new-in-EstablishNew.result c.from_residual-in_err-establish_new-in-EstablishNew.ensures.1).1
    (works_new_cut g.R.Rng.stream (view_of c.args.context.now) _ c.args.header_tag c.args.chunk.now.cookie.now (cookie_of c.in-Ok.cookie) (record { reads = c.in-Ok.ensures; is = c.in-EstablishNew.ensures }) c.in_err-establish_new-in-EstablishNew.ensures)

pub returns-in_ok-establish_new-in-EstablishNew : goal.returns-in_ok-establish_new-in-EstablishNew
returns-in_ok-establish_new-in-EstablishNew g c =
    works_new g.R.Rng.stream (view_of c.args.context.now) _ c.args.header_tag c.args.chunk.now.cookie.now (cookie_of c.in-Ok.cookie) (record { reads = c.in-Ok.ensures; is = c.in-EstablishNew.ensures }) c.in_ok-establish_new-in-EstablishNew.ensures

pub returns-in-RestartDetected : goal.returns-in-RestartDetected
returns-in-RestartDetected g c =
    works_restart g.R.Rng.stream c.args.context.now c.restart_where_open.result c.restart_where_open.new.context c.args.header_tag c.args.chunk.now.cookie.now (cookie_of c.in-Ok.cookie) (record { reads = c.in-Ok.ensures; is = c.in-RestartDetected.ensures })
    c.restart_where_open.ensures

pub returns-in_err-collide-in-SimultaneousInit : goal.returns-in_err-collide-in-SimultaneousInit
returns-in_err-collide-in-SimultaneousInit g c =
    rw (err_from_is_err_and c.from_residual-in_err-collide-in-SimultaneousInit.result c.from_residual-in_err-collide-in-SimultaneousInit.ensures.1).1
    (works_colliding_cut g.R.Rng.stream (view_of c.args.context.now) _ c.args.header_tag c.args.chunk.now.cookie.now (cookie_of c.in-Ok.cookie) (record { reads = c.in-Ok.ensures; is = c.in-SimultaneousInit.ensures }) c.in_err-collide-in-SimultaneousInit.ensures)

pub returns-in_ok-collide-in-SimultaneousInit : goal.returns-in_ok-collide-in-SimultaneousInit
returns-in_ok-collide-in-SimultaneousInit g c =
    works_colliding g.R.Rng.stream (view_of c.args.context.now) _ c.args.header_tag c.args.chunk.now.cookie.now (cookie_of c.in-Ok.cookie) (record { reads = c.in-Ok.ensures; is = c.in-SimultaneousInit.ensures }) c.in_ok-collide-in-SimultaneousInit.ensures

pub returns-in_err-maintain-in-MaintainExisting : goal.returns-in_err-maintain-in-MaintainExisting
returns-in_err-maintain-in-MaintainExisting g c =
    rw (err_from_is_err_and c.from_residual-in_err-maintain-in-MaintainExisting.result c.from_residual-in_err-maintain-in-MaintainExisting.ensures.1).1
    (works_maintain_cut (view_of c.args.context.now) _ c.args.header_tag c.args.chunk.now.cookie.now (cookie_of c.in-Ok.cookie) (record { reads = c.in-Ok.ensures; is = c.in-MaintainExisting.ensures }) c.in_err-maintain-in-MaintainExisting.ensures)

pub returns-in_ok-maintain-in-MaintainExisting : goal.returns-in_ok-maintain-in-MaintainExisting
returns-in_ok-maintain-in-MaintainExisting g c =
    works_maintain g.R.Rng.stream (view_of c.args.context.now) _ c.args.header_tag c.args.chunk.now.cookie.now (cookie_of c.in-Ok.cookie) (record { reads = c.in-Ok.ensures; is = c.in-MaintainExisting.ensures }) c.in_ok-maintain-in-MaintainExisting.ensures
