use Rattle.std.proofs.lemmas.Result.{err_from_is_err_and}
use Rattle.std.proofs.Common.{List, ℕ, ap, map}
use Rattle.dcsctp_core.specs.spec.endpoint.Event.{Event}
use Rattle.dcsctp_core.specs.api.Cookie.{cookie_of}
use Rattle.dcsctp_core.specs.api.Events.{event_content}
use Rattle.dcsctp_core.specs.api.declared.events.SocketEvent.TheVariants.{OnConnectionRestarted}
use Rattle.dcsctp_core.specs.View.{view_of}
use Rattle.dcsctp_core.proofs.Composing.{added_one}
use Rattle.dcsctp_core_handshake.proofs.AssociationSteps.{restarts, restarts_cut, restart_unmade}
use Rattle.dcsctp_core_handshake.proofs.cookie_echo.restart.Goals as goal

pub returns-in_err-add : goal.returns-in_err-add
returns-in_err-add g c =
    rw (err_from_is_err_and c.from_residual.result c.from_residual.ensures.1).1
    (restart_unmade g.R.Rng.stream _ _ (cookie_of c.args.cookie.now) (ap (map event_content) c.in_err-add.ensures.err))

pub returns-in_err-replace : goal.returns-in_err-replace
returns-in_err-replace g c =
    let old = view_of c.args.context.now in
    rw (err_from_is_err_and c.from_residual-in_err-replace.result c.from_residual-in_err-replace.ensures.1).1
    (restarts_cut g.R.Rng.stream old _ _ (cookie_of c.args.cookie.now)
    (ap (λ (es : List (Event (List ℕ))). record old { events = es }) (added_one c.args.context.now.events c.add.new.self OnConnectionRestarted c.in_ok-add.ensures.ok))
    c.in_err-replace.ensures)

pub returns : goal.returns
returns g c =
    let old = view_of c.args.context.now in
    restarts g.R.Rng.stream old _ _ (cookie_of c.args.cookie.now)
    (ap (λ (es : List (Event (List ℕ))). record old { events = es }) (added_one c.args.context.now.events c.add.new.self OnConnectionRestarted c.in_ok-add.ensures.ok))
    c.in_ok-replace.ensures
