-- A shutdown is asked for while the COOKIE ACK is awaited.
use Rattle.std.proofs.Common.{◌≡◌, Bool, true, false, Result, refl, sym, ap, subst}
use Rattle.rand_core.specs.Stream.{Stream}
use Rattle.dcsctp_core.specs.spec.endpoint.Endpoint.{Endpoint, Core, closed, cookie_wait, cookie_echoed, open_in, is_cookie_echoed}
use Rattle.dcsctp_core.specs.spec.endpoint.Outcome.{Outcome, still}
use Rattle.dcsctp_core.specs.spec.endpoint.ShutdownOutcomes.{shut_down_echoed, shut_down_outcome}
use Rattle.dcsctp_core.specs.declared.context.Context.{Context}
use Rattle.dcsctp_core.specs.types.ByResult.{ByResult}
use Rattle.dcsctp_core.specs.View.{View, Moves, CutsTurn, view_of}
use Rattle.dcsctp_core.specs.Handling.{TakesTurn, asked_turn}
use Rattle.dcsctp_core.proofs.Composing.{moves_as}
use Rattle.dcsctp_core_ends.specs.Shutdown.{pending_outcome, pending_turn, shut_down_turn}

waits_in : (e : Endpoint) (core : Core) → is_cookie_echoed core ≡ true → e.options.follow_rfc ≡ true → shut_down_outcome e core ≡ still (record e { shutdown_asked = true })
waits_in e closed is follows = absurd (cc)
waits_in e (cookie_wait my) is follows = absurd (cc)
waits_in e (cookie_echoed my held cookie) is follows = ap (λ (b : Bool). shut_down_echoed b e my held) follows
waits_in e (open_in phase my held) is follows = absurd (cc)

begins_in : (e : Endpoint) (core : Core) → is_cookie_echoed core ≡ true → e.options.follow_rfc ≡ false → pending_outcome e core ≡ shut_down_outcome e core
begins_in e closed is follows = absurd (cc)
begins_in e (cookie_wait my) is follows = absurd (cc)
begins_in e (cookie_echoed my held cookie) is follows = sym (ap (λ (b : Bool). shut_down_echoed b e my held) follows)
begins_in e (open_in phase my held) is follows = absurd (cc)

-- By the RFC it waits.
pub waits : {R : Type 0} (stream : R → Stream) (old new : View R) → is_cookie_echoed old.endpoint.core ≡ true → old.endpoint.options.follow_rfc ≡ true → Moves stream old (asked_turn old) new
    → Moves stream old (shut_down_turn old) new
waits stream old new is follows moves = moves_as stream old new (asked_turn old) (shut_down_turn old) (waits_in old.endpoint old.endpoint.core is follows) moves

-- Else it begins at once.
pub begins : {R E : Type 0} (stream : R → Stream) (old : Context R) (result : Result (Unit {0}) E) (new : Context R) → is_cookie_echoed (view_of old).endpoint.core ≡ true
    → (view_of old).endpoint.options.follow_rfc ≡ false → TakesTurn stream pending_turn old result new → TakesTurn stream shut_down_turn old result new
begins stream old result new is follows takes =
    subst (λ (o : Outcome). ByResult (λ done. Moves stream (view_of old) o (view_of new)) (CutsTurn (view_of old) o (view_of new).events) result)
    (begins_in (view_of old).endpoint (view_of old).endpoint.core is follows) takes
