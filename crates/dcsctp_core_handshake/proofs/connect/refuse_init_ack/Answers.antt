use Rattle.std.proofs.lemmas.Result.{err_from_is_err_and}
use Rattle.std.proofs.Common.{◌≡◌, Bool, true, false, cond, [], ◌∷◌, refl, ap, sym, ◌∙◌}
use Rattle.dcsctp_core.specs.spec.endpoint.Event.{aborted}
use Rattle.dcsctp_core.specs.types.declared.kinds.ErrorKind.TheVariants.{ProtocolViolation}
use Rattle.dcsctp_core.specs.spec.Packet.{Emission}
use Rattle.dcsctp_core.specs.spec.endpoint.Endpoint.{Endpoint}
use Rattle.dcsctp_core.specs.spec.endpoint.Outcome.{quiet, sends, emits, fits}
use Rattle.dcsctp_core.specs.api.Calls.{is_closed}
use Rattle.dcsctp_core.specs.spec.endpoint.HandshakeOutcomes.{abort_emission, no_cookie_text}
use Rattle.dcsctp_core.specs.View.{View, view_of, endpoint_of}
use Rattle.dcsctp_core.proofs.Composing.{cut_after}
use Rattle.dcsctp_core.proofs.EndLemmas.{ends_after_packet}
use Rattle.dcsctp_core_handshake.specs.Handshake.{init_ack_refusal_turn}
use Rattle.dcsctp_core_handshake.proofs.connect.refuse_init_ack.Goals as goal

-- A packet leaves the association as it is.
core_where : (b : Bool) (e : Endpoint) (emission : Emission) → (cond b (sends e [] [] emission) (quiet e [] [])).after.core ≡ e.core
core_where true e emission = refl
core_where false e emission = refl

-- The ABORT may have been sent, and nothing after it.
pub returns-in_err-internal_close : goal.returns-in_err-internal_close
returns-in_err-internal_close g c =
    let old = c.args.context.now in
    rw (err_from_is_err_and c.from_residual-in_err-internal_close.result c.from_residual-in_err-internal_close.ensures.1).1
    (cut_after (view_of old) (init_ack_refusal_turn c.args.tag (view_of old)) _
    (emits (endpoint_of old) [] (abort_emission c.args.tag)).events (aborted ProtocolViolation no_cookie_text ∷ []) refl
    (ap (λ (v : View g.row.R.Denot). v.events) c.in_err-internal_close.ensures ∙ c.in_ok-send_missing_cookie.ensures.events))

pub returns : goal.returns
returns g c =
    let old = c.args.context.now in
    ends_after_packet g.R.Rng.stream (view_of old) (view_of c.send_missing_cookie.new.context) (view_of c.internal_close.new.self) (abort_emission c.args.tag) (aborted ProtocolViolation no_cookie_text)
    (ap (λ (e : Endpoint). is_closed e.core) c.in_ok-send_missing_cookie.ensures.endpoint
    ∙ ap is_closed (core_where (fits (endpoint_of old) (abort_emission c.args.tag)) (endpoint_of old) (abort_emission c.args.tag)) ∙ c.requires)
    c.in_ok-send_missing_cookie.ensures
    (rw (sym c.in_ok-message.ensures.ok) c.in_ok-internal_close.ensures)
