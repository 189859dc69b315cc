-- The user is told of no reset of the peer but the one that is handled.
use Rattle.dcsctp_spec_lemmas.specs.spec.association.Effect as effects
use Rattle.std.proofs.Common.{◌≡◌, inl, inr, ℕ, true, Some, List, [], ◌∷◌, refl, sym, ap, subst}
use Rattle.dcsctp_spec_lemmas.specs.types.declared.association.Held.{Held}
use Rattle.dcsctp_spec_lemmas.specs.types.declared.association.Pair.{Pair}
use Rattle.dcsctp_spec_lemmas.specs.spec.Packet.{re_config}
use Rattle.dcsctp_spec_lemmas.specs.spec.Reconfiguration.{RequestedReset, ResetParameter, outgoing_reset_request, number_answered}
use Rattle.dcsctp_spec_lemmas.specs.spec.association.Effect.{Effect}
use Rattle.dcsctp_spec_lemmas.specs.spec.association.ResetChanges.{HandledParameters}
use Rattle.dcsctp_spec_lemmas.specs.spec.endpoint.Endpoint.{Endpoint, Core, closed, cookie_wait, cookie_echoed, open_in}
use Rattle.dcsctp_spec_lemmas.specs.spec.endpoint.Event.{incoming_stream_reset}
use Rattle.dcsctp_spec_lemmas.specs.spec.endpoint.Outcome.{Outcome}
use Rattle.dcsctp_spec_lemmas.specs.spec.endpoint.ResetOutcomes.{has_reset, renewable_left, handled_parameters_of, answer_to_own, own_streams, reset_events_of, resets_handled, HandlesResets, ResetTurn}
use Rattle.dcsctp_spec_lemmas.specs.spec.endpoint.Turn.{Input, chunk_input, Turn}
use Rattle.dcsctp_spec_lemmas.proofs.EarlyLemmas.{content_by}
use Rattle.dcsctp_delivery_directions.specs.sending.Places.{HasEntry}
use Rattle.dcsctp_delivery_sockets.specs.turns.Actions.{content_of_input, IsCall}
use Rattle.dcsctp_delivery_sockets.specs.turns.PeerRequests.{NoneAsked, IsPlainRequest}
use Rattle.dcsctp_delivery_sockets.specs.turns.ToldResets.{AreRequested, TurnsReportRequests}
use Rattle.dcsctp_delivery_sockets.proofs.turns.PeerRequests.{answers_ask}
use Rattle.dcsctp_delivery_sockets.proofs.turns.PeersTurns.{Handles, calmly, handles, input_handles}
use Rattle.dcsctp_delivery_sockets.proofs.turns.Telling.{peer_told, sent_tell}
use Rattle.dcsctp_delivery_sockets.proofs.turns.UnaskedHandshake.{CalmTurns, goes_on, begins, collides}
use Rattle.dcsctp_delivery_sockets.proofs.turns.UnaskedTurns.{calm_turns}
use Rattle.dcsctp_delivery_sockets.proofs.turns.Waiting.{as_this, rests}

reset_not : (happened : List Effect) → NoneAsked happened → has_reset happened ≡ true → ⊥
reset_not [] none is = cc
reset_not (effects.performs its other ∷ happened) none is = none
reset_not (effects.renews its other ∷ happened) none is = none
reset_not (effects.accepts other ∷ happened) none is = none
reset_not (effects.resumes link own last ∷ happened) none is = none
reset_not (effect ∷ happened) none is = reset_not happened none is

module _ (streams : List ℕ) where
  -- The user is told so, where a request is performed.
  abbrev Told : Outcome → Type 0
  Told o = (has_reset o.effects ≡ true) × HasEntry (incoming_stream_reset streams) o.events

  calm_told : (e : Endpoint) (input : Input) (o : Outcome) → CalmTurns (content_of_input input) e o → Told o → AreRequested input streams
  calm_told e input o (goes_on asks) told = absurd (reset_not o.effects asks.none told.0)
  calm_told e input o (begins begun opening linked asks) told = absurd (reset_not o.effects asks.none told.0)
  calm_told e input o (collides collision asks) told = absurd (reset_not o.effects asks.none told.0)

  request_told : (e : Endpoint) (my : Pair) (held : Held) (number : ℕ) (reset : RequestedReset) (o : Outcome) → HandlesResets e my held (outgoing_reset_request number (number_answered number reset.is_new) reset ∷ []) o → Told o
      → reset.streams ≡ streams
  request_told e my held number reset o turn told =
      let parameters : List ResetParameter = outgoing_reset_request number (number_answered number reset.is_new) reset ∷ [] in
      let w : HandledParameters = handled_parameters_of e my held parameters in
      let base : Endpoint = resets_handled e (answer_to_own held w parameters) w.held turn.left (renewable_left e held w parameters) in
      sym
      (peer_told streams reset.streams (own_streams e.outstanding) w.effects
      (sent_tell (incoming_stream_reset streams) refl w.is_refused base (reset_events_of e parameters w.effects) w.held parameters w.answers turn.answers
      (subst (λ (x : Outcome). HasEntry (incoming_stream_reset streams) x.events) turn.is told.1)))

  works_told : (e : Endpoint) (my : Pair) (held : Held) (tag : ℕ) (parameters : List ResetParameter) (o : Outcome) → IsPlainRequest (Some (re_config parameters)) → HandlesResets e my held parameters o → Told o
      → AreRequested (chunk_input tag (re_config parameters)) streams
  works_told e my held tag parameters o (inl none) turn told = absurd (reset_not o.effects (answers_ask e my held parameters o none turn).none told.0)
  works_told e my held tag parameters o (inr asked) turn told =
      record {
        parameters = outgoing_reset_request asked.0 (number_answered asked.0 asked.1.is_new) asked.1 ∷ [];
        reset = asked.1;
        came = ap (λ (p : List ResetParameter). Some (re_config p)) asked.2;
        asked = refl;
        streams_are = request_told e my held asked.0 asked.1 o (subst (λ (p : List ResetParameter). HandlesResets e my held p o) asked.2 turn) told;
      }

  reset_told : (e : Endpoint) (core : Core) (tag : ℕ) (parameters : List ResetParameter) (o : Outcome) → IsPlainRequest (Some (re_config parameters)) → ResetTurn e core parameters o → Told o
      → AreRequested (chunk_input tag (re_config parameters)) streams
  reset_told e closed tag parameters o plainly turn told = absurd (reset_not o.effects (as_this e.queues.transfer e.renewable o _ turn (rests e)).none told.0)
  reset_told e (cookie_wait my) tag parameters o plainly turn told = absurd (reset_not o.effects (as_this e.queues.transfer e.renewable o _ turn (rests e)).none told.0)
  reset_told e (cookie_echoed my held cookie) tag parameters o plainly turn told = works_told e my held tag parameters o plainly turn told
  reset_told e (open_in phase my held) tag parameters o plainly turn told = works_told e my held tag parameters o plainly turn told

  told_by : (input : Input) → Handles input → (e : Endpoint) (o : Outcome) → IsPlainRequest (content_of_input input) → IsCall input → Turn e input o → Told o → AreRequested input streams
  told_by input (calmly calm) e o plainly may turn told = calm_told e input o (calm_turns e input o calm may turn) told
  told_by input (handles tag parameters is) e o plainly may turn told =
      subst (λ (i : Input). AreRequested i streams) (sym is)
      (content_by e tag (re_config parameters) o (λ dropped. absurd (reset_not o.effects (as_this e.queues.transfer e.renewable o _ dropped (rests e)).none told.0))
      (λ handled. reset_told e e.core tag parameters o (subst (λ (i : Input). IsPlainRequest (content_of_input i)) is plainly) handled told) (subst (λ (i : Input). Turn e i o) is turn))

pub turns_report_requests : TurnsReportRequests
turns_report_requests e input o plainly may turn reset streams has = told_by streams input (input_handles input) e o plainly may turn (reset, has)
