-- An association that a turn records exists after it.
use Rattle.std.proofs.Common.{◌≡◌, sym, ℕ, Bool, true, false, cond, Some, List, [], ◌∷◌, inl, inr, refl, subst}
use Rattle.dcsctp_spec_lemmas.specs.types.declared.association.Pair.{Pair}
use Rattle.dcsctp_spec_lemmas.specs.types.declared.word.Word.{Word}
use Rattle.dcsctp_spec_lemmas.specs.types.declared.word.Word.TheVariants.{U32}
use Rattle.dcsctp_spec_lemmas.specs.spec.Packet.{Introduction, Content, init, init_ack, cookie_echo, cookie_ack, re_config, abort, shutdown, shutdown_ack, shutdown_complete, plain, Emission}
use Rattle.dcsctp_spec_lemmas.specs.spec.endpoint.Endpoint.{Endpoint, Core, closed, cookie_wait, cookie_echoed, open_in, established, shutdown_pending, shutdown_sent, shutdown_received, shutdown_ack_sent, with_secret, secret_with}
use Rattle.dcsctp_spec_lemmas.specs.spec.endpoint.Outcome.{Outcome, quiet, sends, fits, emits, to_peer}
use Rattle.dcsctp_spec_runs.specs.Past.{HasEffect}
use Rattle.dcsctp_spec_lemmas.specs.spec.association.Controlled.{IsControlled, IsControlledChunk, IsControlledAct}
use Rattle.dcsctp_spec_lemmas.specs.spec.endpoint.Turn.{Input, arrival, refusal, packet_begins, chunk_input, packet_ends, act_input, user_sets, user_sends, user_resets, user_takes, timer_expires, time_passes, restores, has_data_chunk, ContentTurn, Turn}
use Rattle.dcsctp_spec_runs.specs.World.{ControlTurn, acted, worked}
use Rattle.dcsctp_spec_lemmas.specs.spec.association.Acts.{Act, shutdown_repeats, flushes}
use Rattle.dcsctp_spec_lemmas.specs.spec.association.Effect.{Effect, draws, holds, ends, Change, identity_of_core}
use Rattle.dcsctp_spec_lemmas.specs.spec.endpoint.HandshakeOutcomes.{pair_from, renewed_pair, renewed_pair_outcome, init_ack_emission, init_outcome}
use Rattle.dcsctp_spec_lemmas.specs.spec.endpoint.OwnTimers.{timer_act}
use Rattle.dcsctp_spec_lemmas.proofs.ControlEcho.{cookie_echo_controlled}
use Rattle.dcsctp_spec_lemmas.proofs.ControlHandshake.{init_ack_controlled, cookie_ack_controlled, abort_controlled}
use Rattle.dcsctp_spec_lemmas.proofs.OneAnswerLemmas.{init_by}
use Rattle.dcsctp_spec_laws.proofs.ControlLemmas.{begin_stands, acts_are_controlled}
use Rattle.dcsctp_spec_laws.proofs.DataLemmas.{flushed_act, end_at, send_at, resets_at, take_at}
use Rattle.dcsctp_spec_laws.proofs.HeartbeatLemmas.{timer_controlled}
use Rattle.dcsctp_spec_laws.proofs.PlainLemmas.{plain_controlled}
use Rattle.dcsctp_spec_laws.proofs.ResetLemmas.{reset_controlled}
use Rattle.dcsctp_spec_laws.proofs.HeardShutdownLemmas.{shutdown_controlled}
use Rattle.dcsctp_spec_laws.proofs.ShutdownLemmas.{shutdown_ack_controlled, shutdown_complete_controlled}
use Rattle.dcsctp_theorem_association.proofs.MeaningTurns.{effects_mean}
use Rattle.dcsctp_theorem_association.specs.OneSide.{Means}
use Rattle.dcsctp_theorem_sockets.proofs.OneSocket.{noted_happened}
use Rattle.dcsctp_delivery_sockets.specs.turns.Actions.{IsCall}
use Rattle.dcsctp_delivery_sockets.specs.turns.Holding.{HoldsMean, EndsMean}

-- an effect that says what the association is after a turn, and isn't a draw
module _ (noted : Effect) (Is : Core → Type 0) (undrawn : (pair : Pair) → noted ≡ draws pair → ⊥)
    (meant : (core : Core) (change : Change) → Means core change → HasEffect noted change.effects → Is change.core) where
  abbrev Holds : List Effect → Type 0
  Holds happened = HasEffect noted happened

  -- This outcome leaves the association so if it has the effect.
  abbrev Stays : Outcome → Type 0
  Stays o = Holds o.effects → Is o.after.core

  -- ---- turns of the association

  by_turn : (e : Endpoint) (change : Change) (o : Outcome) → ControlTurn e.options e.core change → IsControlled e o change → Stays o
  by_turn e change o turn is has =
      let means : Means e.core change = effects_mean e.options e.core change turn in
      subst Is (sym is.core) (meant e.core change means (noted_happened noted change.effects (subst Holds is.effects has)))

  by_chunk : (e : Endpoint) (tag : ℕ) (content : Content) (o : Outcome) → IsControlledChunk e tag content o → Stays o
  by_chunk e tag content o turn has = by_turn e turn.0 o (worked tag content turn.1.0 turn.1.2) turn.2 has

  by_act : (e : Endpoint) (act : Act) (o : Outcome) → IsControlledAct e act o → Stays o
  by_act e act o turn has = by_turn e _ o (acted act turn.0 refl) turn.1 has

  -- ---- turns that record no association

  same_none : (o other : Outcome) → o ≡ other → (Holds other.effects → ⊥) → Stays o
  same_none o other is none has = absurd (none (subst (λ (x : Outcome). Holds x.effects) is has))

  drawn_before : (pair : Pair) (happened : List Effect) → (Holds happened → ⊥) → Holds (draws pair ∷ happened) → ⊥
  drawn_before pair happened none (inl is) = undrawn pair is
  drawn_before pair happened none (inr has) = none has

  packet_none : (b : Bool) (e : Endpoint) (words : List Word) (emission : Emission) → Holds (cond b (sends e words [] emission) (quiet e words [])).effects → ⊥
  packet_none true e words emission has = has
  packet_none false e words emission has = has

  emits_none : (e : Endpoint) (words : List Word) (emission : Emission) → Holds (emits e words emission).effects → ⊥
  emits_none e words emission has = packet_none (fits e emission) e words emission has

  renewed_none : (e : Endpoint) (theirs : Introduction) (word : ℕ) → Holds (renewed_pair_outcome e theirs word).effects → ⊥
  renewed_none e theirs word has = drawn_before _ _ (emits_none e (U32 word ∷ []) (init_ack_emission e theirs (renewed_pair e word) e.tie)) has

  init_none : (e : Endpoint) (theirs : Introduction) (core : Core) (word later : ℕ) → Holds (init_outcome e theirs core word later).effects → ⊥
  init_none e theirs closed word later has =
      drawn_before _ _ (emits_none (with_secret e (pair_from word later)) (U32 word ∷ U32 later ∷ []) (init_ack_emission (with_secret e (pair_from word later)) theirs (pair_from word later) (secret_with e (pair_from word later)))) has
  init_none e theirs (cookie_wait own) word later has = emits_none e [] (init_ack_emission e theirs own e.secret) has
  init_none e theirs (cookie_echoed own held cookie) word later has = emits_none e [] (init_ack_emission e theirs own e.secret) has
  init_none e theirs (open_in established own held) word later has = renewed_none e theirs word has
  init_none e theirs (open_in shutdown_pending own held) word later has = renewed_none e theirs word has
  init_none e theirs (open_in shutdown_sent own held) word later has = renewed_none e theirs word has
  init_none e theirs (open_in shutdown_received own held) word later has = renewed_none e theirs word has
  init_none e theirs (open_in shutdown_ack_sent own held) word later has = emits_none e [] (to_peer held shutdown_ack) has

  -- ---- every turn

  content_stays : (e : Endpoint) (tag : ℕ) (content : Content) (o : Outcome) → ContentTurn e tag content o → Stays o
  content_stays e tag (init theirs) o turn has = same_none o _ turn.2 (init_by (λ (x : Outcome). Holds x.effects → ⊥) e theirs turn.0 turn.1 (λ none. none) (init_none e theirs e.core turn.0 turn.1)) has
  content_stays e tag (init_ack theirs cookie) o turn has = by_chunk e tag (init_ack theirs cookie) o (init_ack_controlled e tag theirs cookie o turn) has
  content_stays e tag (cookie_echo cookie) o turn has = by_chunk e tag (cookie_echo cookie) o (cookie_echo_controlled e tag cookie o turn) has
  content_stays e tag cookie_ack o turn has = by_chunk e tag cookie_ack o (cookie_ack_controlled e tag o turn) has
  content_stays e tag (re_config parameters) o turn has = by_chunk e tag (re_config parameters) o (reset_controlled e tag parameters o turn) has
  content_stays e tag (abort reflected causes) o turn has = by_chunk e tag (abort reflected causes) o (abort_controlled e tag reflected causes o turn) has
  content_stays e tag (shutdown tsn) o turn has = by_chunk e tag (shutdown tsn) o (shutdown_controlled e tag tsn o turn) has
  content_stays e tag shutdown_ack o turn has = by_chunk e tag shutdown_ack o (shutdown_ack_controlled e tag o turn) has
  content_stays e tag (shutdown_complete reflected) o turn has =
      by_chunk e tag (shutdown_complete reflected) o (shutdown_complete_controlled e tag reflected o turn) has
  content_stays e tag (plain chunk) o turn has = by_chunk e tag (plain chunk) o (plain_controlled e tag chunk o turn) has

  turn_stays : (e : Endpoint) (input : Input) (o : Outcome) → IsCall input → Turn e input o → Stays o
  turn_stays e arrival o may turn has = same_none o _ turn (λ h. h) has
  turn_stays e (refusal text) o may turn has = same_none o _ turn (λ h. h) has
  turn_stays e (packet_begins contents) o may turn has =
      elim (begin_stands e e.core (has_data_chunk e.options.follow_rfc contents) o refl turn) [
        | inl stays ↦ same_none o _ stays (λ h. h) has
        | inr acts ↦ by_act e shutdown_repeats o acts has
      ]
  turn_stays e (chunk_input tag content) o may turn has = content_stays e tag content o turn has
  turn_stays e packet_ends o may turn has = by_act e flushes o (flushed_act e o (end_at e e.queues.transfer o turn)) has
  turn_stays e (act_input act) o may turn has = by_act e act o (acts_are_controlled e act o turn) has
  turn_stays e (user_sets setting) o may turn has = same_none o _ turn (λ h. h) has
  turn_stays e (user_sends messages) o may turn has = by_act e flushes o (flushed_act e o (send_at e messages o turn)) has
  turn_stays e (user_resets ids) o may turn has = by_act e flushes o (flushed_act e o (resets_at e ids o turn)) has
  turn_stays e user_takes o may turn has = by_act e flushes o (flushed_act e o (take_at e e.queues.transfer o turn)) has
  turn_stays e (timer_expires timer) o may turn has = by_act e (timer_act e timer) o (timer_controlled e timer o turn) has
  turn_stays e (time_passes moment) o may turn has = same_none o _ turn (λ h. h) has
  turn_stays e (restores state) o may turn has = absurd may

pub holds_mean : HoldsMean
holds_mean e input o link may turn has =
    turn_stays (holds link) (λ core. identity_of_core core ≡ Some link) (λ pair is. absurd (cc)) (λ core change means there. means.held link there) e input o may turn has

pub ends_mean : EndsMean
ends_mean e input o may turn has = turn_stays ends (λ core. core ≡ closed) (λ pair is. absurd (cc)) (λ core change means there. means.ended there) e input o may turn has
