-- Which resets of streams the user is told of, where a RE-CONFIG is handled.
use Rattle.dcsctp_spec_lemmas.specs.spec.association.Effect as effects
use Rattle.std.proofs.Common.{◌≡◌, ◌⊎◌, inl, inr, ℕ, Bool, true, false, cond, List, [], ◌∷◌, ◌++◌, map, refl, sym, ◌∙◌, ap}
use Rattle.dcsctp_spec_lemmas.specs.types.declared.association.Held.{Held}
use Rattle.dcsctp_spec_lemmas.specs.types.declared.association.Pair.{Pair}
use Rattle.dcsctp_spec_lemmas.specs.types.declared.kinds.ErrorKind.TheVariants.{ProtocolViolation}
use Rattle.dcsctp_spec_lemmas.specs.spec.Packet.{Content, re_config, Emission}
use Rattle.dcsctp_spec_lemmas.specs.spec.Reconfiguration.{ResetParameter}
use Rattle.dcsctp_spec_lemmas.specs.spec.endpoint.Endpoint.{Endpoint}
use Rattle.dcsctp_spec_lemmas.specs.spec.endpoint.Event.{Event, sent, error, incoming_stream_reset, streams_reset_performed}
use Rattle.dcsctp_spec_lemmas.specs.spec.endpoint.Outcome.{Outcome, quiet, sends, fits, to_peer}
use Rattle.dcsctp_spec_runs.specs.Past.{HasEffect}
use Rattle.dcsctp_spec_lemmas.specs.spec.association.Effect.{Effect}
use Rattle.dcsctp_spec_lemmas.specs.spec.endpoint.FlushOutcomes.{FillingEvent, amount_is_low, total_amount_is_low, message_is_sent, message_may_have_expired, message_has_expired, message_ends, filling_event, Answer, answer_contents, filled_draft, goes_out, asked_outcome, draft_to, next_draft, flush_of}
use Rattle.dcsctp_spec_lemmas.specs.spec.endpoint.ResetOutcomes.{reset_events, reset_refusal_text, responses_outcome, responses_unless_refused}
use Rattle.dcsctp_spec_lemmas.proofs.OneAnswerLemmas.{answered_by}
use Rattle.dcsctp_delivery_directions.specs.sending.Places.{HasEntry}

-- ---- lists of events

pub entry_either : {A : Type 0} (entry : A) (first later : List A) → HasEntry entry (first ++ later) → HasEntry entry first ⊎ HasEntry entry later
entry_either entry [] later has = inr has
entry_either entry (newest ∷ first) later (inl is) = inl (inl is)
entry_either entry (newest ∷ first) later (inr has) =
    elim (entry_either entry first later has) [
      | inl front ↦ inl (inr front)
      | inr behind ↦ inr behind
    ]

-- What effects tell is of our request.
pub own_told : (streams theirs own : List ℕ) (happened : List Effect) → HasEntry (streams_reset_performed streams) (reset_events theirs own happened) → streams ≡ own
own_told streams theirs own [] has = absurd has
own_told streams theirs own (effects.performs peer number ∷ happened) (inl is) = absurd (cc)
own_told streams theirs own (effects.performs peer number ∷ happened) (inr has) = own_told streams theirs own happened has
own_told streams theirs own (effects.completes pair number ∷ happened) (inl is) = cc
own_told streams theirs own (effects.completes pair number ∷ happened) (inr has) = own_told streams theirs own happened has
own_told streams theirs own (effects.fails number ∷ happened) (inl is) = absurd (cc)
own_told streams theirs own (effects.fails number ∷ happened) (inr has) = own_told streams theirs own happened has
own_told streams theirs own (effect ∷ happened) has = own_told streams theirs own happened has

-- Or it is of the peer's.
pub peer_told : (streams theirs own : List ℕ) (happened : List Effect) → HasEntry (incoming_stream_reset streams) (reset_events theirs own happened) → streams ≡ theirs
peer_told streams theirs own [] has = absurd has
peer_told streams theirs own (effects.performs peer number ∷ happened) (inl is) = cc
peer_told streams theirs own (effects.performs peer number ∷ happened) (inr has) = peer_told streams theirs own happened has
peer_told streams theirs own (effects.completes pair number ∷ happened) (inl is) = absurd (cc)
peer_told streams theirs own (effects.completes pair number ∷ happened) (inr has) = peer_told streams theirs own happened has
peer_told streams theirs own (effects.fails number ∷ happened) (inl is) = absurd (cc)
peer_told streams theirs own (effects.fails number ∷ happened) (inr has) = peer_told streams theirs own happened has
peer_told streams theirs own (effect ∷ happened) has = peer_told streams theirs own happened has

-- does it tell that a reset was performed?
abbrev pub tells_reset : Event Emission → Bool
tells_reset (streams_reset_performed streams) = true
tells_reset (incoming_stream_reset streams) = true
tells_reset event = false

-- What tells so:
module _ (event : Event Emission) (tells : tells_reset event ≡ true) where
  abbrev pub Told : List (Event Emission) → Type 0
  Told told = HasEntry event told

  another : {other : Event Emission} → event ≡ other → tells_reset other ≡ false → ⊥
  another is none = (let clash : true ≡ false = sym tells ∙ ap tells_reset is ∙ none in cc)

  -- A flush tells of none.
  filling_none : (told : List FillingEvent) → Told (map filling_event told) → ⊥
  filling_none [] has = has
  filling_none (amount_is_low stream ∷ told) (inl is) = absurd (another is refl)
  filling_none (amount_is_low stream ∷ told) (inr has) = filling_none told has
  filling_none (total_amount_is_low ∷ told) (inl is) = absurd (another is refl)
  filling_none (total_amount_is_low ∷ told) (inr has) = filling_none told has
  filling_none (message_is_sent id ∷ told) (inl is) = absurd (another is refl)
  filling_none (message_is_sent id ∷ told) (inr has) = filling_none told has
  filling_none (message_may_have_expired id ∷ told) (inl is) = absurd (another is refl)
  filling_none (message_may_have_expired id ∷ told) (inr has) = filling_none told has
  filling_none (message_has_expired id ∷ told) (inl is) = absurd (another is refl)
  filling_none (message_has_expired id ∷ told) (inr has) = filling_none told has
  filling_none (message_ends id ∷ told) (inl is) = absurd (another is refl)
  filling_none (message_ends id ∷ told) (inr has) = filling_none told has

  packet_none : (emission : Emission) → Told (sent emission ∷ []) → ⊥
  packet_none emission (inl is) = absurd (another is refl)
  packet_none emission (inr has) = has

  out_none : (e : Endpoint) (told : List FillingEvent) (with_checksum : Bool) (tag : ℕ) (contents : List Content) → Told (goes_out e (map filling_event told) with_checksum tag contents).events → ⊥
  out_none e told with_checksum tag [] has = filling_none told has
  out_none e told with_checksum tag (content ∷ contents) has =
      elim (entry_either event (map filling_event told) (sent (record { with_checksum = with_checksum; packet = record { tag = tag; contents = content ∷ contents } }) ∷ []) has) [
        | inl front ↦ filling_none told front
        | inr behind ↦ packet_none _ behind
      ]

  asked_none : (e : Endpoint) (draft : Emission) (answer : Answer) → Told (asked_outcome e draft answer).events → ⊥
  asked_none e draft answer has = out_none answer.after answer.told draft.with_checksum draft.packet.tag (filled_draft draft (answer_contents answer)).packet.contents has

  flush_none : (e : Endpoint) (draft : Emission) (answers : List Answer) → Told (flush_of e draft answers).events → ⊥
  flush_none e draft [] has = has
  flush_none e draft (answer ∷ answers) has =
      elim (entry_either event (asked_outcome e draft answer).events (flush_of (asked_outcome e draft answer).after (next_draft e.core draft) answers).events has) [
        | inl front ↦ asked_none e draft answer front
        | inr behind ↦ flush_none (asked_outcome e draft answer).after (next_draft e.core draft) answers behind
      ]

  packet_where_none : (b : Bool) (e : Endpoint) (emission : Emission) → Told (cond b (sends e [] [] emission) (quiet e [] [])).events → ⊥
  packet_where_none true e emission has = packet_none emission has
  packet_where_none false e emission has = has

  responses_none : (e : Endpoint) (held : Held) (responses : List ResetParameter) → Told (responses_outcome e held responses).events → ⊥
  responses_none e held [] has = has
  responses_none e held (response ∷ responses) has =
      (let emission : Emission = to_peer held (re_config (response ∷ responses)) in
      answered_by (λ (o : Outcome). Told o.events → ⊥) e emission (λ none. none) (packet_where_none (fits e emission) e emission)) has

  error_none : (text : List ℕ) → Told (error ProtocolViolation text ∷ []) → ⊥
  error_none text (inl is) = absurd (another is refl)
  error_none text (inr has) = has

  -- So a RE-CONFIG tells what its effects tell.
  pub sent_tell : (refused : Bool) (e : Endpoint) (told : List (Event Emission)) (held : Held) (parameters responses : List ResetParameter) (answers : List Answer)
      → Told (responses_unless_refused refused e told held parameters responses answers).events → Told told
  sent_tell true e told held parameters responses answers has =
      elim (entry_either event told (error ProtocolViolation (reset_refusal_text parameters) ∷ []) has) [
        | inl front ↦ front
        | inr behind ↦ absurd (error_none (reset_refusal_text parameters) behind)
      ]
  sent_tell false e told held parameters responses answers has =
      let base : Outcome = responses_outcome e held responses in
      elim (entry_either event (told ++ base.events) (flush_of base.after (draft_to held) answers).events has) [
        | inl front ↦
            elim (entry_either event told base.events front) [
              | inl shown ↦ shown
              | inr answered ↦ absurd (responses_none e held responses answered)
            ]
        | inr behind ↦ absurd (flush_none base.after (draft_to held) answers behind)
      ]

-- ---- the peer's

-- Effects tell of a request of the peer that they perform.
pub their_told : (theirs own : List ℕ) (peer : Pair) (number : ℕ) (happened : List Effect) → HasEffect (effects.performs peer number) happened → HasEntry (incoming_stream_reset theirs) (reset_events theirs own happened)
their_told theirs own peer number [] has = absurd has
their_told theirs own peer number (effects.performs its other ∷ happened) has = inl refl
their_told theirs own peer number (effects.completes pair other ∷ happened) (inl is) = absurd (cc)
their_told theirs own peer number (effects.completes pair other ∷ happened) (inr has) = inr (their_told theirs own peer number happened has)
their_told theirs own peer number (effects.fails other ∷ happened) (inl is) = absurd (cc)
their_told theirs own peer number (effects.fails other ∷ happened) (inr has) = inr (their_told theirs own peer number happened has)
their_told theirs own peer number (effect ∷ happened) (inl is) = absurd (cc)
their_told theirs own peer number (effect ∷ happened) (inr has) = their_told theirs own peer number happened has

pub entry_front : {A : Type 0} (entry : A) (first later : List A) → HasEntry entry first → HasEntry entry (first ++ later)
entry_front entry [] later has = absurd has
entry_front entry (newest ∷ first) later (inl is) = inl is
entry_front entry (newest ∷ first) later (inr has) = inr (entry_front entry first later has)

-- What is told first is told with what is sent behind it.
pub told_first : (event : Event Emission) (refused : Bool) (e : Endpoint) (told : List (Event Emission)) (held : Held) (parameters responses : List ResetParameter) (answers : List Answer) → HasEntry event told
    → HasEntry event (responses_unless_refused refused e told held parameters responses answers).events
told_first event true e told held parameters responses answers has = entry_front event told _ has
told_first event false e told held parameters responses answers has =
    let base : Outcome = responses_outcome e held responses in
    entry_front event (told ++ base.events) (flush_of base.after (draft_to held) answers).events (entry_front event told base.events has)
