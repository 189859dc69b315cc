-- An INIT's turn moves the association as an INIT does, whatever numbers the INIT bears.
use Rattle.std.proofs.Common.{◌≡◌, ℕ, false, ◌∷◌, [], refl, sym, subst}
use Rattle.dcsctp_spec_lemmas.specs.types.Settings.{IsValid}
use Rattle.dcsctp_spec_lemmas.specs.types.declared.association.Pair.{Pair}
use Rattle.dcsctp_spec_lemmas.specs.types.declared.word.Word.TheVariants.{U32}
use Rattle.dcsctp_spec_lemmas.specs.spec.Cookie.{cookie_bytes}
use Rattle.dcsctp_spec_lemmas.specs.spec.Packet.{Introduction, Content, init}
use Rattle.dcsctp_spec_lemmas.specs.spec.endpoint.Endpoint.{Endpoint, Core, closed, cookie_wait, cookie_echoed, open_in, established, shutdown_pending, shutdown_sent, shutdown_received, shutdown_ack_sent, with_secret, secret_with}
use Rattle.dcsctp_spec_lemmas.specs.spec.endpoint.Outcome.{Outcome, fits}
use Rattle.dcsctp_spec_lemmas.specs.spec.endpoint.HandshakeOutcomes.{InitTurn, pair_from, renewed_pair, cookie_for, init_ack_emission, init_outcome}
use Rattle.dcsctp_spec_lemmas.specs.spec.association.Choices.{Choices}
use Rattle.dcsctp_spec_lemmas.specs.spec.association.Acts.{chunk_change}
use Rattle.dcsctp_spec_lemmas.specs.spec.association.Controlled.{IsControlled}
use Rattle.dcsctp_spec_lemmas.proofs.ControlHandshake.{choices_of, still_controlled}
use Rattle.dcsctp_spec_lemmas.proofs.OneAnswerLemmas.{init_by, answering_controlled}
use Rattle.dcsctp_spec_laws.proofs.ControlLemmas.{drawing_controlled, secret_controlled, answered, ack_controlled}

-- a chunk's turn is what these choices make of it; nothing is asked of a cookie
abbrev pub MovedBy : Endpoint → ℕ → Content → Outcome → Core → Choices → Type 0
MovedBy e tag content o core choices = IsControlled e o (chunk_change e.options core tag content choices)

-- the choices of an INIT that is answered under our pair, and of one for which a pair is drawn
abbrev keeping : Endpoint → Introduction → Pair → Choices
keeping e theirs my = choices_of e my (cookie_bytes (cookie_for e.moment theirs my e.secret)) (fits e (init_ack_emission e theirs my e.secret))

abbrev renewing : Endpoint → Introduction → ℕ → Choices
renewing e theirs word =
    choices_of e (renewed_pair e word) (cookie_bytes (cookie_for e.moment theirs (renewed_pair e word) e.tie)) (fits e (init_ack_emission e theirs (renewed_pair e word) e.tie))

init_moves_at : (e : Endpoint) (tag : ℕ) (theirs : Introduction) (core : Core) (word next : ℕ) → e.core ≡ core → IsValid e.options
    → (choices : Choices) × MovedBy e tag (init theirs) (init_outcome e theirs core word next) core choices
init_moves_at e tag theirs closed word next is valid = (
  keeping (with_secret e (pair_from word next)) theirs (pair_from word next),
  drawing_controlled e _ closed (pair_from word next) _
      (secret_controlled e (pair_from word next) _ _
      (answered (with_secret e (pair_from word next)) tag theirs (pair_from word next) (secret_with e (pair_from word next)) (U32 word ∷ U32 next ∷ []) closed is)),
)
init_moves_at e tag theirs (cookie_wait my) word next is valid = (keeping e theirs my, answered e tag theirs my e.secret [] (cookie_wait my) is)
init_moves_at e tag theirs (cookie_echoed my held echoed) word next is valid = (keeping e theirs my, answered e tag theirs my e.secret [] (cookie_echoed my held echoed) is)
init_moves_at e tag theirs (open_in established my held) word next is valid = (
  renewing e theirs word,
  drawing_controlled e _ (open_in established my held) (renewed_pair e word) _
      (answered e tag theirs (renewed_pair e word) e.tie (U32 word ∷ []) (open_in established my held) is),
)
init_moves_at e tag theirs (open_in shutdown_pending my held) word next is valid = (
  renewing e theirs word,
  drawing_controlled e _ (open_in shutdown_pending my held) (renewed_pair e word) _
      (answered e tag theirs (renewed_pair e word) e.tie (U32 word ∷ []) (open_in shutdown_pending my held) is),
)
init_moves_at e tag theirs (open_in shutdown_sent my held) word next is valid = (
  renewing e theirs word,
  drawing_controlled e _ (open_in shutdown_sent my held) (renewed_pair e word) _
      (answered e tag theirs (renewed_pair e word) e.tie (U32 word ∷ []) (open_in shutdown_sent my held) is),
)
init_moves_at e tag theirs (open_in shutdown_received my held) word next is valid = (
  renewing e theirs word,
  drawing_controlled e _ (open_in shutdown_received my held) (renewed_pair e word) _
      (answered e tag theirs (renewed_pair e word) e.tie (U32 word ∷ []) (open_in shutdown_received my held) is),
)
init_moves_at e tag theirs (open_in shutdown_ack_sent my held) word next is valid =
    (renewing e theirs word, ack_controlled e held (open_in shutdown_ack_sent my held) is valid)

abbrev InitMoves : Endpoint → ℕ → Introduction → Outcome → Type 0
InitMoves e tag theirs o = (choices : Choices) × MovedBy e tag (init theirs) o e.core choices

pub init_moves : (e : Endpoint) (tag : ℕ) (theirs : Introduction) (o : Outcome) → InitTurn e theirs o → IsValid e.options
    → (choices : Choices) × MovedBy e tag (init theirs) o e.core choices
init_moves e tag theirs o turn valid =
    let here = init_moves_at e tag theirs e.core turn.0 turn.1 refl valid in
    subst (InitMoves e tag theirs) (sym turn.2)
    (init_by (InitMoves e tag theirs) e theirs turn.0 turn.1 (record here.0 { may_answer = false }, still_controlled e e.core refl)
    (here.0, answering_controlled e _ _ here.1))
