-- Where nothing waits, what the outcomes of the handshake say may come: each is a turn, by answers
-- that a flush may get.
use Rattle.std.proofs.Common.{◌≡◌, ℕ, Bool, true, false, Some, List, [], ◌∷◌, Result, Ok, refl, sym, subst, ap, ◌∙◌}
use Rattle.dcsctp_spec_lemmas.specs.types.declared.association.Pair.{Pair}
use Rattle.dcsctp_spec_lemmas.specs.types.declared.association.Held.{Held}
use Rattle.dcsctp_spec_lemmas.specs.types.declared.word.Word.TheVariants.{U64}
use Rattle.dcsctp_spec_lemmas.specs.spec.Cookie.{Cookie, cookie_of_bytes}
use Rattle.dcsctp_spec_lemmas.specs.spec.endpoint.Event.{connected}
use Rattle.dcsctp_spec_lemmas.specs.spec.Packet.{Introduction}
use Rattle.dcsctp_spec_lemmas.specs.spec.endpoint.Endpoint.{Endpoint, Core, closed, cookie_wait, cookie_echoed}
use Rattle.dcsctp_spec_lemmas.specs.spec.endpoint.Outcome.{Outcome, with_effects_first, fits}
use Rattle.dcsctp_spec_lemmas.specs.spec.association.Effect.{connects, holds, identity_of}
use Rattle.dcsctp_spec_lemmas.specs.spec.association.HandshakeChanges.{held_by_init_ack}
use Rattle.dcsctp_spec_lemmas.specs.spec.association.CookieEchoChanges.{Resolution, establish_new, held_by_cookie}
use Rattle.dcsctp_spec_lemmas.specs.spec.endpoint.FlushOutcomes.{Answer, draft_to, FlushAnswers, flush_answered, IsIdle}
use Rattle.dcsctp_spec_lemmas.specs.spec.endpoint.HandshakeOutcomes.{awaits_cookie_ack, echo_emission, EchoAnswers, init_ack_with_flush, InitAckAnswers, init_ack_outcome, InitAckTurn, connected_after, cookie_ack_with_flush, CookieAckAnswers, cookie_ack_outcome, CookieAckTurn}
use Rattle.dcsctp_spec_lemmas.specs.spec.endpoint.CookieEchoOutcomes.{resolved_now, endpoint_established, cookie_ack_emission, queues_kept, resolve_with_flush, cookie_echo_with_flush, ResolvedAnswers, EchoedAnswers, CookieEchoTurn, establish_outcome}
use Rattle.dcsctp_spec_runs.proofs.FlushLemmas.{flush_is_now, echo_now, establish_now}
use Rattle.dcsctp_theorem_sockets.proofs.Idle.{idle_answers}

echo_answers : (b : Bool) (e : Endpoint) (tag : ℕ) (cookie : List ℕ) → IsIdle e → (answers : List Answer) × EchoAnswers b e tag cookie answers
echo_answers true e tag cookie idle = idle_answers e (echo_emission tag cookie) idle
echo_answers false e tag cookie idle = ([], refl)

pub init_ack_turn_of : (e : Endpoint) (theirs : Introduction) (cookie : List ℕ) (mine : Pair) (word : ℕ) (o : Outcome) → e.core ≡ cookie_wait mine
    → IsIdle (awaits_cookie_ack e mine theirs cookie word) → o ≡ init_ack_outcome e theirs (Some cookie) (cookie_wait mine) word → InitAckTurn e theirs (Some cookie) o
init_ack_turn_of e theirs cookie mine word o is idle comes =
    let after : Endpoint = awaits_cookie_ack e mine theirs cookie word in
    let b : Bool = fits after (echo_emission theirs.pair.tag cookie) in
    let h : (answers : List Answer) × EchoAnswers b after theirs.pair.tag cookie answers = echo_answers b after theirs.pair.tag cookie idle in (
      word,
      h.0,
      subst (λ (core : Core). InitAckAnswers e theirs (Some cookie) core word h.0) (sym is) h.1,
      comes
          ∙ ap (with_effects_first (holds (identity_of mine (held_by_init_ack e.options mine theirs)) ∷ [])) (sym (echo_now b after (U64 word ∷ []) theirs.pair.tag cookie h.0 idle h.1))
          ∙ ap (λ (core : Core). init_ack_with_flush (flush_answered h.0) e theirs (Some cookie) core word) (sym is),
    )

pub cookie_ack_turn_of : (e : Endpoint) (mine : Pair) (held : Held) (cookie : List ℕ) (o : Outcome) → e.core ≡ cookie_echoed mine held cookie → IsIdle (connected_after e mine held)
    → o ≡ cookie_ack_outcome e (cookie_echoed mine held cookie) → CookieAckTurn e o
cookie_ack_turn_of e mine held cookie o is idle comes =
    let after : Endpoint = connected_after e mine held in
    let h : (answers : List Answer) × FlushAnswers after (draft_to held) answers = idle_answers after (draft_to held) idle in (
      h.0,
      subst (λ (core : Core). CookieAckAnswers e core h.0) (sym is) h.1,
      comes
          ∙ ap (with_effects_first (connects (identity_of mine held) ∷ [])) (sym (flush_is_now after [] (connected ∷ []) (draft_to held).with_checksum held.peer.tag [] h.0 idle h.1))
          ∙ ap (λ (core : Core). cookie_ack_with_flush (flush_answered h.0) e core) (sym is),
    )

-- of a COOKIE ECHO that makes a new association
pub cookie_echo_turn_of : (e : Endpoint) (header : ℕ) (bytes : List ℕ) (cookie : Cookie) (word : ℕ) (o : Outcome) → e.core ≡ closed → cookie_of_bytes bytes ≡ Ok cookie
    → resolved_now e closed header cookie ≡ establish_new → IsIdle (endpoint_established e cookie (queues_kept e cookie) word)
    → o ≡ establish_outcome e cookie (queues_kept e cookie) word (connected ∷ []) → CookieEchoTurn e header bytes o
cookie_echo_turn_of e header bytes cookie word o is reads resolves idle comes =
    let after : Endpoint = endpoint_established e cookie (queues_kept e cookie) word in
    let draft = cookie_ack_emission (held_by_cookie e.options cookie) cookie in
    let h : (answers : List Answer) × FlushAnswers after draft answers = idle_answers after draft idle in
    let resolved : ResolvedAnswers e cookie closed word (resolved_now e closed header cookie) h.0 =
    subst (λ (case : Resolution). ResolvedAnswers e cookie closed word case h.0) (sym resolves) h.1 in (
      word,
      h.0,
      subst (λ (core : Core). EchoedAnswers e core header (cookie_of_bytes bytes) word h.0) (sym is)
          (subst (λ (found : Result Cookie (List ℕ)). EchoedAnswers e closed header found word h.0) (sym reads) resolved),
      comes
          ∙ sym (establish_now e cookie (queues_kept e cookie) word (connected ∷ []) h.0 idle h.1)
          ∙ ap (λ (case : Resolution). resolve_with_flush (flush_answered h.0) e cookie closed word case) (sym resolves)
          ∙ ap (λ (found : Result Cookie (List ℕ)). cookie_echo_with_flush (flush_answered h.0) e closed header found word) (sym reads)
          ∙ ap (λ (core : Core). cookie_echo_with_flush (flush_answered h.0) e core header (cookie_of_bytes bytes) word) (sym is),
    )
