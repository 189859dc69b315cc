-- The laws of specs/Laws.
use Rattle.std.proofs.Common.{◌≡◌, ◌==◌, ◌∙◌, ℕ, Bool, true, false, cond, eqb, ◌&&◌, List, [], ◌∷◌, refl, sym, subst, ap, arith, inl, inr}
use Rattle.std.specs.Prelude.{if◌then◌else◌}
use Rattle.dcsctp_spec_lemmas.specs.types.declared.association.Pair.{Pair}
use Rattle.std.proofs.lemmas.Bool.Decides.{nat_tests}
use Rattle.dcsctp_spec_lemmas.specs.types.Offer.{negotiated_capabilities}
use Rattle.dcsctp_spec_lemmas.specs.types.declared.word.Word.{Word}
use Rattle.dcsctp_spec_lemmas.specs.spec.Packet.{Introduction, shutdown_ack, Emission}
use Rattle.dcsctp_spec_lemmas.specs.spec.endpoint.Endpoint.{Endpoint, Core, closed, cookie_wait, cookie_echoed, open_in, established, shutdown_pending, shutdown_sent, shutdown_received, shutdown_ack_sent, number_of_pair, with_secret, secret_with}
use Rattle.dcsctp_spec_lemmas.specs.spec.endpoint.Outcome.{Outcome, count_up, fits, quiet, sends, emits, to_peer}
use Rattle.dcsctp_spec_lemmas.specs.spec.endpoint.Following.{next_chunk}
use Rattle.dcsctp_spec_lemmas.specs.spec.endpoint.Event.{sent}
use Rattle.dcsctp_spec_lemmas.specs.types.declared.word.Word.TheVariants.{U32}
use Rattle.dcsctp_spec_lemmas.specs.spec.endpoint.HandshakeOutcomes.{init_outcome, init_ack_emission, pair_from, renewed_pair}
use Rattle.dcsctp_spec_lemmas.proofs.OneAnswerLemmas.{init_by}
use Rattle.dcsctp_spec_runs.specs.Laws.{NegotiationIsMutual, AnswerKeepsAgreement, SecretStays, CountsSentOnly, AtMostOnePacket, no_packet, one_packet, InitBringsOnePacket}

and_comm : (a b : Bool) → a && b ≡ b && a
and_comm true true = refl
and_comm true false = refl
and_comm false true = refl
and_comm false false = refl

methods_agree : (m n : ℕ) → cond (eqb m n) m 0 ≡ cond (eqb n m) n 0
methods_agree m n = grind (arith, nat_tests)

pub negotiation_is_mutual : NegotiationIsMutual
negotiation_is_mutual a b =
    record {
      partial_reliability = and_comm a.partial_reliability b.partial_reliability;
      message_interleaving = and_comm a.message_interleaving b.message_interleaving;
      reconfig = and_comm a.reconfig b.reconfig;
      zero_checksum_method = ap (λ n. record { 0 = n }) (methods_agree a.zero_checksum_method b.zero_checksum_method);
      incoming = omega arith;
      outgoing = omega arith;
    }

-- the method that is agreed on is agreed on again
method_again : (m n : ℕ) → cond (eqb m (cond (eqb n m) n 0)) m 0 ≡ cond (eqb m n) m 0
method_again m n = grind (arith, nat_tests)

pub answer_keeps_agreement : AnswerKeepsAgreement
answer_keeps_agreement mine theirs =
    ap (λ n. record (negotiated_capabilities mine theirs) { zero_checksum_method = record { 0 = n } }) (method_again mine.zero_checksum_method theirs.zero_checksum_method)

-- what an INIT may do
abbrev IsSmall : Endpoint → Outcome → Type 0
IsSmall e o = CountsSentOnly e o.after × AtMostOnePacket o.events

small_where : (b : Bool) (e : Endpoint) (words : List Word) (emission : Emission) → IsSmall e (cond b (record {
  words = words;
  effects = [];
  after = record e { counts = record e.counts { packets_sent = count_up e.counts.packets_sent } };
  events = sent emission ∷ [];
  following = next_chunk;
}) (record { words = words; effects = []; after = e; events = []; following = next_chunk }))
small_where true e words emission = ((inl refl, inl refl, refl), one_packet emission)
small_where false e words emission = ((inl refl, inl refl, refl), no_packet)

emits_small : (e : Endpoint) (words : List Word) (emission : Emission) → IsSmall e (emits e words emission)
emits_small e words emission = small_where (fits e emission) e words emission

secret_where : (follows none : Bool) (e : Endpoint) (number : ℕ) → e.options.follow_rfc ≡ follows → (e.secret == 0) ≡ none → e.core ≡ closed
    → SecretStays e (record e { secret = if follows && none then number else e.secret })
secret_where true true e number by_rfc is core = inr (by_rfc, grind (arith, nat_tests), core)
secret_where true false e number by_rfc is core = inl refl
secret_where false none e number by_rfc is core = inl refl

first_secret : (e : Endpoint) (mine : Pair) → e.core ≡ closed → SecretStays e (with_secret e mine)
first_secret e mine core = secret_where e.options.follow_rfc (e.secret == 0) e (number_of_pair mine) refl refl core

secret_then : (e between after : Endpoint) → SecretStays e between → SecretStays between after → after.secret ≡ between.secret → SecretStays e after
secret_then e between after (inl same) second is = inl (is ∙ same)
secret_then e between after (inr first) second is = inr first

-- What an INIT may do to an endpoint with the secret it may do to one without.
small_with : (e : Endpoint) (mine : Pair) (o : Outcome) → e.core ≡ closed → o.after.secret ≡ secret_with e mine → IsSmall (with_secret e mine) o → IsSmall e o
small_with e mine o core is small =
    ((small.0.0, secret_then e (with_secret e mine) o.after (first_secret e mine core) small.0.1 is, small.0.2), small.1)

emits_secret : (b : Bool) (e : Endpoint) (words : List Word) (emission : Emission) → (cond b (sends e words [] emission) (quiet e words [])).after.secret ≡ e.secret
emits_secret true e words emission = refl
emits_secret false e words emission = refl

init_small : (e : Endpoint) (theirs : Introduction) (core : Core) (word next : ℕ) → e.core ≡ core → IsSmall e (init_outcome e theirs core word next)
init_small e theirs closed word next is =
    let mine = pair_from word next in
    let anew = with_secret e mine in
    let words = U32 word ∷ U32 next ∷ [] in
    let emission = init_ack_emission anew theirs mine anew.secret in
    small_with e mine (emits anew words emission) is (emits_secret (fits anew emission) anew words emission) (emits_small anew words emission)
init_small e theirs (cookie_wait mine) word next is = emits_small e [] (init_ack_emission e theirs mine e.secret)
init_small e theirs (cookie_echoed mine held cookie) word next is = emits_small e [] (init_ack_emission e theirs mine e.secret)
init_small e theirs (open_in established mine held) word next is = emits_small e (U32 word ∷ []) (init_ack_emission e theirs (renewed_pair e word) e.tie)
init_small e theirs (open_in shutdown_pending mine held) word next is = emits_small e (U32 word ∷ []) (init_ack_emission e theirs (renewed_pair e word) e.tie)
init_small e theirs (open_in shutdown_sent mine held) word next is = emits_small e (U32 word ∷ []) (init_ack_emission e theirs (renewed_pair e word) e.tie)
init_small e theirs (open_in shutdown_received mine held) word next is = emits_small e (U32 word ∷ []) (init_ack_emission e theirs (renewed_pair e word) e.tie)
init_small e theirs (open_in shutdown_ack_sent mine held) word next is = emits_small e [] (to_peer held shutdown_ack)

pub init_brings_one_packet : InitBringsOnePacket
init_brings_one_packet e theirs o turn =
    let small : IsSmall e (init_outcome e theirs e.core turn.0 turn.1) = init_small e theirs e.core turn.0 turn.1 refl in
    subst (IsSmall e) (sym turn.2)
    (init_by (IsSmall e) e theirs turn.0 turn.1 ((inl refl, inl refl, refl), no_packet)
    ((inr refl, small.0.1, ap (λ (x : Endpoint). record x { has_answered = true }) small.0.2), small.1))
