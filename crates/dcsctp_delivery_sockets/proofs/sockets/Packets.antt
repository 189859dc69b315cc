-- What a receiver handles of a packet was sent in the association that handles it.
use Rattle.std.proofs.Common.{◌≡◌, ◌≢◌, ℕ, Bool, true, false, cond, Option, None, Some, List, [], ◌∷◌, refl, sym, ◌∙◌, ap, subst, inl, inr}
use Rattle.std.specs.Prelude.{◌⊎◌}
use Rattle.dcsctp_spec_lemmas.specs.wire.Content.{ChunkContent, data_chunk, init_chunk, init_ack_chunk, sack_chunk, heartbeat_chunk, heartbeat_ack_chunk, abort_chunk, shutdown_chunk, shutdown_ack_chunk, error_chunk, cookie_echo_chunk, cookie_ack_chunk, shutdown_complete_chunk, i_data_chunk, re_config_chunk, forward_tsn_chunk, i_forward_tsn_chunk, unknown_chunk}
use Rattle.dcsctp_spec_lemmas.specs.types.declared.word.Word.{Word}
use Rattle.dcsctp_spec_lemmas.specs.types.declared.word.Word.TheVariants.{U64}
use Rattle.dcsctp_spec_lemmas.specs.spec.endpoint.Endpoint.{Endpoint, Core, closed, cookie_wait, cookie_echoed, open_in, own_tag}
use Rattle.dcsctp_spec_lemmas.specs.spec.endpoint.Outcome.{Outcome, quiet, fits}
use Rattle.dcsctp_spec_lemmas.specs.spec.Packet.{Introduction, Content, init, init_ack, cookie_echo, cookie_ack, re_config, abort, shutdown, shutdown_ack, shutdown_complete, unknown, heartbeat, heartbeat_ack, unworked, plain, Emission}
use Rattle.dcsctp_spec_lemmas.specs.spec.Reconfiguration.{ResetParameter}
use Rattle.dcsctp_spec_lemmas.specs.spec.association.Effect.{AssociationIdentity, identity_of, identity_of_core, Effect}
use Rattle.dcsctp_spec_lemmas.specs.spec.endpoint.FlushOutcomes.{Answer, flush_answered}
use Rattle.dcsctp_spec_lemmas.specs.spec.endpoint.HandshakeOutcomes.{echo_emission, EchoAnswers, awaits_cookie_ack, InitAckAnswers, init_ack_with_flush, InitAckTurn}
use Rattle.dcsctp_spec_lemmas.specs.spec.endpoint.Turn.{Input, Turn, needs_connection}
use Rattle.dcsctp_delivery_directions.specs.sending.Places as places
use Rattle.dcsctp_delivery_directions.specs.sending.Flushes.{NoContent, NoData}
use Rattle.dcsctp_delivery_sockets.specs.turns.Actions.{content_of_input, IsOpening, Becomes, goes_on, pauses, works_resets, renews, ends, begins, collides, IsCall}
use Rattle.dcsctp_delivery_sockets.specs.turns.Sides.{WasInSentPacket, WasSent}
use Rattle.dcsctp_delivery_sockets.specs.associations.Ends.{Ends, IsOfEnds, AreOfEnds, IsOfEnd, HadBoth, PlaceWasTaken, WentBefore}
use Rattle.dcsctp_delivery_sockets.specs.sockets.Echoes.{MayFollow}
use Rattle.dcsctp_delivery_sockets.proofs.turns.Tags.{flush_link}
use Rattle.dcsctp_delivery_sockets.proofs.turns.Turns.{turns_are_actions}
use Rattle.dcsctp_delivery_sockets.specs.sockets.Packets.{IsCrossedByEach, IsNoneBefore}

-- ---- what was sent

pub of_ends : (table : Ends) (past : List Effect) (emission : Emission) (packets : List Emission) → AreOfEnds table past packets → places.HasEntry emission packets → IsOfEnds table past emission
of_ends table past emission [] are has = absurd has
of_ends table past emission (p ∷ packets) are (inl e) = subst (IsOfEnds table past) (sym e) are.0
of_ends table past emission (p ∷ packets) are (inr h) = of_ends table past emission packets are.1 h

no_content : (content : Content) (contents : List Content) → NoData contents → places.HasEntry content contents → NoContent content
no_content content [] none has = absurd has
no_content content (c ∷ contents) none (inl e) = subst NoContent (sym e) none.0
no_content content (c ∷ contents) none (inr h) = no_content content contents none.1 h

-- The association has this tag, if there is one.
abbrev pub TagIs : ℕ → Endpoint → Type 0
TagIs tag e = (link : AssociationIdentity) → identity_of_core e.core ≡ Some link → link.my.tag ≡ tag

-- The chunk has no data and asks for no reset of streams; or it is of this packet, which has the tag of the association.
abbrev pub MayHandle : Emission → Endpoint → Content → Type 0
MayHandle emission e content = NoContent content ⊎ (places.HasEntry content emission.packet.contents × TagIs emission.packet.tag e)

-- It is none of those that need a connection.
pub unsent : (sent : List Emission) (content : Content) → needs_connection content ≡ false → WasSent sent (Some content)
unsent sent (plain (unworked (data_chunk chunk))) none = absurd (cc)
unsent sent (plain (unworked (forward_tsn_chunk tsn streams))) none = absurd (cc)
unsent sent (plain (unworked (i_data_chunk chunk))) none = absurd (cc)
unsent sent (plain (unworked (i_forward_tsn_chunk tsn streams))) none = absurd (cc)
unsent sent (re_config parameters) none = absurd (cc)
unsent sent (plain (unworked (init_chunk c))) none = tt
unsent sent (plain (unworked (init_ack_chunk c))) none = tt
unsent sent (plain (unworked (sack_chunk c))) none = tt
unsent sent (plain (unworked (heartbeat_chunk c))) none = tt
unsent sent (plain (unworked (heartbeat_ack_chunk c))) none = tt
unsent sent (plain (unworked (abort_chunk t c))) none = tt
unsent sent (plain (unworked (shutdown_chunk c))) none = tt
unsent sent (plain (unworked shutdown_ack_chunk)) none = tt
unsent sent (plain (unworked (error_chunk c))) none = tt
unsent sent (plain (unworked (cookie_echo_chunk c))) none = tt
unsent sent (plain (unworked cookie_ack_chunk)) none = tt
unsent sent (plain (unworked (shutdown_complete_chunk c))) none = tt
unsent sent (plain (unworked (re_config_chunk c))) none = tt
unsent sent (plain (unworked (unknown_chunk t f v))) none = tt
unsent sent (plain (unknown t f v)) none = tt
unsent sent (plain (heartbeat c)) none = tt
unsent sent (plain (heartbeat_ack c)) none = tt
unsent sent (init c) none = tt
unsent sent (init_ack c k) none = tt
unsent sent (cookie_echo c) none = tt
unsent sent cookie_ack none = tt
unsent sent (abort t c) none = tt
unsent sent (shutdown c) none = tt
unsent sent shutdown_ack none = tt
unsent sent (shutdown_complete t) none = tt

module _ (table : Ends) (past : List Effect) (emission : Emission) (is : IsOfEnds table past emission) (e : Endpoint) (link : AssociationIdentity) (linked : identity_of_core e.core ≡ Some link) (some : link.my.tag ≢ 0) (crosses : IsCrossedByEach past link)
    (none_before : IsNoneBefore past link) (replaced : (tag former : ℕ) → table.former tag ≡ Some former → PlaceWasTaken past tag former (table.latest tag)) where
  -- What was sent in the association that crosses it, or needs no sender.
  abbrev pub Sent : Option Content → Type 0
  Sent came = WasSent (table.sends link.peer.tag).sent came × (HadBoth past link.peer.tag link.my.tag ⊎ WasSent [] came)

  -- the end that has the packet
  the_end : TagIs emission.packet.tag e → (end : IsOfEnd table past emission) → places.HasEntry emission (table.sends link.peer.tag).sent × HadBoth past link.peer.tag link.my.tag
  the_end tag end =
      let own : link.my.tag ≡ emission.packet.tag = tag link linked in
      let same : end.tag ≡ link.peer.tag = sym end.both.tag_is ∙ crosses end.both.link end.both.held (end.both.peer_is ∙ sym own) in (
        subst (λ (t : ℕ). places.HasEntry emission (table.sends t).sent) same end.has,
        subst (λ (t : ℕ). HadBoth past t link.my.tag) same (subst (HadBoth past end.tag) (sym own) end.both),
      )

  -- It went to no other peer.
  went_no : TagIs emission.packet.tag e → WentBefore table emission → ⊥
  went_no tag went = none_before went.tag emission.packet.tag (table.latest went.tag) (replaced went.tag emission.packet.tag went.former_is) (tag link linked)

  was_in : (chunk : ChunkContent) → (NoContent (plain (unworked chunk)) → ⊥) → MayHandle emission e (plain (unworked chunk)) → WasInSentPacket (table.sends link.peer.tag).sent chunk × HadBoth past link.peer.tag link.my.tag
  was_in chunk bears (inl none) = absurd (bears none)
  was_in chunk bears (inr (has, tag)) = go is
    where
      go : IsOfEnds table past emission → WasInSentPacket (table.sends link.peer.tag).sent chunk × HadBoth past link.peer.tag link.my.tag
      go (inl none) = absurd (bears (no_content (plain (unworked chunk)) emission.packet.contents none has))
      go (inr (free, inl zero)) = absurd (some (tag link linked ∙ zero))
      go (inr (free, inr (inl went))) = absurd (went_no tag went)
      go (inr (free, inr (inr end))) = (let found = the_end tag end in (record { emission = emission; was = found.0; holds = has }, found.1))

  -- So was what asks for a reset of streams.
  was_asked : (parameters : List ResetParameter) → MayHandle emission e (re_config parameters) → Sent (Some (re_config parameters))
  was_asked parameters (inl none) = (inl none, inr (inl none))
  was_asked parameters (inr (has, tag)) = go is
    where
      go : IsOfEnds table past emission → Sent (Some (re_config parameters))
      go (inl none) = (let free = no_content (re_config parameters) emission.packet.contents none has in (inl free, inr (inl free)))
      go (inr (free, inl zero)) = absurd (some (tag link linked ∙ zero))
      go (inr (free, inr (inl went))) = absurd (went_no tag went)
      go (inr (free, inr (inr end))) = (let found = the_end tag end in (inr (record { emission = emission; was = found.0; holds = has }), inl found.1))

  pub was_sent : (content : Content) → MayHandle emission e content → Sent (Some content)
  was_sent (plain (unworked (data_chunk chunk))) may = (let found = was_in (data_chunk chunk) (λ none. none) may in (found.0, inl found.1))
  was_sent (plain (unworked (forward_tsn_chunk tsn streams))) may = (let found = was_in (forward_tsn_chunk tsn streams) (λ none. none) may in (found.0, inl found.1))
  was_sent (plain (unworked (i_data_chunk chunk))) may = (let found = was_in (i_data_chunk chunk) (λ none. none) may in (found.0, inl found.1))
  was_sent (plain (unworked (i_forward_tsn_chunk tsn streams))) may = (let found = was_in (i_forward_tsn_chunk tsn streams) (λ none. none) may in (found.0, inl found.1))
  was_sent (re_config parameters) may = was_asked parameters may
  was_sent (plain (unworked (init_chunk c))) may = (tt, inr tt)
  was_sent (plain (unworked (init_ack_chunk c))) may = (tt, inr tt)
  was_sent (plain (unworked (sack_chunk c))) may = (tt, inr tt)
  was_sent (plain (unworked (heartbeat_chunk c))) may = (tt, inr tt)
  was_sent (plain (unworked (heartbeat_ack_chunk c))) may = (tt, inr tt)
  was_sent (plain (unworked (abort_chunk t c))) may = (tt, inr tt)
  was_sent (plain (unworked (shutdown_chunk c))) may = (tt, inr tt)
  was_sent (plain (unworked shutdown_ack_chunk)) may = (tt, inr tt)
  was_sent (plain (unworked (error_chunk c))) may = (tt, inr tt)
  was_sent (plain (unworked (cookie_echo_chunk c))) may = (tt, inr tt)
  was_sent (plain (unworked cookie_ack_chunk)) may = (tt, inr tt)
  was_sent (plain (unworked (shutdown_complete_chunk c))) may = (tt, inr tt)
  was_sent (plain (unworked (re_config_chunk c))) may = (tt, inr tt)
  was_sent (plain (unworked (unknown_chunk t f v))) may = (tt, inr tt)
  was_sent (plain (unknown t f v)) may = (tt, inr tt)
  was_sent (plain (heartbeat c)) may = (tt, inr tt)
  was_sent (plain (heartbeat_ack c)) may = (tt, inr tt)
  was_sent (init c) may = (tt, inr tt)
  was_sent (init_ack c k) may = (tt, inr tt)
  was_sent (cookie_echo c) may = (tt, inr tt)
  was_sent cookie_ack may = (tt, inr tt)
  was_sent (abort t c) may = (tt, inr tt)
  was_sent (shutdown c) may = (tt, inr tt)
  was_sent shutdown_ack may = (tt, inr tt)
  was_sent (shutdown_complete t) may = (tt, inr tt)

-- ---- the tag of the association, chunk by chunk

by_becomes : {resets : Option (List ℕ)} {to : ℕ} {adds : _} {taken : _} (tag : ℕ) (e : Endpoint) (came : Option Content) (o : Outcome) → (IsOpening came → ⊥) → TagIs tag e → Becomes resets came to adds taken e o → TagIs tag o.after
by_becomes tag e came o not is (goes_on calm linked makes) = λ link there. is link (sym linked ∙ there)
by_becomes tag e came o not is (pauses ids resets calm accepted linked small makes) = λ link there. is link (sym linked ∙ there)
by_becomes tag e came o not is (works_resets linked between worked ended peer makes) = λ link there. is link (sym linked ∙ there)
by_becomes tag e came o not is (renews calm linked alike unread own number emission kept out after packets goes contents) = λ link there. is link (sym linked ∙ there)
by_becomes tag e came o not is (ends none unread silent last own makes below) = λ link there. (let clash : ◌≡◌ {A = Option AssociationIdentity} None (Some link) = sym none ∙ there in absurd (cc))
by_becomes tag e came o not is (begins begun opening linked alike unread again makes) = absurd (not opening)
by_becomes tag e came o not is (collides collision alike unread again makes) = absurd (not collision.opened.opening)

-- A chunk that begins no association leaves its tag.
pub tag_stays : (tag : ℕ) (e : Endpoint) (input : Input) (o : Outcome) → (IsOpening (content_of_input input) → ⊥) → IsCall input → TagIs tag e → Turn e input o → TagIs tag o.after
tag_stays tag e input o not may is turn = by_becomes tag e (content_of_input input) o not is (turns_are_actions e input o may turn)

pub not_opening : (content : Content) → MayFollow content → IsOpening (Some content) → ⊥
not_opening (init introduction) may opening = opening
not_opening (init_ack introduction cookie) may opening = may
not_opening (cookie_echo bytes) may opening = may
not_opening cookie_ack may opening = opening
not_opening (re_config parameters) may opening = opening
not_opening (abort reflected causes) may opening = opening
not_opening (shutdown tsn) may opening = opening
not_opening shutdown_ack may opening = opening
not_opening (shutdown_complete reflected) may opening = opening
not_opening (plain chunk) may opening = opening

pub own_is : (core : Core) (tag : ℕ) → own_tag core ≡ tag → (link : AssociationIdentity) → identity_of_core core ≡ Some link → link.my.tag ≡ tag
own_is closed tag own link is = absurd (cc)
own_is (cookie_wait my) tag own link is = absurd (cc)
own_is (cookie_echoed my held cookie) tag own link is = (let same : identity_of my held ≡ link = cc in ap (λ (l : AssociationIdentity). l.my.tag) (sym same) ∙ own)
own_is (open_in phase my held) tag own link is = (let same : identity_of my held ≡ link = cc in ap (λ (l : AssociationIdentity). l.my.tag) (sym same) ∙ own)

-- So does an INIT ACK: the association that it begins has the tag that the handshake had.
echoed_link : (b : Bool) (e : Endpoint) (words : List Word) (tag : ℕ) (cookie : List ℕ) (answers : List Answer) → EchoAnswers b e tag cookie answers
    → identity_of_core (cond b (flush_answered answers e words [] true tag (cookie_echo cookie ∷ [])) (quiet e words [])).after.core ≡ identity_of_core e.core
echoed_link true e words tag cookie answers allowed = flush_link e (echo_emission tag cookie) answers allowed
echoed_link false e words tag cookie answers allowed = refl

init_ack_link : (tag : ℕ) (e : Endpoint) (theirs : Introduction) (cookie : Option (List ℕ)) (core : Core) (word : ℕ) (answers : List Answer) → e.core ≡ core → own_tag core ≡ tag
    → InitAckAnswers e theirs cookie core word answers → (link : AssociationIdentity) → identity_of_core (init_ack_with_flush (flush_answered answers) e theirs cookie core word).after.core ≡ Some link → link.my.tag ≡ tag
init_ack_link tag e theirs cookie closed word answers at own allowed link is = own_is e.core tag (ap own_tag at ∙ own) link is
init_ack_link tag e theirs cookie (cookie_echoed my held echoed) word answers at own allowed link is = own_is e.core tag (ap own_tag at ∙ own) link is
init_ack_link tag e theirs cookie (open_in phase my held) word answers at own allowed link is = own_is e.core tag (ap own_tag at ∙ own) link is
init_ack_link tag e theirs None (cookie_wait my) word answers at own allowed link is = absurd (cc)
init_ack_link tag e theirs (Some cookie) (cookie_wait my) word answers at own allowed link is =
    let awaiting : Endpoint = awaits_cookie_ack e my theirs cookie word in
    own_is awaiting.core tag own link (sym (echoed_link (fits awaiting (echo_emission theirs.pair.tag cookie)) awaiting (U64 word ∷ []) theirs.pair.tag cookie answers allowed) ∙ is)

pub init_ack_tag : (tag : ℕ) (e : Endpoint) (theirs : Introduction) (cookie : Option (List ℕ)) (o : Outcome) → own_tag e.core ≡ tag → InitAckTurn e theirs cookie o → TagIs tag o.after
init_ack_tag tag e theirs cookie o own (word, answers, allowed, is) =
    λ link there. init_ack_link tag e theirs cookie e.core word answers refl own allowed link (sym (ap (λ (x : Outcome). identity_of_core x.after.core) is) ∙ there)
