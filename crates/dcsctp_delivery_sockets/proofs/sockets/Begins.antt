-- An association that begins by a packet of the other socket is of the kinds that both negotiate
-- (RFC 9260, section 5.1).
use Rattle.std.proofs.Common.{◌≡◌, ◌&&◌, ℕ, Bool, true, false, Option, None, Some, Result, Ok, Err, List, [], ◌∷◌, refl, sym, ap, ◌∙◌, subst, inl, inr}
use Rattle.dcsctp_spec_lemmas.specs.types.declared.association.Held.{Held}
use Rattle.dcsctp_spec_lemmas.specs.types.declared.association.Pair.{Pair}
use Rattle.dcsctp_spec_lemmas.specs.types.declared.capabilities.Capabilities.{Capabilities}
use Rattle.dcsctp_spec_lemmas.specs.types.declared.options.Options.{Options}
use Rattle.dcsctp_spec_lemmas.specs.spec.association.Controlled.{IsControlledChunk}
use Rattle.dcsctp_spec_lemmas.specs.spec.Cookie.{Cookie, cookie_of_bytes}
use Rattle.dcsctp_spec_lemmas.specs.spec.endpoint.Endpoint.{Endpoint, Core, closed, cookie_wait, cookie_echoed, open_in, shutdown_ack_sent}
use Rattle.dcsctp_spec_runs.specs.Fitting.{FitsCore}
use Rattle.dcsctp_spec_laws.specs.TurnLaws.{ChunksAreControlled}
use Rattle.dcsctp_spec_lemmas.specs.types.Offer.{Offer, offer_of, negotiated_capabilities}
use Rattle.dcsctp_spec_lemmas.specs.spec.endpoint.Outcome.{Outcome}
use Rattle.dcsctp_spec_lemmas.specs.spec.Packet.{Introduction, Content, init_ack, cookie_echo, cookie_ack}
use Rattle.dcsctp_spec_runs.specs.Past.{HasEffect}
use Rattle.dcsctp_spec_lemmas.specs.spec.endpoint.Turn.{ContentTurn}
use Rattle.dcsctp_spec_lemmas.specs.spec.association.Acts.{chunk_change}
use Rattle.dcsctp_spec_lemmas.specs.spec.association.Choices.{Filling, Choices}
use Rattle.dcsctp_spec_lemmas.specs.spec.association.CookieEchoChanges.{stale_error, Resolution, establish_new, restart, simultaneous_init, discard, maintain_existing, invalid_tag, stale, aged_resolution, resolve, held_by_cookie, new_association_change, restart_change, maintain_change, resolved_change, read_echo_change}
use Rattle.dcsctp_spec_lemmas.specs.spec.association.Effect.{AssociationIdentity, Effect, holds, ends, Change, emitted_alone, identity_of}
use Rattle.dcsctp_spec_lemmas.specs.spec.association.FlushChanges.{flush}
use Rattle.dcsctp_spec_lemmas.specs.spec.association.HandshakeChanges.{echo_change, held_by_init_ack, init_ack_change}
use Rattle.dcsctp_theorem_association.proofs.Facts.{TrueFront}
use Rattle.dcsctp_theorem_sockets.proofs.NewAssociations.{maintain_none}
use Rattle.dcsctp_theorem_sockets.proofs.NoHolding.{IsNoHolding, HoldsNone, none-append, none-alone, none-flush}
use Rattle.dcsctp_theorem_sockets.proofs.OneSocket.{noted_happened}
use Rattle.dcsctp_delivery_sockets.specs.turns.Actions.{IsOpening, RecordsOpening}
use Rattle.dcsctp_delivery_sockets.proofs.sockets.OpenFitting.{link_fits}
use Rattle.dcsctp_delivery_sockets.proofs.sockets.Turns.{SameKinds, BeginsSo}

pub not_among : (link : AssociationIdentity) (effects : List Effect) → HoldsNone effects → HasEffect (holds link) effects → ⊥
not_among link [] none has = has
not_among link (effect ∷ effects) none (inl is) = subst IsNoHolding (sym is) none.0
not_among link (effect ∷ effects) none (inr has) = not_among link effects none.1 has

-- ---- what the effects of a chunk say

echoed_none : (my : Pair) (held : Held) (cookie : List ℕ) (fits : Bool) (filling : Filling) → HoldsNone (echo_change my held cookie fits filling).effects
echoed_none my held cookie false filling = tt
echoed_none my held cookie true filling = none-flush held.peer.tag held (cookie_echo cookie ∷ []) filling

init_ack_says : (options : Options) (core : Core) (theirs : Introduction) (cookie : Option (List ℕ)) (choices : Choices) (link : AssociationIdentity) → HasEffect (holds link) (init_ack_change options core theirs cookie choices).effects
    → link.capabilities ≡ negotiated_capabilities (offer_of options) theirs.offer
init_ack_says options closed theirs cookie choices link has = absurd has
init_ack_says options (cookie_wait my) theirs None choices link has = absurd (not_among link _ (none-append _ (ends ∷ []) (none-alone choices.fits _ _) (tt, tt)) has)
init_ack_says options (cookie_wait my) theirs (Some cookie) choices link (inl is) =
    let same : link ≡ identity_of my (held_by_init_ack options my theirs) = cc in
    ap (λ (l : AssociationIdentity). l.capabilities) same
init_ack_says options (cookie_wait my) theirs (Some cookie) choices link (inr has) =
    absurd (not_among link _ (echoed_none my (held_by_init_ack options my theirs) cookie choices.fits choices.filling) has)
init_ack_says options (cookie_echoed my held echoed) theirs cookie choices link has = absurd has
init_ack_says options (open_in phase my held) theirs cookie choices link has = absurd has

module _ (options : Options) (cookie : Cookie) (choices : Choices) (link : AssociationIdentity) where
  abbrev Says : Change → Type 0
  Says change = HasEffect (holds link) change.effects → link.capabilities ≡ negotiated_capabilities (offer_of options) cookie.offer

  new_says : Says (new_association_change options cookie choices)
  new_says (inl is) =
      let same : link ≡ identity_of cookie.maker (held_by_cookie options cookie) = cc in
      ap (λ (l : AssociationIdentity). l.capabilities) same
  new_says (inr (inl is)) = absurd (cc)
  new_says (inr (inr has)) =
      absurd (not_among link (flush cookie.addressee.tag (held_by_cookie options cookie) (cookie_ack ∷ []) choices.filling).effects (none-flush cookie.addressee.tag (held_by_cookie options cookie) (cookie_ack ∷ []) choices.filling) has)

  restart_says : (core : Core) → Says (restart_change options core cookie choices)
  restart_says (open_in shutdown_ack_sent my held) (inl is) = absurd (cc)
  restart_says (open_in shutdown_ack_sent my held) (inr has) = absurd has
  restart_says core has = new_says has

  resolved_says : (core : Core) (resolution : Resolution) → Says (resolved_change options core cookie choices resolution)
  resolved_says core establish_new has = new_says has
  resolved_says core restart has = restart_says core has
  resolved_says core simultaneous_init has = new_says has
  resolved_says core discard has = absurd has
  resolved_says core maintain_existing has = absurd (not_among link (maintain_change core cookie choices).effects (maintain_none core cookie choices) has)
  resolved_says core invalid_tag has = absurd has
  resolved_says core stale has =
      let tells : Bool = options.follow_rfc && choices.fits in
      absurd (not_among link (emitted_alone tells cookie.addressee.tag stale_error) (none-alone tells cookie.addressee.tag stale_error) has)

-- The cookie reads back as one with this offer.
record SaysOffer (options : Options) (read : Result Cookie (List ℕ)) (link : AssociationIdentity) : Type 0 where
  cookie : Cookie
  reads : read ≡ Ok cookie
  says : link.capabilities ≡ negotiated_capabilities (offer_of options) cookie.offer

echo_says : (options : Options) (core : Core) (header : ℕ) (read : Result Cookie (List ℕ)) (choices : Choices) (link : AssociationIdentity) → HasEffect (holds link) (read_echo_change options core header read choices).effects → SaysOffer options read link
echo_says options core header (Err text) choices link has = absurd has
echo_says options core header (Ok cookie) choices link has =
    record { cookie = cookie; reads = refl; says = resolved_says options cookie choices link core (aged_resolution choices.is_stale (resolve core choices.tie choices.secret header cookie)) has }

-- ---- a chunk that was sent by the other socket

module _ (kinds : Capabilities) where
  -- If an association begins by this chunk at a side with this offer, it is of these kinds.
  abbrev pub FrontKinds : Offer → Content → Type 0
  FrontKinds mine (init_ack introduction cookie) = SameKinds (negotiated_capabilities mine introduction.offer) kinds
  FrontKinds mine (cookie_echo bytes) = (cookie : Cookie) → cookie_of_bytes bytes ≡ Ok cookie → SameKinds (negotiated_capabilities mine cookie.offer) kinds
  FrontKinds mine content = Unit {0}

  so_of : (own other : Capabilities) → own ≡ other → SameKinds other kinds → SameKinds own kinds
  so_of own other same is = subst (λ (c : Capabilities). SameKinds c kinds) (sym same) is

  pub front_kinds : (sender mine : Offer) (theirs own : List Effect) (tag : ℕ) (content : Content) → SameKinds (negotiated_capabilities mine sender) kinds → TrueFront sender mine theirs own tag content → FrontKinds mine content
  front_kinds sender mine theirs own tag (init_ack introduction None) same is = absurd is
  front_kinds sender mine theirs own tag (init_ack introduction (Some bytes)) same is = so_of (negotiated_capabilities mine introduction.offer) (negotiated_capabilities mine sender) is.announced same
  front_kinds sender mine theirs own tag (cookie_echo bytes) same is = λ cookie reads.
      let one : cookie ≡ is.cookie = (let both : Ok cookie ≡ Ok is.cookie = sym reads ∙ is.reads in cc) in
      so_of (negotiated_capabilities mine cookie.offer) (negotiated_capabilities mine sender) (ap (λ (c : Cookie). negotiated_capabilities mine c.offer) one ∙ ap (negotiated_capabilities mine) is.offer) same
  front_kinds sender mine theirs own tag content same is = tt

  noted_in_change : (e : Endpoint) (tag : ℕ) (content : Content) (o : Outcome) (controlled : IsControlledChunk e tag content o) (opened : RecordsOpening (Some content) o)
      → HasEffect (holds opened.link) (chunk_change e.options e.core tag content controlled.1.0).effects
  noted_in_change e tag content o controlled opened =
      let noted : HasEffect (holds opened.link) o.effects = subst (HasEffect (holds opened.link)) (sym opened.noted) (inl refl) in
      subst (λ (c : Change). HasEffect (holds opened.link) c.effects) controlled.1.2
      (noted_happened (holds opened.link) controlled.0.effects (subst (HasEffect (holds opened.link)) controlled.2.effects noted))

  -- This holds for one that a chunk begins; its first TSN fits its field, as all that the turn leaves does.
  pub begins_so : ChunksAreControlled → (e : Endpoint) (tag : ℕ) (content : Content) (o : Outcome) → FrontKinds (offer_of e.options) content → (IsOpening (Some content) → FitsCore o.after.core) → ContentTurn e tag content o → BeginsSo kinds e (Some content) o
  begins_so law e tag (init_ack theirs cookie) o front fits turn = λ opened.
      let controlled : IsControlledChunk e tag (init_ack theirs cookie) o = law e tag (init_ack theirs cookie) o turn tt in (
        so_of opened.link.capabilities (negotiated_capabilities (offer_of e.options) theirs.offer)
            (init_ack_says e.options e.core theirs cookie controlled.1.0 opened.link (noted_in_change e tag (init_ack theirs cookie) o controlled opened)) front,
        (link_fits o.after.core opened.link (fits opened.opening) opened.linked).my.first_tsn,
      )
  begins_so law e tag (cookie_echo bytes) o front fits turn = λ opened.
      let controlled : IsControlledChunk e tag (cookie_echo bytes) o = law e tag (cookie_echo bytes) o turn tt in
      let said = echo_says e.options e.core tag (cookie_of_bytes bytes) controlled.1.0 opened.link (noted_in_change e tag (cookie_echo bytes) o controlled opened) in (
        so_of opened.link.capabilities (negotiated_capabilities (offer_of e.options) said.cookie.offer) said.says (front said.cookie said.reads),
        (link_fits o.after.core opened.link (fits opened.opening) opened.linked).my.first_tsn,
      )
  begins_so law e tag content o front fits turn = λ opened. absurd opened.opening
