-- COOKIE ECHO keeps what is true, in each of its cases.
use Rattle.std.proofs.Common.{◌&&◌, ◌≡◌, ◌==◌, ℕ, Bool, true, false, List, [], ◌∷◌, inl, inr, refl, sym, subst, ap, ◌∙◌, Result, arith}
use Rattle.std.proofs.lemmas.Bool.Decides.{nat_tests}
use Rattle.dcsctp_spec_lemmas.specs.types.declared.association.Pair.{Pair}
use Rattle.dcsctp_spec_lemmas.specs.types.declared.association.Held.{Held}
use Rattle.dcsctp_spec_lemmas.specs.types.declared.options.Options.{Options}
use Rattle.dcsctp_spec_lemmas.specs.types.Offer.{Offer, offer_of, negotiated_capabilities}
use Rattle.dcsctp_spec_lemmas.specs.spec.Cookie.{Cookie}
use Rattle.dcsctp_spec_lemmas.specs.spec.Packet.{Content, cookie_echo, cookie_ack}
use Rattle.dcsctp_spec_lemmas.specs.spec.endpoint.Endpoint.{Core, closed, cookie_wait, cookie_echoed, open_in, established, shutdown_pending, shutdown_sent, shutdown_received, shutdown_ack_sent}
use Rattle.dcsctp_spec_lemmas.specs.spec.endpoint.Following.{next_chunk, dropped_rest}
use Rattle.dcsctp_spec_lemmas.specs.spec.association.Effect.{AssociationIdentity, Effect, sends, holds, connects, emitted_alone, identity_of}
use Rattle.dcsctp_spec_lemmas.specs.spec.association.Choices.{Choices}
use Rattle.dcsctp_spec_lemmas.specs.spec.association.FlushChanges.{flush}
use Rattle.dcsctp_spec_lemmas.specs.spec.association.CookieEchoChanges.{stale_error, Resolution, establish_new, restart, simultaneous_init, discard, maintain_existing, invalid_tag, stale, aged_resolution, case_by_answers, case_without_peer, case_with_peer, resolve, held_by_cookie, new_association_change, restart_change, maintain_change, resolved_change, read_echo_change, cookie_echo_change}
use Rattle.dcsctp_spec_runs.specs.Past.{HasEffect}
use Rattle.dcsctp_spec_lemmas.proofs.ControlEcho.{kept_by_age}
use Rattle.dcsctp_theorem_association.proofs.Facts.{agreed_link, TrueEcho, TrueAck, PeerFacts, TrueCore}
use Rattle.dcsctp_theorem_association.proofs.Flushes.{alone_true, alone_free, flush_true, flush_peer}
use Rattle.dcsctp_theorem_association.proofs.Turns.{Kept, stays_kept, dropped_kept, open_kept, SameTag}
use Rattle.dcsctp_theorem_association.proofs.HandshakeKept.{new_peer}
use Rattle.dcsctp_theorem_association.proofs.CookieAckKept.{connected_kept}

-- ---- a new association

-- its pairs are those of an association that the other side held
new_link : (options : Options) (their_offer : Offer) (cookie : Cookie) → cookie.offer ≡ their_offer
    → identity_of cookie.maker (held_by_cookie options cookie) ≡ agreed_link (offer_of options) their_offer cookie.maker cookie.addressee
new_link options their_offer cookie e = ap (λ (o : Offer). agreed_link (offer_of options) o cookie.maker cookie.addressee) e

pub new_kept : (options : Options) (their_offer : Offer) (mine theirs : List Effect) (header : ℕ) (bytes : List ℕ) (behind : List Content) (choices : Choices)
    → (echo : TrueEcho their_offer (offer_of options) theirs mine header bytes)
    → HasEffect (sends (record { tag = header; contents = cookie_echo bytes ∷ behind })) theirs
    → Kept (offer_of options) their_offer mine theirs (new_association_change options echo.cookie choices)
new_kept options their_offer mine theirs header bytes behind choices echo delivered =
    let held : Held = held_by_cookie options echo.cookie in
    let link : AssociationIdentity = identity_of echo.cookie.maker held in
    let shown : HasEffect (holds (agreed_link (offer_of options) their_offer echo.cookie.maker echo.cookie.addressee)) (connects link ∷ holds link ∷ mine) =
    inr (inl (ap holds (sym (new_link options their_offer echo.cookie echo.offer)))) in
    let agreed : held.capabilities ≡ negotiated_capabilities (offer_of options) their_offer = ap (negotiated_capabilities (offer_of options)) echo.offer in
    let facts : PeerFacts (offer_of options) their_offer (connects link ∷ holds link ∷ mine) theirs echo.cookie.maker held =
    new_peer (offer_of options) their_offer (connects link ∷ holds link ∷ mine) theirs echo.cookie.maker echo.cookie.addressee (negotiated_capabilities (offer_of options) echo.cookie.offer)
    (inr (inr echo.maker)) echo.addressee agreed shown in
    let ack : TrueAck (offer_of options) their_offer (connects link ∷ holds link ∷ mine) theirs echo.cookie.addressee.tag =
    record { header = header; bytes = bytes; behind = behind; echoed = delivered; cookie = echo.cookie; reads = echo.reads; under = refl; held = shown } in
    let front : List Content = cookie_ack ∷ [] in
    let flushed : Kept (offer_of options) their_offer (connects link ∷ holds link ∷ mine) theirs (record { core = open_in established echo.cookie.maker (flush echo.cookie.addressee.tag held front choices.filling).held; effects = (flush echo.cookie.addressee.tag held front choices.filling).effects; following = next_chunk }) =
    open_kept (offer_of options) their_offer (connects link ∷ holds link ∷ mine) theirs established echo.cookie.maker (flush echo.cookie.addressee.tag held front choices.filling).held _ next_chunk
    (flush_peer (offer_of options) their_offer (connects link ∷ holds link ∷ mine) theirs echo.cookie.maker echo.cookie.addressee.tag held front choices.filling facts)
    (flush_true (offer_of options) their_offer (connects link ∷ holds link ∷ mine) theirs echo.cookie.addressee.tag held front choices.filling (ack, tt)) in
    record { effects = (tt, (record { capabilities = agreed; held = echo.held }, flushed.effects)); core = flushed.core }

-- ---- the association is the one that is held

-- header and cookie carry the tags of both
pub record IsMaintained (my : Pair) (held : Held) (header : ℕ) (cookie : Cookie) : Type 0 where
  pub own : header ≡ my.tag
  pub peers : cookie.addressee.tag ≡ held.peer.tag

abbrev MaintainedIn : Core → ℕ → Cookie → Type 0
MaintainedIn closed header cookie = ⊥
MaintainedIn (cookie_wait my) header cookie = ⊥
MaintainedIn (cookie_echoed my held bytes) header cookie = IsMaintained my held header cookie
MaintainedIn (open_in phase my held) header cookie = IsMaintained my held header cookie

without_peer_not : (b : Bool) → case_without_peer b ≡ maintain_existing → ⊥
without_peer_not true e = cc
without_peer_not false e = cc

maintained_by : (b c d e : Bool) → case_by_answers b c d e ≡ maintain_existing → (b ≡ true) × (c ≡ true)
maintained_by true true d e is = (refl, refl)
maintained_by true false d e is = absurd (cc)
maintained_by false true d true is = absurd (cc)
maintained_by false true d false is = absurd (cc)
maintained_by false false true e is = absurd (cc)
maintained_by false false false e is = absurd (cc)

equal_where : (m n : ℕ) → (m == n) ≡ true → m ≡ n
equal_where m n e = grind (arith, nat_tests)

maintained_with_peer : (my : Pair) (held : Held) (tie secret header : ℕ) (cookie : Cookie) → case_with_peer my held tie secret header cookie ≡ maintain_existing → IsMaintained my held header cookie
maintained_with_peer my held tie secret header cookie is =
    let tests : ((header == my.tag) ≡ true) × ((cookie.addressee.tag == held.peer.tag) ≡ true) =
    maintained_by (header == my.tag) (cookie.addressee.tag == held.peer.tag) (cookie.tie == tie) (cookie.tie == secret) is in
    record { own = equal_where header my.tag tests.0; peers = equal_where cookie.addressee.tag held.peer.tag tests.1 }

maintained_in : (core : Core) (tie secret header : ℕ) (cookie : Cookie) → resolve core tie secret header cookie ≡ maintain_existing → MaintainedIn core header cookie
maintained_in closed tie secret header cookie is = without_peer_not (header == cookie.maker.tag) is
maintained_in (cookie_wait my) tie secret header cookie is = without_peer_not (header == cookie.maker.tag) is
maintained_in (cookie_echoed my held bytes) tie secret header cookie is = maintained_with_peer my held tie secret header cookie is
maintained_in (open_in phase my held) tie secret header cookie is = maintained_with_peer my held tie secret header cookie is

-- Then the cookie's pairs are those of the association.
pub record SamePairs (my : Pair) (held : Held) (cookie : Cookie) : Type 0 where
  pub maker : cookie.maker ≡ my
  pub addressee : cookie.addressee ≡ held.peer

same_pairs : (my_offer their_offer : Offer) (mine theirs : List Effect) (my : Pair) (held : Held) (header : ℕ) (bytes : List ℕ)
    → SameTag mine → SameTag theirs → PeerFacts my_offer their_offer mine theirs my held → (echo : TrueEcho their_offer my_offer theirs mine header bytes)
    → IsMaintained my held header echo.cookie → SamePairs my held echo.cookie
same_pairs my_offer their_offer mine theirs my held header bytes my_tags their_tags h echo is =
    record {
      maker = my_tags echo.cookie.maker my echo.maker h.my_drawn (sym echo.under ∙ is.own);
      addressee = their_tags echo.cookie.addressee held.peer echo.addressee h.peer_drawn is.peers;
    }

-- the COOKIE ACK that is sent
maintained_ack : (my_offer their_offer : Offer) (mine theirs : List Effect) (my : Pair) (held : Held) (header : ℕ) (bytes : List ℕ) (behind : List Content)
    → PeerFacts my_offer their_offer mine theirs my held → (echo : TrueEcho their_offer my_offer theirs mine header bytes)
    → HasEffect (sends (record { tag = header; contents = cookie_echo bytes ∷ behind })) theirs → SamePairs my held echo.cookie
    → TrueAck my_offer their_offer mine theirs echo.cookie.addressee.tag
maintained_ack my_offer their_offer mine theirs my held header bytes behind h echo delivered pairs =
    record {
      header = header;
      bytes = bytes;
      behind = behind;
      echoed = delivered;
      cookie = echo.cookie;
      reads = echo.reads;
      under = refl;
      held = subst (λ (p : Pair). HasEffect (holds (agreed_link my_offer their_offer p echo.cookie.addressee)) mine) (sym pairs.maker)
          (subst (λ (p : Pair). HasEffect (holds (agreed_link my_offer their_offer my p)) mine) (sym pairs.addressee) h.shown);
    }

maintains_kept : (my_offer their_offer : Offer) (mine theirs : List Effect) (core : Core) (header : ℕ) (bytes : List ℕ) (behind : List Content) (choices : Choices)
    → SameTag mine → SameTag theirs → TrueCore my_offer their_offer mine theirs core → (echo : TrueEcho their_offer my_offer theirs mine header bytes)
    → HasEffect (sends (record { tag = header; contents = cookie_echo bytes ∷ behind })) theirs → MaintainedIn core header echo.cookie
    → Kept my_offer their_offer mine theirs (maintain_change core echo.cookie choices)
maintains_kept my_offer their_offer mine theirs closed header bytes behind choices my_tags their_tags h echo delivered is = absurd is
maintains_kept my_offer their_offer mine theirs (cookie_wait my) header bytes behind choices my_tags their_tags h echo delivered is = absurd is
maintains_kept my_offer their_offer mine theirs (cookie_echoed my held echoed) header bytes behind choices my_tags their_tags h echo delivered is =
    let pairs : SamePairs my held echo.cookie = same_pairs my_offer their_offer mine theirs my held header bytes my_tags their_tags h.0 echo is in
    let ack : TrueAck my_offer their_offer mine theirs echo.cookie.addressee.tag = maintained_ack my_offer their_offer mine theirs my held header bytes behind h.0 echo delivered pairs in
    connected_kept my_offer their_offer mine theirs my held echo.cookie.addressee.tag (cookie_ack ∷ []) choices.filling h.0
    (subst (λ (p : Pair). HasEffect (holds (agreed_link their_offer my_offer held.peer p)) theirs) pairs.maker
    (subst (λ (p : Pair). HasEffect (holds (agreed_link their_offer my_offer p echo.cookie.maker)) theirs) pairs.addressee echo.held))
    (flush_true my_offer their_offer mine theirs echo.cookie.addressee.tag held (cookie_ack ∷ []) choices.filling (ack, tt))
maintains_kept my_offer their_offer mine theirs (open_in phase my held) header bytes behind choices my_tags their_tags h echo delivered is =
    let pairs : SamePairs my held echo.cookie = same_pairs my_offer their_offer mine theirs my held header bytes my_tags their_tags h echo is in
    let ack : TrueAck my_offer their_offer mine theirs echo.cookie.addressee.tag = maintained_ack my_offer their_offer mine theirs my held header bytes behind h echo delivered pairs in
    open_kept my_offer their_offer mine theirs phase my (flush echo.cookie.addressee.tag held (cookie_ack ∷ []) choices.filling).held _ next_chunk
    (flush_peer my_offer their_offer mine theirs my echo.cookie.addressee.tag held (cookie_ack ∷ []) choices.filling h)
    (flush_true my_offer their_offer mine theirs echo.cookie.addressee.tag held (cookie_ack ∷ []) choices.filling (ack, tt))

-- ---- all cases

restarts_kept : (options : Options) (their_offer : Offer) (mine theirs : List Effect) (core : Core) (header : ℕ) (bytes : List ℕ) (behind : List Content) (choices : Choices)
    → TrueCore (offer_of options) their_offer mine theirs core → (echo : TrueEcho their_offer (offer_of options) theirs mine header bytes)
    → HasEffect (sends (record { tag = header; contents = cookie_echo bytes ∷ behind })) theirs
    → Kept (offer_of options) their_offer mine theirs (restart_change options core echo.cookie choices)
restarts_kept options their_offer mine theirs closed header bytes behind choices h echo delivered = new_kept options their_offer mine theirs header bytes behind choices echo delivered
restarts_kept options their_offer mine theirs (cookie_wait my) header bytes behind choices h echo delivered = new_kept options their_offer mine theirs header bytes behind choices echo delivered
restarts_kept options their_offer mine theirs (cookie_echoed my held echoed) header bytes behind choices h echo delivered = new_kept options their_offer mine theirs header bytes behind choices echo delivered
restarts_kept options their_offer mine theirs (open_in established my held) header bytes behind choices h echo delivered = new_kept options their_offer mine theirs header bytes behind choices echo delivered
restarts_kept options their_offer mine theirs (open_in shutdown_pending my held) header bytes behind choices h echo delivered = new_kept options their_offer mine theirs header bytes behind choices echo delivered
restarts_kept options their_offer mine theirs (open_in shutdown_sent my held) header bytes behind choices h echo delivered = new_kept options their_offer mine theirs header bytes behind choices echo delivered
restarts_kept options their_offer mine theirs (open_in shutdown_received my held) header bytes behind choices h echo delivered = new_kept options their_offer mine theirs header bytes behind choices echo delivered
restarts_kept options their_offer mine theirs (open_in shutdown_ack_sent my held) header bytes behind choices h echo delivered =
    open_kept (offer_of options) their_offer mine theirs shutdown_ack_sent my held _ dropped_rest h ((tt, (tt, tt)), tt)

resolved_kept : (options : Options) (their_offer : Offer) (mine theirs : List Effect) (core : Core) (header : ℕ) (bytes : List ℕ) (behind : List Content) (choices : Choices) (resolution : Resolution)
    → SameTag mine → SameTag theirs → TrueCore (offer_of options) their_offer mine theirs core → (echo : TrueEcho their_offer (offer_of options) theirs mine header bytes)
    → HasEffect (sends (record { tag = header; contents = cookie_echo bytes ∷ behind })) theirs → (resolution ≡ maintain_existing → MaintainedIn core header echo.cookie)
    → Kept (offer_of options) their_offer mine theirs (resolved_change options core echo.cookie choices resolution)
resolved_kept options their_offer mine theirs core header bytes behind choices establish_new my_tags their_tags h echo delivered is =
    new_kept options their_offer mine theirs header bytes behind choices echo delivered
resolved_kept options their_offer mine theirs core header bytes behind choices restart my_tags their_tags h echo delivered is =
    restarts_kept options their_offer mine theirs core header bytes behind choices h echo delivered
resolved_kept options their_offer mine theirs core header bytes behind choices simultaneous_init my_tags their_tags h echo delivered is =
    new_kept options their_offer mine theirs header bytes behind choices echo delivered
resolved_kept options their_offer mine theirs core header bytes behind choices discard my_tags their_tags h echo delivered is =
    dropped_kept (offer_of options) their_offer mine theirs core h
resolved_kept options their_offer mine theirs core header bytes behind choices maintain_existing my_tags their_tags h echo delivered is =
    maintains_kept (offer_of options) their_offer mine theirs core header bytes behind choices my_tags their_tags h echo delivered (is refl)
resolved_kept options their_offer mine theirs core header bytes behind choices invalid_tag my_tags their_tags h echo delivered is =
    dropped_kept (offer_of options) their_offer mine theirs core h
resolved_kept options their_offer mine theirs core header bytes behind choices stale my_tags their_tags h echo delivered is =
    let tells : Bool = options.follow_rfc && choices.fits in
    stays_kept (offer_of options) their_offer mine theirs core (emitted_alone tells echo.cookie.addressee.tag stale_error) dropped_rest h
    (alone_true (offer_of options) their_offer mine theirs tells echo.cookie.addressee.tag stale_error tt) (alone_free tells echo.cookie.addressee.tag stale_error tt)

pub cookie_echo_kept : (options : Options) (their_offer : Offer) (mine theirs : List Effect) (core : Core) (header : ℕ) (bytes : List ℕ) (behind : List Content) (choices : Choices)
    → SameTag mine → SameTag theirs → TrueCore (offer_of options) their_offer mine theirs core → TrueEcho their_offer (offer_of options) theirs mine header bytes
    → HasEffect (sends (record { tag = header; contents = cookie_echo bytes ∷ behind })) theirs
    → Kept (offer_of options) their_offer mine theirs (cookie_echo_change options core header bytes choices)
cookie_echo_kept options their_offer mine theirs core header bytes behind choices my_tags their_tags h echo delivered =
    subst (λ (r : Result Cookie (List ℕ)). Kept (offer_of options) their_offer mine theirs (read_echo_change options core header r choices)) (sym echo.reads)
    (resolved_kept options their_offer mine theirs core header bytes behind choices (aged_resolution choices.is_stale (resolve core choices.tie choices.secret header echo.cookie)) my_tags their_tags h echo delivered
    (λ case. maintained_in core choices.tie choices.secret header echo.cookie (kept_by_age choices.is_stale (resolve core choices.tie choices.secret header echo.cookie) case)))
