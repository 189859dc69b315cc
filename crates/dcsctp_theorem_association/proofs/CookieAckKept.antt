-- COOKIE ACK keeps what is true.
use Rattle.std.proofs.Common.{◌≡◌, ℕ, List, [], ◌∷◌, sym, subst, ap, ◌∙◌, Ok}
use Rattle.dcsctp_spec_lemmas.specs.types.declared.association.Pair.{Pair}
use Rattle.dcsctp_spec_lemmas.specs.types.declared.association.Held.{Held}
use Rattle.dcsctp_spec_lemmas.specs.types.Offer.{Offer}
use Rattle.dcsctp_spec_lemmas.specs.spec.Cookie.{Cookie, cookie_of_bytes}
use Rattle.dcsctp_spec_lemmas.specs.spec.Packet.{Content}
use Rattle.dcsctp_spec_lemmas.specs.spec.endpoint.Endpoint.{Core, closed, cookie_wait, cookie_echoed, open_in, established, own_tag}
use Rattle.dcsctp_spec_lemmas.specs.spec.endpoint.Following.{next_chunk}
use Rattle.dcsctp_spec_lemmas.specs.spec.association.Effect.{Effect, holds, connects, identity_of}
use Rattle.dcsctp_spec_lemmas.specs.spec.association.Choices.{Filling, Choices}
use Rattle.dcsctp_spec_lemmas.specs.spec.association.FlushChanges.{flush}
use Rattle.dcsctp_spec_lemmas.specs.spec.association.HandshakeChanges.{cookie_ack_change}
use Rattle.dcsctp_spec_runs.specs.Past.{HasEffect}
use Rattle.dcsctp_theorem_association.proofs.Facts.{agreed_link, TrueAck, TrueEffects, PeerFacts, OneEcho, EchoedCookie, TrueCore}
use Rattle.dcsctp_theorem_association.proofs.Growth.{one_more, effects_grow}
use Rattle.dcsctp_theorem_association.proofs.Flushes.{flush_true, flush_peer}
use Rattle.dcsctp_theorem_association.proofs.Turns.{Kept, unchanged_kept, open_kept}
use Rattle.dcsctp_theorem_association.proofs.HandshakeKept.{same_reading}

-- The cookie that is acknowledged is the one that the association echoes.
acknowledged : (my_offer their_offer : Offer) (mine theirs : List Effect) (my : Pair) (held : Held) (bytes : List ℕ) (header : ℕ)
    → OneEcho my.tag bytes mine → EchoedCookie my_offer my held bytes → TrueAck their_offer my_offer theirs mine header → header ≡ my.tag
    → HasEffect (holds (agreed_link their_offer my_offer held.peer my)) theirs
acknowledged my_offer their_offer mine theirs my held bytes header one echo ack is =
    let same_bytes : ack.bytes ≡ bytes = one ack.header ack.bytes ack.behind ack.cookie ack.echoed ack.reads (sym ack.under ∙ is) in
    let same_cookie : ack.cookie ≡ echo.cookie = same_reading bytes ack.cookie echo.cookie (subst (λ (b : List ℕ). cookie_of_bytes b ≡ Ok ack.cookie) same_bytes ack.reads) echo.reads in
    let maker : ack.cookie.maker ≡ held.peer = ap (λ (c : Cookie). c.maker) same_cookie ∙ echo.maker in
    let addressee : ack.cookie.addressee ≡ my = ap (λ (c : Cookie). c.addressee) same_cookie ∙ echo.addressee in
    subst (λ (p : Pair). HasEffect (holds (agreed_link their_offer my_offer held.peer p)) theirs) addressee
    (subst (λ (p : Pair). HasEffect (holds (agreed_link their_offer my_offer p ack.cookie.addressee)) theirs) maker ack.held)

-- a connected association after a flush
pub connected_kept : (my_offer their_offer : Offer) (mine theirs : List Effect) (my : Pair) (held : Held) (tag : ℕ) (front : List Content) (filling : Filling)
    → PeerFacts my_offer their_offer mine theirs my held → HasEffect (holds (agreed_link their_offer my_offer held.peer my)) theirs
    → TrueEffects my_offer their_offer mine theirs (flush tag held front filling).effects
    → Kept my_offer their_offer mine theirs (record { core = open_in established my (flush tag held front filling).held; effects = connects (identity_of my held) ∷ (flush tag held front filling).effects; following = next_chunk })
connected_kept my_offer their_offer mine theirs my held tag front filling h found effects =
    open_kept my_offer their_offer mine theirs established my (flush tag held front filling).held (connects (identity_of my held) ∷ (flush tag held front filling).effects) next_chunk
    (flush_peer my_offer their_offer mine theirs my tag held front filling h) (
      record { capabilities = h.capabilities; held = found },
      effects_grow my_offer their_offer mine theirs (connects (identity_of my held) ∷ mine) (flush tag held front filling).effects (one_more (connects (identity_of my held)) mine) effects,
    )

pub cookie_ack_kept : (my_offer their_offer : Offer) (mine theirs : List Effect) (core : Core) (choices : Choices) (header : ℕ)
    → TrueCore my_offer their_offer mine theirs core → TrueAck their_offer my_offer theirs mine header → header ≡ own_tag core
    → Kept my_offer their_offer mine theirs (cookie_ack_change core choices)
cookie_ack_kept my_offer their_offer mine theirs closed choices header h ack is = unchanged_kept my_offer their_offer mine theirs closed h
cookie_ack_kept my_offer their_offer mine theirs (cookie_wait my) choices header h ack is = unchanged_kept my_offer their_offer mine theirs (cookie_wait my) h
cookie_ack_kept my_offer their_offer mine theirs (cookie_echoed my held bytes) choices header h ack is =
    connected_kept my_offer their_offer mine theirs my held held.peer.tag [] choices.filling h.0 (acknowledged my_offer their_offer mine theirs my held bytes header h.1 h.2 ack is)
    (flush_true my_offer their_offer mine theirs held.peer.tag held [] choices.filling tt)
cookie_ack_kept my_offer their_offer mine theirs (open_in phase my held) choices header h ack is = unchanged_kept my_offer their_offer mine theirs (open_in phase my held) h
