-- What stays true of one side and of the other over every run: of all that a side did, and of its
-- association. Everything here but the echoes of an association in CookieWait or CookieEchoed lasts
-- as the pasts grow.
use Rattle.std.specs.Prelude.{◌≡◌, ◌≢◌, ℕ, ◌+◌, ◌-◌, ◌%◌, ◌^◌, None, Some, List, [], ◌∷◌, ◌⊎◌, Ok}
use Rattle.dcsctp_spec_lemmas.specs.wire.declared.reconfiguration.ReconfigurationResponseResult.{ReconfigurationResponseResult}
use Rattle.dcsctp_spec_lemmas.specs.wire.declared.reconfiguration.ReconfigurationResponseResult.TheVariants.{SuccessNothingToDo, SuccessPerformed}
use Rattle.dcsctp_spec_lemmas.specs.types.declared.association.Pair.{Pair}
use Rattle.dcsctp_spec_lemmas.specs.types.declared.association.Held.{Held}
use Rattle.dcsctp_spec_lemmas.specs.types.Offer.{Offer, negotiated_capabilities}
use Rattle.dcsctp_spec_lemmas.specs.spec.Cookie.{Cookie, cookie_of_bytes}
use Rattle.dcsctp_spec_lemmas.specs.spec.Reconfiguration.{ResetParameter, outgoing_reset_request, incoming_reset_request, reconfiguration_response, other_reset_parameter}
use Rattle.dcsctp_spec_lemmas.specs.spec.Packet.{Introduction, Content, init, init_ack, cookie_echo, cookie_ack, re_config, plain}
use Rattle.dcsctp_spec_lemmas.specs.spec.endpoint.Endpoint.{Core, closed, cookie_wait, cookie_echoed, open_in}
use Rattle.dcsctp_spec_lemmas.specs.spec.association.Effect.{AssociationIdentity, Effect, draws, sends, holds, connects, completes, resumes}
use Rattle.dcsctp_spec_runs.specs.Past.{HasEffect, WasPerformed}

-- Names: `mine` and `theirs` are the pasts of the side that is spoken of and of the other, `my_offer` and
-- `their_offer` what the two announce.

-- the number that the peer's last one begins with
abbrev pub number_before : Pair → ℕ
number_before pair = (pair.first_tsn + (2 ^ 32 - 1)) % 2 ^ 32

-- an association with what was negotiated
abbrev pub agreed_link : Offer → Offer → Pair → Pair → AssociationIdentity
agreed_link my_offer their_offer my peer = record { my = my; peer = peer; capabilities = negotiated_capabilities my_offer their_offer }

-- ---- what a packet says truly

-- INIT ACK: its cookie holds the pair that it carries and the pair and offer of the INIT that it answers.
pub record TrueInitAck (my_offer their_offer : Offer) (mine theirs : List Effect) (tag : ℕ) (introduction : Introduction) (bytes : List ℕ) : Type 0 where
  pub cookie : Cookie
  pub reads : cookie_of_bytes bytes ≡ Ok cookie
  pub under : tag ≡ cookie.addressee.tag
  pub pair : cookie.maker ≡ introduction.pair
  pub maker : HasEffect (draws cookie.maker) mine
  pub addressee : HasEffect (draws cookie.addressee) theirs
  pub offer : cookie.offer ≡ their_offer
  pub announced : negotiated_capabilities their_offer introduction.offer ≡ negotiated_capabilities their_offer my_offer

-- COOKIE ECHO: its cookie was made by the other side, and the sender held the association of its pairs.
pub record TrueEcho (my_offer their_offer : Offer) (mine theirs : List Effect) (tag : ℕ) (bytes : List ℕ) : Type 0 where
  pub cookie : Cookie
  pub reads : cookie_of_bytes bytes ≡ Ok cookie
  pub under : tag ≡ cookie.maker.tag
  pub maker : HasEffect (draws cookie.maker) theirs
  pub addressee : HasEffect (draws cookie.addressee) mine
  pub offer : cookie.offer ≡ my_offer
  pub held : HasEffect (holds (agreed_link my_offer their_offer cookie.addressee cookie.maker)) mine

-- COOKIE ACK: the other side echoed a cookie, and the sender held the association of its pairs.
pub record TrueAck (my_offer their_offer : Offer) (mine theirs : List Effect) (tag : ℕ) : Type 0 where
  pub header : ℕ
  pub bytes : List ℕ
  pub behind : List Content
  pub echoed : HasEffect (sends (record { tag = header; contents = cookie_echo bytes ∷ behind })) theirs
  pub cookie : Cookie
  pub reads : cookie_of_bytes bytes ≡ Ok cookie
  pub under : tag ≡ cookie.addressee.tag
  pub held : HasEffect (holds (agreed_link my_offer their_offer cookie.maker cookie.addressee)) mine

-- An answer to a reset request: one that was performed was performed under the pair of the packet's tag, or the one before was.
pub record TruePerformed (mine theirs : List Effect) (tag number : ℕ) : Type 0 where
  pub pair : Pair
  pub under : tag ≡ pair.tag
  pub drawn : HasEffect (draws pair) theirs
  pub performed : WasPerformed pair number mine

-- With nothing to do, it has the number before that pair's first TSN.
pub record TrueNothing (theirs : List Effect) (tag number : ℕ) : Type 0 where
  pub pair : Pair
  pub under : tag ≡ pair.tag
  pub drawn : HasEffect (draws pair) theirs
  pub before : number ≡ number_before pair

abbrev pub TrueResult : List Effect → List Effect → ℕ → ℕ → ReconfigurationResponseResult → Type 0
TrueResult mine theirs tag number SuccessNothingToDo = TrueNothing theirs tag number
TrueResult mine theirs tag number SuccessPerformed = TruePerformed mine theirs tag number
TrueResult mine theirs tag number result = Unit {0}

-- No Incoming SSN Reset Request is ever sent.
abbrev pub TrueParameter : List Effect → List Effect → ℕ → ResetParameter → Type 0
TrueParameter mine theirs tag (outgoing_reset_request number answered reset) = Unit {0}
TrueParameter mine theirs tag (incoming_reset_request number streams) = ⊥
TrueParameter mine theirs tag (reconfiguration_response number result) = TrueResult mine theirs tag number result
TrueParameter mine theirs tag (other_reset_parameter parameter) = Unit {0}

abbrev pub TrueParameters : List Effect → List Effect → ℕ → List ResetParameter → Type 0
TrueParameters mine theirs tag [] = Unit {0}
TrueParameters mine theirs tag (parameter ∷ parameters) = TrueParameter mine theirs tag parameter × TrueParameters mine theirs tag parameters

-- the first chunk of a packet
abbrev pub TrueFront : Offer → Offer → List Effect → List Effect → ℕ → Content → Type 0
TrueFront my_offer their_offer mine theirs tag (init introduction) = HasEffect (draws introduction.pair) mine × (introduction.offer ≡ my_offer)
TrueFront my_offer their_offer mine theirs tag (init_ack introduction None) = ⊥
TrueFront my_offer their_offer mine theirs tag (init_ack introduction (Some bytes)) = TrueInitAck my_offer their_offer mine theirs tag introduction bytes
TrueFront my_offer their_offer mine theirs tag (cookie_echo bytes) = TrueEcho my_offer their_offer mine theirs tag bytes
TrueFront my_offer their_offer mine theirs tag cookie_ack = TrueAck my_offer their_offer mine theirs tag
TrueFront my_offer their_offer mine theirs tag (re_config parameters) = TrueParameters mine theirs tag parameters
TrueFront my_offer their_offer mine theirs tag content = Unit {0}

-- Outgoing SSN Reset Requests alone
abbrev pub Requests : List ResetParameter → Type 0
Requests [] = Unit {0}
Requests (outgoing_reset_request number answered reset ∷ parameters) = Requests parameters
Requests (parameter ∷ parameters) = ⊥

-- chunks that may follow the first: those that don't concern an association, and requests to reset streams
abbrev pub Behind : Content → Type 0
Behind (plain chunk) = Unit {0}
Behind (re_config parameters) = Requests parameters
Behind content = ⊥

abbrev pub AllBehind : List Content → Type 0
AllBehind [] = Unit {0}
AllBehind (content ∷ contents) = Behind content × AllBehind contents

abbrev pub TrueContents : Offer → Offer → List Effect → List Effect → ℕ → List Content → Type 0
TrueContents my_offer their_offer mine theirs tag [] = Unit {0}
TrueContents my_offer their_offer mine theirs tag (content ∷ contents) = TrueFront my_offer their_offer mine theirs tag content × AllBehind contents

-- ---- all that a side did

-- the other side holds the crossed association, or held it
pub record Found (my_offer their_offer : Offer) (theirs : List Effect) (link : AssociationIdentity) : Type 0 where
  pub capabilities : link.capabilities ≡ negotiated_capabilities my_offer their_offer
  pub held : HasEffect (holds (agreed_link their_offer my_offer link.peer link.my)) theirs

-- Of two sides none is restored.
abbrev pub TrueEffect : Offer → Offer → List Effect → List Effect → Effect → Type 0
TrueEffect my_offer their_offer mine theirs (sends packet) = TrueContents my_offer their_offer mine theirs packet.tag packet.contents
TrueEffect my_offer their_offer mine theirs (connects link) = Found my_offer their_offer theirs link
TrueEffect my_offer their_offer mine theirs (completes my number) = WasPerformed my number theirs ⊎ (number ≡ number_before my)
TrueEffect my_offer their_offer mine theirs (resumes link own last) = ⊥
TrueEffect my_offer their_offer mine theirs effect = Unit {0}

-- Each effect is true by what came before it, and by what the other did so far.
abbrev pub TruePast : Offer → Offer → List Effect → List Effect → Type 0
TruePast my_offer their_offer [] theirs = Unit {0}
TruePast my_offer their_offer (newest ∷ earlier) theirs = TrueEffect my_offer their_offer earlier theirs newest × TruePast my_offer their_offer earlier theirs

-- effects that come in order
abbrev pub TrueEffects : Offer → Offer → List Effect → List Effect → List Effect → Type 0
TrueEffects my_offer their_offer mine theirs [] = Unit {0}
TrueEffects my_offer their_offer mine theirs (effect ∷ effects) =
    TrueEffect my_offer their_offer mine theirs effect × TrueEffects my_offer their_offer (effect ∷ mine) theirs effects

-- ---- the association

pub record PeerFacts (my_offer their_offer : Offer) (mine theirs : List Effect) (my : Pair) (held : Held) : Type 0 where
  pub my_drawn : HasEffect (draws my) mine
  pub peer_drawn : HasEffect (draws held.peer) theirs
  pub capabilities : held.capabilities ≡ negotiated_capabilities my_offer their_offer
  pub shown : HasEffect (holds (agreed_link my_offer their_offer my held.peer)) mine
  pub nothing : held.peer_result ≡ SuccessNothingToDo → held.peer_last ≡ number_before held.peer
  pub performed : held.peer_result ≡ SuccessPerformed → WasPerformed held.peer held.peer_last mine

-- No cookie whose addressee has this tag was ever echoed.
abbrev pub NoEcho : ℕ → List Effect → Type 0
NoEcho tag past =
    (header : ℕ) (bytes : List ℕ) (behind : List Content) (cookie : Cookie)
    → HasEffect (sends (record { tag = header; contents = cookie_echo bytes ∷ behind })) past → cookie_of_bytes bytes ≡ Ok cookie → cookie.addressee.tag ≢ tag

-- None but this one.
abbrev pub OneEcho : ℕ → List ℕ → List Effect → Type 0
OneEcho tag echoed past =
    (header : ℕ) (bytes : List ℕ) (behind : List Content) (cookie : Cookie)
    → HasEffect (sends (record { tag = header; contents = cookie_echo bytes ∷ behind })) past → cookie_of_bytes bytes ≡ Ok cookie → cookie.addressee.tag ≡ tag → bytes ≡ echoed

-- the cookie of the association that is echoed
pub record EchoedCookie (my_offer : Offer) (my : Pair) (held : Held) (bytes : List ℕ) : Type 0 where
  pub cookie : Cookie
  pub reads : cookie_of_bytes bytes ≡ Ok cookie
  pub maker : cookie.maker ≡ held.peer
  pub addressee : cookie.addressee ≡ my
  pub offer : cookie.offer ≡ my_offer

abbrev pub TrueCore : Offer → Offer → List Effect → List Effect → Core → Type 0
TrueCore my_offer their_offer mine theirs closed = Unit {0}
TrueCore my_offer their_offer mine theirs (cookie_wait my) = HasEffect (draws my) mine × NoEcho my.tag mine
TrueCore my_offer their_offer mine theirs (cookie_echoed my held bytes) =
    PeerFacts my_offer their_offer mine theirs my held × OneEcho my.tag bytes mine × EchoedCookie my_offer my held bytes
TrueCore my_offer their_offer mine theirs (open_in phase my held) = PeerFacts my_offer their_offer mine theirs my held
