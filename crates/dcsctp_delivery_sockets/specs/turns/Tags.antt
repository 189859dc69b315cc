-- Data is handled only under our own tag, unless its packet begins with a COOKIE ECHO (RFC 9260,
-- sections 5.2.4 and 8.5).
use Rattle.std.specs.Prelude.{◌≡◌, ℕ, false, None, List, [], ◌∷◌, Ok}
use Rattle.dcsctp_spec_lemmas.specs.spec.Admission.{all_chunks, admits, first_abort, first_shutdown_complete, is_echo_in_front, is_single_init}
use Rattle.dcsctp_spec_lemmas.specs.spec.Cookie.{Cookie, cookie_of_bytes}
use Rattle.dcsctp_spec_lemmas.specs.spec.endpoint.Endpoint.{Endpoint, Core, closed, cookie_wait, cookie_echoed, open_in, own_tag}
use Rattle.dcsctp_spec_lemmas.specs.spec.endpoint.Event.{packets_of_events}
use Rattle.dcsctp_spec_lemmas.specs.spec.endpoint.Following.{next_chunk}
use Rattle.dcsctp_spec_lemmas.specs.spec.endpoint.Outcome.{Outcome}
use Rattle.dcsctp_spec_lemmas.specs.spec.Packet.{Packet, Emission}
use Rattle.dcsctp_spec_lemmas.specs.spec.endpoint.CookieEchoOutcomes.{CookieEchoTurn}
use Rattle.dcsctp_spec_lemmas.specs.spec.endpoint.FlushOutcomes.{Answer, FlushAnswers, flush_of}

-- This holds for a packet whose chunks are all handled, that has no ABORT and no SHUTDOWN COMPLETE, doesn't begin with a COOKIE
-- ECHO and isn't one INIT.
abbrev pub TagsAreOwn : Type 0
TagsAreOwn =
    (core : Core) (packet : Packet) → first_abort packet.contents ≡ None → first_shutdown_complete packet.contents ≡ None → is_echo_in_front packet.contents ≡ false
    → is_single_init packet.contents ≡ false → admits core packet ≡ all_chunks → packet.tag ≡ own_tag core

-- A COOKIE ECHO whose header carries the tag that the cookie's maker had chosen, as that of an honest peer does, leaves an
-- association under that tag, or drops the rest of its packet (RFC 9260, section 5.2.4).
abbrev pub EchoesBearOwnTag : Type 0
EchoesBearOwnTag =
    (e : Endpoint) (header : ℕ) (bytes : List ℕ) (cookie : Cookie) (o : Outcome) → cookie_of_bytes bytes ≡ Ok cookie → header ≡ cookie.maker.tag → CookieEchoTurn e header bytes o
    → o.following ≡ next_chunk → own_tag o.after.core ≡ header

-- It is the peer's tag, if there is a peer.
abbrev pub IsPeerTag : Core → ℕ → Type 0
IsPeerTag closed tag = Unit {0}
IsPeerTag (cookie_wait my) tag = Unit {0}
IsPeerTag (cookie_echoed my held cookie) tag = held.peer.tag ≡ tag
IsPeerTag (open_in phase my held) tag = held.peer.tag ≡ tag

-- All these packets go to this tag.
abbrev pub AllTo : ℕ → List Emission → Type 0
AllTo tag [] = Unit {0}
AllTo tag (emission ∷ emissions) = (emission.packet.tag ≡ tag) × AllTo tag emissions

-- Every packet of a flush goes to the tag of its first, where that is the peer's.
abbrev pub FlushesGoToPeer : Type 0
FlushesGoToPeer =
    (e : Endpoint) (draft : Emission) (answers : List Answer) → IsPeerTag e.core draft.packet.tag → FlushAnswers e draft answers → AllTo draft.packet.tag (packets_of_events (flush_of e draft answers).events)
