-- The cookie that a socket echoes is one that the other made for it, in an honest run (RFC 9260, section 5.1).
use Rattle.std.specs.Prelude.{◌≡◌, ℕ, false, None, Some, List, Ok}
use Rattle.dcsctp_spec_lemmas.specs.wire.ReadsBack.{FitsEcho}
use Rattle.dcsctp_spec_lemmas.specs.types.declared.association.Held.{Held}
use Rattle.dcsctp_spec_lemmas.specs.types.declared.association.Pair.{Pair}
use Rattle.dcsctp_spec_lemmas.specs.types.declared.options.Options.{Options}
use Rattle.dcsctp_spec_lemmas.specs.types.declared.schedule.Side.{Side}
use Rattle.dcsctp_spec_lemmas.specs.types.Offer.{offer_of, negotiated_capabilities}
use Rattle.dcsctp_spec_lemmas.specs.types.Schedule.{AreHonest}
use Rattle.dcsctp_spec_lemmas.specs.spec.Cookie.{Cookie, cookie_of_bytes}
use Rattle.dcsctp_spec_lemmas.specs.spec.association.HandshakeChanges.{new_held}
use Rattle.dcsctp_spec_lemmas.specs.spec.queues.Transfer.{Transfer}
use Rattle.dcsctp_spec_lemmas.specs.spec.endpoint.Endpoint.{Endpoint, cookie_echoed}
use Rattle.dcsctp_spec_lemmas.specs.spec.endpoint.FlushOutcomes.{IsIdle}
use Rattle.dcsctp_spec_lemmas.specs.spec.endpoint.HeartbeatOutcomes.{is_exhausted}
use Rattle.dcsctp_spec_lemmas.specs.spec.endpoint.MessageOutcomes.{awaits_opening}
use Rattle.dcsctp_spec_lemmas.specs.spec.endpoint.TimeTurns.{delay_deadline}
use Rattle.dcsctp_spec_lemmas.specs.spec.endpoint.CallTurns.{Transition}
use Rattle.dcsctp_spec_lemmas.specs.spec.association.Effect.{draws}
use Rattle.dcsctp_spec_runs.specs.Past.{HasEffect}
use Rattle.dcsctp_spec_runs.specs.Sockets.{PerformedAct, Both, of_side, of_other, turns_after, endpoint_after, SocketRun, acts_of}
use Rattle.dcsctp_delivery_directions.specs.sending.Losing.{AreOpen}
use Rattle.dcsctp_theorem_sockets.specs.Agreement.{recorded_past, AreUsable, AreFresh}
use Rattle.dcsctp_theorem_progress.specs.Rounds.{this_endpoint, other_endpoint}
use Rattle.dcsctp_theorem_progress.specs.LostInits.{KeepsOptions}
use Rattle.dcsctp_theorem_progress.specs.Cookies.{OwesNothing, HasEchoed}
use Rattle.dcsctp_theorem_progress.specs.DataEchoes.{EchoesWithData}

-- The bytes read as a cookie of both pairs and of what this side offers, and may be sent. Its maker's pair is one that the other
-- drew, and the peer's. The association has what both offers have in common.
pub record IsOthersCookie (mine theirs : Options) (others : List Transition) (p : Pair) (held : Held) (bytes : List ℕ) : Type 0 where
  pub cookie : Cookie
  pub reads : cookie_of_bytes bytes ≡ Ok cookie
  pub fits : FitsEcho bytes
  pub addressee : cookie.addressee ≡ p
  pub maker : cookie.maker ≡ held.peer
  pub drawn : HasEffect (draws held.peer) (recorded_past others)
  pub offer : cookie.offer ≡ offer_of mine
  pub capabilities : held.capabilities ≡ negotiated_capabilities (offer_of mine) (offer_of theirs)

-- If this side awaits a COOKIE ACK, its cookie is so.
abbrev pub EchoesOthersCookie : Both Options → Side → Both (List Transition) → Type 0
EchoesOthersCookie options side turns =
    (p : Pair) (held : Held) (bytes : List ℕ) → (endpoint_after (of_side side options) (of_side side turns)).core ≡ cookie_echoed p held bytes
    → IsOthersCookie (of_side side options) (of_other side options) (of_other side turns) p held bytes

-- At the end of an honest run in which no side drew a tag twice.
abbrev pub EchoOthersCookies : Both Options → List PerformedAct → Type 0
EchoOthersCookies options run = AreHonest (acts_of run) → AreFresh (turns_after run) → (side : Side) → EchoesOthersCookie options side (turns_after run)

-- ---- so what is said of the cookie needs no premise of its own

-- It awaits a COOKIE ACK. No request to reset streams was begun, no message queued, and no shutdown asked for.
pub record AwaitsCookieAck (e : Endpoint) (p : Pair) (held : Held) (bytes : List ℕ) : Type 0 where
  pub core : e.core ≡ cookie_echoed p held bytes
  pub unchanged : held ≡ new_held p held.peer held.capabilities
  pub idle : IsIdle e
  pub owes : OwesNothing e.queues.transfer
  pub delay : delay_deadline e.queues.transfer ≡ None
  pub asks : awaits_opening e e.core ≡ false
  pub errors : is_exhausted e.options.max_retransmissions e.error_count ≡ false

-- At the end of an honest run in which no side drew a tag twice, and no setting was changed.
abbrev pub AwaitingEchoes : Both Options → List PerformedAct → Type 0
AwaitingEchoes options run =
    AreHonest (acts_of run) → AreFresh (turns_after run) → (side : Side) → KeepsOptions (of_side side options) (this_endpoint options side run)
    → KeepsOptions (of_other side options) (other_endpoint options side run) → (p : Pair) (held : Held) (bytes : List ℕ) → AwaitsCookieAck (this_endpoint options side run) p held bytes
    → (cookie : Cookie) × HasEchoed (this_endpoint options side run) (other_endpoint options side run) cookie bytes

-- It awaits a COOKIE ACK, and may send and receive data meanwhile. No request to reset streams was begun, and no shutdown was asked
-- for.
pub record AwaitsWithData (e : Endpoint) (p : Pair) (held : Held) (bytes : List ℕ) : Type 0 where
  pub core : e.core ≡ cookie_echoed p held bytes
  pub unchanged : held ≡ new_held p held.peer held.capabilities
  pub transfer : Transfer
  pub known : e.queues.transfer ≡ Some transfer
  pub unpaused : AreOpen e.queues.queue.streams
  pub asks : awaits_opening e e.core ≡ false
  pub errors : is_exhausted e.options.max_retransmissions e.error_count ≡ false

-- So it is at the end of such a run. The data is sent as both have negotiated.
abbrev pub AwaitingDataEchoes : Both Options → List PerformedAct → Type 0
AwaitingDataEchoes options run =
    AreHonest (acts_of run) → AreFresh (turns_after run) → (side : Side) → KeepsOptions (of_side side options) (this_endpoint options side run)
    → KeepsOptions (of_other side options) (other_endpoint options side run) → (p : Pair) (held : Held) (bytes : List ℕ) → AwaitsWithData (this_endpoint options side run) p held bytes
    → (cookie : Cookie) × EchoesWithData (this_endpoint options side run) (other_endpoint options side run) cookie bytes

pub record KnowCookies (options : Both Options) (run : List PerformedAct) : Type 0 where
  pub others : EchoOthersCookies options run
  pub awaiting : AwaitingEchoes options run
  pub awaiting_data : AwaitingDataEchoes options run

abbrev pub CookiesAreTheOthers : Type 0
CookiesAreTheOthers = (options : Both Options) (run : List PerformedAct) → AreUsable options → SocketRun options run → KnowCookies options run
