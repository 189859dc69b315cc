-- A socket whose COOKIE ECHO, or the COOKIE ACK to it, was lost.
use Rattle.std.specs.Prelude.{◌≡◌, ◌<◌, ℕ, false, max, Option, None, Some, List, Ok}
use Rattle.dcsctp_spec_lemmas.specs.wire.ReadsBack.{FitsEcho}
use Rattle.dcsctp_spec_lemmas.specs.types.Offer.{offer_of, negotiated_capabilities}
use Rattle.dcsctp_spec_lemmas.specs.spec.Cookie.{Cookie, cookie_of_bytes}
use Rattle.dcsctp_spec_lemmas.specs.spec.queues.Tracker.{owes_acknowledgement, is_acknowledgement_due}
use Rattle.dcsctp_spec_lemmas.specs.spec.queues.Transfer.{Transfer, empty_queues}
use Rattle.dcsctp_spec_lemmas.specs.spec.endpoint.Endpoint.{Endpoint, closed, cookie_echoed, open_in, established}
use Rattle.dcsctp_spec_lemmas.specs.spec.endpoint.CookieEchoOutcomes.{is_spent}
use Rattle.dcsctp_spec_lemmas.specs.spec.endpoint.FlushOutcomes.{IsIdle}
use Rattle.dcsctp_spec_lemmas.specs.spec.endpoint.HeartbeatOutcomes.{is_exhausted}
use Rattle.dcsctp_spec_lemmas.specs.spec.endpoint.MessageOutcomes.{awaits_opening}
use Rattle.dcsctp_spec_lemmas.specs.spec.endpoint.TimeTurns.{delay_deadline, next_moment}
use Rattle.dcsctp_spec_lemmas.specs.spec.endpoint.Turn.{with_clock}
use Rattle.dcsctp_spec_lemmas.specs.spec.association.HandshakeChanges.{new_held}
use Rattle.dcsctp_theorem_progress.specs.LostInits.{DueT1}

abbrev pub OwesNothing : Option Transfer → Type 0
OwesNothing None = Unit {0}
OwesNothing (Some transfer) = (owes_acknowledgement transfer.tracker ≡ false) × (is_acknowledgement_due transfer.tracker ≡ false)

-- It awaits a COOKIE ACK. The cookie that it echoes names its own pair, the peer's, and what it offers; both offers were negotiated
-- (in an honest run: `AwaitingEchoes`). No request to reset streams was begun, no message queued, and no shutdown asked for.
pub record HasEchoed (e f : Endpoint) (cookie : Cookie) (bytes : List ℕ) : Type 0 where
  pub core : e.core ≡ cookie_echoed cookie.addressee (new_held cookie.addressee cookie.maker (negotiated_capabilities (offer_of e.options) (offer_of f.options))) bytes
  pub reads : cookie_of_bytes bytes ≡ Ok cookie
  pub fits : FitsEcho bytes
  pub offer : cookie.offer ≡ offer_of e.options
  pub idle : IsIdle e
  pub owes : OwesNothing e.queues.transfer
  pub delay : delay_deadline e.queues.transfer ≡ None
  pub asks : awaits_opening e e.core ≡ false
  pub errors : is_exhausted e.options.max_retransmissions e.error_count ≡ false

-- T1 is due at this moment, and may restart.
pub record AwaitsAck (e f : Endpoint) (cookie : Cookie) (bytes : List ℕ) (moment : ℕ) : Type 0 where
  pub echoed : HasEchoed e f cookie bytes
  pub t1 : DueT1 e moment

-- The other never got the COOKIE ECHO, and still takes the cookie: it isn't stale, and its tag and its tie tag are those of no
-- association that is over.
pub record MissedEcho (f : Endpoint) (cookie : Cookie) : Type 0 where
  pub core : f.core ≡ closed
  pub empty : f.queues ≡ empty_queues f.options
  pub taken : is_spent f closed cookie.maker.tag cookie ≡ false

-- It is Established by this cookie: its COOKIE ACK was lost. How old the cookie is doesn't matter.
pub record HadEcho (e f : Endpoint) (cookie : Cookie) : Type 0 where
  pub core : f.core ≡ open_in established cookie.maker (new_held cookie.maker cookie.addressee (negotiated_capabilities (offer_of f.options) (offer_of e.options)))
  pub idle : IsIdle f
  pub owes : OwesNothing f.queues.transfer

-- It never got the cookie and would take it now, or it has it.
pub data KnowsCookie (e f : Endpoint) (cookie : Cookie) : Type 0 where
  not_yet : MissedEcho f cookie → KnowsCookie e f cookie
  already : HadEcho e f cookie → KnowsCookie e f cookie

-- It acknowledges a COOKIE ECHO that comes at this moment, or later by its own clock: it is closed and takes the cookie then; or it
-- has it already, and none of its own timers is due by then.
pub data AnswersEcho (e f : Endpoint) (cookie : Cookie) (moment : ℕ) : Type 0 where
  missed : MissedEcho (with_clock (max f.moment moment) f) cookie → AnswersEcho e f cookie moment
  had : HadEcho e f cookie → moment < next_moment f → AnswersEcho e f cookie moment
