-- A socket whose COOKIE ECHO, or the COOKIE ACK to it, was lost, and the data behind it: messages were queued before.
use Rattle.std.specs.Prelude.{◌≡◌, ℕ, false, max, None, Some, List, Ok}
use Rattle.dcsctp_spec_lemmas.specs.wire.ReadsBack.{FitsEcho}
use Rattle.dcsctp_spec_lemmas.specs.types.declared.capabilities.Capabilities.{Capabilities}
use Rattle.dcsctp_spec_lemmas.specs.types.Offer.{offer_of, negotiated_capabilities}
use Rattle.dcsctp_spec_lemmas.specs.spec.Cookie.{Cookie, cookie_of_bytes}
use Rattle.dcsctp_spec_lemmas.specs.spec.association.HandshakeChanges.{new_held}
use Rattle.dcsctp_spec_lemmas.specs.spec.queues.Transfer.{Transfer}
use Rattle.dcsctp_spec_lemmas.specs.spec.endpoint.Endpoint.{Endpoint, closed, cookie_echoed, open_in, established}
use Rattle.dcsctp_spec_lemmas.specs.spec.endpoint.CookieEchoOutcomes.{is_spent}
use Rattle.dcsctp_spec_lemmas.specs.spec.endpoint.HeartbeatOutcomes.{is_exhausted}
use Rattle.dcsctp_spec_lemmas.specs.spec.endpoint.MessageOutcomes.{awaits_opening}
use Rattle.dcsctp_spec_lemmas.specs.spec.endpoint.Turn.{with_clock}
use Rattle.dcsctp_delivery_directions.specs.sending.Losing.{AreOpen}
use Rattle.dcsctp_theorem_progress.specs.Retries.{RetriesT1, t1_expiry}

-- It sends data as these capabilities say. No stream is to be reset.
pub record FlowsAsAgreed (e : Endpoint) (capabilities : Capabilities) : Type 0 where
  pub transfer : Transfer
  pub known : e.queues.transfer ≡ Some transfer
  pub interleaves : transfer.retransmission.outstanding.is_interleaved ≡ capabilities.message_interleaving
  pub abandons : transfer.retransmission.partial_reliability ≡ capabilities.partial_reliability
  pub unpaused : AreOpen e.queues.queue.streams

-- It awaits a COOKIE ACK. It may send data meanwhile, and data may have come, behind a COOKIE ACK that was lost. The cookie that it
-- echoes names its own pair, the peer's, and what it offers; both offers were negotiated. No shutdown was asked for.
pub record EchoesWithData (e f : Endpoint) (cookie : Cookie) (bytes : List ℕ) : Type 0 where
  pub core : e.core ≡ cookie_echoed cookie.addressee (new_held cookie.addressee cookie.maker (negotiated_capabilities (offer_of e.options) (offer_of f.options))) bytes
  pub reads : cookie_of_bytes bytes ≡ Ok cookie
  pub fits : FitsEcho bytes
  pub offer : cookie.offer ≡ offer_of e.options
  pub data_flows : FlowsAsAgreed e (negotiated_capabilities (offer_of e.options) (offer_of f.options))
  pub asks : awaits_opening e e.core ≡ false
  pub errors : is_exhausted e.options.max_retransmissions e.error_count ≡ false

-- It never got the COOKIE ECHO, and takes the cookie. Messages may be queued, and no stream is to be reset.
pub record TakesCookie (f : Endpoint) (cookie : Cookie) : Type 0 where
  pub core : f.core ≡ closed
  pub unheld : f.queues.transfer ≡ None
  pub unpaused : AreOpen f.queues.queue.streams
  pub taken : is_spent f closed cookie.maker.tag cookie ≡ false

-- It is Established by this cookie: its COOKIE ACK was lost, and maybe data behind it. It may have received data, too. How old the
-- cookie is doesn't matter.
pub record HasCookie (e f : Endpoint) (cookie : Cookie) : Type 0 where
  pub core : f.core ≡ open_in established cookie.maker (new_held cookie.maker cookie.addressee (negotiated_capabilities (offer_of f.options) (offer_of e.options)))
  pub data_flows : FlowsAsAgreed f (negotiated_capabilities (offer_of f.options) (offer_of e.options))

-- That many restarts of T1 are left. When T1 expires for the last of these times, the other takes the cookie.
pub record ResendsEcho (e f : Endpoint) (cookie : Cookie) (bytes : List ℕ) (more : ℕ) : Type 0 where
  pub echoed : EchoesWithData e f cookie bytes
  pub t1 : RetriesT1 e more
  pub other : TakesCookie (with_clock (max f.moment (t1_expiry e more)) f) cookie
