-- What the case of a COOKIE ECHO is to the machine, the peer that its cookie shows, and whether what was sent goes to it.
use Rattle.std.specs.Prelude.{Bool, false, Option, None, Some}
use Rattle.dcsctp_core.specs.types.declared.association.Pair.{Pair}
use Rattle.dcsctp_core.specs.types.declared.association.Held.{Held}
use Rattle.dcsctp_core.specs.types.declared.options.Options.{Options}
use Rattle.dcsctp_core.specs.types.Offer.{offer_of, negotiated_capabilities}
use Rattle.dcsctp_core.specs.spec.Cookie.{Cookie}
use Rattle.dcsctp_core.specs.spec.association.CookieEchoChanges.{Resolution, establish_new, restart, simultaneous_init, discard, maintain_existing, invalid_tag, stale}
use Rattle.dcsctp_core.specs.spec.endpoint.CookieEchoOutcomes.{window_by_cookie, outlasts}
use Rattle.dcsctp_core.specs.spec.endpoint.Endpoint.{Endpoint, Core, cookie_echoed}
use Rattle.dcsctp_core.specs.spec.queues.Transfer.{Transfer}
use Rattle.dcsctp_core.specs.declared.transmission_control_block.Peer.{Peer}
use Rattle.dcsctp_core_handshake.specs.declared.cookie_resolution.CookieResolution.{CookieResolution}
use Rattle.dcsctp_core_handshake.specs.declared.cookie_resolution.CookieResolution.TheVariants.{EstablishNew, RestartDetected, SimultaneousInit, Discard, MaintainExisting, InvalidTag, Stale}

-- the case of a COOKIE ECHO
abbrev pub resolution_of : CookieResolution → Resolution
resolution_of EstablishNew = establish_new
resolution_of RestartDetected = restart
resolution_of SimultaneousInit = simultaneous_init
resolution_of Discard = discard
resolution_of MaintainExisting = maintain_existing
resolution_of InvalidTag = invalid_tag
resolution_of Stale = stale

-- the peer that a cookie shows
abbrev pub peer_by_cookie : Options → Cookie → Peer
peer_by_cookie options cookie =
    record { pair = cookie.addressee; a_rwnd = window_by_cookie options cookie; capabilities = negotiated_capabilities (offer_of options) cookie.offer }

-- Does what was sent outlast the peer, by this cookie?
abbrev pub outlasts_if_connected : Endpoint → Pair → Held → Cookie → Option Transfer → Bool
outlasts_if_connected e mine held cookie None = false
outlasts_if_connected e mine held cookie (Some transfer) = outlasts e mine held cookie transfer

-- It does only while a COOKIE ACK is awaited.
abbrev pub outlasts_while_echoed : Endpoint → Core → Cookie → Bool
outlasts_while_echoed e (cookie_echoed mine held echoed) cookie = outlasts_if_connected e mine held cookie e.queues.transfer
outlasts_while_echoed e core cookie = false
