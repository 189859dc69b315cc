-- Where there is no peer, no requests are kept.
use Rattle.std.proofs.Common.{◌≡◌, ℕ, Option, None, refl, sym, subst}
use Rattle.dcsctp_spec_lemmas.specs.spec.endpoint.Endpoint.{Endpoint, Core, closed, cookie_wait, cookie_echoed, open_in, OutstandingRequest}
use Rattle.dcsctp_spec_lemmas.specs.spec.association.Effect.{identity_of_core}
use Rattle.dcsctp_delivery_directions.specs.directions.Directions.{Asking, nothing_asked}
use Rattle.dcsctp_delivery_sockets.specs.turns.Asking.{Own, own_of_core, own_of, AsksFit, SomeFit}

none_kept : (core : Core) (request : Option OutstandingRequest) → identity_of_core core ≡ None → own_of_core core request ≡ None
none_kept closed request none = refl
none_kept (cookie_wait my) request none = refl
none_kept (cookie_echoed my held cookie) request none = absurd (cc)
none_kept (open_in phase my held) request none = absurd (cc)

pub unlinked_fit : (e : Endpoint) (first : ℕ) (asking : Asking) → identity_of_core e.core ≡ None → AsksFit first (own_of e) asking
unlinked_fit e first asking none = subst (λ (own : Option Own). AsksFit first own asking) (sym (none_kept e.core e.outstanding none)) tt

pub unlinked_some : (e : Endpoint) → identity_of_core e.core ≡ None → SomeFit (own_of e)
unlinked_some e none = record { first = 0; asking = nothing_asked; fits = unlinked_fit e 0 nothing_asked none }
