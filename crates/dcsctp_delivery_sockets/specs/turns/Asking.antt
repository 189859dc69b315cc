-- What a socket keeps of its own requests to reset streams, and what it has begun of them in its
-- association (RFC 6525, section 5.1.2).
use Rattle.std.specs.Prelude.{◌≡◌, ◌+◌, ◌%◌, ◌^◌, ℕ, Option, None, Some, List, [], ◌∷◌, ◌++◌, length, false}
use Rattle.dcsctp_spec_lemmas.specs.types.declared.association.Held.{Held}
use Rattle.dcsctp_spec_lemmas.specs.spec.endpoint.Endpoint.{Endpoint, Core, closed, cookie_wait, cookie_echoed, open_in, OutstandingRequest}
use Rattle.dcsctp_spec_lemmas.specs.spec.Reconfiguration.{RequestedReset, renewed_reset}
use Rattle.dcsctp_spec_lemmas.specs.spec.association.FlushChanges.{next_number}
use Rattle.dcsctp_spec_lemmas.specs.spec.endpoint.BegunResets.{BegunReset}
use Rattle.dcsctp_spec_lemmas.specs.spec.endpoint.ReconfigurationOutcomes.{reset_again}
use Rattle.dcsctp_delivery_directions.specs.directions.Directions.{Asking}

-- the number of the request that has no end, the number of the next one, and what that request wants, as it is sent again
pub record Own : Type 0 where
  pub number : Option ℕ
  pub next : ℕ
  pub again : RequestedReset

abbrev pub own_with : Held → Option OutstandingRequest → Own
own_with held request = record { number = held.own_outstanding; next = held.own_next; again = reset_again request }

-- None: there is no peer.
abbrev pub own_of_core : Core → Option OutstandingRequest → Option Own
own_of_core closed request = None
own_of_core (cookie_wait my) request = None
own_of_core (cookie_echoed my held cookie) request = Some (own_with held request)
own_of_core (open_in phase my held) request = Some (own_with held request)

abbrev pub own_of : Endpoint → Option Own
own_of e = own_of_core e.core e.outstanding

-- once the request that has no end continues under the next number
abbrev pub renewed_own : Own → Own
renewed_own own = record own { number = Some own.next; next = next_number own.next; again = renewed_reset own.again }

-- ---- what was begun

-- The numbers of the requests go up by one from the first TSN.
abbrev pub AreNumbered : ℕ → List BegunReset → Type 0
AreNumbered first [] = Unit {0}
AreNumbered first (begun ∷ earlier) = (begun.number ≡ (first + length earlier) % 2 ^ 32) × AreNumbered first earlier

-- The newest request has no end, and no other one.
pub record IsOut (number : ℕ) (again : RequestedReset) (asking : Asking) : Type 0 where
  pub one : asking.out ≡ 1
  pub earlier : List BegunReset
  pub is : asking.requests ≡ record { number = number; reset = again } ∷ earlier

-- So it is if one has no end.
abbrev pub OutIs : Option ℕ → RequestedReset → Asking → Type 0
OutIs None again asking = asking.out ≡ 0
OutIs (Some number) again asking = IsOut number again asking

-- What the socket keeps is of the requests that it has begun.
pub record IsAsking (first : ℕ) (own : Own) (asking : Asking) : Type 0 where
  pub numbers : AreNumbered first asking.requests
  pub next : own.next ≡ (first + length asking.requests) % 2 ^ 32
  pub out : OutIs own.number own.again asking

-- So it is if there is a peer.
abbrev pub AsksFit : ℕ → Option Own → Asking → Type 0
AsksFit first None asking = Unit {0}
AsksFit first (Some own) asking = IsAsking first own asking

-- This holds for some requests.
pub record SomeFit (own : Option Own) : Type 0 where
  pub first : ℕ
  pub asking : Asking
  pub fits : AsksFit first own asking

-- More may have been begun.
pub record AskingGrows (old new : Asking) : Type 0 where
  pub more : List BegunReset
  pub is : new.requests ≡ more ++ old.requests
  pub count : new.out ≡ length more + old.out
  pub same : more ≡ [] → new.is_performed ≡ old.is_performed
  -- The newest isn't performed in the turn that begins it.
  pub anew : (newest : BegunReset) (rest : List BegunReset) → more ≡ newest ∷ rest → new.is_performed ≡ false
