-- What fits the fields of a cookie, and so reads back.
use Rattle.std.specs.Prelude.{◌≡◌, ◌≤◌, ◌<◌, ◌^◌, Ok}
use Rattle.dcsctp_types.specs.declared.association.Pair.{Pair}
use Rattle.dcsctp_types.specs.Offer.{Offer}
use Rattle.dcsctp_spec.specs.Cookie.{Cookie, cookie_bytes, cookie_of_bytes}

-- tags that aren't 0, and numbers within their fields
pub record FitsPair (pair : Pair) : Type 0 where
  pub tag_is_not_zero : 1 ≤ pair.tag
  pub tag : pair.tag < 2 ^ 32
  pub first_tsn : pair.first_tsn < 2 ^ 32

pub record FitsOffer (offer : Offer) : Type 0 where
  pub zero_checksum_method : offer.zero_checksum_method < 2 ^ 32
  pub inbound_streams : offer.inbound_streams < 2 ^ 16
  pub outbound_streams : offer.outbound_streams < 2 ^ 16

-- the pairs and the offer of a cookie fit their fields
pub record FitsNames (cookie : Cookie) : Type 0 where
  pub maker : FitsPair cookie.maker
  pub addressee : FitsPair cookie.addressee
  pub offer : FitsOffer cookie.offer

pub record FitsCookie (cookie : Cookie) : Type 0 where
  pub names : FitsNames cookie
  pub window : cookie.window < 2 ^ 32
  pub tie : cookie.tie < 2 ^ 64
  pub moment : cookie.moment < 2 ^ 64

abbrev pub CookieReadsBack : Type 0
CookieReadsBack = (cookie : Cookie) → FitsCookie cookie → cookie_of_bytes (cookie_bytes cookie) ≡ Ok cookie
