-- What a `StateCookie` says (RFC 9260, section 5.1.3).
use Rattle.std.specs.Prelude.{◌≡◌, Ok}
pub use Rattle.dcsctp_spec_lemmas.specs.spec.Cookie.{Cookie, cookie_bytes, cookie_of_bytes}
use Rattle.dcsctp_spec_lemmas.specs.spec.CookieFits.{FitsCookie}
use Rattle.dcsctp_spec_lemmas.specs.types.Offer.{offer_of_capabilities}
use Rattle.dcsctp_api.specs.declared.state_cookie.StateCookie.{StateCookie}

abbrev pub cookie_of : StateCookie → Cookie
cookie_of cookie =
    record {
      maker = record { tag = cookie.my_tag; first_tsn = cookie.my_initial_tsn };
      addressee = record { tag = cookie.peer_tag; first_tsn = cookie.peer_initial_tsn };
      offer = offer_of_capabilities cookie.peer_capabilities;
      window = cookie.a_rwnd;
      tie = cookie.tie_tag;
      moment = cookie.moment;
    }

-- A cookie that was written is read, and what is read is it.
pub record WrittenCookieReadsBack (written : StateCookie) : Type 0 where
  pub is_read : cookie_of_bytes (cookie_bytes (cookie_of written)) ≡ Ok (cookie_of written)
  pub same : (read : StateCookie) → cookie_of_bytes (cookie_bytes (cookie_of written)) ≡ Ok (cookie_of read) → read ≡ written

-- Each number fits its field, and no tag is 0.
abbrev pub StateCookieReadsBack : Type 0
StateCookieReadsBack = (written : StateCookie) → FitsCookie (cookie_of written) → WrittenCookieReadsBack written
