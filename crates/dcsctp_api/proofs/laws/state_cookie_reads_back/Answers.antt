use Rattle.std.proofs.Common.{◌≡◌, ap, sym, ◌∙◌, ℕ, List, Result, Ok}
use Rattle.dcsctp_spec_lemmas.specs.spec.Cookie.{Cookie}
use Rattle.dcsctp_spec_lemmas.specs.types.Offer.{capabilities_offered}
use Rattle.dcsctp_spec_lemmas.proofs.CookieLemmas.{cookie_reads_back}
use Rattle.dcsctp_api.specs.declared.state_cookie.StateCookie.{StateCookie}
use Rattle.dcsctp_api.specs.Cookie.{cookie_of}
use Rattle.dcsctp_api.proofs.laws.state_cookie_reads_back.Goals as goal

-- the value of a cookie
state_cookie_of : Cookie → StateCookie
state_cookie_of cookie =
    record {
      peer_tag = cookie.addressee.tag;
      my_tag = cookie.maker.tag;
      peer_initial_tsn = cookie.addressee.first_tsn;
      my_initial_tsn = cookie.maker.first_tsn;
      a_rwnd = cookie.window;
      tie_tag = cookie.tie;
      moment = cookie.moment;
      peer_capabilities = capabilities_offered cookie.offer;
    }

same_cookie : (a b : StateCookie) → cookie_of a ≡ cookie_of b → a ≡ b
unfolding state_cookie_of
same_cookie a b same = ap state_cookie_of same

abbrev done : Cookie → Result Cookie (List ℕ)
done cookie = Ok cookie

ok_is : (a b : Cookie) → done a ≡ done b → a ≡ b
ok_is a b same = cc

pub returns : goal.returns
returns c written fits =
    let is_read = cookie_reads_back (cookie_of written) fits in
    record {
      is_read = is_read;
      same = λ read found. same_cookie read written (ok_is (cookie_of read) (cookie_of written) (sym found ∙ is_read));
    }
