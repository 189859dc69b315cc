-- What a stale cookie does, by cases: the user is told, and the peer by the option.
use Rattle.std.proofs.Common.{Bool, true, false, [], ◌∷◌}
use Rattle.std.specs.Prelude.{if◌then◌else◌}
use Rattle.dcsctp_spec.specs.types.declared.kinds.ErrorKind.TheVariants.{ParseFailed}
use Rattle.dcsctp_spec.specs.Cookie.{Cookie}
use Rattle.dcsctp_spec.specs.endpoint.Event.{error}
use Rattle.dcsctp_spec.specs.endpoint.Endpoint.{Endpoint}
use Rattle.dcsctp_spec.specs.endpoint.Following.{dropped_rest}
use Rattle.dcsctp_spec.specs.endpoint.Outcome.{Outcome, quiet, sends, fits, behind}
use Rattle.dcsctp_spec.specs.endpoint.CookieEchoOutcomes.{stale_text, stale_emission, stale_outcome, refused_echo_outcome}

-- either of two values by a test
by_test : {X : Type 0} (P : X → Type 0) (b : Bool) (one other : X) → P one → P other → P (if b then one else other)
by_test P true one other first second = first
by_test P false one other first second = second

-- the user is told, and the peer too
abbrev pub stale_told : Endpoint → Cookie → Outcome
stale_told e cookie = record (sends e [] (error ParseFailed stale_text ∷ []) (stale_emission cookie)) { following = dropped_rest }

told_where : (P : Outcome → Type 0) (b : Bool) (e : Endpoint) (cookie : Cookie) → P (stale_told e cookie) → P (refused_echo_outcome e stale_text)
    → P (record (behind [] (error ParseFailed stale_text ∷ []) (if b then sends e [] [] (stale_emission cookie) else quiet e [] [])) { following = dropped_rest })
told_where P true e cookie told untold = told
told_where P false e cookie told untold = untold

-- The user is told, and the peer by the option, if the packet fits.
pub by_stale_outcome : (P : Outcome → Type 0) (e : Endpoint) (cookie : Cookie) → P (stale_told e cookie) → P (refused_echo_outcome e stale_text) → P (stale_outcome e cookie)
by_stale_outcome P e cookie told untold =
    by_test P e.options.follow_rfc
    (record (behind [] (error ParseFailed stale_text ∷ []) (if fits e (stale_emission cookie) then sends e [] [] (stale_emission cookie) else quiet e [] [])) { following = dropped_rest })
    (refused_echo_outcome e stale_text)
    (told_where P (fits e (stale_emission cookie)) e cookie told untold) untold
