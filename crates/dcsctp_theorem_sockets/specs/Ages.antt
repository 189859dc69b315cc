-- How old a cookie is that makes an association: its lifetime isn't over, by the clock of the
-- socket that gave it away (RFC 9260, section 5.1.5).
use Rattle.std.specs.Prelude.{◌≡◌, ◌≤◌, ◌+◌, ◌⊎◌, ℕ, List, [], ◌∷◌, ◌++◌}
use Rattle.std.specs.Duration.{as_nanos}
use Rattle.dcsctp_spec_lemmas.specs.types.declared.options.Options.{Options}
use Rattle.dcsctp_spec_lemmas.specs.types.declared.schedule.Side.{Side}
use Rattle.dcsctp_spec_lemmas.specs.types.Schedule.{AreHonest}
use Rattle.dcsctp_spec_lemmas.specs.spec.Cookie.{cookie_moment}
use Rattle.dcsctp_spec_lemmas.specs.spec.Packet.{cookie_echo}
use Rattle.dcsctp_spec_lemmas.specs.spec.endpoint.Endpoint.{Endpoint, fresh_endpoint}
use Rattle.dcsctp_spec_lemmas.specs.spec.endpoint.Turn.{chunk_input}
use Rattle.dcsctp_spec_lemmas.specs.spec.endpoint.CallTurns.{Transition}
use Rattle.dcsctp_spec_lemmas.specs.spec.association.Effect.{AssociationIdentity, holds}
use Rattle.dcsctp_spec_runs.specs.Past.{HasEffect}
use Rattle.dcsctp_spec_runs.specs.Sockets.{PerformedAct, Both, of_side, turns_after, endpoint_after, SocketRun, acts_of}
use Rattle.dcsctp_theorem_sockets.specs.Agreement.{AreUsable}
use Rattle.dcsctp_theorem_sockets.specs.Cookies.{GaveCookie}

-- This turn makes an association from a COOKIE ECHO with these bytes.
pub record MakesFrom (bytes : List ℕ) (turn : Transition) : Type 0 where
  pub tag : ℕ
  pub input : turn.input ≡ chunk_input tag (cookie_echo bytes)
  pub link : AssociationIdentity
  pub made : HasEffect (holds link) turn.outcome.effects

-- One of these turns gave the cookie away, at most a lifetime before this moment. Moments are nanoseconds on the socket's
-- clock, cut to 64 bits. The first turn starts from this endpoint.
abbrev pub GaveInTime : ℕ → ℕ → List ℕ → Endpoint → List Transition → Type 0
GaveInTime lifetime now bytes e [] = ⊥
GaveInTime lifetime now bytes e (turn ∷ turns) =
    (GaveCookie turn.outcome.events bytes × (cookie_moment now ≤ cookie_moment e.moment + lifetime)) ⊎ GaveInTime lifetime now bytes turn.outcome.after turns

-- If the turn makes an association from a cookie, one of the turns before it gave that cookie away in time.
abbrev pub IsInTime : Options → List Transition → Transition → Type 0
IsInTime options before turn =
    (bytes : List ℕ) → MakesFrom bytes turn
    → GaveInTime (as_nanos options.cookie_lifetime) (endpoint_after options before).moment bytes (fresh_endpoint options) before

-- Each of the later turns is so, by those before it.
abbrev pub AllInTime : Options → List Transition → List Transition → Type 0
AllInTime options before [] = Unit {0}
AllInTime options before (turn ∷ turns) = IsInTime options before turn × AllInTime options (before ++ turn ∷ []) turns

-- It holds of each side at the end of each first part of the run that is honest, whatever comes later.
abbrev pub AgeThroughout : Both Options → List PerformedAct → Type 0
AgeThroughout options [] = Unit {0}
AgeThroughout options (worked ∷ earlier) =
    (AreHonest (acts_of (worked ∷ earlier)) → (side : Side) → AllInTime (of_side side options) [] (of_side side (turns_after (worked ∷ earlier))))
    × AgeThroughout options earlier

abbrev pub CookiesAge : Type 0
CookiesAge = (options : Both Options) (run : List PerformedAct) → AreUsable options → SocketRun options run → AgeThroughout options run
