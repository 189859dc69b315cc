-- Where the cookie of a COOKIE ECHO comes from: the socket that handles the chunk gave it away
-- before, as long as no act comes from outside (RFC 9260, section 5.1).
use Rattle.std.specs.Prelude.{◌≡◌, ℕ, Some, List, [], ◌∷◌, ◌++◌, ◌⊎◌}
use Rattle.dcsctp_spec_lemmas.specs.types.declared.options.Options.{Options}
use Rattle.dcsctp_spec_lemmas.specs.types.declared.schedule.Side.{Side}
use Rattle.dcsctp_spec_lemmas.specs.types.Schedule.{AreHonest}
use Rattle.dcsctp_spec_lemmas.specs.spec.endpoint.Event.{Event, sent}
use Rattle.dcsctp_spec_lemmas.specs.spec.Packet.{Content, init_ack, cookie_echo, Emission}
use Rattle.dcsctp_spec_lemmas.specs.spec.endpoint.Turn.{Input, chunk_input}
use Rattle.dcsctp_spec_lemmas.specs.spec.endpoint.CallTurns.{Transition}
use Rattle.dcsctp_spec_runs.specs.Sockets.{PerformedAct, Both, of_side, turns_after, SocketRun, acts_of}
use Rattle.dcsctp_theorem_sockets.specs.Agreement.{AreUsable}

-- Among these chunks is an INIT ACK with this cookie.
abbrev pub BearCookie : List Content → List ℕ → Type 0
BearCookie [] bytes = ⊥
BearCookie (init_ack theirs (Some cookie) ∷ contents) bytes = (bytes ≡ cookie) ⊎ BearCookie contents bytes
BearCookie (content ∷ contents) bytes = BearCookie contents bytes

-- These events gave the cookie away: among them is a packet with such an INIT ACK.
abbrev pub GaveCookie : List (Event Emission) → List ℕ → Type 0
GaveCookie [] bytes = ⊥
GaveCookie (sent emission ∷ events) bytes = BearCookie emission.packet.contents bytes ⊎ GaveCookie events bytes
GaveCookie (event ∷ events) bytes = GaveCookie events bytes

-- If the input is a COOKIE ECHO, these events gave its cookie away.
abbrev pub EchoesGivenCookie : List (Event Emission) → Input → Type 0
EchoesGivenCookie events (chunk_input tag (cookie_echo bytes)) = GaveCookie events bytes
EchoesGivenCookie events input = Unit {0}

-- So it is at each of these turns, by the events before it: these first, and then those of the turns before it.
abbrev pub AllEchoGiven : List (Event Emission) → List Transition → Type 0
AllEchoGiven before [] = Unit {0}
AllEchoGiven before (turn ∷ turns) = EchoesGivenCookie before turn.input × AllEchoGiven (before ++ turn.outcome.events) turns

-- It holds of each side at the end of each first part of the run that is honest, whatever comes later. Before its first turn a
-- side has sent nothing.
abbrev pub GivesCookiesThroughout : List PerformedAct → Type 0
GivesCookiesThroughout [] = Unit {0}
GivesCookiesThroughout (worked ∷ earlier) =
    (AreHonest (acts_of (worked ∷ earlier)) → (side : Side) → AllEchoGiven [] (of_side side (turns_after (worked ∷ earlier))))
    × GivesCookiesThroughout earlier

abbrev pub CookiesWereGiven : Type 0
CookiesWereGiven = (options : Both Options) (run : List PerformedAct) → AreUsable options → SocketRun options run → GivesCookiesThroughout run
