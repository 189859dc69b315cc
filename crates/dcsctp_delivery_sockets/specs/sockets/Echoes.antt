-- Where the COOKIE ECHO of a socket goes, and what its packets have after their first chunk (RFC
-- 9260, section 5.1).
use Rattle.std.specs.Prelude.{ℕ, List, [], ◌∷◌}
use Rattle.dcsctp_spec_lemmas.specs.types.declared.options.Options.{Options}
use Rattle.dcsctp_spec_lemmas.specs.types.declared.schedule.Side.{Side}
use Rattle.dcsctp_spec_lemmas.specs.types.Schedule.{AreHonest}
use Rattle.dcsctp_spec_lemmas.specs.spec.Packet.{Content, re_config, cookie_echo, plain, Emission}
use Rattle.dcsctp_spec_lemmas.specs.spec.endpoint.CallTurns.{events_of}
use Rattle.dcsctp_spec_runs.specs.Fitting.{AllSent}
use Rattle.dcsctp_spec_runs.specs.Sockets.{PerformedAct, Both, of_side, turns_after, SocketRun, acts_of}
use Rattle.dcsctp_theorem_sockets.specs.Agreement.{AreUsable, AreFresh}
use Rattle.dcsctp_delivery_sockets.specs.turns.Untouched.{IsOfMaker}

-- This holds for a chunk that is a COOKIE ECHO.
abbrev pub FrontGoes : ℕ → Content → Type 0
FrontGoes tag (cookie_echo bytes) = IsOfMaker tag bytes
FrontGoes tag content = Unit {0}

-- The chunk speaks of no association, or is a RE-CONFIG.
abbrev pub MayFollow : Content → Type 0
MayFollow (plain chunk) = Unit {0}
MayFollow (re_config parameters) = Unit {0}
MayFollow content = ⊥

abbrev pub AllMayFollow : List Content → Type 0
AllMayFollow [] = Unit {0}
AllMayFollow (content ∷ contents) = MayFollow content × AllMayFollow contents

-- A COOKIE ECHO goes to its cookie's maker, and is the first chunk of its packet.
abbrev pub ContentsGo : ℕ → List Content → Type 0
ContentsGo tag [] = Unit {0}
ContentsGo tag (content ∷ contents) = FrontGoes tag content × AllMayFollow contents

abbrev pub GoesToMaker : Emission → Type 0
GoesToMaker emission = ContentsGo emission.packet.tag emission.packet.contents

-- This holds for each packet of either side, over every honest run with fresh tags.
abbrev pub EchoesGoToMakers : Type 0
EchoesGoToMakers =
    (options : Both Options) (run : List PerformedAct) → AreUsable options → SocketRun options run → AreHonest (acts_of run) → AreFresh (turns_after run) → (side : Side)
    → AllSent GoesToMaker (events_of (of_side side (turns_after run)))
