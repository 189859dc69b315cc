-- Two sides and every schedule: what each does, and what is delivered to it of all that the other ever sent.
use Rattle.std.specs.Prelude.{◌≡◌, ℕ, List, [], ◌∷◌, ◌⊎◌}
use Rattle.dcsctp_spec_lemmas.specs.types.declared.association.Pair.{Pair}
use Rattle.dcsctp_spec_lemmas.specs.types.declared.capabilities.Capabilities.{Capabilities}
use Rattle.dcsctp_spec_lemmas.specs.types.declared.options.Options.{Options}
use Rattle.dcsctp_spec_lemmas.specs.spec.Packet.{Introduction, Content, init, cookie_echo, abort, shutdown, shutdown_ack, shutdown_complete, Packet}
use Rattle.dcsctp_spec_lemmas.specs.spec.endpoint.Endpoint.{Core, closed, own_tag}
use Rattle.dcsctp_spec_lemmas.specs.spec.association.Effect.{Effect, sends, Change}
use Rattle.dcsctp_spec_lemmas.specs.spec.association.Choices.{Choices}
use Rattle.dcsctp_spec_lemmas.specs.spec.association.Acts.{Act, act_change, chunk_change, ChunkChange}
use Rattle.dcsctp_spec_lemmas.specs.spec.association.ResumeChanges.{resumed_held, resume_change}
use Rattle.dcsctp_spec_lemmas.specs.spec.Admission.{shutdown_acks_of}
use Rattle.dcsctp_spec_runs.specs.Past.{HasEffect}

-- ---- one side

pub record SideState : Type 0 where
  pub options : Options
  pub core : Core
  -- all effects so far, newest first
  pub past : List Effect

abbrev pub fresh_side_state : Options → SideState
fresh_side_state options = record { options = options; core = closed; past = [] }

-- the past after these effects, which come in order
abbrev pub after_effects : List Effect → List Effect → List Effect
after_effects [] past = past
after_effects (effect ∷ effects) past = after_effects effects (effect ∷ past)

abbrev pub after_change : SideState → Change → SideState
after_change side change = record side { core = change.core; past = after_effects change.effects side.past }

abbrev pub after_changes : SideState → List Change → SideState
after_changes side [] = side
after_changes side (change ∷ changes) = after_changes (after_change side change) changes

-- One turn of the association: an act, a chunk of any packet, or a restore from any snapshot where there is none.
pub data ControlTurn (options : Options) (core : Core) (change : Change) : Type 0 where
  acted : (act : Act) (choices : Choices) → change ≡ act_change options core act choices → ControlTurn options core change
  worked : (header : ℕ) (content : Content) (choices : Choices)
      → change ≡ chunk_change options core header content choices → ControlTurn options core change
  resumed : (my peer : Pair) (capabilities : Capabilities) (own last : ℕ) → core ≡ closed
      → change ≡ resume_change my (resumed_held peer capabilities own last) → ControlTurn options core change

abbrev pub ControlTurns : Options → Core → List Change → Type 0
ControlTurns options core [] = Unit {0}
ControlTurns options core (change ∷ changes) = ControlTurn options core change × ControlTurns options change.core changes

-- A side after several steps of one or more turns, newest first, whatever packets it was handed.
abbrev pub side_after : Options → List (List Change) → SideState
side_after options [] = fresh_side_state options
side_after options (changes ∷ earlier) = after_changes (side_after options earlier) changes

abbrev pub SideRun : Options → List (List Change) → Type 0
SideRun options [] = Unit {0}
SideRun options (changes ∷ earlier) = ControlTurns options (side_after options earlier).core changes × SideRun options earlier

-- ---- one packet

-- ABORT and the three chunks of shutdown
abbrev pub IsEnding : Content → Type 0
IsEnding (abort reflected causes) = Unit {0}
IsEnding (shutdown cumulative_tsn) = Unit {0}
IsEnding shutdown_ack = Unit {0}
IsEnding (shutdown_complete reflected) = Unit {0}
IsEnding content = ⊥

abbrev pub HasEnding : List Content → Type 0
HasEnding [] = ⊥
HasEnding (content ∷ contents) = IsEnding content ⊎ HasEnding contents

-- The packets whose chunks may be handled (RFC 9260, sections 8.4 and 8.5): under its own tag, with a COOKIE ECHO in front, one
-- INIT, and any with an ending chunk. Admission lets in fewer: an INIT only under tag 0, and ending chunks by their own rules.
pub data MayBeHandled (core : Core) (packet : Packet) : Type 0 where
  own_tag_borne : packet.tag ≡ own_tag core → MayBeHandled core packet
  echo_in_front : (cookie : List ℕ) (behind : List Content) → packet.contents ≡ cookie_echo cookie ∷ behind → MayBeHandled core packet
  init_alone : (theirs : Introduction) → packet.contents ≡ init theirs ∷ [] → MayBeHandled core packet
  ending_in : HasEnding packet.contents → MayBeHandled core packet

-- The chunks of a packet one after another, as far as they are handled. The rest may be dropped after each, whatever follows it.
-- A socket drops it only after an unknown chunk, an end or a refused COOKIE ECHO.
abbrev pub ChunkChanges : Options → Core → ℕ → List Content → List Change → Type 0
ChunkChanges options core header contents [] = Unit {0}
ChunkChanges options core header [] (change ∷ changes) = ⊥
ChunkChanges options core header (content ∷ contents) (change ∷ changes) =
    ChunkChange options core header content change × ChunkChanges options change.core header contents changes

-- The outcome of a packet: its chunks are handled if they may be, or its SHUTDOWN ACK chunks alone, whatever its tag (RFC 9260,
-- section 8.5.1).
pub data PacketChanges (options : Options) (core : Core) (packet : Packet) (changes : List Change) : Type 0 where
  worked_whole : MayBeHandled core packet → ChunkChanges options core packet.tag packet.contents changes → PacketChanges options core packet changes
  worked_acks : ChunkChanges options core packet.tag (shutdown_acks_of packet.contents) changes → PacketChanges options core packet changes

-- ---- two sides

pub data Move : Type 0 where
  -- what the user or a timer brings
  does : Act → Move
  -- A packet is delivered.
  receives : Packet → Move

-- The outcome of a move of one side. Whatever is delivered was emitted by the other side before, once or more often, recently or
-- long ago.
abbrev pub MoveChanges : SideState → List Effect → Move → List Change → Type 0
MoveChanges side sent (does act) changes = (choices : Choices) × (changes ≡ act_change side.options side.core act choices ∷ [])
MoveChanges side sent (receives packet) changes = HasEffect (sends packet) sent × PacketChanges side.options side.core packet changes

-- a move, and what came of it
pub record MoveResult : Type 0 where
  pub move : Move
  pub changes : List Change

-- What one call of a socket is to its side: any number of moves, one after another. Separate moves are: the answer to data before
-- a packet's chunks, these chunks, the packet's end, each expired timer, an abort and a flush.
abbrev pub MakesMoves : SideState → List Effect → List MoveResult → Type 0
MakesMoves side sent [] = Unit {0}
MakesMoves side sent (moved ∷ moves) = MoveChanges side sent moved.move moved.changes × MakesMoves (after_changes side moved.changes) sent moves

abbrev pub after_moves : SideState → List MoveResult → SideState
after_moves side [] = side
after_moves side (moved ∷ moves) = after_moves (after_changes side moved.changes) moves

pub record World : Type 0 where
  pub a : SideState
  pub b : SideState

pub data Which : Type 0 where
  at_a : Which
  at_b : Which

-- who moves, how, and its outcome
pub record WorldStep : Type 0 where
  pub side : Which
  pub move : Move
  pub changes : List Change

abbrev pub step_after : World → Which → List Change → World
step_after world at_a changes = record world { a = after_changes world.a changes }
step_after world at_b changes = record world { b = after_changes world.b changes }

-- the world after these steps, newest first
abbrev pub world_after : Options → Options → List WorldStep → World
world_after options_a options_b [] = record { a = fresh_side_state options_a; b = fresh_side_state options_b }
world_after options_a options_b (step ∷ earlier) = step_after (world_after options_a options_b earlier) step.side step.changes

abbrev pub StepChanges : World → Which → Move → List Change → Type 0
StepChanges world at_a move changes = MoveChanges world.a world.b.past move changes
StepChanges world at_b move changes = MoveChanges world.b world.a.past move changes

-- A run: each of these steps comes of the world before it. Its moves are the schedule.
abbrev pub WorldRun : Options → Options → List WorldStep → Type 0
WorldRun options_a options_b [] = Unit {0}
WorldRun options_a options_b (step ∷ earlier) =
    StepChanges (world_after options_a options_b earlier) step.side step.move step.changes × WorldRun options_a options_b earlier

-- the steps of one side, newest first
abbrev pub steps_with : Which → Which → List Change → List (List Change) → List (List Change)
steps_with at_a at_a changes earlier = changes ∷ earlier
steps_with at_a at_b changes earlier = earlier
steps_with at_b at_a changes earlier = earlier
steps_with at_b at_b changes earlier = changes ∷ earlier

abbrev pub steps_of : Which → List WorldStep → List (List Change)
steps_of which [] = []
steps_of which (step ∷ earlier) = steps_with which step.side step.changes (steps_of which earlier)

-- the steps of a run, newest first, with these moves of one side after them
abbrev pub with_moves : Which → List MoveResult → List WorldStep → List WorldStep
with_moves which [] steps = steps
with_moves which (moved ∷ moves) steps = with_moves which moves (record { side = which; move = moved.move; changes = moved.changes } ∷ steps)
