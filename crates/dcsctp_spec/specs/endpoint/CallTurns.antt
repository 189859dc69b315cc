-- A call is a list of turns. Each starts at the endpoint that the one before it left.
use Rattle.std.specs.Prelude.{◌≡◌, ℕ, Bool, true, false, List, [], ◌∷◌, ◌++◌, ◌⊎◌, take}
use Rattle.dcsctp_types.specs.declared.association.Pair.{Pair}
use Rattle.dcsctp_types.specs.declared.word.Word.{Word}
use Rattle.dcsctp_types.specs.Settings.{wire_options}
use Rattle.dcsctp_spec.specs.endpoint.Event.{Event}
use Rattle.dcsctp_spec.specs.Packet.{Content, Packet, Emission, packet_of_content}
use Rattle.dcsctp_spec.specs.Admission.{Admission, all_chunks, shutdown_acks_alone, refused, admits, shutdown_acks_of}
use Rattle.dcsctp_spec.specs.endpoint.Endpoint.{Endpoint}
use Rattle.dcsctp_spec.specs.association.Effect.{Effect, drawn_pairs}
use Rattle.dcsctp_spec.specs.endpoint.Outcome.{Outcome}
use Rattle.dcsctp_spec.specs.endpoint.Following.{Following, next_chunk, packet_end, dropped_rest}
use Rattle.dcsctp_spec.specs.association.Acts.{shut_down}
use Rattle.dcsctp_spec.specs.endpoint.MessageOutcomes.{awaits_opening}
use Rattle.dcsctp_spec.specs.endpoint.Turn.{Input, arrival, refusal, packet_begins, chunk_input, packet_ends, act_input, Turn, unreadable_text}
use Rattle.dcsctp_types.specs.wire.Content.{PacketContent}
use Rattle.dcsctp_types.specs.wire.Format.{IsPacket}

-- a turn that took place: its input, and what came of it
pub record Transition : Type 0 where
  pub input : Input
  pub outcome : Outcome

abbrev pub transition : Input → Outcome → Transition
transition input outcome = record { input = input; outcome = outcome }

-- a turn of this input
pub record IsTurn (e : Endpoint) (input : Input) (turn : Transition) : Type 0 where
  pub is : turn.input ≡ input
  pub comes : Turn e input turn.outcome

-- the turns of these inputs, one after another
abbrev pub Turns : Endpoint → List Input → List Transition → Type 0
Turns e [] [] = Unit {0}
Turns e [] (turn ∷ turns) = ⊥
Turns e (input ∷ inputs) [] = ⊥
Turns e (input ∷ inputs) (turn ∷ turns) = IsTurn e input turn × Turns turn.outcome.after inputs turns

-- what a list of turns leaves
abbrev pub after_all : Endpoint → List Transition → Endpoint
after_all e [] = e
after_all e (turn ∷ turns) = after_all turn.outcome.after turns

abbrev pub words_of : List Transition → List Word
words_of [] = []
words_of (turn ∷ turns) = turn.outcome.words ++ words_of turns

abbrev pub effects_of : List Transition → List Effect
effects_of [] = []
effects_of (turn ∷ turns) = turn.outcome.effects ++ effects_of turns

-- the pairs that were drawn
abbrev pub pairs_of : List Transition → List Pair
pairs_of turns = drawn_pairs (effects_of turns)

abbrev pub events_of : List Transition → List (Event Emission)
events_of [] = []
events_of (turn ∷ turns) = turn.outcome.events ++ events_of turns

-- This holds of each turn, at the endpoint that it starts from.
abbrev pub AlongTurns : (Endpoint → Transition → Type 0) → Endpoint → List Transition → Type 0
AlongTurns Good e [] = Unit {0}
AlongTurns Good e (turn ∷ turns) = Good e turn × AlongTurns Good turn.outcome.after turns

-- ---- handle_input

-- What comes after a chunk: the others; or, with no other chunk, the end of the packet; or nothing at all.
abbrev pub AfterChunk : Following → Type 0 → Type 0 → Type 0 → Type 0
AfterChunk next_chunk others end nothing = others
AfterChunk packet_end others end nothing = end
AfterChunk dropped_rest others end nothing = nothing

-- The chunks of a packet have their turns one after another, as far as the outcomes say. Then come these inputs, unless the rest
-- was dropped.
abbrev pub ChunkTurns : Endpoint → ℕ → List Content → List Input → List Transition → Type 0
ChunkTurns e tag [] ends turns = Turns e ends turns
ChunkTurns e tag (content ∷ contents) ends [] = ⊥
ChunkTurns e tag (content ∷ contents) ends (turn ∷ turns) =
    IsTurn e (chunk_input tag content) turn
    × AfterChunk turn.outcome.following (ChunkTurns turn.outcome.after tag contents ends turns) (Turns turn.outcome.after ends turns) (turns ≡ [])

-- A shutdown that waits for the association to open is asked for again.
abbrev pub asked_again : Bool → List Input
asked_again false = []
asked_again true = act_input shut_down ∷ []

-- what comes after the chunks of a packet
abbrev pub packet_tail : Endpoint → List Input
packet_tail e = packet_ends ∷ asked_again (awaits_opening e e.core)

-- A packet whose chunks are handled: what precedes them, its chunks, and what comes after them.
abbrev pub WholeTurns : Endpoint → Packet → List Transition → Type 0
WholeTurns e packet [] = ⊥
WholeTurns e packet (begun ∷ turns) =
    IsTurn e (packet_begins packet.contents) begun × ChunkTurns begun.outcome.after packet.tag packet.contents (packet_tail begun.outcome.after) turns

-- A packet that was read and counted. If its SHUTDOWN ACK chunks alone are handled, nothing else of it is.
abbrev pub AdmittedTurns : Endpoint → Packet → Admission → List Transition → Type 0
AdmittedTurns e packet all_chunks turns = WholeTurns e packet turns
AdmittedTurns e packet shutdown_acks_alone turns = ChunkTurns e packet.tag (shutdown_acks_of packet.contents) [] turns
AdmittedTurns e packet (refused text) turns = Turns e (refusal text ∷ []) turns

-- The packet is counted; then it can't be read, or admission decides (RFC 9260, section 8.5).
pub data HandleInput (e : Endpoint) (bytes : List ℕ) : List Transition → Type 0 where
  unreadable : (turns : List Transition)
      → ((packet : PacketContent) → IsPacket (wire_options e.options) packet bytes → ⊥)
      → Turns e (arrival ∷ refusal unreadable_text ∷ []) turns
      → HandleInput e bytes turns
  readable : (packet : PacketContent) (counted : Transition) (turns : List Transition)
      → IsPacket (wire_options e.options) packet bytes
      → IsTurn e arrival counted
      → AdmittedTurns counted.outcome.after (packet_of_content packet) (admits e.core (packet_of_content packet)) turns
      → HandleInput e bytes (counted ∷ turns)

-- ---- handle_input when an allocation fails

-- that many chunks of a packet had their turns, from the first on
abbrev pub FirstTurns : Endpoint → ℕ → List Content → List Transition → Type 0
FirstTurns e tag contents turns = (count : ℕ) × ChunkTurns e tag (take count contents) [] turns

-- The first turns of a packet whose chunks are handled: what precedes them, and that many of them. Or all of them, and the first of
-- what comes after them, in the last of which an allocation failed.
abbrev pub FirstOfWhole : Endpoint → Packet → List Transition → Type 0
FirstOfWhole e packet [] = Unit {0}
FirstOfWhole e packet (begun ∷ turns) =
    IsTurn e (packet_begins packet.contents) begun
    × (FirstTurns begun.outcome.after packet.tag packet.contents turns
    ⊎ (count : ℕ) × ChunkTurns begun.outcome.after packet.tag packet.contents (take count (packet_tail begun.outcome.after)) turns)

-- the first turns after a packet was counted
abbrev pub FirstOfAdmitted : Endpoint → Packet → Admission → List Transition → Type 0
FirstOfAdmitted e packet all_chunks turns = FirstOfWhole e packet turns
FirstOfAdmitted e packet shutdown_acks_alone turns = FirstTurns e packet.tag (shutdown_acks_of packet.contents) turns
FirstOfAdmitted e packet (refused text) turns = turns ≡ []

-- The call was cut: before the packet was known to be one, or after some of its turns.
pub data FirstOfCall (e : Endpoint) (bytes : List ℕ) : List Transition → Type 0 where
  unread : FirstOfCall e bytes []
  read : (packet : PacketContent) (counted : Transition) (turns : List Transition)
      → IsPacket (wire_options e.options) packet bytes
      → IsTurn e arrival counted
      → FirstOfAdmitted counted.outcome.after (packet_of_content packet) (admits e.core (packet_of_content packet)) turns
      → FirstOfCall e bytes (counted ∷ turns)
