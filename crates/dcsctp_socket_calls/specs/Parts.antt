-- What the calls of a socket do, by its parts.
use Rattle.std.specs.Prelude.{◌≡◌, ◌⊎◌, ℕ, Bool, true, false, Option, Result, Ok, Err, List, [], ◌∷◌, ◌++◌, take}
use Rattle.std.specs.List.{AllByRecursion}
use Rattle.rand_core.specs.Stream.{Stream}
use Rattle.dcsctp_core.specs.wire.Content.{PacketContent}
use Rattle.dcsctp_core.specs.spec.Admission.{admits, shutdown_acks_of}
use Rattle.dcsctp_core.specs.spec.Packet.{Content, Packet, packet_of_content, shutdown_ack}
use Rattle.dcsctp_core.specs.spec.endpoint.Endpoint.{Endpoint}
use Rattle.dcsctp_core.specs.spec.endpoint.Following.{next_chunk, packet_end}
use Rattle.dcsctp_core.specs.spec.endpoint.Outcome.{Outcome, still}
use Rattle.dcsctp_core.specs.types.Settings.{ports_of}
use Rattle.dcsctp_core.specs.spec.endpoint.Event.{Event}
use Rattle.dcsctp_core.specs.spec.endpoint.Turn.{Input, ContentTurn, chunk_input, packet_ends, has_data_chunk}
use Rattle.dcsctp_core.specs.types.ByResult.{ByResult}
use Rattle.dcsctp_core.specs.types.declared.message.Message.{Message}
use Rattle.dcsctp_core.specs.types.Schedule.{CallContent}
use Rattle.dcsctp_core.specs.types.Setting.{Setting}
use Rattle.dcsctp_core.specs.spec.endpoint.SettingOutcomes.{endpoint_with}
use Rattle.dcsctp_core.specs.spec.endpoint.CallTurns.{Transition, IsTurn, Turns, asked_again, packet_tail, after_all, ChunkTurns, WholeTurns, AdmittedTurns, HandleInput, FirstTurns, FirstOfWhole, FirstOfAdmitted, FirstOfCall}
use Rattle.dcsctp_core.specs.spec.endpoint.UserTurns.{UserTurns}
use Rattle.dcsctp_core.specs.types.Snapshot.{Snapshot}
use Rattle.dcsctp_core.specs.api.Calls.{AddsFirstEvents}
use Rattle.dcsctp_core.specs.api.Handover.{RestoreTurns}
use Rattle.dcsctp_core.specs.declared.context.Context.{Context}
use Rattle.dcsctp_core.specs.View.{View, view_of, call_start, Moves, MovesAll, CutsTurn}
use Rattle.dcsctp_core.specs.declared.following.Following.{Following}
use Rattle.dcsctp_core.specs.declared.following.Following.TheVariants.{NextChunk, PacketEnd, DroppedRest}
use Rattle.dcsctp_core.specs.Handling.{following_of, OnlyDrew}
use Rattle.dcsctp_core_ends.specs.Shutdown.{shutdown_answer_turn}
use Rattle.dcsctp_core_messages.specs.Taking.{TakesNextOf}

-- A chunk had its turn, and this follows it.
pub record ChunkMoves {R : Type 0} (stream : R → Stream) (tag : ℕ) (content : Content) (old : View R) (next : Following) (new : View R) : Type 0 where
  pub outcome : Outcome
  pub turn : ContentTurn old.endpoint tag content outcome
  pub following : outcome.following ≡ following_of next
  pub moves : Moves stream old outcome new

-- Such turns took place.
pub record TurnsMove {R : Type 0} (stream : R → Stream) (AreTurns : Endpoint → List Transition → Type 0) (old new : View R) : Type 0 where
  pub turns : List Transition
  pub are : AreTurns old.endpoint turns
  pub moves : MovesAll stream old turns new

-- An allocation failed in such turns, and events of them were added in part.
pub record CutsTurns {R : Type 0} (AreTurns : Endpoint → List Transition → Type 0) (old : View R) (events : List (Event (List ℕ))) : Type 0 where
  pub turns : List Transition
  pub are : AreTurns old.endpoint turns
  pub adds : AddsFirstEvents (ports_of old.endpoint.options) turns old.events events

-- What precedes the chunks of a packet: data that comes while a SHUTDOWN waits for its answer is answered (RFC 9260, section
-- 9.2).
abbrev pub packet_begun : {R : Type 0} → Bool → View R → Outcome
packet_begun true view = shutdown_answer_turn view
packet_begun false view = still view.endpoint

abbrev pub begin_turn : {R : Type 0} → PacketContent → View R → Outcome
begin_turn packet view = packet_begun (has_data_chunk view.endpoint.options.follow_rfc (packet_of_content packet).contents) view

-- the turns of a packet's chunks, and of what comes after them
abbrev pub ChunksToEnd : Endpoint → Packet → List Transition → Type 0
ChunksToEnd e packet turns = ChunkTurns e packet.tag packet.contents (packet_tail e) turns

-- The turns of a packet's chunks. They are whole with what comes after them, whatever that does; or that is dropped, and they are
-- whole without it.
abbrev pub TurnsToEnd : Bool → Endpoint → Packet → List Transition → Type 0
TurnsToEnd true e packet turns =
    (ends : List Input) (last : List Transition) → Turns (after_all e turns) ends last → ChunkTurns e packet.tag packet.contents ends (turns ++ last)
TurnsToEnd false e packet turns = (ends : List Input) → ChunkTurns e packet.tag packet.contents ends turns

-- The chunks of a packet had their turns.
pub record MoveToEnd {R : Type 0} (stream : R → Stream) (packet : PacketContent) (old : View R) (ends : Bool) (new : View R) : Type 0 where
  pub turns : List Transition
  pub are : TurnsToEnd ends old.endpoint (packet_of_content packet) turns
  pub moves : MovesAll stream old turns new
  pub ports : ports_of (after_all old.endpoint turns).options ≡ ports_of old.endpoint.options

-- A SHUTDOWN ACK had its turn, and no other chunk of the packet has one.
pub record AckEnds {R : Type 0} (stream : R → Stream) (tag : ℕ) (content : Content) (old new : View R) : Type 0 where
  pub is : content ≡ shutdown_ack
  pub turn : Transition
  pub comes : IsTurn old.endpoint (chunk_input tag content) turn
  pub ends : turn.outcome.following ≡ packet_end
  pub moves : MovesAll stream old (turn ∷ []) new

-- A chunk had its turn, if it is a SHUTDOWN ACK, and those after it may have theirs.
pub record AckMoves {R : Type 0} (stream : R → Stream) (tag : ℕ) (content : Content) (old new : View R) : Type 0 where
  pub turns : List Transition
  pub goes_on : AllByRecursion (λ turn. turn.outcome.following ≡ next_chunk) turns
  pub are : ChunkTurns old.endpoint tag (shutdown_acks_of (content ∷ [])) [] turns
  pub moves : MovesAll stream old turns new
  pub core : new.endpoint.core ≡ old.endpoint.core

-- ---- the turns of a packet

-- its chunks, and its end
abbrev pub ChunksMove : {R : Type 0} → (R → Stream) → PacketContent → View R → View R → Type 0
ChunksMove stream packet old new = TurnsMove stream (λ e turns. ChunksToEnd e (packet_of_content packet) turns) old new

-- what precedes its chunks, these, and its end
abbrev pub WholeMoves : {R : Type 0} → (R → Stream) → PacketContent → View R → View R → Type 0
WholeMoves stream packet old new = TurnsMove stream (λ e turns. WholeTurns e (packet_of_content packet) turns) old new

-- its SHUTDOWN ACK chunks
abbrev pub AcksMove : {R : Type 0} → (R → Stream) → PacketContent → View R → View R → Type 0
AcksMove stream packet old new = TurnsMove stream (λ e turns. ChunkTurns e packet.verification_tag (shutdown_acks_of (packet_of_content packet).contents) [] turns) old new

-- a packet that was counted, and is admitted or refused
abbrev pub PacketMoves : {R : Type 0} → (R → Stream) → PacketContent → View R → View R → Type 0
PacketMoves stream packet old new = TurnsMove stream (λ e turns. AdmittedTurns e (packet_of_content packet) (admits e.core (packet_of_content packet)) turns) old new

-- ---- when an allocation failed

-- The turn of a chunk was cut after it had added that many of its events.
pub record CutsChunk {R : Type 0} (tag : ℕ) (content : Content) (old : View R) (events : List (Event (List ℕ))) : Type 0 where
  pub outcome : Outcome
  pub turn : ContentTurn old.endpoint tag content outcome
  pub cut : CutsTurn old outcome events

-- Some chunks of a packet had their turns; or all, and what comes after them was cut.
abbrev pub FirstToEnd : Endpoint → Packet → List Transition → Type 0
FirstToEnd e packet turns =
    FirstTurns e packet.tag packet.contents turns ⊎ (count : ℕ) × ChunkTurns e packet.tag packet.contents (take count (packet_tail e)) turns

-- the first turns of what comes after the chunks of a packet
abbrev pub FirstOfTail : Bool → Endpoint → List Transition → Type 0
FirstOfTail asks_again e turns = (count : ℕ) × Turns e (take count (packet_ends ∷ asked_again asks_again)) turns

abbrev pub CutsChunks : {R : Type 0} → PacketContent → View R → List (Event (List ℕ)) → Type 0
CutsChunks packet old events = CutsTurns (λ e turns. FirstToEnd e (packet_of_content packet) turns) old events

-- what precedes the chunks of a packet, and some of them
abbrev pub CutsWhole : {R : Type 0} → PacketContent → View R → List (Event (List ℕ)) → Type 0
CutsWhole packet old events = CutsTurns (λ e turns. FirstOfWhole e (packet_of_content packet) turns) old events

-- some of its SHUTDOWN ACK chunks
abbrev pub CutsAcks : {R : Type 0} → PacketContent → View R → List (Event (List ℕ)) → Type 0
CutsAcks packet old events = CutsTurns (λ e turns. FirstTurns e packet.verification_tag (shutdown_acks_of (packet_of_content packet).contents) turns) old events

-- the first turns of a packet that was counted
abbrev pub CutsPacket : {R : Type 0} → PacketContent → View R → List (Event (List ℕ)) → Type 0
CutsPacket packet old events = CutsTurns (λ e turns. FirstOfAdmitted e (packet_of_content packet) (admits e.core (packet_of_content packet)) turns) old events

-- the view once this is set; no word is drawn
abbrev pub set_view : {R : Type 0} → Setting → View R → View R
set_view setting view = record view { endpoint = endpoint_with setting view.endpoint; words = []; pairs = [] }

-- ---- by the result of a function

-- A chunk had its turn, or it was cut.
abbrev pub HandlesChunk : {R E : Type 0} → (R → Stream) → ℕ → Content → Context R → Result Following E → Context R → Type 0
HandlesChunk stream tag content old result new =
    ByResult (λ next. ChunkMoves stream tag content (view_of old) next (view_of new)) (CutsChunk tag content (view_of old) (view_of new).events) result

abbrev pub HandlesToEnd : {R E : Type 0} → (R → Stream) → PacketContent → Context R → Result Bool E → Context R → Type 0
HandlesToEnd stream packet old result new =
    ByResult (λ ends. MoveToEnd stream packet (view_of old) ends (view_of new)) (CutsChunks packet (view_of old) (view_of new).events) result

-- If an allocation failed, nothing has changed.
abbrev pub HandlesAck : {R E : Type 0} → (R → Stream) → ℕ → Content → Context R → Result Following E → Context R → Type 0
HandlesAck stream tag content old (Ok NextChunk) new = AckMoves stream tag content (view_of old) (view_of new)
HandlesAck stream tag content old (Ok PacketEnd) new = AckEnds stream tag content (view_of old) (view_of new)
HandlesAck stream tag content old (Ok DroppedRest) new = ⊥
HandlesAck stream tag content old (Err error) new = view_of new ≡ view_of old

-- Such turns took place, or an allocation failed in such turns.
abbrev pub MakesTurns : {R E : Type 0} → (R → Stream) → (Endpoint → List Transition → Type 0) → Context R → Result (Unit {0}) E → Context R → Type 0
MakesTurns stream AreTurns old result new =
    ByResult (λ done. TurnsMove stream AreTurns (view_of old) (view_of new)) (CutsTurns AreTurns (view_of old) (view_of new).events) result

abbrev pub HandlesTail : {R E : Type 0} → (R → Stream) → Bool → Context R → Result (Unit {0}) E → Context R → Type 0
HandlesTail stream asks_again old result new =
    ByResult (λ done. TurnsMove stream (λ e turns. Turns e (packet_ends ∷ asked_again asks_again) turns) (view_of old) (view_of new))
    (CutsTurns (FirstOfTail asks_again) (view_of old) (view_of new).events) result

abbrev pub HandlesWholePacket : {R E : Type 0} → (R → Stream) → PacketContent → Context R → Result (Unit {0}) E → Context R → Type 0
HandlesWholePacket stream packet old result new = ByResult (λ done. WholeMoves stream packet (view_of old) (view_of new)) (CutsWhole packet (view_of old) (view_of new).events) result

abbrev pub HandlesAcks : {R E : Type 0} → (R → Stream) → PacketContent → Context R → Result (Unit {0}) E → Context R → Type 0
HandlesAcks stream packet old result new = ByResult (λ done. AcksMove stream packet (view_of old) (view_of new)) (CutsAcks packet (view_of old) (view_of new).events) result

abbrev pub HandlesCountedPacket : {R E : Type 0} → (R → Stream) → PacketContent → Context R → Result (Unit {0}) E → Context R → Type 0
HandlesCountedPacket stream packet old result new = ByResult (λ done. PacketMoves stream packet (view_of old) (view_of new)) (CutsPacket packet (view_of old) (view_of new).events) result

-- ---- the calls

-- the turns of a user's call
abbrev pub TurnsOf : CallContent → Endpoint → List Transition → Type 0
TurnsOf call e turns = UserTurns e call turns

-- the turns of a packet that is handed in, and those that may have taken place where an allocation failed
abbrev pub InputTurns : List ℕ → Endpoint → List Transition → Type 0
InputTurns bytes e turns = HandleInput e bytes turns

abbrev pub FirstOfInput : List ℕ → Endpoint → List Transition → Type 0
FirstOfInput bytes e turns = FirstOfCall e bytes turns

-- the turns of a restore, and those that may have taken place where an allocation failed
abbrev pub RestoringTurns : Snapshot → Endpoint → List Transition → Type 0
RestoringTurns state e turns = RestoreTurns e state turns

abbrev pub FirstOfRestore : Snapshot → Endpoint → List Transition → Type 0
FirstOfRestore state e turns = (turns ≡ []) ⊎ RestoreTurns e state turns

-- A call had such turns. No word and no pair was drawn in it before them.
abbrev pub MovesByCall : {R : Type 0} → (R → Stream) → (Endpoint → List Transition → Type 0) → View R → View R → Type 0
MovesByCall stream AreTurns old new = TurnsMove stream AreTurns (call_start old) new

-- What a call leaves where an allocation failed in it: some events of such turns were added; or only words were drawn; or nothing
-- has changed.
abbrev pub CutsCall : {R : Type 0} → (Endpoint → List Transition → Type 0) → View R → View R → Type 0
CutsCall AreTurns old new = CutsTurns AreTurns old new.events

abbrev pub DrewAlone : {R : Type 0} → View R → View R → Type 0
DrewAlone old new = OnlyDrew (call_start old) new

abbrev pub BeganAlone : {R : Type 0} → View R → View R → Type 0
BeganAlone old new = new ≡ call_start old

-- A call has such an answer, and had such turns; or an allocation failed in it, and this is left.
abbrev pub MakesAnsweredCall : {R A E : Type 0} → (R → Stream) → (A → Type 0) → (Endpoint → List Transition → Type 0) → (View R → View R → Type 0) → Context R → Result A E → Context R → Type 0
MakesAnsweredCall stream IsAnswer AreTurns Leaves old result new =
    ByResult (λ answer. IsAnswer answer × MovesByCall stream AreTurns (view_of old) (view_of new)) (Leaves (view_of old) (view_of new)) result

-- A call of the user; or an allocation failed in it, and the first of its events may have been added.
abbrev pub MakesCallOfUser : {R A E : Type 0} → (R → Stream) → CallContent → (A → Type 0) → Context R → Result A E → Context R → Type 0
MakesCallOfUser stream call IsAnswer old result new = MakesAnsweredCall stream IsAnswer (TurnsOf call) (CutsCall (TurnsOf call)) old result new

-- It is set; or an allocation failed, and nothing has changed.
abbrev pub ChangesSetting : {R E : Type 0} → Setting → Context R → Result (Unit {0}) E → Context R → Type 0
ChangesSetting setting old result new = ByResult (λ done. view_of new ≡ set_view setting (view_of old)) (view_of new ≡ call_start (view_of old)) result

-- The first message that is ready is taken, if one is, and no word is drawn.
abbrev pub TakesFirstMessage : {R : Type 0} → View R → Option Message → View R → Type 0
TakesFirstMessage old result new = TakesNextOf (call_start old) result new
