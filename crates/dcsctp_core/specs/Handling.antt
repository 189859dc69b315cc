-- What all handlers have in common: how their contracts state a turn, and the turns that all of them share.
use Rattle.std.specs.Prelude.{◌≡◌, ◌==◌, ℕ, ◌+◌, Bool, true, false, Option, None, Some, Result, List, [], ◌∷◌, ◌++◌, length, nat_le, if◌then◌else◌}
use Rattle.rand_core.specs.Stream.{Stream}
use Rattle.dcsctp_transfer.specs.wire.Content.{ChunkContent}
use Rattle.dcsctp_transfer.specs.wire.Spelling.{chunk_bytes, header_bytes, packet_bytes_of}
use Rattle.dcsctp_transfer.specs.types.declared.association.Held.{Held}
use Rattle.dcsctp_transfer.specs.types.declared.kinds.ErrorKind.{ErrorKind}
use Rattle.dcsctp_transfer.specs.types.declared.kinds.ErrorKind.TheVariants.{NoError}
use Rattle.dcsctp_transfer.specs.types.ByResult.{ByResult}
use Rattle.dcsctp_transfer.specs.types.Settings.{packet_size_limit}
use Rattle.dcsctp_transfer.specs.types.Sizes.{common_header_size}
use Rattle.dcsctp_transfer.specs.spec.Packet.{Content, Emission}
use Rattle.dcsctp_transfer.specs.spec.endpoint.Endpoint.{Endpoint, held_by_core, may_answer}
use Rattle.dcsctp_transfer.specs.spec.endpoint.Event.{Event, sent, aborted}
use Rattle.dcsctp_transfer.specs.spec.endpoint.Event as events
use Rattle.dcsctp_transfer.specs.spec.endpoint.Outcome.{Outcome, still, packet_counted, reports, emits, answers_with, to_peer}
use Rattle.dcsctp_transfer.specs.spec.endpoint.Following.{next_chunk, packet_end, dropped_rest}
use Rattle.dcsctp_transfer.specs.spec.endpoint.Following as machine
use Rattle.dcsctp_transfer.specs.spec.endpoint.Turn.{arrival_outcome}
use Rattle.dcsctp_transfer.specs.spec.endpoint.DataOutcomes.{FlushTurn}
use Rattle.dcsctp_transfer.specs.spec.endpoint.EndOutcomes.{close_outcome}
use Rattle.dcsctp_core.specs.declared.following.Following.{Following}
use Rattle.dcsctp_core.specs.declared.following.Following.TheVariants.{NextChunk, PacketEnd, DroppedRest}
use Rattle.dcsctp_core.specs.declared.context.Context.{Context}
use Rattle.dcsctp_core.specs.View.{View, core_of, endpoint_of, view_of, Moves, CutsTurn}

-- ---- a turn, or an allocation that failed

-- Words may have been drawn, with pairs made of them, and nothing else has changed.
abbrev pub OnlyDrew : {R : Type 0} → View R → View R → Type 0
OnlyDrew old new = new ≡ record old { words = new.words; pairs = new.pairs; generator = new.generator }

-- The turn took place; or an allocation failed, and nothing has changed.
abbrev pub Tries : {R E : Type 0} → (R → Stream) → (View R → Outcome) → Context R → Result (Unit {0}) E → Context R → Type 0
Tries stream turn old result new =
    ByResult (λ done. Moves stream (view_of old) (turn (view_of old)) (view_of new)) (view_of new ≡ view_of old) result

-- The turn took place; or an allocation failed, and nothing has changed but the words that were drawn.
abbrev pub TriesDrawing : {R E : Type 0} → (R → Stream) → (View R → Outcome) → Context R → Result (Unit {0}) E → Context R → Type 0
TriesDrawing stream turn old result new =
    ByResult (λ done. Moves stream (view_of old) (turn (view_of old)) (view_of new)) (OnlyDrew (view_of old) (view_of new)) result

-- The turn took place; or an allocation failed, and the first of its events may have been added.
abbrev pub TakesTurn : {R E : Type 0} → (R → Stream) → (View R → Outcome) → Context R → Result (Unit {0}) E → Context R → Type 0
TakesTurn stream turn old result new =
    ByResult (λ done. Moves stream (view_of old) (turn (view_of old)) (view_of new))
    (CutsTurn (view_of old) (turn (view_of old)) (view_of new).events) result

-- A turn with more than one possible outcome took place; or an allocation failed, and the first of its events may have been
-- added.
pub record TakesPossibleTurn {R : Type 0} (stream : R → Stream) (Turn : View R → Outcome → Type 0) (old new : View R) : Type 0 where
  pub outcome : Outcome
  pub turn : Turn old outcome
  pub moves : Moves stream old outcome new

pub record CutsSomeTurn {R : Type 0} (Turn : View R → Outcome → Type 0) (old : View R) (events : List (Event (List ℕ))) : Type 0 where
  pub outcome : Outcome
  pub turn : Turn old outcome
  pub cut : CutsTurn old outcome events

abbrev pub TakesOne : {R E : Type 0} → (R → Stream) → (View R → Outcome → Type 0) → Context R → Result (Unit {0}) E → Context R → Type 0
TakesOne stream Turn old result new =
    ByResult (λ done. TakesPossibleTurn stream Turn (view_of old) (view_of new)) (CutsSomeTurn Turn (view_of old) (view_of new).events) result

-- ---- a chunk's turn, with what follows in its packet

abbrev pub following_of : Following → machine.Following
following_of NextChunk = next_chunk
following_of PacketEnd = packet_end
following_of DroppedRest = dropped_rest

-- A turn of this outcome, and what the code says follows.
pub record IsHandledTurn {R : Type 0} (stream : R → Stream) (old : View R) (outcome : Outcome) (next : Following) (new : View R) : Type 0 where
  pub moves : Moves stream old outcome new
  pub following : outcome.following ≡ following_of next

-- The turn took place; or an allocation failed, and the first of its events may have been added.
abbrev pub HandlesTurn : {R E : Type 0} → (R → Stream) → (View R → Outcome) → Context R → Result Following E → Context R → Type 0
HandlesTurn stream turn old result new =
    ByResult (λ next. IsHandledTurn stream (view_of old) (turn (view_of old)) next (view_of new))
    (CutsTurn (view_of old) (turn (view_of old)) (view_of new).events) result

-- The turn took place; or an allocation failed, and nothing has changed.
abbrev pub HandlesWholeTurn : {R E : Type 0} → (R → Stream) → (View R → Outcome) → Context R → Result Following E → Context R → Type 0
HandlesWholeTurn stream turn old result new =
    ByResult (λ next. IsHandledTurn stream (view_of old) (turn (view_of old)) next (view_of new)) (view_of new ≡ view_of old) result

-- the same for a chunk's turn with more than one possible outcome
pub record HandlesSomeTurn {R : Type 0} (stream : R → Stream) (Turn : View R → Outcome → Type 0) (old : View R) (next : Following) (new : View R) : Type 0 where
  pub outcome : Outcome
  pub turn : Turn old outcome
  pub moves : Moves stream old outcome new
  pub following : outcome.following ≡ following_of next

abbrev pub HandlesPossibleTurn : {R E : Type 0} → (R → Stream) → (View R → Outcome → Type 0) → Context R → Result Following E → Context R → Type 0
HandlesPossibleTurn stream Turn old result new =
    ByResult (λ next. HandlesSomeTurn stream Turn (view_of old) next (view_of new)) (CutsSomeTurn Turn (view_of old) (view_of new).events) result

-- ---- the turns of what all handlers share

-- What waits is sent.
abbrev pub SendsQueued : {R : Type 0} → View R → Outcome → Type 0
SendsQueued view o = FlushTurn view.endpoint o

-- One packet more was counted.
abbrev pub arrival_turn : {R : Type 0} → View R → Outcome
arrival_turn view = arrival_outcome view.endpoint

abbrev pub report_turn : {R : Type 0} → ErrorKind → List ℕ → View R → Outcome
report_turn kind text view = reports view.endpoint kind text

-- the event that ends an association, with this error
abbrev pub end_event : ErrorKind → List ℕ → Event Emission
end_event NoError text = events.closed
end_event kind text = aborted kind text

-- An association ends with this event; without an association, nothing happens.
abbrev pub close_turn : {R : Type 0} → Event Emission → View R → Outcome
close_turn event view = close_outcome view.endpoint view.endpoint.core event

-- A packet of this content is sent to the peer, if it is known and the packet fits.
abbrev pub sent_to_peer : Endpoint → Option Held → Content → Outcome
sent_to_peer e None content = still e
sent_to_peer e (Some held) content = emits e [] (to_peer held content)

-- A chunk that fits `mtu` is sent: its bytes are one more event, and it is counted.
abbrev pub chunk_emitted : {R : Type 0} → Bool → ℕ → ChunkContent → View R → View R
chunk_emitted with_checksum tag chunk view =
    let options = view.endpoint.options in
    if nat_le (common_header_size + length (chunk_bytes chunk)) (packet_size_limit options)
    then record view {
      endpoint = packet_counted view.endpoint;
      events = view.events ++ sent (packet_bytes_of with_checksum (header_bytes options.local_port options.remote_port tag) (chunk_bytes chunk)) ∷ [];
    }
    else view

-- A packet of this chunk was sent, if it fits; or an allocation failed, and nothing has changed.
abbrev pub Emits : {R E : Type 0} → Bool → ℕ → ChunkContent → Context R → Result (Unit {0}) E → Context R → Type 0
Emits with_checksum tag chunk old result new =
    ByResult (λ done. view_of new ≡ chunk_emitted with_checksum tag chunk (view_of old)) (view_of new ≡ view_of old) result

-- It is sent to the peer, if there is one: under its tag, and with a checksum unless zero checksum was negotiated.
abbrev pub emitted_to : {R : Type 0} → Option Held → ChunkContent → View R → View R
emitted_to None chunk view = view
emitted_to (Some held) chunk view = chunk_emitted (held.capabilities.zero_checksum_method.0 == 0) held.peer.tag chunk view

-- A packet of this chunk was sent to the peer, if there is one and the packet fits; or an allocation failed, and nothing has
-- changed.
abbrev pub EmitsToPeer : {R E : Type 0} → ChunkContent → Context R → Result (Unit {0}) E → Context R → Type 0
EmitsToPeer chunk old result new =
    ByResult (λ done. view_of new ≡ emitted_to (held_by_core (core_of old.state)) chunk (view_of old)) (view_of new ≡ view_of old) result

-- A shutdown waits for the association to open.
abbrev pub asked_turn : {R : Type 0} → View R → Outcome
asked_turn view = still (record view.endpoint { shutdown_asked = true })

-- ---- a chunk that is answered

abbrev pub answered_to_peer : Endpoint → Option Held → Content → Outcome
answered_to_peer e None content = still e
answered_to_peer e (Some held) content = answers_with e (to_peer held content)

-- the view once a chunk of the packet was answered
abbrev pub answer_counted : {R : Type 0} → View R → View R
answer_counted view = record view { endpoint = record view.endpoint { has_answered = true } }

-- It is answered by this one to the peer, if there is one, and if it may be.
abbrev pub answered_to : {R : Type 0} → Bool → Option Held → ChunkContent → View R → View R
answered_to may None chunk view = view
answered_to false (Some held) chunk view = view
answered_to true (Some held) chunk view = answer_counted (emitted_to (Some held) chunk view)

-- That is so; or an allocation failed, and nothing has changed.
abbrev pub AnswersPeer : {R E : Type 0} → ChunkContent → Context R → Result (Unit {0}) E → Context R → Type 0
AnswersPeer chunk old result new =
    ByResult (λ done. view_of new ≡ answered_to (may_answer (endpoint_of old)) (held_by_core (core_of old.state)) chunk (view_of old))
    (view_of new ≡ view_of old) result
