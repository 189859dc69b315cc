-- The streams that are paused, and those with a message under way, by number.
use Rattle.std.specs.Prelude.{◌≡◌, ℕ, ◌<◌, ◌≤◌, ◌&&◌, is_some, nat_lt, slice_index_or, Bool, true, false, List, [], ◌∷◌, length, if◌then◌else◌}
use Rattle.std.specs.VecDeque.{deque_capacity}
use Rattle.dcsctp_api.specs.types.declared.ids.StreamId.{StreamId}
use Rattle.dcsctp_api.specs.types.declared.sending.Pause.{Pause}
use Rattle.dcsctp_api.specs.types.declared.sending.Pause.TheVariants.{Open, Pausing, HandedOut}
use Rattle.dcsctp_api.specs.types.queues.SendStreams.{Stream, is_pausing, stream_at}
use Rattle.dcsctp_send_queue.specs.declared.paused.PausedIds.{PausedIds}
use Rattle.dcsctp_send_queue.specs.declared.paused.Standing.{Standing}

-- was the reset of the stream requested?
abbrev pub is_pause_handed_out : Pause → Bool
is_pause_handed_out Open = false
is_pause_handed_out Pausing = false
is_pause_handed_out HandedOut = true

-- a stream's pause, as far as others need to know it: while a message is under way, one that is to be reset can't be handed out
abbrev pub pause_in_order : Stream → Pause
pause_in_order stream = if is_pausing stream.pause && is_some stream.under_way then Open else stream.pause

abbrev pub standing_of : Stream → Standing
standing_of stream = record { pause = pause_in_order stream; is_under_way = is_some stream.under_way }

-- that of a stream which is in none of the lists
abbrev pub not_kept : Standing
not_kept = record { pause = Open; is_under_way = false }

-- the numbers of the streams whose standing meets a test
abbrev pub ids_meeting : (Standing → Bool) → List Stream → List StreamId
ids_meeting test [] = []
ids_meeting test (stream ∷ streams) = if test (standing_of stream) then (record { 0 = stream.id }) ∷ ids_meeting test streams else ids_meeting test streams

abbrev pub is_standing_ready : Standing → Bool
is_standing_ready standing = is_pausing standing.pause

abbrev pub is_standing_handed_out : Standing → Bool
is_standing_handed_out standing = is_pause_handed_out standing.pause

abbrev pub is_standing_under_way : Standing → Bool
is_standing_under_way standing = standing.is_under_way

-- those that can be handed out to be reset
abbrev pub ready_ids : List Stream → List StreamId
ready_ids streams = ids_meeting is_standing_ready streams

-- those whose reset was requested
abbrev pub handed_out_ids : List Stream → List StreamId
handed_out_ids streams = ids_meeting is_standing_handed_out streams

-- those with a message under way
abbrev pub under_way_ids : List Stream → List StreamId
under_way_ids streams = ids_meeting is_standing_under_way streams

-- ---- numbers in order

-- none of these is less than this one
abbrev pub NoneLess : StreamId → List StreamId → Type 0
NoneLess id [] = Unit {0}
NoneLess id (other ∷ ids) = (id.0 ≤ other.0) × NoneLess id ids

abbrev pub AreIdsAscending : List StreamId → Type 0
AreIdsAscending [] = Unit {0}
AreIdsAscending (id ∷ ids) = NoneLess id ids × AreIdsAscending ids

-- with one more, in its place
abbrev pub with_id : StreamId → List StreamId → List StreamId
with_id id [] = id ∷ []
with_id id (first ∷ ids) = if nat_lt first.0 id.0 then first ∷ with_id id ids else id ∷ first ∷ ids

-- with it, if it is one of them
abbrev pub with_id_if : Bool → StreamId → List StreamId → List StreamId
with_id_if false id ids = ids
with_id_if true id ids = with_id id ids

-- Below this place the numbers are less than this one, and from it on they are not.
pub record IsIdPlace (ids : List StreamId) (id : StreamId) (place : ℕ) : Type 0 where
  pub bound : place ≤ length ids
  pub below : (k : ℕ) → k < place → (slice_index_or ids k id).0 < id.0
  pub above : (k : ℕ) → place ≤ k → k < length ids → id.0 ≤ (slice_index_or ids k id).0

-- These are some numbers in order, with this one if it is one of them, and there is room for another beside them.
pub record HoldsId (ids : List StreamId) (is_in : Bool) (id : StreamId) (room : ℕ) : Type 0 where
  pub others : List StreamId
  pub are : ids ≡ with_id_if is_in id others
  pub ascending : AreIdsAscending others
  pub has_room : length others < room

-- ---- the three lists

-- The stream of this number is in the lists that its standing says.
pub record HoldsStanding (ids : PausedIds) (id : StreamId) (standing : Standing) : Type 0 where
  pub ready : HoldsId ids.ready.items (is_standing_ready standing) id (deque_capacity ids.ready)
  pub handed_out : HoldsId ids.handed_out.items (is_standing_handed_out standing) id (deque_capacity ids.handed_out)
  pub under_way : HoldsId ids.under_way.items (is_standing_under_way standing) id (deque_capacity ids.under_way)

-- The stream of this number goes from the one list to the other, if it was to be in the one and is to be in the other. Others stay.
abbrev pub MovesId : List StreamId → List StreamId → StreamId → Bool → Bool → Type 0
MovesId old new id was_in is_in = (others : List StreamId) → old ≡ with_id_if was_in id others → new ≡ with_id_if is_in id others

-- The stream of this number goes from the lists that the one standing says to those of the other, and the others stay.
pub record MovesStanding (old new : PausedIds) (id : StreamId) (before after : Standing) : Type 0 where
  pub ready : MovesId old.ready.items new.ready.items id (is_standing_ready before) (is_standing_ready after)
  pub handed_out : MovesId old.handed_out.items new.handed_out.items id (is_standing_handed_out before) (is_standing_handed_out after)
  pub under_way : MovesId old.under_way.items new.under_way.items id (is_standing_under_way before) (is_standing_under_way after)
  pub has_room : deque_capacity old.ready ≤ deque_capacity new.ready
  pub has_more : deque_capacity old.handed_out ≤ deque_capacity new.handed_out
  pub has_most : deque_capacity old.under_way ≤ deque_capacity new.under_way

-- These are the numbers of the streams that are paused or have a message under way, and there is room for all streams.
pub record ArePaused (streams : List Stream) (ids : PausedIds) : Type 0 where
  pub ready : ids.ready.items ≡ ready_ids streams
  pub handed_out : ids.handed_out.items ≡ handed_out_ids streams
  pub under_way : ids.under_way.items ≡ under_way_ids streams
  pub has_room : length streams ≤ deque_capacity ids.ready
  pub has_more : length streams ≤ deque_capacity ids.handed_out
  pub has_most : length streams ≤ deque_capacity ids.under_way

-- The stream at the place is handed out.
abbrev pub IsHandedOutStream : List Stream → ℕ → Type 0
IsHandedOutStream streams place = (place < length streams) × (is_pause_handed_out (stream_at streams place).pause ≡ true)
