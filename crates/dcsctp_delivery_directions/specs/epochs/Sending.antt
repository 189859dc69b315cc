-- The epochs of a stream, from one reset that its user asks for to the next (RFC 6525, section 5.1.2):
-- what was queued before a request is sent before the reset, and what was queued since after it.
use Rattle.std.specs.Prelude.{◌≡◌, ◌<◌, ◌≤◌, ◌&&◌, ℕ, Bool, true, false, Option, None, Some, is_some, List, [], ◌∷◌, if◌then◌else◌}
use Rattle.dcsctp_spec.specs.types.queues.SendStreams.{Waiting, Stream, front_of}
use Rattle.dcsctp_spec.specs.queues.Incoming.{is_named}
use Rattle.dcsctp_spec.specs.queues.OwnResets.{is_open_pause}
use Rattle.dcsctp_spec.specs.queues.SendQueue.{SendQueueState}
use Rattle.dcsctp_delivery_directions.specs.sending.Places.{at_place}
use Rattle.dcsctp_delivery_directions.specs.sending.Log.{Piece, History}
use Rattle.dcsctp_delivery_directions.specs.sending.Numbers.{stream_named, is_handed_out, IsCurrent}
use Rattle.dcsctp_delivery_directions.specs.sending.Pieces.{unbegun}

-- Each of these was queued at this place or later.
abbrev pub AllFrom : ℕ → List Waiting → Type 0
AllFrom place [] = Unit {0}
AllFrom place (waiting ∷ others) = (place ≤ waiting.message_id) × AllFrom place others

-- All that was sent on the stream since its last reset, and all that waits on it, was queued at this place or later.
pub record SendsFrom (history : History) (queue : SendQueueState) (id place : ℕ) : Type 0 where
  pub sent : (n : ℕ) (f : Piece) → at_place n history.log ≡ Some (Some f) → f.message.stream ≡ id → IsCurrent history f → place ≤ f.place
  pub waits : AllFrom place (stream_named id queue.streams).messages

-- All that was sent on the stream was queued before this place, and so was the message under way. What isn't begun was queued
-- there or later.
pub record HaltsBefore (history : History) (queue : SendQueueState) (id place : ℕ) : Type 0 where
  pub sent : (n : ℕ) (f : Piece) → at_place n history.log ≡ Some (Some f) → f.message.stream ≡ id → f.place < place
  pub going : (w : Waiting) → is_some (stream_named id queue.streams).under_way ≡ true → front_of (stream_named id queue.streams).messages ≡ Some w → w.message_id < place
  pub rest : AllFrom place (unbegun (stream_named id queue.streams))

-- What a user asked for on a stream: how many messages were queued at the newest request that paused it, if there was one in the
-- association, and at the one before whose reset has ended.
pub record EpochBounds : Type 0 where
  pub newest : Option ℕ
  pub ended : ℕ

abbrev pub never_asked : EpochBounds
never_asked = record { newest = None; ended = 0 }

-- Once these streams are to be reset: a request for a stream that is paused already changes nothing.
abbrev pub asked_with : List ℕ → List Stream → ℕ → (ℕ → EpochBounds) → ℕ → EpochBounds
asked_with ids streams count asked id =
    if is_named ids id && is_open_pause (stream_named id streams).pause then record (asked id) { newest = Some count } else asked id

-- once its reset has ended
abbrev pub newest_ended : EpochBounds → EpochBounds
newest_ended asked = go asked.newest
  where
    go : Option ℕ → EpochBounds
    go None = asked
    go (Some place) = record asked { ended = place }

-- once the resets of the streams that are handed out have ended
abbrev pub asked_ended : List Stream → (ℕ → EpochBounds) → ℕ → EpochBounds
asked_ended streams asked id = if is_handed_out (stream_named id streams).pause then newest_ended (asked id) else asked id

-- is the stream open: not to be reset?
abbrev pub is_open : ℕ → List Stream → Bool
is_open id streams = is_open_pause (stream_named id streams).pause

-- A paused stream stops before its newest request.
abbrev pub HaltsIfAsked : Option ℕ → History → SendQueueState → ℕ → Type 0
HaltsIfAsked None history queue id = Unit {0}
HaltsIfAsked (Some place) history queue id = is_open id queue.streams ≡ false → HaltsBefore history queue id place

-- The stream is sent by epochs: from the request whose reset has ended, and up to the newest one while it is paused. So many
-- messages were queued by now.
pub record SendsByEpoch (count : ℕ) (history : History) (queue : SendQueueState) (id : ℕ) (asked : EpochBounds) : Type 0 where
  pub from : SendsFrom history queue id asked.ended
  pub stops : HaltsIfAsked asked.newest history queue id
  pub newest : (place : ℕ) → asked.newest ≡ Some place → (asked.ended ≤ place) × (place ≤ count)
  pub ended : asked.ended ≤ count

-- It is known when the user asked for its newest reset.
pub record IsKnown (asked : EpochBounds) : Type 0 where
  pub place : ℕ
  pub is : asked.newest ≡ Some place
