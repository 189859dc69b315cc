-- Message identifiers of ordered messages are read right, and tell them apart (RFC 8260, section
-- 2.1), where the numbers of their stream begin at 0.
use Rattle.std.specs.Prelude.{◌≡◌, ◌<◌, ◌≤◌, ◌+◌, ◌%◌, ◌^◌, ℕ, true, false, Some, List, [], Bool}
use Rattle.dcsctp_spec_lemmas.specs.types.queues.Messages.{MessageContent}
use Rattle.dcsctp_spec_lemmas.specs.types.declared.arrivals.Taken.{Taken}
use Rattle.dcsctp_spec_lemmas.specs.types.declared.ids.StreamId.{StreamId}
use Rattle.dcsctp_spec_lemmas.specs.types.declared.arrivals.SkippedTo.TheVariants.{Mid}
use Rattle.dcsctp_spec_lemmas.specs.spec.queues.Numbers.{number_near}
use Rattle.dcsctp_spec_lemmas.specs.spec.queues.Runs.{PartModel}
use Rattle.dcsctp_spec_lemmas.specs.spec.queues.IncomingStreams.{StreamModel, TakesOrdered, stream_after_skip}
use Rattle.dcsctp_delivery_directions.specs.sending.Places.{HasEntry, at_place}
use Rattle.dcsctp_delivery_directions.specs.sending.Log.{Message, Piece, History}
use Rattle.dcsctp_delivery_directions.specs.sending.Numbers.{AreOfKind, IsCurrent, IsBegunUnder}
use Rattle.dcsctp_delivery_directions.specs.order.Queue.{FollowsOn, Cut, AreSeparated}
use Rattle.dcsctp_delivery_directions.specs.order.Rising.{IsAhead}
use Rattle.dcsctp_delivery_directions.specs.order.Order.{IsReadAs, StreamInOrder}
use Rattle.dcsctp_delivery_directions.specs.order.Epochs.{AreReadByEpoch}

-- With each ordered message of the stream that was sent, each of a lower number was begun before, from the floor on.
abbrev pub AreDenseBefore : History → ℕ → Type 0
AreDenseBefore history id =
    (n : ℕ) (f : Piece) → at_place n history.log ≡ Some (Some f) → f.message.stream ≡ id → f.message.is_unordered ≡ false
    → (mid : ℕ) → history.floors id false ≤ mid → mid ≤ f.mid → (b : IsBegunUnder history.log id mid) × (b.offset ≤ n)

-- The log is one of I-DATA whose numbers follow the queue, and tell its messages apart. Those of the ordered messages of this
-- stream begin at a multiple of 2^32, and fewer than 2^31 were given since its last reset. None is left out.
pub record CountsFromZero (history : History) (id : ℕ) : Type 0 where
  pub kinds : AreOfKind true history.log
  pub follows : FollowsOn id history.log
  pub apart : (m n : ℕ) (f g : Piece) → at_place m history.log ≡ Some (Some f) → at_place n history.log ≡ Some (Some g) → f.message.stream ≡ g.message.stream → f.message.is_unordered ≡ g.message.is_unordered
      → f.mid ≡ g.mid → f.place ≡ g.place
  pub floor : history.floors id false % 2 ^ 32 ≡ 0
  pub few : (n : ℕ) (f : Piece) → at_place n history.log ≡ Some (Some f) → f.message.stream ≡ id → f.message.is_unordered ≡ false → f.mid < history.floors id false + 2 ^ 31
  pub dense : AreDenseBefore history id

-- The next number is one of those from the first on.
pub record IsInReach (stream : StreamModel) : Type 0 where
  pub from : 2 ^ 32 ≤ stream.next
  pub up_to : stream.next ≤ 2 ^ 32 + 2 ^ 31

-- What is watched of a stream: when are resets of it asked for, and which were performed? And is it known of all TSNs without
-- limits that count as received that they were?
pub record Watch : Type 0 where
  pub asks : ℕ → Bool
  pub cuts : List Cut
  pub knows_all : Bool

-- none was performed
abbrev pub uncut : Bool → (ℕ → ℕ → Bool) → ℕ → Watch
uncut knows_all asks id = record { asks = asks id; cuts = []; knows_all = knows_all }

-- a reset of each may be asked for at any time
abbrev pub any_asked : ℕ → ℕ → Bool
any_asked id count = true

-- What was sent on the stream since its last reset was queued after each of these was asked for.
abbrev pub ComeSince : History → ℕ → List Cut → Type 0
ComeSince history id cuts =
    (cut : Cut) → HasEntry cut cuts → (n : ℕ) (f : Piece) → at_place n history.log ≡ Some (Some f) → f.message.stream ≡ id → IsCurrent history f → cut.place ≤ f.place

-- The stream is in order, with its next number in reach, and each epoch without a gap. Each reset of it that was performed separates
-- its messages, and what comes next was queued since.
pub record OrderedStream (watch : Watch) (queued : List Message) (history : History) (id : ℕ) (all waits : List ℕ) (stream : StreamModel) : Type 0 where
  pub order : StreamInOrder queued history id all waits stream
  pub reach : IsInReach stream
  pub by_epoch : AreReadByEpoch watch.knows_all watch.asks queued history id all stream.next
  pub separated : AreSeparated watch.knows_all watch.asks queued id watch.cuts all
  pub since : ComeSince history id watch.cuts

-- The piece is one of an ordered message of the stream that was sent since the last reset of that.
pub record IsSince (history : History) (id offset : ℕ) (piece : Piece) : Type 0 where
  pub at : at_place offset history.log ≡ Some (Some piece)
  pub stream : piece.message.stream ≡ id
  pub ordered : piece.message.is_unordered ≡ false
  pub current : IsCurrent history piece

-- Its number is read right.
abbrev pub MidsAreReadRight : Type 0
MidsAreReadRight =
    (history : History) (id offset : ℕ) (piece : Piece) (stream : StreamModel) → CountsFromZero history id → IsInReach stream → IsSince history id offset piece
    → IsReadAs history id piece.place (number_near stream.next (piece.mid % 2 ^ 32))

-- If its message doesn't wait, no message that waits has its number. So it is received as one that is ahead, and never as one
-- under a number that another has.
abbrev pub NumbersAreFresh : Type 0
NumbersAreFresh =
    (queued : List Message) (history : History) (id place : ℕ) (all waits : List ℕ) (part : PartModel) (stream : StreamModel) → CountsFromZero history id → StreamInOrder queued history id all waits stream
    → IsReadAs history id place part.number → (HasEntry place waits → ⊥) → stream.next ≤ part.number → IsAhead part stream

-- The next number stays in reach when such a part comes,
abbrev pub PartsStayInReach : Type 0
PartsStayInReach =
    (queued : List Message) (history : History) (id place : ℕ) (all waits : List ℕ) (part : PartModel) (old : StreamModel) (before : List MessageContent) (taken : Taken) (new : StreamModel) (after : List MessageContent)
    → CountsFromZero history id → StreamInOrder queued history id all waits old → IsReadAs history id place part.number → IsAhead part old → TakesOrdered part old before taken new after → IsInReach old → IsInReach new

-- and when messages up to one that was sent are skipped.
abbrev pub SkipsStayInReach : Type 0
SkipsStayInReach =
    (queued : List Message) (history : History) (id place mid : ℕ) (all waits : List ℕ) (on : StreamId) (old : StreamModel)
    → CountsFromZero history id → StreamInOrder queued history id all waits old → IsReadAs history id place (number_near old.next mid) → IsInReach old → IsInReach (stream_after_skip (Mid on false mid) old)
