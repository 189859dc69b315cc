-- What a receiver has of the ordered messages of a stream comes in the order in which they were
-- queued, across resets of the stream (RFC 9260, section 6.6; RFC 6525, section 5.2.2).
use Rattle.std.specs.Prelude.{◌≡◌, ◌<◌, ◌+◌, ◌^◌, ℕ, Bool, false, Some, List, [], ◌∷◌, ◌++◌, ◌≤◌}
use Rattle.dcsctp_spec_lemmas.specs.types.queues.Messages.{MessageContent}
use Rattle.dcsctp_spec_lemmas.specs.types.declared.arrivals.SkippedTo.{SkippedTo}
use Rattle.dcsctp_spec_lemmas.specs.types.declared.arrivals.Taken.{Taken}
use Rattle.dcsctp_spec_lemmas.specs.spec.queues.Runs.{PartModel, WholeModel}
use Rattle.dcsctp_spec_lemmas.specs.spec.queues.IncomingStreams.{StreamModel, new_stream, TakesOrdered, stream_after_skip}
use Rattle.dcsctp_delivery_directions.specs.sending.Places.{HasEntry, at_place}
use Rattle.dcsctp_delivery_directions.specs.sending.Log.{Message, Piece, History}
use Rattle.dcsctp_delivery_directions.specs.order.Queue.{IsOrderedOn, ComeInOrder, FollowsOn}
use Rattle.dcsctp_delivery_directions.specs.order.Rising.{WaitsForNext, IsAhead, ready_with_part, ready_past}

-- The message of this place is an ordered one of the stream, and a piece of it was sent under this number of the sender's.
pub record IsSentAs (history : History) (id place mid : ℕ) : Type 0 where
  pub offset : ℕ
  pub piece : Piece
  pub at : at_place offset history.log ≡ Some (Some piece)
  pub is : piece.place ≡ place
  pub stream : piece.message.stream ≡ id
  pub ordered : piece.message.is_unordered ≡ false
  pub under : piece.mid ≡ mid

-- The receiver has this number for it: it counts from 2^32 on since the last reset of the stream, and the sender from the floor.
pub record IsReadAs (history : History) (id place number : ℕ) : Type 0 where
  pub mid : ℕ
  pub sent : IsSentAs history id place mid
  pub counted : mid + 2 ^ 32 ≡ history.floors id false + number

-- It has a number below this one, or was sent before the last reset of the stream.
pub record IsReadBelow (history : History) (id place number : ℕ) : Type 0 where
  pub mid : ℕ
  pub sent : IsSentAs history id place mid
  pub below : mid + 2 ^ 32 < history.floors id false + number

-- Each of these has the number of its place.
abbrev pub AreReadAs : History → ℕ → List ℕ → List WholeModel → Type 0
AreReadAs history id [] [] = Unit {0}
AreReadAs history id [] (whole ∷ wholes) = ⊥
AreReadAs history id (place ∷ places) [] = ⊥
AreReadAs history id (place ∷ places) (whole ∷ wholes) = IsReadAs history id place whole.number × AreReadAs history id places wholes

-- `all` are the places of the messages that were read or are ready, oldest first, and `waits` those of the messages that wait on
-- the stream. Its ordered messages are in order, and come before what waits or is received next.
pub record StreamInOrder (queued : List Message) (history : History) (id : ℕ) (all waits : List ℕ) (stream : StreamModel) : Type 0 where
  pub in_order : ComeInOrder queued id all
  pub below : (place : ℕ) → HasEntry place all → IsOrderedOn queued id place → IsReadBelow history id place stream.next
  pub waiting : AreReadAs history id waits stream.waiting
  pub ahead : WaitsForNext stream

-- A message of this number is among those that were read or are ready.
pub record HasNumber (history : History) (id : ℕ) (all : List ℕ) (number : ℕ) : Type 0 where
  pub place : ℕ
  pub has : HasEntry place all
  pub is : IsReadAs history id place number

-- All numbers before the next one are among them.
abbrev pub AreFilled : History → ℕ → List ℕ → ℕ → Type 0
AreFilled history id all next = (number : ℕ) → 2 ^ 32 ≤ number → number < next → HasNumber history id all number

-- These became ready besides, and it is so again.
pub record StaysInOrder (queued : List Message) (history : History) (id : ℕ) (all : List ℕ) (delivered : List WholeModel) (new : StreamModel) : Type 0 where
  pub more : List ℕ
  pub waits : List ℕ
  pub are : AreReadAs history id more delivered
  pub order : StreamInOrder queued history id (all ++ more) waits new

-- A stream on which nothing was received is in order.
abbrev pub NewStreamsInOrder : Type 0
NewStreamsInOrder = (queued : List Message) (history : History) (id : ℕ) → StreamInOrder queued history id [] [] (new_stream id)

-- It stays so when a part comes of the message of this place, whose number is read right,
abbrev pub PartsStayInOrder : Type 0
PartsStayInOrder =
    (queued : List Message) (history : History) (id place : ℕ) (all waits : List ℕ) (part : PartModel) (old : StreamModel) (before : List MessageContent) (taken : Taken) (new : StreamModel) (after : List MessageContent)
    → FollowsOn id history.log → StreamInOrder queued history id all waits old → IsReadAs history id place part.number → IsAhead part old → (does : TakesOrdered part old before taken new after)
    → StaysInOrder queued history id all (ready_with_part old does.outcome) new

-- when messages are skipped, whichever,
abbrev pub SkipsStayInOrder : Type 0
SkipsStayInOrder =
    (queued : List Message) (history : History) (id : ℕ) (all waits : List ℕ) (entry : SkippedTo) (old : StreamModel)
    → FollowsOn id history.log → StreamInOrder queued history id all waits old → StaysInOrder queued history id all (ready_past entry old) (stream_after_skip entry old)

-- when messages of other streams become ready, or unordered ones,
abbrev pub OthersStayInOrder : Type 0
OthersStayInOrder =
    (queued : List Message) (history : History) (id : ℕ) (all waits more : List ℕ) (stream : StreamModel)
    → ((place : ℕ) → HasEntry place more → IsOrderedOn queued id place → ⊥) → StreamInOrder queued history id all waits stream → StreamInOrder queued history id (all ++ more) waits stream

-- ---- resets of the stream

-- It was reset, and its messages aren't numbered from 0 yet: nothing of it is received before that.
pub record IsBetweenResets (queued : List Message) (history : History) (id : ℕ) (all : List ℕ) : Type 0 where
  pub in_order : ComeInOrder queued id all
  pub sent : (place : ℕ) → HasEntry place all → IsOrderedOn queued id place → (mid : ℕ) × IsSentAs history id place mid

-- So it is once it was reset,
abbrev pub ResetsComeBetween : Type 0
ResetsComeBetween =
    (queued : List Message) (history : History) (id : ℕ) (all waits : List ℕ) (stream : StreamModel) → StreamInOrder queued history id all waits stream → IsBetweenResets queued history id all

-- and it is in order again once its messages are numbered from 0, and the sender counts from a new floor.
abbrev pub ResetsStayInOrder : Type 0
ResetsStayInOrder =
    (queued : List Message) (history : History) (floors : ℕ → Bool → ℕ) (id : ℕ) (all : List ℕ)
    → ((n : ℕ) (f : Piece) → at_place n history.log ≡ Some (Some f) → f.message.stream ≡ id → f.message.is_unordered ≡ false → f.mid < floors id false)
    → IsBetweenResets queued history id all → StreamInOrder queued (record history { floors = floors }) id all [] (new_stream id)
