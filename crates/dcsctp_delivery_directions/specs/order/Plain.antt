-- A stream without interleaving: the sender's numbers of its ordered messages are counts, which the
-- log has, and the receiver reads them right (RFC 9260, section 6.6).
use Rattle.std.specs.Prelude.{◌≡◌, ◌⊎◌, ◌<◌, ◌≤◌, ◌+◌, ◌-◌, ◌^◌, if◌then◌else◌, ℕ, Bool, false, true, None, Some, List, [], ◌∷◌, ◌++◌, length}
use Rattle.dcsctp_spec_lemmas.specs.spec.queues.Numbers.{fragment_place}
use Rattle.dcsctp_spec_lemmas.specs.spec.queues.Runs.{RunModel}
use Rattle.dcsctp_spec_lemmas.specs.spec.queues.IncomingStreams.{StreamModel, is_number_waiting}
use Rattle.dcsctp_spec_lemmas.specs.spec.queues.Incoming.{IncomingModel, stream_on}
use Rattle.dcsctp_delivery_directions.specs.sending.Places.{HasEntry, at_place}
use Rattle.dcsctp_delivery_directions.specs.sending.Log.{Message, Piece, Slot, History, is_end, sent_messages, SentMessages}
use Rattle.dcsctp_delivery_directions.specs.sending.Numbers.{AreOfKind}
use Rattle.dcsctp_delivery_directions.specs.sending.Turns.{begun_on, turn_of_tsn, IsSsnOfTurn}
use Rattle.dcsctp_delivery_directions.specs.receiving.Ready.{HoldsAll, held_messages, HeldMessages}
use Rattle.dcsctp_delivery_directions.specs.order.Runs.{LieApart, IsHeldForMessage}
use Rattle.dcsctp_delivery_directions.specs.order.Order.{StreamInOrder, AreFilled}

-- ---- numbers without wrap

-- The piece, with the number of its message if that is ordered and was begun as the last of so many of its stream.
abbrev pub turned_piece : Piece → ℕ → Piece
turned_piece piece turn = record piece { mid = if piece.message.is_unordered then 0 else turn - 1 }

abbrev pub turned_slot : Slot → List Slot → Slot
turned_slot None earlier = None
turned_slot (Some piece) earlier = Some (turned_piece piece (begun_on piece.message.stream (Some piece ∷ earlier)))

abbrev pub turned_log : List Slot → List Slot
turned_log [] = []
turned_log (slot ∷ earlier) = turned_slot slot earlier ∷ turned_log earlier

-- the history with such numbers, from 0 on
abbrev pub with_turns : History → History
with_turns history = record { log = turned_log history.log; marks = []; floors = λ id is_unordered. 0 }

-- the receiver's number of the message of a TSN: it counts from 2^32 on
abbrev pub number_of_tsn : ℕ → ℕ → List Slot → ℕ
number_of_tsn id n log = 2 ^ 32 + turn_of_tsn id n log - 1

-- The TSN carries a piece of an ordered message of the stream.
pub record CarriesOrdered (log : List Slot) (id n : ℕ) (piece : Piece) : Type 0 where
  pub at : at_place n log ≡ Some (Some piece)
  pub stream : piece.message.stream ≡ id
  pub ordered : piece.message.is_unordered ≡ false

-- The log is one of DATA, in which SSNs count the ordered messages of the stream from 0 on, and a message is begun only once
-- the one before has ended, or is abandoned. Fewer than 2^31 TSNs were assigned.
pub record CountsPlain (id : ℕ) (history : History) : Type 0 where
  pub kinds : AreOfKind false history.log
  pub sent : (n : ℕ) (f : Piece) → CarriesOrdered history.log id n f → IsSsnOfTurn f.ssn (turn_of_tsn id n history.log)
  pub closes : (n : ℕ) (f g : Piece) → at_place n history.log ≡ Some (Some f) → at_place (n + 1) history.log ≡ Some (Some g) → g.start ≡ 0 → is_end f ≡ true
  pub few : length history.log < 2 ^ 31

-- So it is on these streams. Nothing is skipped on any stream (`whole`), or no message of these may be abandoned.
pub record CountsThese (whole : Bool) (these : ℕ → Bool) (history : History) : Type 0 where
  pub kinds : AreOfKind false history.log
  pub few : length history.log < 2 ^ 31
  pub each : (id : ℕ) → these id ≡ true → CountsPlain id history
  pub unlimited : whole ≡ false → (n : ℕ) (f : Piece) → at_place n history.log ≡ Some (Some f) → these f.message.stream ≡ true → f.message.is_limited ≡ false

-- ---- what a receiver has of a stream

-- A run has the number of the message of its first part, and begins at that part's place.
pub record IsNumberedRun (log : List Slot) (base id : ℕ) (run : RunModel) : Type 0 where
  pub offset : ℕ
  pub piece : Piece
  pub is : CarriesOrdered log id offset piece
  pub number : run.number ≡ number_of_tsn id offset log
  pub first : run.first ≡ fragment_place run.number base + offset

-- The part of a TSN is held, or its whole message waits.
abbrev pub IsHeldOrWaits : List Slot → ℕ → ℕ → StreamModel → ℕ → Type 0
IsHeldOrWaits log base id stream n =
    IsHeldForMessage stream.ordered (fragment_place (number_of_tsn id n log) base + n) (number_of_tsn id n log) ⊎ (is_number_waiting (number_of_tsn id n log) stream.waiting ≡ true)

-- The stream is in order, without a gap. Its runs lie apart, and each part that was handled is held, or its message is whole. `base`
-- is the number that the reassembly queue has for the first TSN.
pub record PlainStream (user : SentMessages) (got : List ℕ) (base id : ℕ) (all waits : List ℕ) (stream : StreamModel) : Type 0 where
  pub order : StreamInOrder user.queued (with_turns user.history) id all waits stream
  pub filled : AreFilled (with_turns user.history) id all stream.next
  pub from : 2 ^ 32 ≤ stream.next
  pub apart : LieApart 0 stream.ordered
  pub runs : (run : RunModel) → HasEntry run stream.ordered → IsNumberedRun user.history.log base id run
  pub held : (n : ℕ) (f : Piece) → CarriesOrdered user.history.log id n f → HasEntry n got → stream.next ≤ number_of_tsn id n user.history.log → IsHeldOrWaits user.history.log base id stream n

-- ---- what a receiver has of all streams

-- All that is held was queued, and each of these streams is in order.
pub record HoldsPlain (these : ℕ → Bool) (user : SentMessages) (got : List ℕ) (base : ℕ) (read : List ℕ) (held : HeldMessages) : Type 0 where
  pub holds : HoldsAll user got base read held
  pub order : (id : ℕ) → these id ≡ true → PlainStream user got base id (read ++ holds.places) (holds.waits id) (held.streams id)

abbrev pub IncomingPlain : (ℕ → Bool) → List Message → History → List ℕ → ℕ → List ℕ → IncomingModel → Type 0
IncomingPlain these queued history got base read incoming = HoldsPlain these (sent_messages queued history) got base read (held_messages (λ id. stream_on id incoming.streams) incoming.unordered incoming.ready)
