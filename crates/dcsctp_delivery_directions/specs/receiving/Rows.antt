-- The runs that a reassembly queue holds are rows of pieces of the peer's log (RFC 9260, section 6.9,
-- and RFC 8260, section 2.1).
use Rattle.std.specs.Prelude.{◌≡◌, ◌<◌, ◌≤◌, ◌+◌, ◌-◌, ◌%◌, ◌^◌, ℕ, Bool, true, false, Some, List, [], ◌∷◌, length, take, drop}
use Rattle.dcsctp_spec_lemmas.specs.spec.queues.Runs.{RunModel, PartModel, WholeModel, Assembly, part_dropped, part_kept, message_whole, joined_bytes}
use Rattle.dcsctp_spec_lemmas.specs.spec.queues.Numbers.{fragment_place}
use Rattle.dcsctp_delivery_directions.specs.sending.Places.{HasEntry, at_place}
use Rattle.dcsctp_delivery_directions.specs.sending.Log.{Message, Piece, Slot, is_beginning, is_end, piece_bytes}

-- Where the part of a piece lies: by its TSN, or with interleaving by the number of its message and by how many parts come
-- before it (RFC 8260, section 2.1). `base` gives the place of the first TSN for each number of a message.
abbrev pub IsPlaceOfPart : Bool → (ℕ → ℕ) → ℕ → ℕ → ℕ → ℕ → Type 0
IsPlaceOfPart false base offset fsn number place = place ≡ base number + offset
IsPlaceOfPart true base offset fsn number place = place ≡ fragment_place number (fsn % 2 ^ 32)

abbrev pub IsPiecePlaced : (ℕ → ℕ) → ℕ → Piece → ℕ → ℕ → Type 0
IsPiecePlaced base offset piece number place = IsPlaceOfPart piece.is_interleaved base offset piece.fsn number place

-- The part that is held is the piece of its TSN. `Named` is what the reassembly queue knows of a piece by the number of its part.
pub record IsPart (log : List Slot) (base : ℕ → ℕ) (Named : Piece → ℕ → Type 0) (part : PartModel) : Type 0 where
  pub offset : ℕ
  pub piece : Piece
  pub at : at_place offset log ≡ Some (Some piece)
  pub place : IsPiecePlaced base offset piece part.number part.place
  pub number : Named piece part.number
  pub ppid : is_beginning piece ≡ true → part.ppid ≡ piece.message.ppid
  pub payload : part.payload ≡ piece_bytes piece
  pub beginning : part.is_beginning ≡ is_beginning piece
  pub end : part.is_end ≡ is_end piece

-- The run that is held is a row of pieces of one message: by their numbers, or without interleaving by their TSNs. `got` has
-- the offsets from the first TSN of all that were handled.
pub record IsPieceRow (log : List Slot) (got : List ℕ) (base : ℕ → ℕ) (Named : Piece → ℕ → Type 0) (run : RunModel) : Type 0 where
  pub offset : ℕ
  pub head : Piece
  pub last_offset : ℕ
  pub last : Piece
  pub at_head : at_place offset log ≡ Some (Some head)
  pub at_last : at_place last_offset log ≡ Some (Some last)
  pub first : IsPiecePlaced base offset head run.number run.first
  pub later : offset ≤ last_offset
  pub fsns : (last.fsn + 1) % 2 ^ 32 ≡ (head.fsn + length run.payloads) % 2 ^ 32
  pub near : head.is_interleaved ≡ false → last_offset + 1 ≡ offset + length run.payloads
  pub spread : offset + length run.payloads ≤ last_offset + 1
  pub some : 0 < length run.payloads
  pub covered : (n : ℕ) (f : Piece) → at_place n log ≡ Some (Some f) → f.place ≡ head.place → offset ≤ n → n ≤ last_offset → HasEntry n got
  pub place : last.place ≡ head.place
  pub message : last.message ≡ head.message
  pub order : head.start ≤ last.start
  pub payload : joined_bytes run.payloads ≡ take (last.start + last.size - head.start) (drop head.start head.message.payload)
  pub number : Named head run.number
  pub ppid : is_beginning head ≡ true → run.ppid ≡ head.message.ppid
  pub beginning : run.has_beginning ≡ is_beginning head
  pub end : run.has_end ≡ is_end last

-- Each of these is one.
abbrev pub AreRows : List Slot → List ℕ → (ℕ → ℕ) → (Piece → ℕ → Type 0) → List RunModel → Type 0
AreRows log got base Named [] = Unit {0}
AreRows log got base Named (run ∷ runs) = IsPieceRow log got base Named run × AreRows log got base Named runs

-- All pieces of the message of this place were handled.
pub record Spent (log : List Slot) (got : List ℕ) (place : ℕ) : Type 0 where
  pub offset : ℕ
  pub head : Piece
  pub last_offset : ℕ
  pub last : Piece
  pub at_head : at_place offset log ≡ Some (Some head)
  pub at_last : at_place last_offset log ≡ Some (Some last)
  pub is : head.place ≡ place
  pub starts : head.start ≡ 0
  pub same : last.place ≡ place
  pub ends : is_end last ≡ true
  pub order : offset ≤ last_offset
  pub covered : (n : ℕ) (f : Piece) → at_place n log ≡ Some (Some f) → f.place ≡ place → offset ≤ n → n ≤ last_offset → HasEntry n got

-- The whole is the message that was queued at this place, and all its pieces were handled.
pub record IsQueued (queued : List Message) (log : List Slot) (got : List ℕ) (Named : Piece → ℕ → Type 0) (place : ℕ) (whole : WholeModel) : Type 0 where
  pub offset : ℕ
  pub head : Piece
  pub at : at_place offset log ≡ Some (Some head)
  pub is : head.place ≡ place
  pub queued_at : at_place place queued ≡ Some head.message
  pub number : Named head whole.number
  pub ppid : whole.ppid ≡ head.message.ppid
  pub payload : whole.payload ≡ head.message.payload
  pub spent : Spent log got place

-- What a part makes, if it makes a message whole, was queued at this place.
abbrev pub MakesQueued : List Message → List Slot → List ℕ → (Piece → ℕ → Type 0) → ℕ → Assembly → Type 0
MakesQueued queued log got Named place part_dropped = Unit {0}
MakesQueued queued log got Named place part_kept = Unit {0}
MakesQueued queued log got Named place (message_whole whole) = IsQueued queued log got Named place whole
