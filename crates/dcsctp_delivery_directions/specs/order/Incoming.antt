-- What a receiver holds of an association is what its peer queued, each message once, and ordered
-- messages of a stream become ready in order (RFC 9260, section 6.6; RFC 8260).
use Rattle.std.specs.Prelude.{◌≡◌, ◌||◌, ℕ, Bool, true, false, Some, List, [], ◌∷◌, ◌++◌, ◌<◌, length}
use Rattle.std.specs.List.{AllByRecursion}
use Rattle.dcsctp_spec_lemmas.specs.types.queues.Messages.{MessageContent}
use Rattle.dcsctp_spec_lemmas.specs.types.declared.arrivals.SkippedTo.{SkippedTo}
use Rattle.dcsctp_spec_lemmas.specs.spec.queues.Numbers.{number_near}
use Rattle.dcsctp_spec_lemmas.specs.spec.queues.IncomingStreams.{StreamModel, ChunkModel, skipped_stream}
use Rattle.dcsctp_spec_lemmas.specs.spec.queues.Incoming.{IncomingModel, nothing, stream_on, TakesIncomingChunk, MovesOn, ResetsStreams}
use Rattle.dcsctp_spec_lemmas.specs.spec.queues.Reassembly.{names_stream}
use Rattle.dcsctp_delivery_directions.specs.sending.Places.{HasEntry, at_place}
use Rattle.dcsctp_delivery_directions.specs.sending.Log.{Message, Slot, History, IsLogOfPieces, sent_messages, SentMessages, Piece}
use Rattle.dcsctp_delivery_directions.specs.sending.Numbers.{IsUnambiguous}
use Rattle.dcsctp_delivery_directions.specs.receiving.Ready.{HoldsAll, WasQueued, WereQueued, BearsPiece, held_messages, HeldMessages}
use Rattle.dcsctp_delivery_directions.specs.order.Queue.{ComeInOrder, AreSeparated}
use Rattle.dcsctp_delivery_directions.specs.order.Order.{IsBetweenResets}
use Rattle.dcsctp_delivery_directions.specs.order.Epochs.{LeaveNoGapSent, SendsEpochsInTurn}
use Rattle.dcsctp_delivery_directions.specs.order.Reading.{CountsFromZero, OrderedStream, Watch, uncut, ComeSince}
use Rattle.dcsctp_delivery_directions.specs.order.Parts.{HoldsPartsOf, ReadsAllSent}
use Rattle.dcsctp_delivery_directions.specs.order.Skips.{AreSkipsHandled}

-- The stream is in order; or it was reset, and its messages aren't numbered from 0 yet. All that was sent before is read then, if
-- that is to be known.
abbrev pub IsOrderedOrReset : Watch → Bool → SentMessages → ℕ → List ℕ → List ℕ → StreamModel → Type 0
IsOrderedOrReset watch false user id all waits stream = OrderedStream watch user.queued user.history id all waits stream
IsOrderedOrReset watch true user id all waits stream =
    IsBetweenResets user.queued user.history id all × AreSeparated watch.knows_all watch.asks user.queued id watch.cuts all × LeaveNoGapSent watch.knows_all watch.asks user.queued user.history id all × (watch.knows_all ≡ true → ReadsAllSent user.history id all)

-- All that is held was queued, and the streams whose numbers begin at 0 are in order, with all parts that were handled. `watch` is what is
-- watched of each.
-- `quiet` are the streams that were reset, and on which nothing comes before their messages are numbered from 0 again.
pub record HoldsOrdered (watch : ℕ → Watch) (user : SentMessages) (quiet : ℕ → Bool) (got : List ℕ) (base : ℕ) (read : List ℕ) (held : HeldMessages) : Type 0 where
  pub holds : HoldsAll user got base read held
  pub order : (id : ℕ) → CountsFromZero user.history id → IsOrderedOrReset (watch id) (quiet id) user id (read ++ holds.places) (holds.waits id) (held.streams id)
  pub within : (n : ℕ) → HasEntry n got → n < length user.history.log
  pub parts : (id : ℕ) → CountsFromZero user.history id → HoldsPartsOf user.history (quiet id) got id (held.streams id)

-- This holds for the received messages of an association.
abbrev pub IncomingOrdered : (ℕ → Watch) → SentMessages → (ℕ → Bool) → List ℕ → ℕ → List ℕ → IncomingModel → Type 0
IncomingOrdered watch user quiet got base read incoming =
    HoldsOrdered watch user quiet got base read (held_messages (λ id. stream_on id incoming.streams) incoming.unordered incoming.ready)

-- It holds of an association that was just begun.
abbrev pub BeginningInOrder : Type 0
BeginningInOrder = (asks : ℕ → ℕ → Bool) (queued : List Message) (history : History) (quiet : ℕ → Bool) (base : ℕ) → IncomingOrdered (uncut false asks) (sent_messages queued history) quiet [] base [] nothing

-- A chunk whose TSN is new, and that carries the piece of its TSN, leaves it so.
abbrev pub ReadyInOrder : Type 0
ReadyInOrder =
    (watch : ℕ → Watch) (queued : List Message) (history : History) (quiet : ℕ → Bool) → IsLogOfPieces queued history.log → IsUnambiguous history
    → (got : List ℕ) (base tsn : ℕ) (read : List ℕ) (chunk : ChunkModel) (old new : IncomingModel)
    → (bears : BearsPiece history base (number_near old.last_tsn_number tsn) chunk) → (HasEntry bears.offset got → ⊥) → quiet chunk.stream ≡ false
    → IncomingOrdered watch (sent_messages queued history) quiet got base read old → TakesIncomingChunk tsn chunk old new
    → IncomingOrdered watch (sent_messages queued history) quiet (bears.offset ∷ got) base read new

-- None of these entries skips a message of a quiet stream.
abbrev pub NoneIsQuiet : (ℕ → Bool) → List SkippedTo → Type 0
NoneIsQuiet quiet entries = AllByRecursion (λ entry. quiet (skipped_stream entry) ≡ false) entries

-- So does an I-FORWARD-TSN, if it skips nothing without limits that wasn't handled,
abbrev pub SkippingInOrder : Type 0
SkippingInOrder =
    (watch : ℕ → Watch) (queued : List Message) (history : History) (quiet : ℕ → Bool) (got : List ℕ) (base tsn : ℕ) (read : List ℕ) (entries : List SkippedTo) (old new : IncomingModel)
    → IsLogOfPieces queued history.log → IsUnambiguous history → AreSkipsHandled watch history got entries → NoneIsQuiet quiet entries → IncomingOrdered watch (sent_messages queued history) quiet got base read old → MovesOn tsn entries old new → IncomingOrdered watch (sent_messages queued history) quiet got base read new

-- All that was sent on each of these streams is read, if it isn't quiet and that is to be known.
abbrev pub NamedAreRead : (ℕ → Watch) → History → (ℕ → Bool) → List ℕ → List ℕ → Type 0
NamedAreRead watch history quiet streams all =
    (id : ℕ) → names_stream streams id ≡ true → quiet id ≡ false → CountsFromZero history id → (watch id).knows_all ≡ true → ReadsAllSent history id all

-- and a reset of streams, where each epoch is sent in turn. They are quiet from then on.
abbrev pub ResettingInOrder : Type 0
ResettingInOrder =
    (watch : ℕ → Watch) (queued : List Message) (history : History) (quiet : ℕ → Bool) (got : List ℕ) (base : ℕ) (read streams : List ℕ) (old new : IncomingModel)
    → IsLogOfPieces queued history.log → ((id : ℕ) → SendsEpochsInTurn (watch id).asks queued history id) → (o : IncomingOrdered watch (sent_messages queued history) quiet got base read old) → NamedAreRead watch history quiet streams (read ++ o.holds.places) → ResetsStreams streams old new → IncomingOrdered watch (sent_messages queued history) (λ id. quiet id || names_stream streams id) got base read new

-- the first message that can be read, and those after it
pub record FirstReady : Type 0 where
  pub incoming : IncomingModel
  pub message : MessageContent
  pub others : List MessageContent

abbrev pub first_ready : IncomingModel → MessageContent → List MessageContent → FirstReady
first_ready incoming message others = record { incoming = incoming; message = message; others = others }

-- The message that the user reads was queued, and wasn't read before.
pub record ReadsInOrder (watch : ℕ → Watch) (user : SentMessages) (quiet : ℕ → Bool) (got : List ℕ) (base : ℕ) (read : List ℕ) (first : FirstReady) : Type 0 where
  pub place : ℕ
  pub was : WasQueued user.queued place first.message
  pub fresh : HasEntry place read → ⊥
  pub ordered : IncomingOrdered watch user quiet got base (read ++ place ∷ []) (record first.incoming { ready = first.others })

-- This holds for the first that is ready.
abbrev pub TakingInOrder : Type 0
TakingInOrder =
    (watch : ℕ → Watch) (queued : List Message) (history : History) (quiet : ℕ → Bool) (got : List ℕ) (base : ℕ) (read : List ℕ) (incoming : IncomingModel) (message : MessageContent) (messages : List MessageContent)
    → incoming.ready ≡ message ∷ messages → IncomingOrdered watch (sent_messages queued history) quiet got base read incoming → ReadsInOrder watch (sent_messages queued history) quiet got base read (first_ready incoming message messages)

-- What was read of a stream's ordered messages was queued in the order of reading.
abbrev pub OrderedWasRead : Type 0
OrderedWasRead =
    (watch : ℕ → Watch) (queued : List Message) (history : History) (quiet : ℕ → Bool) (got : List ℕ) (base : ℕ) (read : List ℕ) (incoming : IncomingModel) (id : ℕ) → CountsFromZero history id
    → IncomingOrdered watch (sent_messages queued history) quiet got base read incoming → ComeInOrder queued id read

-- The later history has all TSNs of the earlier one, and no floor was raised.
pub record IsWithin (history later : History) : Type 0 where
  pub stays : (n : ℕ) (slot : Slot) → at_place n history.log ≡ Some slot → at_place n later.log ≡ Some slot
  pub floors : later.floors ≡ history.floors

-- Nothing more was sent on the stream.
abbrev pub SendsNoMore : History → History → ℕ → Type 0
SendsNoMore history later id = (n : ℕ) (f : Piece) → at_place n later.log ≡ Some (Some f) → f.message.stream ≡ id → at_place n history.log ≡ Some (Some f)

-- The peer may queue more, assign more TSNs and begin resets: the stream is in order as before.
abbrev pub GrowingInOrder : Type 0
GrowingInOrder =
    (watch : Watch) (queued more : List Message) (history later : History) (quiet : Bool) (id : ℕ) (all waits : List ℕ) (contents : List MessageContent) (stream : StreamModel)
    → IsWithin history later → (quiet ≡ false → ComeSince history id watch.cuts → ComeSince later id watch.cuts) → (quiet ≡ true → SendsNoMore history later id) → WereQueued queued all contents → CountsFromZero later id → (CountsFromZero history id → IsOrderedOrReset watch quiet (sent_messages queued history) id all waits stream)
    → IsOrderedOrReset watch quiet (sent_messages (more ++ queued) later) id all waits stream
