-- Between two messages of a stream that are both read the receiver has performed a reset of it, if the sender's
-- user asked for one between them (RFC 6525, sections 5.1.2 and 5.2.2).
use Rattle.std.specs.Prelude.{◌≡◌, ◌<◌, ◌≤◌, ◌^◌, ℕ, Bool, true, List, length, nat_le}
use Rattle.dcsctp_spec.specs.types.declared.options.Options.{Options}
use Rattle.dcsctp_spec.specs.queues.Incoming.{is_named}
use Rattle.dcsctp_spec.specs.queues.Reassembly.{names_stream}
use Rattle.dcsctp_delivery_directions.specs.sending.Places.{HasEntry}
use Rattle.dcsctp_delivery_directions.specs.sending.Log.{Message}
use Rattle.dcsctp_delivery_directions.specs.directions.Directions.{PerformedReset, PreparedReset, Direction, DirectionRun, assigned_count}
use Rattle.dcsctp_delivery_directions.specs.order.Queue.{IsMessageOn, Separates}
use Rattle.dcsctp_delivery_directions.specs.epochs.Asked.{AreCutAsAsked, known_fulls}

-- By one of these calls the user resets the stream, once so many messages were queued.
pub record WasPrepared (prepared : List PreparedReset) (id count : ℕ) : Type 0 where
  pub call : PreparedReset
  pub has : HasEntry call prepared
  pub named : is_named call.ids id ≡ true
  pub count_is : call.count ≡ count

-- The message of the stream was read.
pub record IsReadOn (queued : List Message) (id : ℕ) (places : List ℕ) (place : ℕ) : Type 0 where
  pub on : IsMessageOn queued id place
  pub has : HasEntry place places

-- The receiver has performed a reset of the stream that was asked for once the earlier message was queued, and when at most so many were:
-- it separates what was queued before that from what was queued since.
pub record IsPerformedBetween (asks : ℕ → Bool) (performed : List PerformedReset) (queued : List Message) (id earlier count : ℕ) (places : List ℕ) : Type 0 where
  pub reset : PerformedReset
  pub has : HasEntry reset performed
  pub names : names_stream reset.streams id ≡ true
  pub place : ℕ
  pub asked : asks place ≡ true
  pub from : earlier < place
  pub to : place ≤ count
  pub separates : Separates queued id reset.index place places

-- So it is between two messages of a stream that were read, ordered or not, with limits or without, if the user resets the stream
-- between them by a call at which nothing of it waits.
abbrev pub PerformBetween : List PreparedReset → (ℕ → ℕ → Bool) → (ℕ → ℕ → Bool) → List PerformedReset → List Message → List ℕ → Type 0
PerformBetween prepared asks empties performed queued places =
    (id earlier later count : ℕ) → WasPrepared prepared id count → empties id count ≡ true → IsReadOn queued id places earlier → IsReadOn queued id places later
    → earlier < count → count ≤ later → IsPerformedBetween (asks id) performed queued id earlier count places

abbrev pub ArePerformedBetween : Direction → List ℕ → Type 0
ArePerformedBetween direction places = PerformBetween direction.prepared direction.beginning.asks direction.beginning.empties direction.performed direction.queued places

-- Each reset that was performed was asked for, and each that was asked for is performed before what was queued since is read.
pub record AreCutByCalls (size : ℕ) (direction : Direction) : Type 0 where
  pub cut : AreCutAsAsked direction.beginning.has_all (nat_le size (2 ^ 63)) direction.beginning.asks (known_fulls size direction.beginning) direction.performed direction.queued direction.read
  pub between : ArePerformedBetween direction cut.ordered.delivered.places

-- With interleaving it is so where the sender began with number 0 on each stream, if fewer than 2^31 TSNs were assigned.
abbrev pub DirectionsCutByCalls : Type 0
DirectionsCutByCalls =
    (options : Options) (first size : ℕ) (direction : Direction) → DirectionRun options first size direction → first < 2 ^ 32 → assigned_count direction < 2 ^ 31 → length direction.queued < 2 ^ 64
    → direction.queues.queue.is_interleaved ≡ true → direction.beginning.from_zero ≡ true → AreCutByCalls size direction
