-- Several messages in one call: their copies, and the status of each.
use Rattle.std.proofs.Common.{arith, ◌≡◌, ◌∙◌, ap, refl, sym, subst, ℕ, zero, suc, ◌+◌, ◌-◌, ◌<◌, ℤ, to_z, of_z, w32, List, [], ◌∷◌, ◌++◌, length, take, map, get_or, slice_set}
use Rattle.std.proofs.lemmas.List.{take_more, map-append}
use Rattle.dcsctp_core.specs.types.queues.Messages.{MessageContent}
use Rattle.dcsctp_core.specs.api.declared.errors.SendError.{SendError}
use Rattle.dcsctp_session.specs.declared.many.OutgoingRecord.{OutgoingRecord}
use Rattle.dcsctp_session.specs.declared.status.Status.{Status}
use Rattle.dcsctp_session.specs.declared.status.Status.TheVariants as statuses
use Rattle.dcsctp_session.specs.Status.{status_number}
use Rattle.dcsctp_session.specs.Answering.{IsFrontMessage, AreFronts, status_of_place, refused_later, statuses_from_place}
use Rattle.dcsctp_session.specs.Many.{outgoing_content}

-- ---- copies

fronts_and : (limit : ℕ) (wholes fronts : List MessageContent) (whole front : MessageContent) → AreFronts limit wholes fronts → IsFrontMessage limit whole front
    → AreFronts limit (wholes ++ whole ∷ []) (fronts ++ front ∷ [])
fronts_and limit [] [] whole front are is = (is, tt)
fronts_and limit [] (f ∷ fs) whole front are is = absurd are
fronts_and limit (w ∷ ws) [] whole front are is = absurd are
fronts_and limit (w ∷ ws) (f ∷ fs) whole front are is = (are.0, fronts_and limit ws fs whole front are.1 is)

pub fronts_more : (limit i : ℕ) (messages : List OutgoingRecord) (none : OutgoingRecord) (fronts : List MessageContent) (front : MessageContent) → i < length messages
    → AreFronts limit (map outgoing_content (take i messages)) fronts → IsFrontMessage limit (outgoing_content (get_or messages i none)) front
    → AreFronts limit (map outgoing_content (take (i + 1) messages)) (fronts ++ front ∷ [])
fronts_more limit i messages none fronts front within are is =
    subst (λ wholes. AreFronts limit wholes (fronts ++ front ∷ []))
    (sym (ap (map outgoing_content) (take_more messages i none within) ∙ map-append outgoing_content (take i messages) (get_or messages i none ∷ [])))
    (fronts_and limit (map outgoing_content (take i messages)) fronts (outgoing_content (get_or messages i none)) front are is)

-- ---- what is reported

-- a status fits into 32 bits
fits : (status : Status) → to_z w32 (of_z w32 (status_number status)) ≡ status_number status
fits statuses.Done = refl
fits statuses.Taken = refl
fits statuses.OutOfMemory = refl
fits statuses.Failed = refl
fits statuses.NoSocket = refl
fits statuses.AlreadyCreated = refl
fits statuses.InvalidOptions = refl
fits statuses.BufferTooSmall = refl
fits statuses.NothingToCopy = refl
fits statuses.EmptyPayload = refl
fits statuses.MessageTooLarge = refl
fits statuses.ResourceExhaustion = refl
fits statuses.ShuttingDown = refl
fits statuses.NotConnected = refl
fits statuses.NotSupported = refl
fits statuses.NotReady = refl
fits statuses.InvalidSnapshot = refl
fits statuses.OtherOptions = refl
fits statuses.NotClosed = refl
fits statuses.InvalidSendOptions = refl
fits statuses.WrongSize = refl
fits statuses.HasChannels = refl
fits statuses.NoChannel = refl
fits statuses.StreamInUse = refl
fits statuses.Ended = refl

-- One more number is written.
set_taken : (results : List ℤ) (place : ℕ) (x : ℤ) (rest : List ℤ) → place < length results
    → take (suc place) (slice_set results place x) ++ rest ≡ take place results ++ x ∷ rest
set_taken [] place x rest within = grind arith
set_taken (y ∷ ys) zero x rest within = refl
set_taken (y ∷ ys) (suc place) x rest within = ap (λ zs. y ∷ zs) (set_taken ys place x rest (omega arith))

set_length : (results : List ℤ) (place : ℕ) (x : ℤ) → length (slice_set results place x) ≡ length results
set_length [] place x = refl
set_length (y ∷ ys) zero x = refl
set_length (y ∷ ys) (suc place) x = ap suc (set_length ys place x)

one_less : (n place : ℕ) → place < n → n - place ≡ suc (n - (place + 1))
one_less n place within = omega arith

pub told_more : (n place : ℕ) (results all : List ℤ) (left others : List (ℕ × SendError)) (status : Status) (x : ℤ) → place < n
    → status ≡ status_of_place place left → others ≡ refused_later place left → x ≡ status_number status
    → (length results ≡ n) × (take place results ++ map status_number (statuses_from_place (n - place) place left) ≡ all)
    → (length (slice_set results place (to_z w32 (of_z w32 x))) ≡ n)
    × (take (place + 1) (slice_set results place (to_z w32 (of_z w32 x))) ++ map status_number (statuses_from_place (n - (place + 1)) (place + 1) others) ≡ all)
told_more n place results all left others status x within is rest number (long, so_far) =
    let y : ℤ = to_z w32 (of_z w32 x) in
    let same : y ≡ status_number (status_of_place place left) = ap (λ z. to_z w32 (of_z w32 z)) number ∙ fits status ∙ ap status_number is in
    let left_over : List ℤ = map status_number (statuses_from_place (n - (place + 1)) (place + 1) (refused_later place left)) in (
      set_length results place y ∙ long,
      ap (λ o. take (place + 1) (slice_set results place y) ++ map status_number (statuses_from_place (n - (place + 1)) (place + 1) o)) rest
          ∙ ap (λ k. take k (slice_set results place y) ++ left_over) {x = place + 1} {y = suc place} (omega arith)
          ∙ set_taken results place y left_over (rw long within)
          ∙ ap (λ z. take place results ++ z ∷ left_over) same
          ∙ sym (ap (λ k. take place results ++ map status_number (statuses_from_place k place left)) (one_less n place within))
          ∙ so_far,
    )
