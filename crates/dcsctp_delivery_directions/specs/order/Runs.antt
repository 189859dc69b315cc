-- The runs of a stream that a reassembly queue holds lie apart: none is whole, and none continues
-- the one before it (RFC 9260, section 6.9).
use Rattle.std.specs.Prelude.{◌≡◌, ◌⊎◌, ◌==◌, ◌<◌, ◌≤◌, ◌+◌, ◌&&◌, not, ℕ, Bool, true, false, List, [], ◌∷◌, length}
use Rattle.dcsctp_spec_lemmas.specs.spec.queues.Runs.{RunModel, PartModel, Assembly, part_dropped, part_kept, message_whole, is_whole, AddsPart}
use Rattle.dcsctp_delivery_directions.specs.sending.Places.{HasEntry}

-- the place after a run
abbrev pub place_after : RunModel → ℕ
place_after run = run.first + length run.payloads

-- Does the next run continue the one, as parts of one message?
abbrev pub is_continued : RunModel → RunModel → Bool
is_continued run next = (next.first == place_after run) && (run.number == next.number) && not run.has_end && not next.has_beginning

-- The first of these doesn't, if there is one.
abbrev pub NoneContinues : RunModel → List RunModel → Type 0
NoneContinues run [] = Unit {0}
NoneContinues run (next ∷ runs) = is_continued run next ≡ false

-- Runs lie one after another from this place on. Each has a part, none is whole, and none continues the one before it.
abbrev pub LieApart : ℕ → List RunModel → Type 0
LieApart from [] = Unit {0}
LieApart from (run ∷ runs) = (from ≤ run.first) × (0 < length run.payloads) × (is_whole run ≡ false) × NoneContinues run runs × LieApart (place_after run) runs

-- They do so once a part was received.
abbrev pub PartsLieApart : Type 0
PartsLieApart = (part : PartModel) (old new : List RunModel) (outcome : Assembly) → AddsPart part old outcome new → LieApart 0 old → LieApart 0 new

-- ---- which parts they hold

-- A run of the message of this number holds the place.
pub record IsHeldForMessage (runs : List RunModel) (place number : ℕ) : Type 0 where
  pub run : RunModel
  pub has : HasEntry run runs
  pub from : run.first ≤ place
  pub to : place < place_after run
  pub message : run.number ≡ number

-- What a part leaves held. One that was received before leaves all; one that is kept is held besides; and one that makes its
-- message whole leaves those of other messages.
abbrev pub LeavesPartsHeld : PartModel → List RunModel → Assembly → List RunModel → Type 0
LeavesPartsHeld part old part_dropped new = (place number : ℕ) → IsHeldForMessage old place number → IsHeldForMessage new place number
LeavesPartsHeld part old part_kept new = ((place number : ℕ) → IsHeldForMessage old place number → IsHeldForMessage new place number) × IsHeldForMessage new part.place part.number
LeavesPartsHeld part old (message_whole message) new = (place number : ℕ) → IsHeldForMessage old place number → IsHeldForMessage new place number ⊎ (number ≡ part.number)

abbrev pub PartsLeaveHeld : Type 0
PartsLeaveHeld = (part : PartModel) (old new : List RunModel) (outcome : Assembly) → AddsPart part old outcome new → LeavesPartsHeld part old outcome new

-- The parts of a message lie from the one place to the other: a run of it that has its beginning begins at the one, and a run
-- that has its end ends at the other; and the other way round.
pub record SpansMessage (runs : List RunModel) (number first last : ℕ) : Type 0 where
  pub begins : (run : RunModel) → HasEntry run runs → run.number ≡ number → run.has_beginning ≡ true → run.first ≡ first
  pub ends : (run : RunModel) → HasEntry run runs → run.number ≡ number → run.has_end ≡ true → place_after run ≡ last + 1
  pub begun : (run : RunModel) → HasEntry run runs → run.number ≡ number → run.first ≤ first → first < place_after run → run.has_beginning ≡ true
  pub ended : (run : RunModel) → HasEntry run runs → run.number ≡ number → run.first ≤ last → last < place_after run → run.has_end ≡ true

-- Then one of its parts isn't held: with all of them it would be whole.
abbrev pub OneIsMissing : Type 0
OneIsMissing =
    (runs : List RunModel) (number first last : ℕ) → LieApart 0 runs → SpansMessage runs number first last → first ≤ last → ((place : ℕ) → first ≤ place → place ≤ last → IsHeldForMessage runs place number) → ⊥
