-- Several messages that a socket is given in one call: their copies, and what its answer says of each.
use Rattle.std.specs.Prelude.{◌≡◌, ◌==◌, ◌+◌, ◌++◌, ℕ, ℤ, zero, suc, List, [], ◌∷◌, map, drop, Result, Ok, Err, if◌then◌else◌}
use Rattle.dcsctp_core.specs.types.queues.Messages.{MessageContent}
use Rattle.dcsctp_core.specs.api.declared.errors.BatchSendError.{BatchSendError}
use Rattle.dcsctp_core.specs.api.declared.errors.SendError.{SendError}
use Rattle.dcsctp_core.specs.api.declared.errors.SocketFault.{SocketFault}
use Rattle.dcsctp_session.specs.declared.status.Status.{Status}
use Rattle.dcsctp_session.specs.declared.status.Status.TheVariants as statuses
use Rattle.dcsctp_session.specs.Copying.{IsFront}
use Rattle.dcsctp_session.specs.Status.{status_number, fault_status, send_error_status}

-- ---- copies

-- The same of a message: it is the whole of another; or both are longer than a message may be.
abbrev pub IsFrontMessage : ℕ → MessageContent → MessageContent → Type 0
IsFrontMessage limit whole front = (front.stream ≡ whole.stream) × (front.ppid ≡ whole.ppid) × IsFront limit whole.payload front.payload

-- the same of each of several
abbrev pub AreFronts : ℕ → List MessageContent → List MessageContent → Type 0
AreFronts limit [] [] = Unit {0}
AreFronts limit [] (front ∷ fronts) = ⊥
AreFronts limit (whole ∷ wholes) [] = ⊥
AreFronts limit (whole ∷ wholes) (front ∷ fronts) = IsFrontMessage limit whole front × AreFronts limit wholes fronts

-- ---- answers

-- what is returned of the message of this place, if these and no earlier ones are refused
abbrev pub status_of_place : ℕ → List (ℕ × SendError) → Status
status_of_place place [] = statuses.Done
status_of_place place (refused ∷ others) = if refused.0 == place then send_error_status refused.1 else statuses.Done

-- those of these that are refused after this place
abbrev pub refused_later : ℕ → List (ℕ × SendError) → List (ℕ × SendError)
refused_later place [] = []
refused_later place (refused ∷ others) = if refused.0 == place then others else refused ∷ others

-- what is returned of so many messages, if the first has this place
abbrev pub statuses_from_place : ℕ → ℕ → List (ℕ × SendError) → List Status
statuses_from_place zero place refused = []
statuses_from_place (suc count) place refused = status_of_place place refused ∷ statuses_from_place count (place + 1) (refused_later place refused)

-- the messages that an answer refuses
abbrev pub errors_of_answer : Result (Unit {0}) BatchSendError → List (ℕ × SendError)
errors_of_answer (Ok done) = []
errors_of_answer (Err error) = error.0.items

-- why the first of these is refused
abbrev pub first_status : List (ℕ × SendError) → Status
first_status [] = statuses.Done
first_status (refused ∷ others) = send_error_status refused.1

abbrev pub outcome_status : Result (Result (Unit {0}) BatchSendError) SocketFault → Status
outcome_status (Ok answer) = first_status (errors_of_answer answer)
outcome_status (Err fault) = fault_status fault

-- the results of so many messages, at the front of what was there before
abbrev pub results_of_answer : Result (Result (Unit {0}) BatchSendError) SocketFault → ℕ → List ℤ → List ℤ
results_of_answer (Ok answer) count before = map status_number (statuses_from_place count 0 (errors_of_answer answer)) ++ drop count before
results_of_answer (Err fault) count before = before
