-- Which messages are abandoned before a FORWARD-TSN (RFC 3758, sections 3.5 and 4.1).
use Rattle.std.specs.Prelude.{Result, ◌≡◌, ℕ, Bool, true, false}
use Rattle.std.specs.declared.alloc.AllocError.{AllocError}
use Rattle.dcsctp_api.specs.types.ByResult.{ByResult}
use Rattle.dcsctp_send_retransmission.specs.States.{RefusesAbandoningItem}
use Rattle.dcsctp_api.specs.spec.queues.Filling.{Stage, GivesUpItem, StageSteps}
use Rattle.dcsctp_api.specs.spec.queues.Abandoning.{IsDueForAbandoning, NoneDue, GivesUpFirst}

-- An allocation fails for abandoning the message of the item at this place. The first of its events are added, and nothing else
-- has happened.
pub record RefusesAbandoning (place : ℕ) (old new : Stage) : Type 0 where
  pub refused : RefusesAbandoningItem place old.queue.outstanding.items old.waiting old.told new.told
  pub is : new ≡ record old { told = new.told }

-- Some messages are abandoned, and for the next one an allocation fails.
pub record StopsGivingUp (now : ℕ) (old new : Stage) : Type 0 where
  pub at : Stage
  pub steps : StageSteps (GivesUpFirst now) old at
  pub place : ℕ
  pub is_due : IsDueForAbandoning now place at.queue
  pub refuses : RefusesAbandoning place at new

-- Messages are abandoned one after the other, until none is due; or up to where an allocation fails.
abbrev pub GivesUpDue : {A : Type 0} → ℕ → Stage → Stage → Result A AllocError → Type 0
GivesUpDue now old new result = ByResult (λ done. StageSteps (GivesUpFirst now) old new × NoneDue now new.queue) (StopsGivingUp now old new) result

-- what is done at the item at this place, by whether it is due, and by whether an allocation failed
abbrev pub GivesUpIf : {A : Type 0} → ℕ → ℕ → Stage → Stage → Bool → Result A AllocError → Type 0
GivesUpIf now place old new true result = ByResult (λ done. GivesUpItem now place old new) (RefusesAbandoning place old new) result
GivesUpIf now place old new false result = ByResult (λ done. new ≡ old) ⊥ result
