-- A restore at an endpoint is a turn of its association, or nothing happens.
use Rattle.std.proofs.Common.{◌≡◌, ◌⊎◌, inl, inr, refl, subst, sym}
use Rattle.dcsctp_spec_lemmas.specs.spec.endpoint.Endpoint.{Endpoint, Core, closed, cookie_wait, cookie_echoed, open_in}
use Rattle.dcsctp_spec_lemmas.specs.spec.endpoint.Outcome.{Outcome, still}
use Rattle.dcsctp_spec_lemmas.specs.types.Snapshot.{Snapshot}
use Rattle.dcsctp_spec_lemmas.specs.spec.association.Controlled.{IsControlled}
use Rattle.dcsctp_spec_lemmas.specs.spec.association.Effect.{Change}
use Rattle.dcsctp_spec_lemmas.specs.spec.association.ResumeChanges.{resume_change}
use Rattle.dcsctp_spec_lemmas.specs.spec.queues.Transfer.{Transfer}
use Rattle.dcsctp_spec_lemmas.specs.spec.endpoint.RestoreOutcomes.{own_pair, held_restored, restored_outcome, RestoreTurn}

-- what a restore makes of the association
abbrev pub resumed_by : Endpoint → Snapshot → Change
resumed_by e state = resume_change (own_pair state) (held_restored e.options state)

-- A closed association is restored.
pub record Resumes (e : Endpoint) (state : Snapshot) (o : Outcome) : Type 0 where
  pub core : e.core ≡ closed
  pub transfer : Transfer
  pub is : o ≡ restored_outcome e state transfer
  pub controlled : IsControlled e o (resumed_by e state)

outcome_controlled : (e : Endpoint) (state : Snapshot) (transfer : Transfer) → IsControlled e (restored_outcome e state transfer) (resumed_by e state)
outcome_controlled e state transfer = record { core = refl; options = refl; observations = refl; effects = refl; following = refl }

restored_at : (e : Endpoint) (core : Core) (state : Snapshot) (o : Outcome) → e.core ≡ core → RestoreTurn e core state o → (o ≡ still e) ⊎ Resumes e state o
restored_at e closed state o is turn =
    inr (record { core = is; transfer = turn.0; is = turn.2; controlled = subst (λ (x : Outcome). IsControlled e x (resumed_by e state)) (sym turn.2) (outcome_controlled e state turn.0) })
restored_at e (cookie_wait my) state o is turn = inl turn
restored_at e (cookie_echoed my held cookie) state o is turn = inl turn
restored_at e (open_in phase my held) state o is turn = inl turn

pub restore_stands : (e : Endpoint) (state : Snapshot) (o : Outcome) → RestoreTurn e e.core state o → (o ≡ still e) ⊎ Resumes e state o
restore_stands e state o turn = restored_at e e.core state o refl turn
