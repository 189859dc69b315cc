-- What effects leave of the numbers of the peer's requests, if none is accepted or performed.
use Rattle.std.proofs.Common.{◌≡◌, ℕ, ◌%◌, ◌^◌, true, false, None, Some, List, [], ◌∷◌, refl, ap, inl, inr}
use Rattle.dcsctp_spec_lemmas.specs.types.declared.association.Pair.{Pair}
use Rattle.dcsctp_spec_runs.specs.Past.{WasPerformed, HasEffect, number_to_accept, number_to_perform}
use Rattle.dcsctp_spec_runs.specs.World.{after_effects}
use Rattle.dcsctp_spec_lemmas.specs.spec.association.Effect as effects
use Rattle.dcsctp_spec_lemmas.specs.spec.association.Effect.{AssociationIdentity, Effect}
use Rattle.dcsctp_spec_lemmas.specs.spec.endpoint.ResetOutcomes.{has_reset}
use Rattle.dcsctp_delivery_sockets.specs.turns.PeerRequests.{NoneAsked}

-- If nothing is asked, no association is recorded and none ends, the numbers stay.
pub same_numbers : (happened past : List Effect) → NoneAsked happened → ((link : AssociationIdentity) → HasEffect (effects.holds link) happened → ⊥) → (HasEffect effects.ends happened → ⊥)
    → (number_to_accept (after_effects happened past) ≡ number_to_accept past) × (number_to_perform (after_effects happened past) ≡ number_to_perform past)
same_numbers [] past none no_holds no_ends = (refl, refl)
same_numbers (effects.accepts number ∷ happened) past none no_holds no_ends = absurd none
same_numbers (effects.performs peer number ∷ happened) past none no_holds no_ends = absurd none
same_numbers (effects.renews peer number ∷ happened) past none no_holds no_ends = absurd none
same_numbers (effects.resumes link own last ∷ happened) past none no_holds no_ends = absurd none
same_numbers (effects.holds link ∷ happened) past none no_holds no_ends = absurd (no_holds link (inl refl))
same_numbers (effects.ends ∷ happened) past none no_holds no_ends = absurd (no_ends (inl refl))
same_numbers (effects.draws pair ∷ happened) past none no_holds no_ends = same_numbers happened (effects.draws pair ∷ past) none (λ l h. no_holds l (inr h)) (λ h. no_ends (inr h))
same_numbers (effects.sends packet ∷ happened) past none no_holds no_ends = same_numbers happened (effects.sends packet ∷ past) none (λ l h. no_holds l (inr h)) (λ h. no_ends (inr h))
same_numbers (effects.connects link ∷ happened) past none no_holds no_ends = same_numbers happened (effects.connects link ∷ past) none (λ l h. no_holds l (inr h)) (λ h. no_ends (inr h))
same_numbers (effects.begins number ∷ happened) past none no_holds no_ends = same_numbers happened (effects.begins number ∷ past) none (λ l h. no_holds l (inr h)) (λ h. no_ends (inr h))
same_numbers (effects.gives_up number ∷ happened) past none no_holds no_ends = same_numbers happened (effects.gives_up number ∷ past) none (λ l h. no_holds l (inr h)) (λ h. no_ends (inr h))
same_numbers (effects.completes my number ∷ happened) past none no_holds no_ends = same_numbers happened (effects.completes my number ∷ past) none (λ l h. no_holds l (inr h)) (λ h. no_ends (inr h))
same_numbers (effects.fails number ∷ happened) past none no_holds no_ends = same_numbers happened (effects.fails number ∷ past) none (λ l h. no_holds l (inr h)) (λ h. no_ends (inr h))

-- Where an association begins, the peer's first request has its first TSN.
pub first_numbers : (new : AssociationIdentity) (happened past : List Effect) → NoneAsked happened → ((link : AssociationIdentity) → HasEffect (effects.holds link) happened → link ≡ new) → (HasEffect effects.ends happened → ⊥)
    → number_to_accept past ≡ Some (new.peer.first_tsn % 2 ^ 32) → number_to_perform past ≡ None
    → (number_to_accept (after_effects happened past) ≡ Some (new.peer.first_tsn % 2 ^ 32)) × (number_to_perform (after_effects happened past) ≡ None)
first_numbers new [] past none only no_ends accept perform = (accept, perform)
first_numbers new (effects.accepts number ∷ happened) past none only no_ends accept perform = absurd none
first_numbers new (effects.performs peer number ∷ happened) past none only no_ends accept perform = absurd none
first_numbers new (effects.renews peer number ∷ happened) past none only no_ends accept perform = absurd none
first_numbers new (effects.resumes link own last ∷ happened) past none only no_ends accept perform = absurd none
first_numbers new (effects.ends ∷ happened) past none only no_ends accept perform = absurd (no_ends (inl refl))
first_numbers new (effects.holds link ∷ happened) past none only no_ends accept perform =
    first_numbers new happened (effects.holds link ∷ past) none (λ l h. only l (inr h)) (λ h. no_ends (inr h)) (ap (λ (l : AssociationIdentity). Some (l.peer.first_tsn % 2 ^ 32)) (only link (inl refl))) refl
first_numbers new (effects.draws pair ∷ happened) past none only no_ends accept perform = first_numbers new happened (effects.draws pair ∷ past) none (λ l h. only l (inr h)) (λ h. no_ends (inr h)) accept perform
first_numbers new (effects.sends packet ∷ happened) past none only no_ends accept perform = first_numbers new happened (effects.sends packet ∷ past) none (λ l h. only l (inr h)) (λ h. no_ends (inr h)) accept perform
first_numbers new (effects.connects link ∷ happened) past none only no_ends accept perform = first_numbers new happened (effects.connects link ∷ past) none (λ l h. only l (inr h)) (λ h. no_ends (inr h)) accept perform
first_numbers new (effects.begins number ∷ happened) past none only no_ends accept perform = first_numbers new happened (effects.begins number ∷ past) none (λ l h. only l (inr h)) (λ h. no_ends (inr h)) accept perform
first_numbers new (effects.gives_up number ∷ happened) past none only no_ends accept perform = first_numbers new happened (effects.gives_up number ∷ past) none (λ l h. only l (inr h)) (λ h. no_ends (inr h)) accept perform
first_numbers new (effects.completes my number ∷ happened) past none only no_ends accept perform = first_numbers new happened (effects.completes my number ∷ past) none (λ l h. only l (inr h)) (λ h. no_ends (inr h)) accept perform
first_numbers new (effects.fails number ∷ happened) past none only no_ends accept perform = first_numbers new happened (effects.fails number ∷ past) none (λ l h. only l (inr h)) (λ h. no_ends (inr h)) accept perform

-- ---- were streams reset?

pub reset_none : (happened : List Effect) → NoneAsked happened → has_reset happened ≡ false
reset_none [] none = refl
reset_none (effects.accepts number ∷ happened) none = absurd none
reset_none (effects.performs peer number ∷ happened) none = absurd none
reset_none (effects.renews peer number ∷ happened) none = absurd none
reset_none (effects.resumes link own last ∷ happened) none = absurd none
reset_none (effects.holds link ∷ happened) none = reset_none happened none
reset_none (effects.ends ∷ happened) none = reset_none happened none
reset_none (effects.draws pair ∷ happened) none = reset_none happened none
reset_none (effects.sends packet ∷ happened) none = reset_none happened none
reset_none (effects.connects link ∷ happened) none = reset_none happened none
reset_none (effects.begins number ∷ happened) none = reset_none happened none
reset_none (effects.gives_up number ∷ happened) none = reset_none happened none
reset_none (effects.completes my number ∷ happened) none = reset_none happened none
reset_none (effects.fails number ∷ happened) none = reset_none happened none

-- what was performed, with another effect in front
performed_behind : (effect : Effect) (happened : List Effect) (peer : Pair) (number : ℕ) → WasPerformed peer number happened → WasPerformed peer number (effect ∷ happened)
performed_behind effect happened peer number (inl has) = inl (inr has)
performed_behind effect happened peer number (inr has) = inr (inr has)

pub some_reset : (happened : List Effect) → has_reset happened ≡ true → (peer : Pair) × (number : ℕ) × WasPerformed peer number happened
some_reset [] is = absurd (cc)
some_reset (effects.performs peer number ∷ happened) is = (peer, number, inl (inl refl))
some_reset (effects.renews peer number ∷ happened) is = (peer, number, inr (inl refl))
some_reset (effects.draws pair ∷ happened) is = (let found = some_reset happened is in (found.0, found.1, performed_behind (effects.draws pair) happened found.0 found.1 found.2))
some_reset (effects.sends packet ∷ happened) is = (let found = some_reset happened is in (found.0, found.1, performed_behind (effects.sends packet) happened found.0 found.1 found.2))
some_reset (effects.connects link ∷ happened) is = (let found = some_reset happened is in (found.0, found.1, performed_behind (effects.connects link) happened found.0 found.1 found.2))
some_reset (effects.begins number ∷ happened) is = (let found = some_reset happened is in (found.0, found.1, performed_behind (effects.begins number) happened found.0 found.1 found.2))
some_reset (effects.gives_up number ∷ happened) is = (let found = some_reset happened is in (found.0, found.1, performed_behind (effects.gives_up number) happened found.0 found.1 found.2))
some_reset (effects.completes my number ∷ happened) is = (let found = some_reset happened is in (found.0, found.1, performed_behind (effects.completes my number) happened found.0 found.1 found.2))
some_reset (effects.fails number ∷ happened) is = (let found = some_reset happened is in (found.0, found.1, performed_behind (effects.fails number) happened found.0 found.1 found.2))
some_reset (effects.accepts number ∷ happened) is = (let found = some_reset happened is in (found.0, found.1, performed_behind (effects.accepts number) happened found.0 found.1 found.2))
some_reset (effects.holds link ∷ happened) is = (let found = some_reset happened is in (found.0, found.1, performed_behind (effects.holds link) happened found.0 found.1 found.2))
some_reset (effects.ends ∷ happened) is = (let found = some_reset happened is in (found.0, found.1, performed_behind (effects.ends) happened found.0 found.1 found.2))
some_reset (effects.resumes link own last ∷ happened) is = (let found = some_reset happened is in (found.0, found.1, performed_behind (effects.resumes link own last) happened found.0 found.1 found.2))

performs_reset : (happened : List Effect) (peer : Pair) (number : ℕ) → HasEffect (effects.performs peer number) happened → has_reset happened ≡ true
performs_reset [] peer number has = absurd has
performs_reset (effects.performs other another ∷ happened) peer number has = refl
performs_reset (effects.renews other another ∷ happened) peer number has = refl
performs_reset (effects.draws pair ∷ happened) peer number (inl is) = absurd (cc)
performs_reset (effects.draws pair ∷ happened) peer number (inr has) = performs_reset happened peer number has
performs_reset (effects.sends packet ∷ happened) peer number (inl is) = absurd (cc)
performs_reset (effects.sends packet ∷ happened) peer number (inr has) = performs_reset happened peer number has
performs_reset (effects.connects link ∷ happened) peer number (inl is) = absurd (cc)
performs_reset (effects.connects link ∷ happened) peer number (inr has) = performs_reset happened peer number has
performs_reset (effects.begins another ∷ happened) peer number (inl is) = absurd (cc)
performs_reset (effects.gives_up another ∷ happened) peer number (inl is) = absurd (cc)
performs_reset (effects.begins another ∷ happened) peer number (inr has) = performs_reset happened peer number has
performs_reset (effects.gives_up another ∷ happened) peer number (inr has) = performs_reset happened peer number has
performs_reset (effects.completes my another ∷ happened) peer number (inl is) = absurd (cc)
performs_reset (effects.completes my another ∷ happened) peer number (inr has) = performs_reset happened peer number has
performs_reset (effects.fails another ∷ happened) peer number (inl is) = absurd (cc)
performs_reset (effects.fails another ∷ happened) peer number (inr has) = performs_reset happened peer number has
performs_reset (effects.accepts another ∷ happened) peer number (inl is) = absurd (cc)
performs_reset (effects.accepts another ∷ happened) peer number (inr has) = performs_reset happened peer number has
performs_reset (effects.holds link ∷ happened) peer number (inl is) = absurd (cc)
performs_reset (effects.holds link ∷ happened) peer number (inr has) = performs_reset happened peer number has
performs_reset (effects.ends ∷ happened) peer number (inl is) = absurd (cc)
performs_reset (effects.ends ∷ happened) peer number (inr has) = performs_reset happened peer number has
performs_reset (effects.resumes link own last ∷ happened) peer number (inl is) = absurd (cc)
performs_reset (effects.resumes link own last ∷ happened) peer number (inr has) = performs_reset happened peer number has

renews_reset : (happened : List Effect) (peer : Pair) (number : ℕ) → HasEffect (effects.renews peer number) happened → has_reset happened ≡ true
renews_reset [] peer number has = absurd has
renews_reset (effects.performs other another ∷ happened) peer number has = refl
renews_reset (effects.renews other another ∷ happened) peer number has = refl
renews_reset (effects.draws pair ∷ happened) peer number (inl is) = absurd (cc)
renews_reset (effects.draws pair ∷ happened) peer number (inr has) = renews_reset happened peer number has
renews_reset (effects.sends packet ∷ happened) peer number (inl is) = absurd (cc)
renews_reset (effects.sends packet ∷ happened) peer number (inr has) = renews_reset happened peer number has
renews_reset (effects.connects link ∷ happened) peer number (inl is) = absurd (cc)
renews_reset (effects.connects link ∷ happened) peer number (inr has) = renews_reset happened peer number has
renews_reset (effects.begins another ∷ happened) peer number (inl is) = absurd (cc)
renews_reset (effects.gives_up another ∷ happened) peer number (inl is) = absurd (cc)
renews_reset (effects.begins another ∷ happened) peer number (inr has) = renews_reset happened peer number has
renews_reset (effects.gives_up another ∷ happened) peer number (inr has) = renews_reset happened peer number has
renews_reset (effects.completes my another ∷ happened) peer number (inl is) = absurd (cc)
renews_reset (effects.completes my another ∷ happened) peer number (inr has) = renews_reset happened peer number has
renews_reset (effects.fails another ∷ happened) peer number (inl is) = absurd (cc)
renews_reset (effects.fails another ∷ happened) peer number (inr has) = renews_reset happened peer number has
renews_reset (effects.accepts another ∷ happened) peer number (inl is) = absurd (cc)
renews_reset (effects.accepts another ∷ happened) peer number (inr has) = renews_reset happened peer number has
renews_reset (effects.holds link ∷ happened) peer number (inl is) = absurd (cc)
renews_reset (effects.holds link ∷ happened) peer number (inr has) = renews_reset happened peer number has
renews_reset (effects.ends ∷ happened) peer number (inl is) = absurd (cc)
renews_reset (effects.ends ∷ happened) peer number (inr has) = renews_reset happened peer number has
renews_reset (effects.resumes link own last ∷ happened) peer number (inl is) = absurd (cc)
renews_reset (effects.resumes link own last ∷ happened) peer number (inr has) = renews_reset happened peer number has

pub was_performed_reset : (happened : List Effect) (peer : Pair) (number : ℕ) → WasPerformed peer number happened → has_reset happened ≡ true
was_performed_reset happened peer number (inl has) = performs_reset happened peer number has
was_performed_reset happened peer number (inr has) = renews_reset happened peer number has
