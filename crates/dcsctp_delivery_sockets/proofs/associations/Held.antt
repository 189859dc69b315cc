-- Whether a side had an association.
use Rattle.std.proofs.Common.{◌≡◌, Bool, true, false, List, [], ◌∷◌, refl, inl, inr}
use Rattle.dcsctp_spec_lemmas.specs.spec.association.Effect.{AssociationIdentity, Effect, draws, sends, holds, connects, ends, begins, gives_up, completes, fails, accepts, performs, renews, resumes}
use Rattle.dcsctp_spec_runs.specs.Past.{HasEffect}
use Rattle.dcsctp_delivery_sockets.specs.associations.Ends.{NeverHeld}

-- had it none yet?
abbrev pub never_held : List Effect → Bool
never_held [] = true
never_held (holds link ∷ past) = false
never_held (draws pair ∷ past) = never_held past
never_held (sends packet ∷ past) = never_held past
never_held (connects link ∷ past) = never_held past
never_held (ends ∷ past) = never_held past
never_held (begins number ∷ past) = never_held past
never_held (gives_up number ∷ past) = never_held past
never_held (completes my number ∷ past) = never_held past
never_held (fails number ∷ past) = never_held past
never_held (accepts number ∷ past) = never_held past
never_held (performs my number ∷ past) = never_held past
never_held (renews my number ∷ past) = never_held past
never_held (resumes link own last ∷ past) = never_held past

-- Then it held none,
pub none_held : (past : List Effect) → never_held past ≡ true → NeverHeld past
none_held [] none link has = absurd has
none_held (holds held ∷ past) none link has = absurd (cc)
none_held (draws pair ∷ past) none link (inl is) = absurd (cc)
none_held (draws pair ∷ past) none link (inr has) = none_held past none link has
none_held (sends packet ∷ past) none link (inl is) = absurd (cc)
none_held (sends packet ∷ past) none link (inr has) = none_held past none link has
none_held (connects link' ∷ past) none link (inl is) = absurd (cc)
none_held (connects link' ∷ past) none link (inr has) = none_held past none link has
none_held (ends ∷ past) none link (inl is) = absurd (cc)
none_held (ends ∷ past) none link (inr has) = none_held past none link has
none_held (begins number ∷ past) none link (inl is) = absurd (cc)
none_held (begins number ∷ past) none link (inr has) = none_held past none link has
none_held (gives_up number ∷ past) none link (inl is) = absurd (cc)
none_held (gives_up number ∷ past) none link (inr has) = none_held past none link has
none_held (completes my number ∷ past) none link (inl is) = absurd (cc)
none_held (completes my number ∷ past) none link (inr has) = none_held past none link has
none_held (fails number ∷ past) none link (inl is) = absurd (cc)
none_held (fails number ∷ past) none link (inr has) = none_held past none link has
none_held (accepts number ∷ past) none link (inl is) = absurd (cc)
none_held (accepts number ∷ past) none link (inr has) = none_held past none link has
none_held (performs my number ∷ past) none link (inl is) = absurd (cc)
none_held (performs my number ∷ past) none link (inr has) = none_held past none link has
none_held (renews my number ∷ past) none link (inl is) = absurd (cc)
none_held (renews my number ∷ past) none link (inr has) = none_held past none link has
none_held (resumes link' own last ∷ past) none link (inl is) = absurd (cc)
none_held (resumes link' own last ∷ past) none link (inr has) = none_held past none link has

-- and otherwise it held one.
pub some_held : (past : List Effect) → never_held past ≡ false → (link : AssociationIdentity) × HasEffect (holds link) past
some_held [] some = absurd (cc)
some_held (holds link ∷ past) some = (link, inl refl)
some_held (draws pair ∷ past) some = (let found = some_held past some in (found.0, inr found.1))
some_held (sends packet ∷ past) some = (let found = some_held past some in (found.0, inr found.1))
some_held (connects link' ∷ past) some = (let found = some_held past some in (found.0, inr found.1))
some_held (ends ∷ past) some = (let found = some_held past some in (found.0, inr found.1))
some_held (begins number ∷ past) some = (let found = some_held past some in (found.0, inr found.1))
some_held (gives_up number ∷ past) some = (let found = some_held past some in (found.0, inr found.1))
some_held (completes my number ∷ past) some = (let found = some_held past some in (found.0, inr found.1))
some_held (fails number ∷ past) some = (let found = some_held past some in (found.0, inr found.1))
some_held (accepts number ∷ past) some = (let found = some_held past some in (found.0, inr found.1))
some_held (performs my number ∷ past) some = (let found = some_held past some in (found.0, inr found.1))
some_held (renews my number ∷ past) some = (let found = some_held past some in (found.0, inr found.1))
some_held (resumes link' own last ∷ past) some = (let found = some_held past some in (found.0, inr found.1))
