-- The recorded past, which has no packets, leaves what the whole past leaves.
use Rattle.std.proofs.Common.{◌≡◌, ℕ, ◌+◌, ◌-◌, ◌^◌, ◌≤◌, List, [], ◌∷◌, inl, inr, refl, subst, ap, ◌∙◌}
use Rattle.dcsctp_spec_lemmas.specs.types.declared.association.Pair.{Pair}
use Rattle.dcsctp_spec_lemmas.specs.spec.association.Effect.{Effect, draws, sends, holds, connects, ends, begins, gives_up, completes, fails, accepts, performs, renews, resumes, effects_without_packets}
use Rattle.dcsctp_spec_runs.specs.Past.{HasEffect, WasPerformed, Each, InPlace, current, unconnected_association, number_to_begin, outstanding, requests_begun, number_to_accept, number_to_perform, my_of, peer_of}
use Rattle.dcsctp_theorem_association.specs.Agreement.{FindsPerformed}

-- ---- each thing that the past leaves

pub current-noted : (past : List Effect) → current (effects_without_packets past) ≡ current past
current-noted [] = refl
current-noted (draws pair ∷ past) = current-noted past
current-noted (sends packet ∷ past) = current-noted past
current-noted (holds link ∷ past) = refl
current-noted (connects link ∷ past) = current-noted past
current-noted (ends ∷ past) = refl
current-noted (begins number ∷ past) = current-noted past
current-noted (completes my number ∷ past) = current-noted past
current-noted (fails number ∷ past) = current-noted past
current-noted (gives_up number ∷ past) = current-noted past
current-noted (accepts number ∷ past) = current-noted past
current-noted (performs peer number ∷ past) = current-noted past
current-noted (renews peer number ∷ past) = current-noted past
current-noted (resumes link own last ∷ past) = refl

unconnected_association-noted : (past : List Effect) → unconnected_association (effects_without_packets past) ≡ unconnected_association past
unconnected_association-noted [] = refl
unconnected_association-noted (draws pair ∷ past) = unconnected_association-noted past
unconnected_association-noted (sends packet ∷ past) = unconnected_association-noted past
unconnected_association-noted (holds link ∷ past) = refl
unconnected_association-noted (connects link ∷ past) = refl
unconnected_association-noted (ends ∷ past) = refl
unconnected_association-noted (begins number ∷ past) = unconnected_association-noted past
unconnected_association-noted (completes my number ∷ past) = unconnected_association-noted past
unconnected_association-noted (fails number ∷ past) = unconnected_association-noted past
unconnected_association-noted (gives_up number ∷ past) = unconnected_association-noted past
unconnected_association-noted (accepts number ∷ past) = unconnected_association-noted past
unconnected_association-noted (performs peer number ∷ past) = unconnected_association-noted past
unconnected_association-noted (renews peer number ∷ past) = unconnected_association-noted past
unconnected_association-noted (resumes link own last ∷ past) = refl

pub number_to_begin-noted : (past : List Effect) → number_to_begin (effects_without_packets past) ≡ number_to_begin past
number_to_begin-noted [] = refl
number_to_begin-noted (draws pair ∷ past) = number_to_begin-noted past
number_to_begin-noted (sends packet ∷ past) = number_to_begin-noted past
number_to_begin-noted (holds link ∷ past) = refl
number_to_begin-noted (connects link ∷ past) = number_to_begin-noted past
number_to_begin-noted (ends ∷ past) = refl
number_to_begin-noted (begins number ∷ past) = refl
number_to_begin-noted (completes my number ∷ past) = number_to_begin-noted past
number_to_begin-noted (fails number ∷ past) = number_to_begin-noted past
number_to_begin-noted (gives_up number ∷ past) = number_to_begin-noted past
number_to_begin-noted (accepts number ∷ past) = number_to_begin-noted past
number_to_begin-noted (performs peer number ∷ past) = number_to_begin-noted past
number_to_begin-noted (renews peer number ∷ past) = number_to_begin-noted past
number_to_begin-noted (resumes link own last ∷ past) = refl

pub outstanding-noted : (past : List Effect) → outstanding (effects_without_packets past) ≡ outstanding past
outstanding-noted [] = refl
outstanding-noted (draws pair ∷ past) = outstanding-noted past
outstanding-noted (sends packet ∷ past) = outstanding-noted past
outstanding-noted (holds link ∷ past) = refl
outstanding-noted (connects link ∷ past) = outstanding-noted past
outstanding-noted (ends ∷ past) = refl
outstanding-noted (begins number ∷ past) = refl
outstanding-noted (completes my number ∷ past) = refl
outstanding-noted (fails number ∷ past) = refl
outstanding-noted (gives_up number ∷ past) = refl
outstanding-noted (accepts number ∷ past) = outstanding-noted past
outstanding-noted (performs peer number ∷ past) = outstanding-noted past
outstanding-noted (renews peer number ∷ past) = outstanding-noted past
outstanding-noted (resumes link own last ∷ past) = refl

pub number_to_accept-noted : (past : List Effect) → number_to_accept (effects_without_packets past) ≡ number_to_accept past
number_to_accept-noted [] = refl
number_to_accept-noted (draws pair ∷ past) = number_to_accept-noted past
number_to_accept-noted (sends packet ∷ past) = number_to_accept-noted past
number_to_accept-noted (holds link ∷ past) = refl
number_to_accept-noted (connects link ∷ past) = number_to_accept-noted past
number_to_accept-noted (ends ∷ past) = refl
number_to_accept-noted (begins number ∷ past) = number_to_accept-noted past
number_to_accept-noted (completes my number ∷ past) = number_to_accept-noted past
number_to_accept-noted (fails number ∷ past) = number_to_accept-noted past
number_to_accept-noted (gives_up number ∷ past) = number_to_accept-noted past
number_to_accept-noted (accepts number ∷ past) = refl
number_to_accept-noted (performs peer number ∷ past) = number_to_accept-noted past
number_to_accept-noted (renews peer number ∷ past) = number_to_accept-noted past
number_to_accept-noted (resumes link own last ∷ past) = refl

number_to_perform-noted : (past : List Effect) → number_to_perform (effects_without_packets past) ≡ number_to_perform past
number_to_perform-noted [] = refl
number_to_perform-noted (draws pair ∷ past) = number_to_perform-noted past
number_to_perform-noted (sends packet ∷ past) = number_to_perform-noted past
number_to_perform-noted (holds link ∷ past) = refl
number_to_perform-noted (connects link ∷ past) = number_to_perform-noted past
number_to_perform-noted (ends ∷ past) = refl
number_to_perform-noted (begins number ∷ past) = number_to_perform-noted past
number_to_perform-noted (completes my number ∷ past) = number_to_perform-noted past
number_to_perform-noted (fails number ∷ past) = number_to_perform-noted past
number_to_perform-noted (gives_up number ∷ past) = number_to_perform-noted past
number_to_perform-noted (accepts number ∷ past) = refl
number_to_perform-noted (performs peer number ∷ past) = refl
number_to_perform-noted (renews peer number ∷ past) = refl
number_to_perform-noted (resumes link own last ∷ past) = refl

requests_begun-noted : (past : List Effect) → requests_begun (effects_without_packets past) ≡ requests_begun past
requests_begun-noted [] = refl
requests_begun-noted (draws pair ∷ past) = requests_begun-noted past
requests_begun-noted (sends packet ∷ past) = requests_begun-noted past
requests_begun-noted (holds link ∷ past) = refl
requests_begun-noted (connects link ∷ past) = requests_begun-noted past
requests_begun-noted (ends ∷ past) = refl
requests_begun-noted (begins number ∷ past) = ap (λ (n : ℕ). n + 1) (requests_begun-noted past)
requests_begun-noted (completes my number ∷ past) = requests_begun-noted past
requests_begun-noted (fails number ∷ past) = requests_begun-noted past
requests_begun-noted (gives_up number ∷ past) = requests_begun-noted past
requests_begun-noted (accepts number ∷ past) = requests_begun-noted past
requests_begun-noted (performs peer number ∷ past) = requests_begun-noted past
requests_begun-noted (renews peer number ∷ past) = requests_begun-noted past
requests_begun-noted (resumes link own last ∷ past) = refl

-- ---- each effect in its place

pub in_place-noted : (past : List Effect) → Each InPlace past → Each InPlace (effects_without_packets past)
in_place-noted [] each = tt
in_place-noted (draws pair ∷ past) each = (tt, in_place-noted past each.1)
in_place-noted (sends packet ∷ past) each = in_place-noted past each.1
in_place-noted (holds link ∷ past) each = (tt, in_place-noted past each.1)
in_place-noted (connects link ∷ past) each = (unconnected_association-noted past ∙ each.0, in_place-noted past each.1)
in_place-noted (ends ∷ past) each = (tt, in_place-noted past each.1)
in_place-noted (begins number ∷ past) each = ((number_to_begin-noted past ∙ each.0.0, outstanding-noted past ∙ each.0.1), in_place-noted past each.1)
in_place-noted (completes my number ∷ past) each = ((outstanding-noted past ∙ each.0.0, ap my_of (current-noted past) ∙ each.0.1), in_place-noted past each.1)
in_place-noted (fails number ∷ past) each = (outstanding-noted past ∙ each.0, in_place-noted past each.1)
in_place-noted (gives_up number ∷ past) each = (outstanding-noted past ∙ each.0, in_place-noted past each.1)
in_place-noted (accepts number ∷ past) each = (number_to_accept-noted past ∙ each.0, in_place-noted past each.1)
in_place-noted (performs peer number ∷ past) each = ((number_to_perform-noted past ∙ each.0.0, ap peer_of (current-noted past) ∙ each.0.1), in_place-noted past each.1)
in_place-noted (renews peer number ∷ past) each = ((number_to_perform-noted past ∙ each.0.0, ap peer_of (current-noted past) ∙ each.0.1), in_place-noted past each.1)
in_place-noted (resumes link own last ∷ past) each = (current-noted past ∙ each.0, in_place-noted past each.1)

-- ---- performed requests

performs_noted : (my : Pair) (number : ℕ) (past : List Effect) → HasEffect (performs my number) past → HasEffect (performs my number) (effects_without_packets past)
performs_noted my number [] has = absurd has
performs_noted my number (draws pair ∷ past) (inl is) = inl is
performs_noted my number (draws pair ∷ past) (inr has) = inr (performs_noted my number past has)
performs_noted my number (sends packet ∷ past) (inl is) = absurd (cc)
performs_noted my number (sends packet ∷ past) (inr has) = performs_noted my number past has
performs_noted my number (holds link ∷ past) (inl is) = inl is
performs_noted my number (holds link ∷ past) (inr has) = inr (performs_noted my number past has)
performs_noted my number (connects link ∷ past) (inl is) = inl is
performs_noted my number (connects link ∷ past) (inr has) = inr (performs_noted my number past has)
performs_noted my number (ends ∷ past) (inl is) = inl is
performs_noted my number (ends ∷ past) (inr has) = inr (performs_noted my number past has)
performs_noted my number (begins other ∷ past) (inl is) = inl is
performs_noted my number (begins other ∷ past) (inr has) = inr (performs_noted my number past has)
performs_noted my number (completes mine other ∷ past) (inl is) = inl is
performs_noted my number (completes mine other ∷ past) (inr has) = inr (performs_noted my number past has)
performs_noted my number (fails other ∷ past) (inl is) = inl is
performs_noted my number (gives_up other ∷ past) (inl is) = inl is
performs_noted my number (fails other ∷ past) (inr has) = inr (performs_noted my number past has)
performs_noted my number (gives_up other ∷ past) (inr has) = inr (performs_noted my number past has)
performs_noted my number (accepts other ∷ past) (inl is) = inl is
performs_noted my number (accepts other ∷ past) (inr has) = inr (performs_noted my number past has)
performs_noted my number (performs peer other ∷ past) (inl is) = inl is
performs_noted my number (performs peer other ∷ past) (inr has) = inr (performs_noted my number past has)
performs_noted my number (renews peer other ∷ past) (inl is) = inl is
performs_noted my number (renews peer other ∷ past) (inr has) = inr (performs_noted my number past has)
performs_noted my number (resumes link own last ∷ past) (inl is) = inl is
performs_noted my number (resumes link own last ∷ past) (inr has) = inr (performs_noted my number past has)

renews_noted : (my : Pair) (number : ℕ) (past : List Effect) → HasEffect (renews my number) past → HasEffect (renews my number) (effects_without_packets past)
renews_noted my number [] has = absurd has
renews_noted my number (draws pair ∷ past) (inl is) = inl is
renews_noted my number (draws pair ∷ past) (inr has) = inr (renews_noted my number past has)
renews_noted my number (sends packet ∷ past) (inl is) = absurd (cc)
renews_noted my number (sends packet ∷ past) (inr has) = renews_noted my number past has
renews_noted my number (holds link ∷ past) (inl is) = inl is
renews_noted my number (holds link ∷ past) (inr has) = inr (renews_noted my number past has)
renews_noted my number (connects link ∷ past) (inl is) = inl is
renews_noted my number (connects link ∷ past) (inr has) = inr (renews_noted my number past has)
renews_noted my number (ends ∷ past) (inl is) = inl is
renews_noted my number (ends ∷ past) (inr has) = inr (renews_noted my number past has)
renews_noted my number (begins other ∷ past) (inl is) = inl is
renews_noted my number (begins other ∷ past) (inr has) = inr (renews_noted my number past has)
renews_noted my number (completes mine other ∷ past) (inl is) = inl is
renews_noted my number (completes mine other ∷ past) (inr has) = inr (renews_noted my number past has)
renews_noted my number (fails other ∷ past) (inl is) = inl is
renews_noted my number (gives_up other ∷ past) (inl is) = inl is
renews_noted my number (fails other ∷ past) (inr has) = inr (renews_noted my number past has)
renews_noted my number (gives_up other ∷ past) (inr has) = inr (renews_noted my number past has)
renews_noted my number (accepts other ∷ past) (inl is) = inl is
renews_noted my number (accepts other ∷ past) (inr has) = inr (renews_noted my number past has)
renews_noted my number (performs peer other ∷ past) (inl is) = inl is
renews_noted my number (performs peer other ∷ past) (inr has) = inr (renews_noted my number past has)
renews_noted my number (renews peer other ∷ past) (inl is) = inl is
renews_noted my number (renews peer other ∷ past) (inr has) = inr (renews_noted my number past has)
renews_noted my number (resumes link own last ∷ past) (inl is) = inl is
renews_noted my number (resumes link own last ∷ past) (inr has) = inr (renews_noted my number past has)

pub was_performed-noted : (my : Pair) (number : ℕ) (past : List Effect) → WasPerformed my number past → WasPerformed my number (effects_without_packets past)
was_performed-noted my number past (inl has) = inl (performs_noted my number past has)
was_performed-noted my number past (inr has) = inr (renews_noted my number past has)

pub performed-noted : (theirs mine : List Effect) → Each (FindsPerformed theirs) mine → Each (FindsPerformed (effects_without_packets theirs)) (effects_without_packets mine)
performed-noted theirs [] each = tt
performed-noted theirs (draws pair ∷ mine) each = (tt, performed-noted theirs mine each.1)
performed-noted theirs (sends packet ∷ mine) each = performed-noted theirs mine each.1
performed-noted theirs (holds link ∷ mine) each = (tt, performed-noted theirs mine each.1)
performed-noted theirs (connects link ∷ mine) each = (tt, performed-noted theirs mine each.1)
performed-noted theirs (ends ∷ mine) each = (tt, performed-noted theirs mine each.1)
performed-noted theirs (begins number ∷ mine) each = (tt, performed-noted theirs mine each.1)
performed-noted theirs (completes my number ∷ mine) each =
    ((λ few. was_performed-noted my number theirs (each.0 (subst (λ (n : ℕ). n ≤ 2 ^ 32 - 1) (requests_begun-noted mine) few))), performed-noted theirs mine each.1)
performed-noted theirs (fails number ∷ mine) each = (tt, performed-noted theirs mine each.1)
performed-noted theirs (gives_up number ∷ mine) each = (tt, performed-noted theirs mine each.1)
performed-noted theirs (accepts number ∷ mine) each = (tt, performed-noted theirs mine each.1)
performed-noted theirs (performs peer number ∷ mine) each = (tt, performed-noted theirs mine each.1)
performed-noted theirs (renews peer number ∷ mine) each = (tt, performed-noted theirs mine each.1)
performed-noted theirs (resumes link own last ∷ mine) each = (tt, performed-noted theirs mine each.1)
