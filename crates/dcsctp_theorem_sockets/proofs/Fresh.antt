-- Where no tag is drawn twice, the past has fresh tags.
use Rattle.std.proofs.Common.{◌≡◌, ◌≢◌, List, [], ◌∷◌, ◌++◌, ◌⊎◌, inl, inr, sym, subst, append_assoc}
use Rattle.std.specs.List.{AllByRecursion}
use Rattle.dcsctp_spec_lemmas.specs.types.declared.association.Pair.{Pair}
use Rattle.dcsctp_spec_lemmas.specs.spec.association.Effect.{drawn_pairs, Effect, draws, sends, holds, connects, ends, begins, gives_up, completes, fails, accepts, performs, renews, resumes}
use Rattle.dcsctp_spec_runs.specs.Past.{HasEffect, HasFreshTags}
use Rattle.dcsctp_spec_runs.specs.World.{after_effects}
use Rattle.dcsctp_theorem_sockets.specs.Agreement.{HasDistinctTags}

abbrev pub IsPair : Pair → List Pair → Type 0
IsPair pair [] = ⊥
IsPair pair (first ∷ pairs) = (pair ≡ first) ⊎ IsPair pair pairs

pub in_front : (pair : Pair) (pairs more : List Pair) → IsPair pair pairs → IsPair pair (pairs ++ more)
in_front pair [] more h = absurd h
in_front pair (first ∷ pairs) more (inl is) = inl is
in_front pair (first ∷ pairs) more (inr h) = inr (in_front pair pairs more h)

pub at_end : (pair : Pair) (pairs more : List Pair) → IsPair pair more → IsPair pair (pairs ++ more)
at_end pair [] more h = h
at_end pair (first ∷ pairs) more h = inr (at_end pair pairs more h)

-- what is drawn by effects
pub drawn_pair : (pair : Pair) (effects : List Effect) → HasEffect (draws pair) effects → IsPair pair (drawn_pairs effects)
drawn_pair pair [] h = absurd h
drawn_pair pair (draws first ∷ effects) (inl is) = inl (cc)
drawn_pair pair (draws first ∷ effects) (inr h) = inr (drawn_pair pair effects h)
drawn_pair pair (sends packet ∷ effects) (inl is) = absurd (cc)
drawn_pair pair (sends packet ∷ effects) (inr h) = drawn_pair pair effects h
drawn_pair pair (holds link ∷ effects) (inl is) = absurd (cc)
drawn_pair pair (holds link ∷ effects) (inr h) = drawn_pair pair effects h
drawn_pair pair (connects link ∷ effects) (inl is) = absurd (cc)
drawn_pair pair (connects link ∷ effects) (inr h) = drawn_pair pair effects h
drawn_pair pair (ends ∷ effects) (inl is) = absurd (cc)
drawn_pair pair (ends ∷ effects) (inr h) = drawn_pair pair effects h
drawn_pair pair (begins number ∷ effects) (inl is) = absurd (cc)
drawn_pair pair (gives_up number ∷ effects) (inl is) = absurd (cc)
drawn_pair pair (begins number ∷ effects) (inr h) = drawn_pair pair effects h
drawn_pair pair (gives_up number ∷ effects) (inr h) = drawn_pair pair effects h
drawn_pair pair (completes my number ∷ effects) (inl is) = absurd (cc)
drawn_pair pair (completes my number ∷ effects) (inr h) = drawn_pair pair effects h
drawn_pair pair (fails number ∷ effects) (inl is) = absurd (cc)
drawn_pair pair (fails number ∷ effects) (inr h) = drawn_pair pair effects h
drawn_pair pair (accepts number ∷ effects) (inl is) = absurd (cc)
drawn_pair pair (accepts number ∷ effects) (inr h) = drawn_pair pair effects h
drawn_pair pair (performs peer number ∷ effects) (inl is) = absurd (cc)
drawn_pair pair (resumes link own last ∷ effects) (inl is) = absurd (cc)
drawn_pair pair (performs peer number ∷ effects) (inr h) = drawn_pair pair effects h
drawn_pair pair (renews peer number ∷ effects) (inl is) = absurd (cc)
drawn_pair pair (renews peer number ∷ effects) (inr h) = drawn_pair pair effects h
drawn_pair pair (resumes link own last ∷ effects) (inr h) = drawn_pair pair effects h

-- ---- distinct tags

others_in_front : (first : Pair) (pairs more : List Pair) → AllByRecursion (λ later. first.tag ≢ later.tag) (pairs ++ more) → AllByRecursion (λ later. first.tag ≢ later.tag) pairs
others_in_front first [] more h = tt
others_in_front first (second ∷ pairs) more h = (h.0, others_in_front first pairs more h.1)

pub distinct_front : (pairs more : List Pair) → HasDistinctTags (pairs ++ more) → HasDistinctTags pairs
distinct_front [] more h = tt
distinct_front (first ∷ pairs) more h = (others_in_front first pairs more h.0, distinct_front pairs more h.1)

-- a pair that comes after others has a different tag
behind_others : (first pair : Pair) (pairs more : List Pair) → AllByRecursion (λ later. first.tag ≢ later.tag) (pairs ++ pair ∷ more) → first.tag ≢ pair.tag
behind_others first pair [] more h = h.0
behind_others first pair (second ∷ pairs) more h = behind_others first pair pairs more h.1

tag_is_new : (other pair : Pair) (known more : List Pair) → HasDistinctTags (known ++ pair ∷ more) → IsPair other known → other.tag ≢ pair.tag
tag_is_new other pair [] more distinct h = absurd h
tag_is_new other pair (first ∷ known) more distinct (inl is) = subst (λ (p : Pair). p.tag ≢ pair.tag) (sym is) (behind_others first pair known more distinct.0)
tag_is_new other pair (first ∷ known) more distinct (inr h) = tag_is_new other pair known more distinct.1 h

-- ---- the past

-- The past's pairs are these, or among them.
abbrev pub Knows : List Pair → List Effect → Type 0
Knows known past = (pair : Pair) → HasEffect (draws pair) past → IsPair pair known

knows_more : (known : List Pair) (pair : Pair) (past : List Effect) → Knows known past → Knows (known ++ pair ∷ []) (draws pair ∷ past)
knows_more known pair past knows other (inl is) = at_end other known (pair ∷ []) (inl (cc))
knows_more known pair past knows other (inr h) = in_front other known (pair ∷ []) (knows other h)

pub stays_fresh : (effects past : List Effect) (known : List Pair) → HasFreshTags past → Knows known past → HasDistinctTags (known ++ drawn_pairs effects) → HasFreshTags (after_effects effects past)
stays_fresh [] past known fresh knows distinct = fresh
stays_fresh (draws pair ∷ effects) past known fresh knows distinct =
    stays_fresh effects (draws pair ∷ past) (known ++ pair ∷ [])
    ((λ other h same. tag_is_new other pair known (drawn_pairs effects) distinct (knows other h) (sym same)), fresh)
    (knows_more known pair past knows)
    (subst HasDistinctTags (sym (append_assoc known (pair ∷ []) (drawn_pairs effects))) distinct)
stays_fresh (sends packet ∷ effects) past known fresh knows distinct = stays_fresh effects (sends packet ∷ past) known (tt, fresh) (λ other h. elim h [ inl is ↦ absurd (cc) | inr before ↦ knows other before ]) distinct
stays_fresh (holds link ∷ effects) past known fresh knows distinct = stays_fresh effects (holds link ∷ past) known (tt, fresh) (λ other h. elim h [ inl is ↦ absurd (cc) | inr before ↦ knows other before ]) distinct
stays_fresh (connects link ∷ effects) past known fresh knows distinct = stays_fresh effects (connects link ∷ past) known (tt, fresh) (λ other h. elim h [ inl is ↦ absurd (cc) | inr before ↦ knows other before ]) distinct
stays_fresh (ends ∷ effects) past known fresh knows distinct = stays_fresh effects (ends ∷ past) known (tt, fresh) (λ other h. elim h [ inl is ↦ absurd (cc) | inr before ↦ knows other before ]) distinct
stays_fresh (begins number ∷ effects) past known fresh knows distinct = stays_fresh effects (begins number ∷ past) known (tt, fresh) (λ other h. elim h [ inl is ↦ absurd (cc) | inr before ↦ knows other before ]) distinct
stays_fresh (gives_up number ∷ effects) past known fresh knows distinct = stays_fresh effects (gives_up number ∷ past) known (tt, fresh) (λ other h. elim h [ inl is ↦ absurd (cc) | inr before ↦ knows other before ]) distinct
stays_fresh (completes my number ∷ effects) past known fresh knows distinct = stays_fresh effects (completes my number ∷ past) known (tt, fresh) (λ other h. elim h [ inl is ↦ absurd (cc) | inr before ↦ knows other before ]) distinct
stays_fresh (fails number ∷ effects) past known fresh knows distinct = stays_fresh effects (fails number ∷ past) known (tt, fresh) (λ other h. elim h [ inl is ↦ absurd (cc) | inr before ↦ knows other before ]) distinct
stays_fresh (accepts number ∷ effects) past known fresh knows distinct = stays_fresh effects (accepts number ∷ past) known (tt, fresh) (λ other h. elim h [ inl is ↦ absurd (cc) | inr before ↦ knows other before ]) distinct
stays_fresh (performs peer number ∷ effects) past known fresh knows distinct = stays_fresh effects (performs peer number ∷ past) known (tt, fresh) (λ other h. elim h [ inl is ↦ absurd (cc) | inr before ↦ knows other before ]) distinct
stays_fresh (renews peer number ∷ effects) past known fresh knows distinct = stays_fresh effects (renews peer number ∷ past) known (tt, fresh) (λ other h. elim h [ inl is ↦ absurd (cc) | inr before ↦ knows other before ]) distinct
stays_fresh (resumes link own last ∷ effects) past known fresh knows distinct = stays_fresh effects (resumes link own last ∷ past) known (tt, fresh) (λ other h. elim h [ inl is ↦ absurd (cc) | inr before ↦ knows other before ]) distinct
