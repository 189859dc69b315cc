-- What is counted at the end of a schedule, and when the tags of a side are fresh.
use Rattle.std.proofs.Common.{◌≡◌, ◌≢◌, ℕ, List, [], ◌∷◌, ◌++◌, ◌⊎◌, inl, inr, ◌∙◌}
use Rattle.dcsctp_spec_lemmas.specs.types.declared.association.Pair.{Pair}
use Rattle.dcsctp_spec_lemmas.specs.types.declared.options.Options.{Options}
use Rattle.dcsctp_spec_lemmas.specs.spec.association.Effect.{AssociationIdentity, Effect, draws, sends, holds, connects, begins, completes, accepts, performs, Change}
use Rattle.dcsctp_spec_runs.specs.Past.{HasEffect, HasFreshTags}
use Rattle.dcsctp_spec_runs.specs.World.{WorldStep}
use Rattle.dcsctp_theorem_association.proofs.Schedules.{Doing, configured, steps}

-- ---- what is counted

-- the tags of packets sent
abbrev pub tags_of_effects : List Effect → List ℕ
tags_of_effects [] = []
tags_of_effects (sends packet ∷ effects) = packet.tag ∷ tags_of_effects effects
tags_of_effects (effect ∷ effects) = tags_of_effects effects

abbrev pub tags_of_changes : List Change → List ℕ
tags_of_changes [] = []
tags_of_changes (change ∷ changes) = tags_of_effects change.effects ++ tags_of_changes changes

-- of all steps, in order
abbrev pub tags_in_order : List WorldStep → List ℕ
tags_in_order [] = []
tags_in_order (step ∷ earlier) = tags_in_order earlier ++ tags_of_changes step.changes

-- the tags of all packets that were sent, in order
abbrev pub tags_of : Options → Options → List Doing → List ℕ
tags_of a b doings = tags_in_order (steps (configured a) (configured b) doings)

-- the associations that were held, and those that connected, newest first
abbrev pub holdings : List Effect → List AssociationIdentity
holdings [] = []
holdings (holds held ∷ effects) = held ∷ holdings effects
holdings (effect ∷ effects) = holdings effects

abbrev pub connections : List Effect → List AssociationIdentity
connections [] = []
connections (connects held ∷ effects) = held ∷ connections effects
connections (effect ∷ effects) = connections effects

-- it is one of these
abbrev pub Among : AssociationIdentity → List AssociationIdentity → Type 0
Among it [] = ⊥
Among it (held ∷ others) = (it ≡ held) ⊎ Among it others

held_first : (it held : AssociationIdentity) → holds it ≡ holds held → it ≡ held
held_first it held is = cc

-- What was held is among those.
pub held_among : (past : List Effect) (it : AssociationIdentity) → HasEffect (holds it) past → Among it (holdings past)
held_among [] it h = absurd h
held_among (holds held ∷ earlier) it (inl is) = inl (held_first it held is)
held_among (holds held ∷ earlier) it (inr h) = inr (held_among earlier it h)
held_among (effect ∷ earlier) it (inl is) = absurd (cc)
held_among (effect ∷ earlier) it (inr h) = held_among earlier it h

-- the numbers of requests that were begun, completed, accepted and performed, newest first
abbrev pub numbers_begun : List Effect → List ℕ
numbers_begun [] = []
numbers_begun (begins number ∷ effects) = number ∷ numbers_begun effects
numbers_begun (effect ∷ effects) = numbers_begun effects

abbrev pub numbers_completed : List Effect → List ℕ
numbers_completed [] = []
numbers_completed (completes my number ∷ effects) = number ∷ numbers_completed effects
numbers_completed (effect ∷ effects) = numbers_completed effects

abbrev pub numbers_accepted : List Effect → List ℕ
numbers_accepted [] = []
numbers_accepted (accepts number ∷ effects) = number ∷ numbers_accepted effects
numbers_accepted (effect ∷ effects) = numbers_accepted effects

abbrev pub numbers_performed : List Effect → List ℕ
numbers_performed [] = []
numbers_performed (performs peer number ∷ effects) = number ∷ numbers_performed effects
numbers_performed (effect ∷ effects) = numbers_performed effects

-- ---- fresh tags

-- the tags that were drawn, newest first
abbrev pub drawn_tags : List Effect → List ℕ
drawn_tags [] = []
drawn_tags (draws pair ∷ effects) = pair.tag ∷ drawn_tags effects
drawn_tags (effect ∷ effects) = drawn_tags effects

abbrev pub NotAmong : ℕ → List ℕ → Type 0
NotAmong tag [] = Unit {0}
NotAmong tag (other ∷ others) = (tag ≢ other) × NotAmong tag others

abbrev pub Differ : List ℕ → Type 0
Differ [] = Unit {0}
Differ (tag ∷ others) = NotAmong tag others × Differ others

drawn_tag : (one other : Pair) → draws one ≡ draws other → one.tag ≡ other.tag
drawn_tag one other is = cc

not_drawn : (past : List Effect) (tag : ℕ) → NotAmong tag (drawn_tags past) → (other : Pair) → HasEffect (draws other) past → tag ≢ other.tag
not_drawn [] tag h other drawn = absurd drawn
not_drawn (draws pair ∷ earlier) tag h other (inl is) = λ same. h.0 (same ∙ drawn_tag other pair is)
not_drawn (draws pair ∷ earlier) tag h other (inr drawn) = not_drawn earlier tag h.1 other drawn
not_drawn (effect ∷ earlier) tag h other (inl is) = absurd (cc)
not_drawn (effect ∷ earlier) tag h other (inr drawn) = not_drawn earlier tag h other drawn

-- Tags that differ are fresh.
pub fresh_where : (past : List Effect) → Differ (drawn_tags past) → HasFreshTags past
fresh_where [] h = tt
fresh_where (draws pair ∷ earlier) h = (not_drawn earlier pair.tag h.0, fresh_where earlier h.1)
fresh_where (effect ∷ earlier) h = (tt, fresh_where earlier h)
