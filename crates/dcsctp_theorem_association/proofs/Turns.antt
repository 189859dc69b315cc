-- A turn that keeps what is true: of its effects, and of the association after it.
use Rattle.std.proofs.Common.{◌≡◌, ◌≢◌, List, [], ◌∷◌, inl, inr, sym, subst}
use Rattle.dcsctp_spec_lemmas.specs.types.declared.association.Pair.{Pair}
use Rattle.dcsctp_spec_lemmas.specs.types.declared.association.Held.{Held}
use Rattle.dcsctp_spec_lemmas.specs.types.Offer.{Offer}
use Rattle.dcsctp_spec_lemmas.specs.spec.endpoint.Endpoint.{Core, open_in, OpenPhase}
use Rattle.dcsctp_spec_lemmas.specs.spec.endpoint.Following.{Following}
use Rattle.dcsctp_spec_lemmas.specs.spec.association.Effect.{Effect, draws, ends, Change, no_change, rest_dropped, ending_change}
use Rattle.dcsctp_spec_lemmas.specs.spec.association.Acts.{then_changes}
use Rattle.dcsctp_spec_runs.specs.Past.{HasEffect, FreshDraw, HasFreshTags}
use Rattle.dcsctp_spec_runs.specs.World.{after_effects}
use Rattle.dcsctp_theorem_association.proofs.Facts.{TrueEffects, PeerFacts, TrueCore}
use Rattle.dcsctp_theorem_association.proofs.Growth.{after_effects-append, after_within, effects-append, peer_grows, same, then_true}
use Rattle.dcsctp_theorem_association.proofs.Echoes.{AllEchoFree, core_stays}

pub record Kept (my_offer their_offer : Offer) (mine theirs : List Effect) (change : Change) : Type 0 where
  pub effects : TrueEffects my_offer their_offer mine theirs change.effects
  pub core : TrueCore my_offer their_offer (after_effects change.effects mine) theirs change.core

-- effects without a COOKIE ECHO, and the association as it was
pub stays_kept : (my_offer their_offer : Offer) (mine theirs : List Effect) (core : Core) (effects : List Effect) (following : Following)
    → TrueCore my_offer their_offer mine theirs core → TrueEffects my_offer their_offer mine theirs effects → AllEchoFree effects
    → Kept my_offer their_offer mine theirs (record { core = core; effects = effects; following = following })
stays_kept my_offer their_offer mine theirs core effects following h true_effects free =
    record { effects = true_effects; core = core_stays my_offer their_offer mine theirs core effects free h }

pub unchanged_kept : (my_offer their_offer : Offer) (mine theirs : List Effect) (core : Core)
    → TrueCore my_offer their_offer mine theirs core → Kept my_offer their_offer mine theirs (no_change core)
unchanged_kept my_offer their_offer mine theirs core h = record { effects = tt; core = h }

pub dropped_kept : (my_offer their_offer : Offer) (mine theirs : List Effect) (core : Core)
    → TrueCore my_offer their_offer mine theirs core → Kept my_offer their_offer mine theirs (rest_dropped core)
dropped_kept my_offer their_offer mine theirs core h = record { effects = tt; core = h }

pub ended_kept : (my_offer their_offer : Offer) (mine theirs : List Effect) (before : List Effect)
    → TrueEffects my_offer their_offer mine theirs before → Kept my_offer their_offer mine theirs (ending_change before)
ended_kept my_offer their_offer mine theirs before h =
    record { effects = effects-append my_offer their_offer mine theirs before (ends ∷ []) h (tt, tt); core = tt }

-- an open association after effects
pub open_kept : (my_offer their_offer : Offer) (mine theirs : List Effect) (phase : OpenPhase) (my : Pair) (held : Held) (effects : List Effect) (following : Following)
    → PeerFacts my_offer their_offer mine theirs my held → TrueEffects my_offer their_offer mine theirs effects
    → Kept my_offer their_offer mine theirs (record { core = open_in phase my held; effects = effects; following = following })
open_kept my_offer their_offer mine theirs phase my held effects following h true_effects =
    record { effects = true_effects; core = peer_grows my_offer their_offer mine theirs (after_effects effects mine) theirs my held (after_within effects mine) (same theirs) h }

-- one change after another
pub then_kept : (my_offer their_offer : Offer) (mine theirs : List Effect) (first second : Change) (following : Following)
    → Kept my_offer their_offer mine theirs first → Kept my_offer their_offer (after_effects first.effects mine) theirs second
    → Kept my_offer their_offer mine theirs (then_changes first second following)
then_kept my_offer their_offer mine theirs first second following h k =
    record {
      effects = then_true my_offer their_offer mine theirs first.effects second.effects h.effects k.effects;
      core = subst (λ (past : List Effect). TrueCore my_offer their_offer past theirs second.core) (sym (after_effects-append first.effects second.effects mine)) k.core;
    }

-- ---- fresh tags

-- Tags name pairs.
abbrev pub SameTag : List Effect → Type 0
SameTag past = (one other : Pair) → HasEffect (draws one) past → HasEffect (draws other) past → one.tag ≡ other.tag → one ≡ other

draws_same : (one other : Pair) (newest : Effect) → draws one ≡ newest → draws other ≡ newest → one ≡ other
draws_same one other newest e f = cc

never_again : (pair other : Pair) (newest : Effect) (earlier : List Effect) → draws pair ≡ newest → FreshDraw newest earlier → HasEffect (draws other) earlier → pair.tag ≢ other.tag
never_again pair other newest earlier e fresh h = (subst (λ x. FreshDraw x earlier) (sym e) fresh) other h

pub same_tag : (past : List Effect) → HasFreshTags past → SameTag past
same_tag [] fresh one other h k is = absurd h
same_tag (newest ∷ earlier) fresh one other (inl e) (inl f) is = draws_same one other newest e f
same_tag (newest ∷ earlier) fresh one other (inl e) (inr k) is = absurd (never_again one other newest earlier e fresh.0 k is)
same_tag (newest ∷ earlier) fresh one other (inr h) (inl f) is = absurd (never_again other one newest earlier f fresh.0 h (sym is))
same_tag (newest ∷ earlier) fresh one other (inr h) (inr k) is = same_tag earlier fresh.1 one other h k is

-- An effect that draws nothing changes nothing of this.
pub tags_after : (effect : Effect) (past : List Effect) → ((pair : Pair) → draws pair ≡ effect → ⊥) → SameTag past → SameTag (effect ∷ past)
tags_after effect past never tags one other (inl e) k is = absurd (never one e)
tags_after effect past never tags one other (inr h) (inl f) is = absurd (never other f)
tags_after effect past never tags one other (inr h) (inr k) is = tags one other h k is

-- Tags that were fresh after more effects were fresh before them.
pub fresh_before : (effects past : List Effect) → HasFreshTags (after_effects effects past) → HasFreshTags past
fresh_before [] past fresh = fresh
fresh_before (effect ∷ effects) past fresh = (fresh_before effects (effect ∷ past) fresh).1
