-- The premise on tags that allows one association to take the place of another: what met the old premise
-- meets it, and so does each first part of a run. An association that the other side never has never connects.
use Rattle.std.proofs.Common.{◌≡◌, ◌≢◌, ◌⊎◌, ℕ, List, [], ◌∷◌, refl, sym, ◌∙◌, ap, subst, inl, inr}
use Rattle.dcsctp_spec_lemmas.specs.types.declared.options.Options.{Options}
use Rattle.dcsctp_spec_lemmas.specs.spec.endpoint.CallTurns.{Transition}
use Rattle.dcsctp_spec_lemmas.specs.spec.association.Effect.{AssociationIdentity, Effect, draws, sends, holds, connects, ends, begins, gives_up, completes, fails, accepts, performs, renews, resumes}
use Rattle.dcsctp_spec_runs.specs.Past.{HasEffect, Each}
use Rattle.dcsctp_spec_runs.specs.Sockets.{Both}
use Rattle.dcsctp_spec_runs.specs.World.{after_effects}
use Rattle.dcsctp_theorem_association.proofs.Growth.{after_within}
use Rattle.dcsctp_theorem_sockets.specs.Agreement.{recorded_past}
use Rattle.dcsctp_delivery_directions.proofs.sending.Places.{decide}
use Rattle.dcsctp_delivery_sockets.specs.associations.Ends.{IsBefore, PlaceWasTaken}
use Rattle.dcsctp_delivery_sockets.proofs.associations.Tagged.{PeersDiffer}
use Rattle.dcsctp_delivery_sockets.specs.sockets.Delivery.{IsOfNewTags, MatchByTags, TagsServeOnce, IsUnmatched, IsOfNewTagsBut, MatchOrUnmatched, TagsServeOnceBut, SendsLittleTogether}

each_map : (One Two : Effect → List Effect → Type 0) → ((effect : Effect) (earlier : List Effect) → One effect earlier → Two effect earlier) → (past : List Effect) → Each One past → Each Two past
each_map One Two also [] each = tt
each_map One Two also (effect ∷ earlier) each = (also effect earlier each.0, each_map One Two also earlier each.1)

-- ---- it is wider

rule_wider : (options : Options) (theirs : List Effect) (effect : Effect) (earlier : List Effect) → IsOfNewTags effect earlier → IsOfNewTagsBut options theirs effect earlier
rule_wider options theirs (holds link) earlier rule = λ old has. ((rule old has).1, inl (rule old has).0)
rule_wider options theirs (draws pair) earlier rule = tt
rule_wider options theirs (sends packet) earlier rule = tt
rule_wider options theirs (connects other) earlier rule = tt
rule_wider options theirs ends earlier rule = tt
rule_wider options theirs (begins number) earlier rule = tt
rule_wider options theirs (gives_up number) earlier rule = tt
rule_wider options theirs (completes my number) earlier rule = tt
rule_wider options theirs (fails number) earlier rule = tt
rule_wider options theirs (accepts number) earlier rule = tt
rule_wider options theirs (performs peer number) earlier rule = tt
rule_wider options theirs (renews peer number) earlier rule = tt
rule_wider options theirs (resumes other own last) earlier rule = tt

pub each_wider : (options : Options) (theirs past : List Effect) → Each IsOfNewTags past → Each (IsOfNewTagsBut options theirs) past
each_wider options theirs past each = each_map IsOfNewTags (IsOfNewTagsBut options theirs) (rule_wider options theirs) past each

pub match_wider : (my_options their_options : Options) (mine theirs : List Effect) → MatchByTags mine theirs → MatchOrUnmatched my_options their_options mine theirs
match_wider my_options their_options mine theirs matched link other has has' share =
    let both = matched link other has has' share in (record { my = λ same. both.0; peer = λ same. both.1 }, inl both)

pub tags_wider : (options : Both Options) (turns : Both (List Transition)) → TagsServeOnce turns → TagsServeOnceBut options turns
tags_wider options turns once =
    record {
      a = each_wider options.a (recorded_past turns.b) (recorded_past turns.a) once.a;
      b = each_wider options.b (recorded_past turns.a) (recorded_past turns.b) once.b;
      matched = match_wider options.a options.b (recorded_past turns.a) (recorded_past turns.b) once.matched;
    }

-- Where each tag serves one association, two of one own tag are one.
rule_apart : (effect : Effect) (earlier : List Effect) (link other : AssociationIdentity) → IsOfNewTags effect earlier → holds link ≡ effect → HasEffect (holds other) earlier → other.my.tag ≢ link.my.tag
rule_apart effect earlier link other rule is has = (subst (λ (x : Effect). IsOfNewTags x earlier) (sym is) rule other has).0

same_link : (one two : AssociationIdentity) (effect : Effect) → holds one ≡ effect → holds two ≡ effect → one ≡ two
same_link one two effect first second = cc

pub one_of_tag : (past : List Effect) → Each IsOfNewTags past → (one two : AssociationIdentity) → HasEffect (holds one) past → HasEffect (holds two) past → one.my.tag ≡ two.my.tag → one ≡ two
one_of_tag [] each one two has has' same = absurd has
one_of_tag (effect ∷ earlier) each one two (inl is) (inl is') same = same_link one two effect is is'
one_of_tag (effect ∷ earlier) each one two (inl is) (inr has') same = absurd (rule_apart effect earlier one two each.0 is has' (sym same))
one_of_tag (effect ∷ earlier) each one two (inr has) (inl is') same = absurd (rule_apart effect earlier two one each.0 is' has same)
one_of_tag (effect ∷ earlier) each one two (inr has) (inr has') same = one_of_tag earlier each.1 one two has has' same

pub together_wider : (turns : List Transition) → Each IsOfNewTags (recorded_past turns) → SendsLittleTogether turns
together_wider turns each old link has has' same other = absurd (other (ap (λ (l : AssociationIdentity). l.peer.tag) (one_of_tag (recorded_past turns) each old link has has' same)))

-- ---- each first part of a run meets it

pub unmatched_before : (link : AssociationIdentity) (theirs more : List Effect) → IsUnmatched link (after_effects more theirs) → IsUnmatched link theirs
unmatched_before link theirs more none other has = none other (after_within more theirs (holds other) has)

rule_before : (options : Options) (theirs more : List Effect) (effect : Effect) (earlier : List Effect) → IsOfNewTagsBut options (after_effects more theirs) effect earlier → IsOfNewTagsBut options theirs effect earlier
rule_before options theirs more (holds link) earlier rule =
    λ old has. ((rule old has).0, elim (rule old has).1 [ inl other ↦ inl other | inr takes ↦ inr (record { follows = takes.follows; my = takes.my; capabilities = takes.capabilities; there = takes.there; unmatched = unmatched_before old theirs more takes.unmatched }) ])
rule_before options theirs more (draws pair) earlier rule = tt
rule_before options theirs more (sends packet) earlier rule = tt
rule_before options theirs more (connects other) earlier rule = tt
rule_before options theirs more ends earlier rule = tt
rule_before options theirs more (begins number) earlier rule = tt
rule_before options theirs more (gives_up number) earlier rule = tt
rule_before options theirs more (completes my number) earlier rule = tt
rule_before options theirs more (fails number) earlier rule = tt
rule_before options theirs more (accepts number) earlier rule = tt
rule_before options theirs more (performs peer number) earlier rule = tt
rule_before options theirs more (renews peer number) earlier rule = tt
rule_before options theirs more (resumes other own last) earlier rule = tt

pub each_before : (options : Options) (theirs more past : List Effect) → Each (IsOfNewTagsBut options (after_effects more theirs)) past → Each (IsOfNewTagsBut options theirs) past
each_before options theirs more past each = each_map (IsOfNewTagsBut options (after_effects more theirs)) (IsOfNewTagsBut options theirs) (rule_before options theirs more) past each

pub match_before : (my_options their_options : Options) (mine theirs effects more : List Effect) → MatchOrUnmatched my_options their_options (after_effects effects mine) (after_effects more theirs) → MatchOrUnmatched my_options their_options mine theirs
match_before my_options their_options mine theirs effects more matched link other has has' share =
    let is = matched link other (after_within effects mine (holds link) has) (after_within more theirs (holds other) has') share in (
      is.0,
      elim is.1 [
        | inl both ↦ inl both
        | inr which ↦ inr (elim which [ inl my ↦ inl (my.0, unmatched_before link theirs more my.1) | inr their ↦ inr (their.0, unmatched_before other mine effects their.1) ])
      ],
    )

pub match_swapped : (my_options their_options : Options) (mine theirs : List Effect) → MatchOrUnmatched my_options their_options mine theirs → MatchOrUnmatched their_options my_options theirs mine
match_swapped my_options their_options mine theirs matched link other has has' share =
    let is = matched other link has' has (elim share [ inl e ↦ inr (sym e) | inr e ↦ inl (sym e) ]) in (
      record { my = λ same. sym (is.0.peer (sym same)); peer = λ same. sym (is.0.my (sym same)) },
      elim is.1 [
        | inl both ↦ inl (sym both.1, sym both.0)
        | inr which ↦ inr (elim which [ inl my ↦ inr my | inr their ↦ inl their ])
      ],
    )

-- ---- an association that the other side never has

-- It has the matching one at some time, or never one with that tag.
pub record IsMet (link : AssociationIdentity) (theirs : List Effect) : Type 0 where
  pub other : AssociationIdentity
  pub held : HasEffect (holds other) theirs
  pub tag_is : other.my.tag ≡ link.peer.tag

met_later : (link : AssociationIdentity) (effect : Effect) (theirs : List Effect) → IsMet link theirs ⊎ IsUnmatched link theirs → ((other : AssociationIdentity) → holds other ≡ effect → other.my.tag ≢ link.peer.tag)
    → IsMet link (effect ∷ theirs) ⊎ IsUnmatched link (effect ∷ theirs)
met_later link effect theirs (inl met) none = inl (record { other = met.other; held = inr met.held; tag_is = met.tag_is })
met_later link effect theirs (inr unmet) none = inr (λ other has. elim has [ inl is ↦ none other is | inr before ↦ unmet other before ])

pub met_or_not : (link : AssociationIdentity) (theirs : List Effect) → IsMet link theirs ⊎ IsUnmatched link theirs
met_or_not link [] = inr (λ other has. absurd has)
met_or_not link (holds here ∷ theirs) =
    elim (decide here.my.tag link.peer.tag) [
      | inl same ↦ inl (record { other = here; held = inl refl; tag_is = same })
      | inr ne ↦ met_later link (holds here) theirs (met_or_not link theirs) (λ other is same. ne (ap (λ (l : AssociationIdentity). l.my.tag) (sym (same_link other here (holds here) is refl)) ∙ same))
    ]
met_or_not link (draws pair ∷ theirs) = met_later link _ theirs (met_or_not link theirs) (λ other is. absurd (cc))
met_or_not link (sends packet ∷ theirs) = met_later link _ theirs (met_or_not link theirs) (λ other is. absurd (cc))
met_or_not link (connects other ∷ theirs) = met_later link _ theirs (met_or_not link theirs) (λ other is. absurd (cc))
met_or_not link (ends ∷ theirs) = met_later link _ theirs (met_or_not link theirs) (λ other is. absurd (cc))
met_or_not link (begins number ∷ theirs) = met_later link _ theirs (met_or_not link theirs) (λ other is. absurd (cc))
met_or_not link (gives_up number ∷ theirs) = met_later link _ theirs (met_or_not link theirs) (λ other is. absurd (cc))
met_or_not link (completes my number ∷ theirs) = met_later link _ theirs (met_or_not link theirs) (λ other is. absurd (cc))
met_or_not link (fails number ∷ theirs) = met_later link _ theirs (met_or_not link theirs) (λ other is. absurd (cc))
met_or_not link (accepts number ∷ theirs) = met_later link _ theirs (met_or_not link theirs) (λ other is. absurd (cc))
met_or_not link (performs peer number ∷ theirs) = met_later link _ theirs (met_or_not link theirs) (λ other is. absurd (cc))
met_or_not link (renews peer number ∷ theirs) = met_later link _ theirs (met_or_not link theirs) (λ other is. absurd (cc))
met_or_not link (resumes other own last ∷ theirs) = met_later link _ theirs (met_or_not link theirs) (λ other is. absurd (cc))

-- ---- two of one own tag, or of one tag of the peer

pub another_own : (effect : Effect) (past : List Effect) (tag : ℕ) → ((link : AssociationIdentity) → holds link ≡ effect → ⊥) → ((old : AssociationIdentity) → HasEffect (holds old) past → old.my.tag ≢ tag) ⊎ ((old : AssociationIdentity) × HasEffect (holds old) past × (old.my.tag ≡ tag))
    → ((old : AssociationIdentity) → HasEffect (holds old) (effect ∷ past) → old.my.tag ≢ tag) ⊎ ((old : AssociationIdentity) × HasEffect (holds old) (effect ∷ past) × (old.my.tag ≡ tag))
another_own effect past tag never (inl none) = inl (λ old has. elim has [ inl is ↦ absurd (never old is) | inr before ↦ none old before ])
another_own effect past tag never (inr (old, has, same)) = inr (old, inr has, same)

-- There is one with this own tag, or none.
pub own_or_none : (past : List Effect) (tag : ℕ) → ((old : AssociationIdentity) → HasEffect (holds old) past → old.my.tag ≢ tag) ⊎ ((old : AssociationIdentity) × HasEffect (holds old) past × (old.my.tag ≡ tag))
own_or_none [] tag = inl (λ old has. absurd has)
own_or_none (holds here ∷ past) tag =
    elim (decide here.my.tag tag) [
      | inl same ↦ inr (here, inl refl, same)
      | inr ne ↦ none_first here past tag ne (own_or_none past tag)
    ]
  where
    none_first : (here : AssociationIdentity) (past : List Effect) (tag : ℕ) → here.my.tag ≢ tag → ((old : AssociationIdentity) → HasEffect (holds old) past → old.my.tag ≢ tag) ⊎ ((old : AssociationIdentity) × HasEffect (holds old) past × (old.my.tag ≡ tag))
        → ((old : AssociationIdentity) → HasEffect (holds old) (holds here ∷ past) → old.my.tag ≢ tag) ⊎ ((old : AssociationIdentity) × HasEffect (holds old) (holds here ∷ past) × (old.my.tag ≡ tag))
    none_first here past tag ne (inl none) = inl (λ old has. elim has [ inl is ↦ (λ same. ne (ap (λ (l : AssociationIdentity). l.my.tag) (sym (same_link old here (holds here) is refl)) ∙ same)) | inr before ↦ none old before ])
    none_first here past tag ne (inr (old, has, same)) = inr (old, inr has, same)
own_or_none (draws pair ∷ past) tag = another_own (draws pair) past tag (λ link is. absurd (cc)) (own_or_none past tag)
own_or_none (sends packet ∷ past) tag = another_own (sends packet) past tag (λ link is. absurd (cc)) (own_or_none past tag)
own_or_none (connects other ∷ past) tag = another_own (connects other) past tag (λ link is. absurd (cc)) (own_or_none past tag)
own_or_none (ends ∷ past) tag = another_own (ends) past tag (λ link is. absurd (cc)) (own_or_none past tag)
own_or_none (begins number ∷ past) tag = another_own (begins number) past tag (λ link is. absurd (cc)) (own_or_none past tag)
own_or_none (gives_up number ∷ past) tag = another_own (gives_up number) past tag (λ link is. absurd (cc)) (own_or_none past tag)
own_or_none (completes my number ∷ past) tag = another_own (completes my number) past tag (λ link is. absurd (cc)) (own_or_none past tag)
own_or_none (fails number ∷ past) tag = another_own (fails number) past tag (λ link is. absurd (cc)) (own_or_none past tag)
own_or_none (accepts number ∷ past) tag = another_own (accepts number) past tag (λ link is. absurd (cc)) (own_or_none past tag)
own_or_none (performs peer number ∷ past) tag = another_own (performs peer number) past tag (λ link is. absurd (cc)) (own_or_none past tag)
own_or_none (renews peer number ∷ past) tag = another_own (renews peer number) past tag (λ link is. absurd (cc)) (own_or_none past tag)
own_or_none (resumes other own last ∷ past) tag = another_own (resumes other own last) past tag (λ link is. absurd (cc)) (own_or_none past tag)

-- The peers of two associations of a side have different tags.
pub peers_differ : (options : Options) (theirs past : List Effect) → Each (IsOfNewTagsBut options theirs) past → PeersDiffer past
peers_differ options theirs [] each one two has has' same = absurd has
peers_differ options theirs (effect ∷ earlier) each one two (inl is) (inl is') same = same_link one two effect is is'
peers_differ options theirs (effect ∷ earlier) each one two (inl is) (inr has') same = absurd ((subst (λ (x : Effect). IsOfNewTagsBut options theirs x earlier) (sym is) each.0 two has').0 (sym same))
peers_differ options theirs (effect ∷ earlier) each one two (inr has) (inl is') same = absurd ((subst (λ (x : Effect). IsOfNewTagsBut options theirs x earlier) (sym is') each.0 one has).0 same)
peers_differ options theirs (effect ∷ earlier) each one two (inr has) (inr has') same = peers_differ options theirs earlier each.1 one two has has' same

-- One whose place another took is none of the other side's.
pub replaced_unmatched : (options : Options) (theirs past : List Effect) → Each (IsOfNewTagsBut options theirs) past → (tag former latest : ℕ) → PlaceWasTaken past tag former latest → (other : AssociationIdentity) → HasEffect (holds other) theirs → other.my.tag ≢ former
replaced_unmatched options theirs past each tag former latest was other has same = go past each was.before
  where
    go : (past : List Effect) → Each (IsOfNewTagsBut options theirs) past → IsBefore was.old was.link past → ⊥
    go [] each before = before
    go (effect ∷ earlier) each (inl here) =
        elim (subst (λ (x : Effect). IsOfNewTagsBut options theirs x earlier) (sym here.0) each.0 was.old here.1).1 [
          | inl ne ↦ ne (was.old_is ∙ sym was.link_is)
          | inr takes ↦ takes.unmatched other has (same ∙ sym was.former_is)
        ]
    go (effect ∷ earlier) each (inr before) = go earlier each.1 before

pub before_held : (one other : AssociationIdentity) (past : List Effect) → IsBefore one other past → HasEffect (holds one) past × HasEffect (holds other) past
before_held one other [] before = absurd before
before_held one other (effect ∷ earlier) (inl here) = (inr here.1, inl here.0)
before_held one other (effect ∷ earlier) (inr before) = (let both = before_held one other earlier before in (inr both.0, inr both.1))
