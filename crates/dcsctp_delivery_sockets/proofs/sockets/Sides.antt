-- Which associations a side has recorded, and which it has shown, act by act.
use Rattle.std.proofs.Common.{◌≡◌, ◌≢◌, List, [], ◌∷◌, ◌++◌, refl, sym, ap, ◌∙◌, subst, inl, inr}
use Rattle.std.specs.Prelude.{Option, Some}
use Rattle.dcsctp_spec_lemmas.specs.types.declared.capabilities.Capabilities.{Capabilities}
use Rattle.dcsctp_spec_lemmas.specs.types.declared.options.Options.{Options}
use Rattle.dcsctp_spec_lemmas.specs.spec.endpoint.CallTurns.{Transition, after_all, effects_of, events_of}
use Rattle.dcsctp_spec_lemmas.specs.spec.endpoint.Endpoint.{Endpoint, fresh_endpoint}
use Rattle.dcsctp_spec_lemmas.specs.spec.endpoint.Event.{Event, packets_of_events}
use Rattle.dcsctp_spec_lemmas.specs.spec.Packet.{Emission}
use Rattle.dcsctp_spec_runs.specs.Past.{HasEffect, Each, current}
use Rattle.dcsctp_spec_runs.specs.Sockets.{endpoint_after}
use Rattle.dcsctp_spec_runs.specs.World.{after_effects}
use Rattle.dcsctp_spec_lemmas.specs.spec.association.Effect.{AssociationIdentity, Effect, draws, sends, holds, connects, ends, begins, gives_up, completes, fails, accepts, performs, renews, resumes, identity_of_core}
use Rattle.dcsctp_spec_lemmas.proofs.TurnLists.{after_all-append, events_of-append}
use Rattle.dcsctp_theorem_sockets.specs.Agreement.{recorded_past}
use Rattle.dcsctp_theorem_sockets.proofs.NoHolding.{HoldsNone}
use Rattle.dcsctp_theorem_sockets.proofs.Signs.{in_after}
use Rattle.dcsctp_delivery_sockets.specs.sockets.Delivery.{IsOfNewTags, IsOfNewTagsBut}
use Rattle.dcsctp_delivery_sockets.proofs.sockets.Known.{past_more}
use Rattle.dcsctp_delivery_sockets.specs.sockets.Shown.{WasShown, IsStillThere, HasNewTags, MayBeShown, ServeOnce, HasNewTagsBut, MayBeShownBut, ServeOnceBut}
use Rattle.dcsctp_delivery_sockets.proofs.sockets.Allowed.{AreAllowed}
use Rattle.dcsctp_delivery_sockets.proofs.sockets.Actions.{events_both}
use Rattle.dcsctp_delivery_sockets.proofs.sockets.Turns.{EndpointIs}
use Rattle.dcsctp_delivery_sockets.proofs.sockets.Begins.{not_among}
use Rattle.dcsctp_delivery_sockets.proofs.sockets.Calm.{Notes, notes_none, notes_one, ActIs}

-- This is what is shown last.
abbrev pub IsNewest : Option AssociationIdentity → List (Option AssociationIdentity) → Type 0
IsNewest now [] = ⊥
IsNewest now (entry ∷ earlier) = entry ≡ now

-- What one side has recorded was shown.
abbrev pub WereShown : List Effect → List (Option AssociationIdentity) → Type 0
WereShown past shown = (link : AssociationIdentity) → HasEffect (holds link) past → WasShown link shown

-- Each association that a side has recorded was shown. And if each tag of those that were shown serves one association, so does
-- each tag of those that were recorded; or one takes the place of another, if what the other side has recorded was shown.
pub record PastIs (options : Options) (past : List Effect) (shown : List (Option AssociationIdentity)) : Type 0 where
  pub among : WereShown past shown
  pub each : ServeOnce shown → Each IsOfNewTags past
  pub each_but : (theirs : List Effect) (their_shown : List (Option AssociationIdentity)) → WereShown theirs their_shown → ServeOnceBut options their_shown shown → Each (IsOfNewTagsBut options theirs) past

pub record SideIs (kinds : Capabilities) (mine : Options) (turns : List Transition) (shown : List (Option AssociationIdentity)) : Type 0 where
  pub is : EndpointIs kinds (endpoint_after mine turns)
  pub says : AreAllowed kinds (packets_of_events (events_of turns))
  pub newest : IsNewest (identity_of_core (endpoint_after mine turns).core) shown
  pub past : PastIs mine (recorded_past turns) shown

-- ---- where no association is recorded

has_before : (link : AssociationIdentity) (effects past : List Effect) → HoldsNone effects → HasEffect (holds link) (after_effects effects past) → HasEffect (holds link) past
has_before link effects past none has = elim (in_after (holds link) effects past has) [ inl now ↦ absurd (not_among link effects none now) | inr before ↦ before ]

-- The rule says nothing of what records no association.
pub record IsOfHolds (Rule : Effect → List Effect → Type 0) : Type 0 where
  pub others : (effect : Effect) (earlier : List Effect) → HoldsNone (effect ∷ []) → Rule effect earlier

each_after : (Rule : Effect → List Effect → Type 0) → IsOfHolds Rule → (effects past : List Effect) → HoldsNone effects → Each Rule past → Each Rule (after_effects effects past)
each_after Rule free [] past none each = each
each_after Rule free (holds link ∷ effects) past none each = absurd none.0
each_after Rule free (draws pair ∷ effects) past none each = each_after Rule free effects (draws pair ∷ past) none.1 (free.others (draws pair) past (tt, tt), each)
each_after Rule free (sends packet ∷ effects) past none each = each_after Rule free effects (sends packet ∷ past) none.1 (free.others (sends packet) past (tt, tt), each)
each_after Rule free (connects link ∷ effects) past none each = each_after Rule free effects (connects link ∷ past) none.1 (free.others (connects link) past (tt, tt), each)
each_after Rule free (ends ∷ effects) past none each = each_after Rule free effects (ends ∷ past) none.1 (free.others ends past (tt, tt), each)
each_after Rule free (begins number ∷ effects) past none each = each_after Rule free effects (begins number ∷ past) none.1 (free.others (begins number) past (tt, tt), each)
each_after Rule free (gives_up number ∷ effects) past none each = each_after Rule free effects (gives_up number ∷ past) none.1 (free.others (gives_up number) past (tt, tt), each)
each_after Rule free (completes my number ∷ effects) past none each = each_after Rule free effects (completes my number ∷ past) none.1 (free.others (completes my number) past (tt, tt), each)
each_after Rule free (fails number ∷ effects) past none each = each_after Rule free effects (fails number ∷ past) none.1 (free.others (fails number) past (tt, tt), each)
each_after Rule free (accepts number ∷ effects) past none each = each_after Rule free effects (accepts number ∷ past) none.1 (free.others (accepts number) past (tt, tt), each)
each_after Rule free (performs peer number ∷ effects) past none each = each_after Rule free effects (performs peer number ∷ past) none.1 (free.others (performs peer number) past (tt, tt), each)
each_after Rule free (renews peer number ∷ effects) past none each = each_after Rule free effects (renews peer number ∷ past) none.1 (free.others (renews peer number) past (tt, tt), each)
each_after Rule free (resumes link own last ∷ effects) past none each = each_after Rule free effects (resumes link own last ∷ past) none.1 (free.others (resumes link own last) past (tt, tt), each)

once_free : IsOfHolds IsOfNewTags
once_free = record { others = one }
  where
    one : (effect : Effect) (earlier : List Effect) → HoldsNone (effect ∷ []) → IsOfNewTags effect earlier
    one (draws pair) earlier none = tt
    one (sends packet) earlier none = tt
    one (connects link) earlier none = tt
    one ends earlier none = tt
    one (begins number) earlier none = tt
    one (gives_up number) earlier none = tt
    one (completes my number) earlier none = tt
    one (fails number) earlier none = tt
    one (accepts number) earlier none = tt
    one (performs peer number) earlier none = tt
    one (renews peer number) earlier none = tt
    one (resumes link own last) earlier none = tt
    one (holds link) earlier none = absurd none.0

but_free : (options : Options) (theirs : List Effect) → IsOfHolds (IsOfNewTagsBut options theirs)
but_free options theirs = record { others = one }
  where
    one : (effect : Effect) (earlier : List Effect) → HoldsNone (effect ∷ []) → IsOfNewTagsBut options theirs effect earlier
    one (draws pair) earlier none = tt
    one (sends packet) earlier none = tt
    one (connects link) earlier none = tt
    one ends earlier none = tt
    one (begins number) earlier none = tt
    one (gives_up number) earlier none = tt
    one (completes my number) earlier none = tt
    one (fails number) earlier none = tt
    one (accepts number) earlier none = tt
    one (performs peer number) earlier none = tt
    one (renews peer number) earlier none = tt
    one (resumes link own last) earlier none = tt
    one (holds link) earlier none = absurd none.0

none_past : (options : Options) (effects past : List Effect) (entry : Option AssociationIdentity) (shown : List (Option AssociationIdentity)) → HoldsNone effects → PastIs options past shown → PastIs options (after_effects effects past) (entry ∷ shown)
none_past options effects past entry shown none h =
    record {
      among = λ link has. inr (h.among link (has_before link effects past none has));
      each = λ serve. each_after IsOfNewTags once_free effects past none (h.each serve.1);
      each_but = λ theirs their_shown were serve. each_after (IsOfNewTagsBut options theirs) (but_free options theirs) effects past none (h.each_but theirs their_shown were serve.1);
    }

-- ---- where one is

-- It is shown as one that wasn't there.
new_tags : (link : AssociationIdentity) (now : Option AssociationIdentity) (shown : List (Option AssociationIdentity)) → IsNewest now shown → now ≢ Some link → MayBeShown (Some link) shown → HasNewTags link shown
new_tags link now [] newest other (inl still) = absurd still
new_tags link now (entry ∷ earlier) newest other (inl still) = absurd (other (sym newest ∙ still))
new_tags link now shown newest other (inr has) = has

new_tags_but : (options : Options) (theirs : List (Option AssociationIdentity)) (link : AssociationIdentity) (now : Option AssociationIdentity) (shown : List (Option AssociationIdentity)) → IsNewest now shown → now ≢ Some link → MayBeShownBut options theirs (Some link) shown
    → HasNewTagsBut options theirs link shown
new_tags_but options theirs link now [] newest other (inl still) = absurd still
new_tags_but options theirs link now (entry ∷ earlier) newest other (inl still) = absurd (other (sym newest ∙ still))
new_tags_but options theirs link now shown newest other (inr has) = has

still_newest : (old : AssociationIdentity) (now : Option AssociationIdentity) (shown : List (Option AssociationIdentity)) → IsNewest now shown → IsStillThere old shown → now ≡ Some old
still_newest old now [] newest there = absurd there
still_newest old now (entry ∷ earlier) newest there = sym newest ∙ there

module _ (options : Options) (link : AssociationIdentity) (later past : List Effect) (now : Option AssociationIdentity) (shown : List (Option AssociationIdentity)) (later_none : HoldsNone later) (newest : IsNewest now shown) (is_current : current past ≡ now) (other : now ≢ Some link)
    (h : PastIs options past shown) where
  one_among : WereShown (after_effects later (holds link ∷ past)) (Some link ∷ shown)
  one_among old has = go (has_before old later (holds link ∷ past) later_none has)
    where
      go : HasEffect (holds old) (holds link ∷ past) → WasShown old (Some link ∷ shown)
      go (inl is) = inl (let same : old ≡ link = cc in ap (λ (l : AssociationIdentity). Some l) (sym same))
      go (inr before) = inr (h.among old before)

  one_but : (theirs : List Effect) (their_shown : List (Option AssociationIdentity)) → WereShown theirs their_shown → ServeOnceBut options their_shown (Some link ∷ shown) → IsOfNewTagsBut options theirs (holds link) past
  one_but theirs their_shown were serve old has =
      let fresh = new_tags_but options their_shown link now shown newest other serve.0 old (h.among old has) in (
        fresh.0,
        elim fresh.1 [
          | inl ne ↦ inl ne
          | inr takes ↦
              inr (record {
                follows = takes.follows;
                my = takes.my;
                capabilities = takes.capabilities;
                there = is_current ∙ still_newest old now shown newest takes.there;
                unmatched = λ one was. takes.unmatched one (were one was);
              })
        ],
      )

  one_past : PastIs options (after_effects later (holds link ∷ past)) (Some link ∷ shown)
  one_past =
      record {
        among = one_among;
        each = λ serve.
            let fresh : HasNewTags link shown = new_tags link now shown newest other serve.0 in
            each_after IsOfNewTags once_free later (holds link ∷ past) later_none ((λ old has. fresh old (h.among old has)), h.each serve.1);
        each_but = λ theirs their_shown were serve.
            each_after (IsOfNewTagsBut options theirs) (but_free options theirs) later (holds link ∷ past) later_none (one_but theirs their_shown were serve, h.each_but theirs their_shown were serve.1);
      }

-- ---- an act

notes_past : (options : Options) (e : Endpoint) (more : List Transition) (past : List Effect) (shown : List (Option AssociationIdentity)) → IsNewest (identity_of_core e.core) shown → current past ≡ identity_of_core e.core → Notes e more → PastIs options past shown
    → PastIs options (after_effects (effects_of more) past) (identity_of_core (after_all e more).core ∷ shown)
notes_past options e more past shown newest is_current (notes_none none) h = none_past options (effects_of more) past (identity_of_core (after_all e more).core) shown none h
notes_past options e more past shown newest is_current (notes_one link later is later_none other there) h =
    subst (λ (entry : Option AssociationIdentity). PastIs options (after_effects (effects_of more) past) (entry ∷ shown)) (sym there)
    (subst (λ (es : List Effect). PastIs options (after_effects es past) (Some link ∷ shown)) (sym is) (one_past options link later past (identity_of_core e.core) shown later_none newest is_current other h))

module _ (kinds : Capabilities) (mine : Options) (turns : List Transition) (shown : List (Option AssociationIdentity)) where
  -- the side that acts
  pub acted_side : (more : List Transition) → current (recorded_past turns) ≡ identity_of_core (endpoint_after mine turns).core → SideIs kinds mine turns shown → ActIs kinds (endpoint_after mine turns) more → SideIs kinds mine (turns ++ more) (identity_of_core (endpoint_after mine (turns ++ more)).core ∷ shown)
  acted_side more is_current h act =
      let e : Endpoint = endpoint_after mine turns in
      let last : after_all e more ≡ endpoint_after mine (turns ++ more) = sym (after_all-append (fresh_endpoint mine) turns more) in
      record {
        is = subst (EndpointIs kinds) last act.is;
        says = subst (λ (events : List (Event Emission)). AreAllowed kinds (packets_of_events events)) (sym (events_of-append turns more)) (events_both kinds (events_of turns) (events_of more) h.says act.says);
        newest = refl;
        past = subst (λ (p : List Effect). PastIs mine p (identity_of_core (endpoint_after mine (turns ++ more)).core ∷ shown)) (sym (past_more turns more))
            (subst (λ (d : Endpoint). PastIs mine (after_effects (effects_of more) (recorded_past turns)) (identity_of_core d.core ∷ shown)) last (notes_past mine e more (recorded_past turns) shown h.newest is_current act.notes h.past));
      }

  -- and the other one
  pub rested_side : SideIs kinds mine turns shown → SideIs kinds mine turns (identity_of_core (endpoint_after mine turns).core ∷ shown)
  rested_side h = record { is = h.is; says = h.says; newest = refl; past = record { among = λ link has. inr (h.past.among link has); each = λ serve. h.past.each serve.1; each_but = λ theirs their_shown were serve. h.past.each_but theirs their_shown were serve.1 } }
