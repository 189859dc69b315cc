-- Turns of the receiver in which it performs nothing.
use Rattle.std.proofs.Common.{◌≡◌, ◌≢◌, ℕ, Option, None, Some, List, [], ◌∷◌, sym, ◌∙◌, subst, inl, inr}
use Rattle.std.specs.Prelude.{◌⊎◌}
use Rattle.dcsctp_spec_lemmas.specs.types.declared.association.Pair.{Pair}
use Rattle.dcsctp_spec_runs.specs.Past.{WasPerformed, HasEffect, number_to_accept, number_to_perform}
use Rattle.dcsctp_spec_runs.specs.World.{after_effects}
use Rattle.dcsctp_spec_lemmas.specs.spec.association.Effect.{AssociationIdentity, Effect, draws, sends, holds, connects, ends, begins, gives_up, completes, fails, accepts, performs, renews, resumes}
use Rattle.dcsctp_spec_lemmas.specs.spec.queues.Reassembly.{DeferralModel}
use Rattle.dcsctp_spec_lemmas.specs.spec.Reconfiguration.{RequestedReset}
use Rattle.dcsctp_theorem_association.proofs.Growth.{after_within}
use Rattle.dcsctp_delivery_directions.specs.receiving.Clear.{IsOwn}
use Rattle.dcsctp_delivery_directions.specs.directions.Directions.{nothing_asked}
use Rattle.dcsctp_delivery_sockets.specs.associations.Answered as answered
use Rattle.dcsctp_delivery_sockets.specs.associations.Answered.{Requests, SenderHadPeer, WasJoined, AreAsked, WerePerformed, IsInStep, StandsSo, AnswersRequests}
use Rattle.dcsctp_delivery_sockets.specs.turns.PeerRequests.{NoneAsked, SameWaits}

-- ---- effects

pub after_split : (effect : Effect) (happened past : List Effect) → HasEffect effect (after_effects happened past) → HasEffect effect happened ⊎ HasEffect effect past
after_split effect [] past has = inr has
after_split effect (newest ∷ happened) past has =
    elim (after_split effect happened (newest ∷ past) has) [
      | inl there ↦ inl (inr there)
      | inr older ↦ front older
    ]
  where
    front : HasEffect effect (newest ∷ past) → HasEffect effect (newest ∷ happened) ⊎ HasEffect effect past
    front (inl e) = inl (inl e)
    front (inr old) = inr old

pub after_new : (effect : Effect) (happened past : List Effect) → HasEffect effect happened → HasEffect effect (after_effects happened past)
after_new effect (newest ∷ happened) past (inl e) = after_within happened (newest ∷ past) effect (inl e)
after_new effect (newest ∷ happened) past (inr has) = after_new effect happened (newest ∷ past) has
after_new effect [] past has = absurd has

none_performs : (happened : List Effect) → NoneAsked happened → (my : Pair) (number : ℕ) → HasEffect (performs my number) happened → ⊥
none_performs [] none my number has = has
none_performs (accepts n ∷ effects) none my number has = none
none_performs (performs peer n ∷ effects) none my number has = none
none_performs (renews peer n ∷ effects) none my number has = none
none_performs (draws pair ∷ effects) none my number (inl e) = absurd (cc)
none_performs (draws pair ∷ effects) none my number (inr has) = none_performs effects none my number has
none_performs (sends packet ∷ effects) none my number (inl e) = absurd (cc)
none_performs (sends packet ∷ effects) none my number (inr has) = none_performs effects none my number has
none_performs (holds link ∷ effects) none my number (inl e) = absurd (cc)
none_performs (holds link ∷ effects) none my number (inr has) = none_performs effects none my number has
none_performs (connects link ∷ effects) none my number (inl e) = absurd (cc)
none_performs (connects link ∷ effects) none my number (inr has) = none_performs effects none my number has
none_performs (ends ∷ effects) none my number (inl e) = absurd (cc)
none_performs (ends ∷ effects) none my number (inr has) = none_performs effects none my number has
none_performs (begins n ∷ effects) none my number (inl e) = absurd (cc)
none_performs (gives_up n ∷ effects) none my number (inl e) = absurd (cc)
none_performs (begins n ∷ effects) none my number (inr has) = none_performs effects none my number has
none_performs (gives_up n ∷ effects) none my number (inr has) = none_performs effects none my number has
none_performs (completes own n ∷ effects) none my number (inl e) = absurd (cc)
none_performs (completes own n ∷ effects) none my number (inr has) = none_performs effects none my number has
none_performs (fails n ∷ effects) none my number (inl e) = absurd (cc)
none_performs (fails n ∷ effects) none my number (inr has) = none_performs effects none my number has
none_performs (resumes link own last ∷ effects) none my number has = none

none_renews : (happened : List Effect) → NoneAsked happened → (my : Pair) (number : ℕ) → HasEffect (renews my number) happened → ⊥
none_renews [] none my number has = has
none_renews (accepts n ∷ effects) none my number has = none
none_renews (performs peer n ∷ effects) none my number has = none
none_renews (renews peer n ∷ effects) none my number has = none
none_renews (draws pair ∷ effects) none my number (inl e) = absurd (cc)
none_renews (draws pair ∷ effects) none my number (inr has) = none_renews effects none my number has
none_renews (sends packet ∷ effects) none my number (inl e) = absurd (cc)
none_renews (sends packet ∷ effects) none my number (inr has) = none_renews effects none my number has
none_renews (holds link ∷ effects) none my number (inl e) = absurd (cc)
none_renews (holds link ∷ effects) none my number (inr has) = none_renews effects none my number has
none_renews (connects link ∷ effects) none my number (inl e) = absurd (cc)
none_renews (connects link ∷ effects) none my number (inr has) = none_renews effects none my number has
none_renews (ends ∷ effects) none my number (inl e) = absurd (cc)
none_renews (ends ∷ effects) none my number (inr has) = none_renews effects none my number has
none_renews (begins n ∷ effects) none my number (inl e) = absurd (cc)
none_renews (gives_up n ∷ effects) none my number (inl e) = absurd (cc)
none_renews (begins n ∷ effects) none my number (inr has) = none_renews effects none my number has
none_renews (gives_up n ∷ effects) none my number (inr has) = none_renews effects none my number has
none_renews (completes own n ∷ effects) none my number (inl e) = absurd (cc)
none_renews (completes own n ∷ effects) none my number (inr has) = none_renews effects none my number has
none_renews (fails n ∷ effects) none my number (inl e) = absurd (cc)
none_renews (fails n ∷ effects) none my number (inr has) = none_renews effects none my number has
none_renews (resumes link own last ∷ effects) none my number has = none

pub none_performed : (happened : List Effect) → NoneAsked happened → (my : Pair) (number : ℕ) → WasPerformed my number happened → ⊥
none_performed happened none my number (inl has) = none_performs happened none my number has
none_performed happened none my number (inr has) = none_renews happened none my number has

-- ---- what was performed, in two parts of the past

pub performed_split : (my : Pair) (number : ℕ) (happened past : List Effect) → WasPerformed my number (after_effects happened past) → WasPerformed my number happened ⊎ WasPerformed my number past
performed_split my number happened past (inl has) = elim (after_split (performs my number) happened past has) [ inl new ↦ inl (inl new) | inr old ↦ inr (inl old) ]
performed_split my number happened past (inr has) = elim (after_split (renews my number) happened past has) [ inl new ↦ inl (inr new) | inr old ↦ inr (inr old) ]

pub performed_new : (my : Pair) (number : ℕ) (happened past : List Effect) → WasPerformed my number happened → WasPerformed my number (after_effects happened past)
performed_new my number happened past (inl has) = inl (after_new (performs my number) happened past has)
performed_new my number happened past (inr has) = inr (after_new (renews my number) happened past has)

pub performed_later : (my : Pair) (number : ℕ) (happened past : List Effect) → WasPerformed my number past → WasPerformed my number (after_effects happened past)
performed_later my number happened past (inl has) = inl (after_within happened past (performs my number) has)
performed_later my number happened past (inr has) = inr (after_within happened past (renews my number) has)

-- ---- what is so later too

pub joined_later : (happened past : List Effect) (tag : ℕ) (my : Pair) → WasJoined past tag my → WasJoined (after_effects happened past) tag my
joined_later happened past tag my was = record { link = was.link; held = after_within happened past (holds was.link) was.held; tag_is = was.tag_is; my_is = was.my_is; some = was.some }

pub asked_later : (requests : Requests) (happened past : List Effect) → (requests.asking ≡ nothing_asked) ⊎ AreAsked requests past → (requests.asking ≡ nothing_asked) ⊎ AreAsked requests (after_effects happened past)
asked_later requests happened past (inl none) = inl none
asked_later requests happened past (inr asked) =
    inr
    (record {
      numbers = asked.numbers;
      out = asked.out;
      ended = λ kind none place newest. performed_later _ _ happened past (asked.ended kind none place newest);
      performed_is = λ kind is place newest. performed_later _ _ happened past (asked.performed_is kind is place newest);
      some_performed = λ kind newest earlier is. elim (asked.some_performed kind newest earlier is) [ inl has ↦ inl (has.0, performed_later _ _ happened past has.1) | inr want ↦ inr want ];
    })

-- Without `holds` no association was joined.
pub joined_before : (happened past : List Effect) → ((link : AssociationIdentity) → HasEffect (holds link) happened → ⊥) → (tag : ℕ) (my : Pair) → WasJoined (after_effects happened past) tag my → WasJoined past tag my
joined_before happened past none tag my was =
    elim (after_split (holds was.link) happened past was.held) [
      | inl new ↦ absurd (none was.link new)
      | inr old ↦ record { link = was.link; held = old; tag_is = was.tag_is; my_is = was.my_is; some = was.some }
    ]

-- ---- the same requests

pub same_requests : (new old : ℕ → Requests) (mine : Option AssociationIdentity) (past : List Effect) (theirs : Option AssociationIdentity) (their_past : List Effect) (waits : Option DeferralModel) → ((tag : ℕ) → new tag ≡ old tag)
    → AnswersRequests old mine past theirs their_past waits → AnswersRequests new mine past theirs their_past waits
same_requests new old mine past theirs their_past waits same a =
    record {
      asked = λ tag some. subst (λ (r : Requests). (r.asking ≡ nothing_asked) ⊎ AreAsked r their_past) (sym (same tag)) (a.asked tag some);
      asked_held = λ tag some. subst (λ (r : Requests). (r.asking ≡ nothing_asked) ⊎ SenderHadPeer past tag r.my) (sym (same tag)) (a.asked_held tag some);
      performed = λ tag. subst (λ (r : Requests). WasJoined their_past tag r.my → WerePerformed r their_past) (sym (same tag)) (a.performed tag);
      apart = λ one two ne.
          subst (λ (r : Requests). WasJoined their_past one r.my → WasJoined their_past two (new two).my → r.my ≢ (new two).my) (sym (same one))
          (subst (λ (r : Requests). WasJoined their_past one (old one).my → WasJoined their_past two r.my → (old one).my ≢ r.my) (sym (same two)) (a.apart one two ne));
      mine_apart = λ link is tag ne. subst (λ (r : Requests). WasJoined their_past tag r.my → link.my ≢ r.my) (sym (same tag)) (a.mine_apart link is tag ne);
      joined = λ my number has. (
          let j = a.joined my number has in
          let k : WasJoined their_past j.0 (new j.0).my × ((new j.0).my ≡ my) = subst (λ (r : Requests). WasJoined their_past j.0 r.my × (r.my ≡ my)) (sym (same j.0)) (j.1, j.2) in
          (j.0, k.0, k.1)
          );
      mine_held = λ link is. subst (λ (r : Requests). SenderHadPeer past link.my.tag link.my × (r.my ≡ link.my)) (sym (same link.my.tag)) (a.mine_held link is);
      mine_first = λ link is. subst (λ (r : Requests). r.first ≡ link.my.first_tsn) (sym (same link.my.tag)) (a.mine_first link is);
      theirs_held = λ link is. subst (λ (r : Requests). WasJoined their_past link.peer.tag link.peer × (r.my ≡ link.peer)) (sym (same link.peer.tag)) (a.theirs_held link is);
      stands = λ link is. subst (λ (r : Requests). StandsSo r their_past waits) (sym (same link.peer.tag)) (a.stands link is);
    }

-- ---- nothing is performed

module _ (requests : ℕ → Requests) (mine : Option AssociationIdentity) (past : List Effect) (theirs : Option AssociationIdentity) (happened their_past : List Effect) (waits waits' : Option DeferralModel)
    (a : AnswersRequests requests mine past theirs their_past waits) (no_holds : (link : AssociationIdentity) → HasEffect (holds link) happened → ⊥) (no_performs : (my : Pair) (number : ℕ) → WasPerformed my number happened → ⊥) where
  before : (my : Pair) (number : ℕ) → WasPerformed my number (after_effects happened their_past) → WasPerformed my number their_past
  before my number has = elim (performed_split my number happened their_past has) [ inl new ↦ absurd (no_performs my number new) | inr old ↦ old ]

  -- The receiver has no association then.
  pub rests : AnswersRequests requests mine past None (after_effects happened their_past) waits'
  rests =
      record {
        asked = λ tag some. asked_later (requests tag) happened their_past (a.asked tag some);
        asked_held = a.asked_held;
        performed = λ tag was number has. a.performed tag (joined_before happened their_past no_holds tag (requests tag).my was) number (before (requests tag).my number has);
        apart = λ one two ne first second. a.apart one two ne (joined_before happened their_past no_holds one (requests one).my first) (joined_before happened their_past no_holds two (requests two).my second);
        mine_apart = λ link is tag ne was. a.mine_apart link is tag ne (joined_before happened their_past no_holds tag (requests tag).my was);
        joined = λ my number has. (let j = a.joined my number (before my number has) in (j.0, joined_later happened their_past j.0 (requests j.0).my j.1, j.2));
        mine_held = a.mine_held;
        mine_first = a.mine_first;
        theirs_held = λ link is. absurd (cc);
        stands = λ link is. absurd (cc);
      }

  -- It has the same one, of which `StandsSo` holds again.
  pub stays_standing : ((link : AssociationIdentity) → theirs ≡ Some link → StandsSo (requests link.peer.tag) (after_effects happened their_past) waits') → AnswersRequests requests mine past theirs (after_effects happened their_past) waits'
  stays_standing stands =
      record {
        asked = rests.asked;
        asked_held = a.asked_held;
        performed = rests.performed;
        apart = rests.apart;
        mine_apart = rests.mine_apart;
        joined = rests.joined;
        mine_held = a.mine_held;
        mine_first = a.mine_first;
        theirs_held = λ link is. (let held = a.theirs_held link is in (joined_later happened their_past link.peer.tag link.peer held.0, held.1));
        stands = stands;
      }

own_same : (reset : RequestedReset) (waits waits' : Option DeferralModel) → SameWaits waits waits' → IsOwn reset waits → IsOwn reset waits'
own_same reset None waits' same own = subst (IsOwn reset) (sym same) tt
own_same reset (Some old) waits' same own = subst (IsOwn reset) (sym same.1) (same.2 ∙ own)

none_same : (waits waits' : Option DeferralModel) → SameWaits waits waits' → waits ≡ None → waits' ≡ None
none_same None waits' same is = same
none_same (Some old) waits' same is = absurd (cc)

-- It has accepted and performed the same.
pub stands_same : (requests : Requests) (their_past their_later : List Effect) (waits waits' : Option DeferralModel) → number_to_accept their_later ≡ number_to_accept their_past
    → number_to_perform their_later ≡ number_to_perform their_past → SameWaits waits waits' → StandsSo requests their_past waits → StandsSo requests their_later waits'
stands_same requests their_past their_later waits waits' accept perform same (answered.plain kind some) = answered.plain kind some
stands_same requests their_past their_later waits waits' accept perform same (answered.in_step step) = answered.in_step (go step)
  where
    go : IsInStep requests their_past waits → IsInStep requests their_later waits'
    go (answered.all_performed number none empty is) = answered.all_performed (accept ∙ number) (perform ∙ none) (none_same waits waits' same empty) is
    go (answered.unaccepted newest earlier place is below want number none empty un) = answered.unaccepted newest earlier place is below want (accept ∙ number) (perform ∙ none) (none_same waits waits' same empty) un
    go (answered.in_progress newest earlier place is below want number out own un) = answered.in_progress newest earlier place is below want (accept ∙ number) (perform ∙ out) (own_same newest.reset waits waits' same own) un

pub asks_nothing : (requests : ℕ → Requests) (mine : Option AssociationIdentity) (past : List Effect) (link : AssociationIdentity) (happened their_past : List Effect) (waits waits' : Option DeferralModel)
    → AnswersRequests requests mine past (Some link) their_past waits → ((new : AssociationIdentity) → HasEffect (holds new) happened → ⊥) → ((my : Pair) (number : ℕ) → WasPerformed my number happened → ⊥)
    → number_to_accept (after_effects happened their_past) ≡ number_to_accept their_past → number_to_perform (after_effects happened their_past) ≡ number_to_perform their_past → SameWaits waits waits'
    → AnswersRequests requests mine past (Some link) (after_effects happened their_past) waits'
asks_nothing requests mine past link happened their_past waits waits' a no_holds no_performs accept perform same =
    stays_standing requests mine past (Some link) happened their_past waits waits' a no_holds no_performs
    (λ there is. stands_same (requests there.peer.tag) their_past (after_effects happened their_past) waits waits' accept perform same (a.stands there is))
