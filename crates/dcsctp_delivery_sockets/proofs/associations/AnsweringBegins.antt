-- Turns of the receiver in which an association begins.
use Rattle.std.proofs.Common.{◌≡◌, ◌≢◌, ℕ, Bool, true, false, Option, None, Some, List, [], ◌∷◌, length, refl, sym, ◌∙◌, ap, subst, arith, inl, inr}
use Rattle.std.specs.Prelude.{◌⊎◌}
use Rattle.dcsctp_spec_lemmas.specs.types.declared.association.Pair.{Pair}
use Rattle.dcsctp_spec_runs.specs.Past.{WasPerformed, HasEffect, number_to_accept, number_to_perform}
use Rattle.dcsctp_spec_runs.specs.World.{after_effects}
use Rattle.dcsctp_spec_lemmas.specs.spec.association.Effect.{AssociationIdentity, Effect, holds}
use Rattle.dcsctp_spec_lemmas.specs.spec.queues.Reassembly.{DeferralModel}
use Rattle.dcsctp_spec_lemmas.specs.spec.endpoint.BegunResets.{BegunReset}
use Rattle.dcsctp_delivery_directions.specs.directions.Directions.{nothing_asked, Asking}
use Rattle.dcsctp_delivery_sockets.specs.associations.Answered as answered
use Rattle.dcsctp_delivery_sockets.specs.associations.Answered.{Requests, request_numbered, WantFrom, SenderHadPeer, WasJoined, AreAsked, IsRequestNumber, WerePerformed, IsInStep, StandsSo, AnswersRequests}
use Rattle.dcsctp_delivery_sockets.proofs.associations.AnsweringRests.{after_new, performed_split, after_split, joined_later, asked_later}

-- ---- it begins where it is expected

-- The receiver had no association with this tag of the peer.
abbrev pub IsNewTag : List Effect → AssociationIdentity → Type 0
IsNewTag their_past new = (old : AssociationIdentity) → HasEffect (holds old) their_past → old.peer.tag ≢ new.peer.tag

module _ (requests : ℕ → Requests) (mine : Option AssociationIdentity) (past : List Effect) (theirs : Option AssociationIdentity) (happened their_past : List Effect) (waits waits' : Option DeferralModel) (new : AssociationIdentity)
    (a : AnswersRequests requests mine past theirs their_past waits) (some : new.peer.tag ≢ 0) (noted : HasEffect (holds new) happened) (only : (link : AssociationIdentity) → HasEffect (holds link) happened → link ≡ new)
    (no_performs : (my : Pair) (number : ℕ) → WasPerformed my number happened → ⊥) (is_new : IsNewTag their_past new) where
  abbrev t : ℕ
  t = new.peer.tag

  abbrev later : List Effect
  later = after_effects happened their_past

  before : (my : Pair) (number : ℕ) → WasPerformed my number later → WasPerformed my number their_past
  before my number has = elim (performed_split my number happened their_past has) [ inl there ↦ absurd (no_performs my number there) | inr old ↦ old ]

  -- An association was joined before, or it is the new one.
  joined_when : (tag : ℕ) (my : Pair) → WasJoined later tag my → WasJoined their_past tag my ⊎ ((tag ≡ t) × (my ≡ new.peer))
  joined_when tag my was =
      elim (after_split (holds was.link) happened their_past was.held) [
        | inl there ↦ inr (sym was.tag_is ∙ ap (λ (l : AssociationIdentity). l.peer.tag) (only was.link there), sym was.my_is ∙ ap (λ (l : AssociationIdentity). l.peer) (only was.link there))
        | inr old ↦ inl (record { link = was.link; held = old; tag_is = was.tag_is; my_is = was.my_is; some = was.some })
      ]

  -- The new pair of the peer was of none before.
  other_pair : (tag : ℕ) (my : Pair) → WasJoined their_past tag my → my ≡ new.peer → ⊥
  other_pair tag my was same = is_new was.link was.held (ap (λ (p : Pair). p.tag) (was.my_is ∙ same))

  none_performed_yet : (my : Pair) (number : ℕ) → my ≡ new.peer → WasPerformed my number their_past → ⊥
  none_performed_yet my number same has = let j = a.joined my number has in other_pair j.0 (requests j.0).my j.1 (j.2 ∙ same)

  new_joined : WasJoined later t new.peer
  new_joined = record { link = new; held = after_new (holds new) happened their_past noted; tag_is = refl; my_is = refl; some = some }

  module _ (first_is : (requests t).first ≡ new.peer.first_tsn) (my_is : (requests t).my ≡ new.peer)
      (accept : number_to_accept later ≡ Some (request_numbered new.peer.first_tsn 0)) (perform : number_to_perform later ≡ None) (empty : waits' ≡ None) where
    performed_still : (tag : ℕ) → WasJoined later tag (requests tag).my → WerePerformed (requests tag) later
    performed_still tag was number has =
        elim (joined_when tag (requests tag).my was) [
          | inl old ↦ a.performed tag old number (before (requests tag).my number has)
          | inr here ↦ absurd (none_performed_yet (requests tag).my number here.1 (before (requests tag).my number has))
        ]

    apart_still : (one two : ℕ) → one ≢ two → WasJoined later one (requests one).my → WasJoined later two (requests two).my → (requests one).my ≢ (requests two).my
    apart_still one two ne first second same = go (joined_when one (requests one).my first) (joined_when two (requests two).my second)
      where
        go : WasJoined their_past one (requests one).my ⊎ ((one ≡ t) × ((requests one).my ≡ new.peer)) → WasJoined their_past two (requests two).my ⊎ ((two ≡ t) × ((requests two).my ≡ new.peer)) → ⊥
        go (inl old) (inl other) = a.apart one two ne old other same
        go (inl old) (inr there) = other_pair one (requests one).my old (same ∙ there.1)
        go (inr here) (inl other) = other_pair two (requests two).my other (sym same ∙ here.1)
        go (inr here) (inr there) = ne (here.0 ∙ sym there.0)

    mine_still : (link : AssociationIdentity) → mine ≡ Some link → (tag : ℕ) → link.my.tag ≢ tag → WasJoined later tag (requests tag).my → link.my ≢ (requests tag).my
    mine_still link is tag ne was same =
        elim (joined_when tag (requests tag).my was) [
          | inl old ↦ a.mine_apart link is tag ne old same
          | inr here ↦ ne (ap (λ (p : Pair). p.tag) (same ∙ here.1) ∙ sym here.0)
        ]

    accept_first : (l : List BegunReset) → l ≡ [] → number_to_accept later ≡ Some (request_numbered (requests t).first (length l))
    accept_first l none = accept ∙ ap (λ (n : ℕ). Some (request_numbered n 0)) (sym first_is) ∙ ap (λ (l : List BegunReset). Some (request_numbered (requests t).first (length l))) (sym none)

    stands_none : (requests t).asking.requests ≡ [] → StandsSo (requests t) later waits'
    stands_none none = answered.in_step (answered.all_performed (accept_first (requests t).asking.requests none) perform empty (inl none))

    -- None was performed, so that all want the same.
    stands_behind : AreAsked (requests t) their_past → (l : List BegunReset) → (requests t).asking.requests ≡ l → (b : Bool) → (requests t).in_turn ≡ b → StandsSo (requests t) later waits'
    stands_behind asked [] is b kind = stands_none is
    stands_behind asked (begun ∷ earlier) is false kind = answered.plain kind (λ none. absurd (cc))
    stands_behind asked (begun ∷ earlier) is true kind =
        answered.in_step (answered.unaccepted begun earlier 0 is (omega arith) all_want (accept_first [] refl) perform empty (not_yet (requests t).asking.is_performed refl))
      where
        all_want : WantFrom 0 begun.reset (requests t).asking.requests
        all_want = elim (asked.some_performed kind begun earlier is) [ inl has ↦ absurd (none_performed_yet (requests t).my has.0 my_is has.1) | inr want ↦ want ]

        not_yet : (b : Bool) → (requests t).asking.is_performed ≡ b → (requests t).asking.is_performed ≡ false
        not_yet false known = known
        not_yet true known = absurd (none_performed_yet (requests t).my _ my_is (asked.performed_is kind known (length earlier) (sym (ap (λ (l : List BegunReset). length l) is))))

    stands_new : ((requests t).asking ≡ nothing_asked) ⊎ AreAsked (requests t) their_past → StandsSo (requests t) later waits'
    stands_new (inl none) = stands_none (ap (λ (s : Asking). s.requests) none)
    stands_new (inr asked) = stands_behind asked (requests t).asking.requests refl (requests t).in_turn refl

    pub begins_expected : AnswersRequests requests mine past (Some new) later waits'
    begins_expected =
        record {
          asked = λ tag some. asked_later (requests tag) happened their_past (a.asked tag some);
          asked_held = a.asked_held;
          performed = performed_still;
          apart = apart_still;
          mine_apart = mine_still;
          joined = λ my number has. (let j = a.joined my number (before my number has) in (j.0, joined_later happened their_past j.0 (requests j.0).my j.1, j.2));
          mine_held = a.mine_held;
          mine_first = a.mine_first;
          theirs_held = λ there is. (
              let same : new ≡ there = cc in subst (λ (l : AssociationIdentity). WasJoined later l.peer.tag l.peer × ((requests l.peer.tag).my ≡ l.peer)) same (new_joined, my_is)
              );
          stands = λ there is. (let same : new ≡ there = cc in subst (λ (l : AssociationIdentity). StandsSo (requests l.peer.tag) later waits') same (stands_new (a.asked t some)));
        }
