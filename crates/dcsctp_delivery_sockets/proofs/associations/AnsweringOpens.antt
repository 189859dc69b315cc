-- A turn of the receiver in which an association begins, with what the sender has begun there.
use Rattle.std.proofs.Common.{◌≡◌, ◌≢◌, ℕ, Option, None, Some, List, refl, sym, ◌∙◌, ap, subst, inl, inr}
use Rattle.std.specs.Prelude.{◌⊎◌}
use Rattle.dcsctp_spec_lemmas.specs.types.declared.association.Pair.{Pair}
use Rattle.dcsctp_spec_runs.specs.Past.{WasPerformed, HasEffect, number_to_accept, number_to_perform}
use Rattle.dcsctp_spec_runs.specs.World.{after_effects}
use Rattle.dcsctp_spec_lemmas.specs.spec.association.Effect.{AssociationIdentity, Effect, holds}
use Rattle.dcsctp_spec_lemmas.specs.spec.queues.Reassembly.{DeferralModel}
use Rattle.dcsctp_delivery_directions.specs.sending.Places.{table_with}
use Rattle.dcsctp_delivery_directions.proofs.sending.Places.{set_same, set_other}
use Rattle.dcsctp_delivery_directions.specs.directions.Directions.{nothing_asked}
use Rattle.dcsctp_delivery_sockets.specs.associations.Answered.{Requests, request_numbered, SenderHadPeer, WasJoined, AreAsked, WerePerformed, StandsSo, AnswersRequests}
use Rattle.dcsctp_delivery_sockets.proofs.associations.Growing.{set_all}
use Rattle.dcsctp_delivery_sockets.proofs.associations.AnsweringRests.{same_requests}
use Rattle.dcsctp_delivery_sockets.proofs.associations.AnsweringBegins.{IsNewTag, begins_expected}

-- ---- a tag that none had

module _ (requests : ℕ → Requests) (mine : Option AssociationIdentity) (past : List Effect) (theirs : Option AssociationIdentity) (their_past : List Effect) (waits : Option DeferralModel) (t : ℕ) (fresh : Requests)
    (a : AnswersRequests requests mine past theirs their_past waits) (none : fresh.asking ≡ nothing_asked) (not_mine : (link : AssociationIdentity) → mine ≡ Some link → link.my.tag ≢ t)
    (not_joined : (link : AssociationIdentity) → HasEffect (holds link) their_past → link.peer.tag ≢ t) where
  abbrev all : ℕ → Requests
  all = table_with t fresh requests

  other : (tag : ℕ) → tag ≢ t → all tag ≡ requests tag
  other tag ne = set_other t tag fresh requests ne

  of_joined : (tag : ℕ) (my : Pair) → WasJoined their_past tag my → tag ≢ t
  of_joined tag my was is = not_joined was.link was.held (was.tag_is ∙ is)

  apart_there : (one two : ℕ) → one ≢ two → WasJoined their_past one (all one).my → WasJoined their_past two (all two).my → (all one).my ≢ (all two).my
  apart_there one two ne joined was same =
      let first : all one ≡ requests one = other one (of_joined one (all one).my joined) in
      let second : all two ≡ requests two = other two (of_joined two (all two).my was) in
      a.apart one two ne (subst (λ (r : Requests). WasJoined their_past one r.my) first joined) (subst (λ (r : Requests). WasJoined their_past two r.my) second was)
      (ap (λ (r : Requests). r.my) (sym first) ∙ same ∙ ap (λ (r : Requests). r.my) second)

  mine_there : (link : AssociationIdentity) → mine ≡ Some link → (tag : ℕ) → link.my.tag ≢ tag → WasJoined their_past tag (all tag).my → link.my ≢ (all tag).my
  mine_there link is tag ne was same =
      let there : all tag ≡ requests tag = other tag (of_joined tag (all tag).my was) in
      a.mine_apart link is tag ne (subst (λ (r : Requests). WasJoined their_past tag r.my) there was) (same ∙ ap (λ (r : Requests). r.my) there)

  -- Its requests may be of any pair.
  pub with_fresh : AnswersRequests (table_with t fresh requests) mine past theirs their_past waits
  with_fresh =
      record {
        asked = set_all (λ n r. n ≢ 0 → (r.asking ≡ nothing_asked) ⊎ AreAsked r their_past) t fresh requests (λ some. inl none) (λ n ne. a.asked n);
        asked_held = set_all (λ n r. n ≢ 0 → (r.asking ≡ nothing_asked) ⊎ SenderHadPeer past n r.my) t fresh requests (λ some. inl none) (λ n ne. a.asked_held n);
        performed = set_all (λ n r. WasJoined their_past n r.my → WerePerformed r their_past) t fresh requests (λ was. absurd (of_joined t fresh.my was refl)) (λ n ne. a.performed n);
        apart = apart_there;
        mine_apart = mine_there;
        joined = λ my number has. (
            let j = a.joined my number has in
            let same : requests j.0 ≡ all j.0 = sym (other j.0 (of_joined j.0 (requests j.0).my j.1)) in
            (j.0, subst (λ (r : Requests). WasJoined their_past j.0 r.my) same j.1, ap (λ (r : Requests). r.my) (sym same) ∙ j.2)
            );
        mine_held = λ link is. (
            let held = a.mine_held link is in (held.0, ap (λ (r : Requests). r.my) (other link.my.tag (not_mine link is)) ∙ held.1)
            );
        mine_first = λ link is. ap (λ (r : Requests). r.first) (other link.my.tag (not_mine link is)) ∙ a.mine_first link is;
        theirs_held = λ link is. (
            let held = a.theirs_held link is in (held.0, ap (λ (r : Requests). r.my) (other link.peer.tag (of_joined link.peer.tag link.peer held.0)) ∙ held.1)
            );
        stands = λ link is. subst (λ (r : Requests). StandsSo r their_past waits) (sym (other link.peer.tag (of_joined link.peer.tag link.peer (a.theirs_held link is).0))) (a.stands link is);
      }

-- ---- an association begins

-- The sender has the matching association, or it has begun nothing under this tag, and has no association there.
abbrev pub IsCrossedOrAwaited : Requests → Option AssociationIdentity → AssociationIdentity → Type 0
IsCrossedOrAwaited requests mine new =
    ((requests.first ≡ new.peer.first_tsn) × (requests.my ≡ new.peer)) ⊎ ((requests.asking ≡ nothing_asked) × ((link : AssociationIdentity) → mine ≡ Some link → link.my.tag ≢ new.peer.tag))

pub opens_anew : (requests : ℕ → Requests) (mine : Option AssociationIdentity) (past : List Effect) (theirs : Option AssociationIdentity) (happened their_past : List Effect) (waits waits' : Option DeferralModel) (new : AssociationIdentity)
    → AnswersRequests requests mine past theirs their_past waits → new.peer.tag ≢ 0 → HasEffect (holds new) happened → ((link : AssociationIdentity) → HasEffect (holds link) happened → link ≡ new)
    → ((my : Pair) (number : ℕ) → WasPerformed my number happened → ⊥) → IsNewTag their_past new → IsCrossedOrAwaited (requests new.peer.tag) mine new
    → number_to_accept (after_effects happened their_past) ≡ Some (request_numbered new.peer.first_tsn 0) → number_to_perform (after_effects happened their_past) ≡ None → waits' ≡ None
    → AnswersRequests (table_with new.peer.tag (record { my = new.peer; first = new.peer.first_tsn; asking = (requests new.peer.tag).asking; in_turn = (requests new.peer.tag).in_turn }) requests)
    mine past (Some new) (after_effects happened their_past) waits'
opens_anew requests mine past theirs happened their_past waits waits' new a some noted only no_performs is_new (inl crossed) accept perform empty =
    same_requests (table_with new.peer.tag fresh requests) requests mine past (Some new) (after_effects happened their_past) waits' (set_all (λ n r. r ≡ requests n) new.peer.tag fresh requests fresh_is (λ n ne. refl))
    (begins_expected requests mine past theirs happened their_past waits waits' new a some noted only no_performs is_new crossed.0 crossed.1 accept perform empty)
  where
    fresh : Requests
    fresh = record { my = new.peer; first = new.peer.first_tsn; asking = (requests new.peer.tag).asking; in_turn = (requests new.peer.tag).in_turn }

    fresh_is : fresh ≡ requests new.peer.tag
    fresh_is =
        ap (λ (p : Pair). record fresh { my = p }) (sym crossed.1) ∙ ap (λ (n : ℕ). record fresh { my = (requests new.peer.tag).my; first = n }) (sym crossed.0)
opens_anew requests mine past theirs happened their_past waits waits' new a some noted only no_performs is_new (inr awaited) accept perform empty =
    begins_expected (table_with new.peer.tag fresh requests) mine past theirs happened their_past waits waits' new
    (with_fresh requests mine past theirs their_past waits new.peer.tag fresh a awaited.0 awaited.1 is_new) some noted only no_performs is_new
    (ap (λ (r : Requests). r.first) (set_same new.peer.tag fresh requests)) (ap (λ (r : Requests). r.my) (set_same new.peer.tag fresh requests)) accept perform empty
  where
    fresh : Requests
    fresh = record { my = new.peer; first = new.peer.first_tsn; asking = (requests new.peer.tag).asking; in_turn = (requests new.peer.tag).in_turn }
