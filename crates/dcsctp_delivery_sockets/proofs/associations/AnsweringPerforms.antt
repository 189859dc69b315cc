-- Turns of the receiver in which a request is performed (RFC 6525, section 5.2.2).
use Rattle.std.proofs.Common.{◌≡◌, ◌≢◌, ℕ, ◌<◌, suc, true, false, Option, None, Some, List, ◌∷◌, length, refl, sym, ◌∙◌, ap, subst, arith, inl, inr}
use Rattle.std.specs.Prelude.{◌⊎◌}
use Rattle.dcsctp_spec_lemmas.specs.types.declared.association.Pair.{Pair}
use Rattle.dcsctp_spec_runs.specs.Past.{WasPerformed, HasEffect, number_to_accept, number_to_perform}
use Rattle.dcsctp_spec_runs.specs.World.{after_effects}
use Rattle.dcsctp_spec_lemmas.specs.spec.association.Effect.{AssociationIdentity, Effect, holds}
use Rattle.dcsctp_spec_lemmas.specs.spec.association.FlushChanges.{next_number}
use Rattle.dcsctp_spec_lemmas.specs.spec.queues.Reassembly.{DeferralModel}
use Rattle.dcsctp_spec_lemmas.specs.spec.endpoint.BegunResets.{BegunReset}
use Rattle.dcsctp_delivery_directions.specs.sending.Places as places
use Rattle.dcsctp_delivery_directions.specs.sending.Places.{table_with}
use Rattle.dcsctp_delivery_directions.proofs.sending.Places.{decide, set_same}
use Rattle.dcsctp_delivery_directions.specs.directions.Directions.{nothing_asked, Asking}
use Rattle.dcsctp_delivery_sockets.specs.turns.Asking.{AreNumbered}
use Rattle.dcsctp_delivery_sockets.specs.associations.Answered as answered
use Rattle.dcsctp_delivery_sockets.specs.associations.Answered.{Requests, request_numbered, SenderHadPeer, WasJoined, AreAsked, IsRequestNumber, WerePerformed, StandsSo, AnswersRequests}
use Rattle.dcsctp_delivery_sockets.proofs.associations.Growing.{set_all}
use Rattle.dcsctp_delivery_sockets.proofs.associations.RequestNumbers.{next_place, newest_number, number_among, number_behind, want_later}
use Rattle.dcsctp_delivery_sockets.proofs.associations.AnsweringNewest.{IsDueAt, numbers_of}
use Rattle.dcsctp_delivery_sockets.proofs.associations.AnsweringRests.{performed_new, performed_split, performed_later, joined_later, joined_before, asked_later}

module _ (requests : ℕ → Requests) (mine : Option AssociationIdentity) (past : List Effect) (link : AssociationIdentity) (happened their_past : List Effect) (waits waits' : Option DeferralModel) (begun : BegunReset)
    (a : AnswersRequests requests mine past (Some link) their_past waits) (no_holds : (new : AssociationIdentity) → HasEffect (holds new) happened → ⊥)
    (only : (peer : Pair) (other : ℕ) → WasPerformed peer other happened → (peer ≡ link.peer) × (other ≡ begun.number)) (has : places.HasEntry begun (requests link.peer.tag).asking.requests) where
  abbrev t : ℕ
  t = link.peer.tag

  abbrev later : List Effect
  later = after_effects happened their_past

  -- It is known that the newest was performed.
  abbrev changed : Requests
  changed = record (requests t) { asking = record (requests t).asking { is_performed = true } }

  abbrev all : ℕ → Requests
  all = table_with t changed requests

  here_joined : WasJoined their_past t (requests t).my
  here_joined = subst (WasJoined their_past t) (sym (a.theirs_held link refl).1) (a.theirs_held link refl).0

  before : (tag : ℕ) (my : Pair) → WasJoined later tag my → WasJoined their_past tag my
  before tag my was = joined_before happened their_past no_holds tag my was

  numbers : AreNumbered (requests t).first (requests t).asking.requests
  numbers = numbers_of (requests t) their_past (a.asked t here_joined.some)

  joined_still : (my : Pair) (number : ℕ) → WasPerformed my number later → (tag : ℕ) × WasJoined later tag (requests tag).my × ((requests tag).my ≡ my)
  joined_still my number there =
      elim (performed_split my number happened their_past there) [
        | inl new ↦ (t, joined_later happened their_past t (requests t).my here_joined, (a.theirs_held link refl).1 ∙ sym (only my number new).0)
        | inr old ↦ (let j = a.joined my number old in (j.0, joined_later happened their_past j.0 (requests j.0).my j.1, j.2))
      ]

  -- What is performed is of no other tag.
  performed_other : (tag : ℕ) → tag ≢ t → WasJoined later tag (requests tag).my → WerePerformed (requests tag) later
  performed_other tag ne was number there =
      elim (performed_split (requests tag).my number happened their_past there) [
        | inl new ↦ absurd (a.apart t tag (λ e. ne (sym e)) here_joined (before tag (requests tag).my was) ((a.theirs_held link refl).1 ∙ sym (only (requests tag).my number new).0))
        | inr old ↦ a.performed tag (before tag (requests tag).my was) number old
      ]

  apart_still : (one two : ℕ) → one ≢ two → WasJoined later one (requests one).my → WasJoined later two (requests two).my → (requests one).my ≢ (requests two).my
  apart_still one two ne first second = a.apart one two ne (before one (requests one).my first) (before two (requests two).my second)

  mine_still : (there : AssociationIdentity) → mine ≡ Some there → (tag : ℕ) → there.my.tag ≢ tag → WasJoined later tag (requests tag).my → there.my ≢ (requests tag).my
  mine_still there is tag ne was = a.mine_apart there is tag ne (before tag (requests tag).my was)

  held_still : (there : AssociationIdentity) → Some link ≡ Some there → WasJoined later there.peer.tag there.peer × ((requests there.peer.tag).my ≡ there.peer)
  held_still there is = let held = a.theirs_held there is in (joined_later happened their_past there.peer.tag there.peer held.0, held.1)

  -- The requests stay as they are.
  performs_same : (WasJoined later t (requests t).my → WerePerformed (requests t) later) → StandsSo (requests t) later waits' → AnswersRequests requests mine past (Some link) later waits'
  performs_same here stands =
      record {
        asked = λ tag some. asked_later (requests tag) happened their_past (a.asked tag some);
        asked_held = a.asked_held;
        performed = λ tag. elim (decide tag t) [
          | inl e ↦ subst (λ (n : ℕ). WasJoined later n (requests n).my → WerePerformed (requests n) later) (sym e) here
          | inr ne ↦ performed_other tag ne
        ];
        apart = apart_still;
        mine_apart = mine_still;
        joined = joined_still;
        mine_held = a.mine_held;
        mine_first = a.mine_first;
        theirs_held = held_still;
        stands = λ there is. (let same : link ≡ there = cc in subst (λ (l : AssociationIdentity). StandsSo (requests l.peer.tag) later waits') same stands);
      }

  -- Messages don't interleave.
  pub performs_plain : (requests t).in_turn ≡ false → AnswersRequests requests mine past (Some link) later waits'
  performs_plain kind = performs_same here (answered.plain kind (λ none. subst (places.HasEntry begun) none has))
    where
      here : WasJoined later t (requests t).my → WerePerformed (requests t) later
      here was number there =
          elim (performed_split (requests t).my number happened their_past there) [
            | inl new ↦ (
                let r = number_among (requests t).first (requests t).asking.requests begun numbers has in
                record { place = r.0; below = r.1; is = (only (requests t).my number new).1 ∙ r.2; newest = λ mixed last. absurd (cc) }
                )
            | inr old ↦ a.performed t (before t (requests t).my was) number old
          ]

  -- It isn't the newest, and nothing more is known.
  pub performs_behind : (due : IsDueAt (requests t) waits begun) → due.place < length due.earlier → number_to_accept later ≡ Some (next_number begun.number) → number_to_perform later ≡ None
      → waits' ≡ None → AnswersRequests requests mine past (Some link) later waits'
  performs_behind due behind accept perform empty =
      performs_same here
      (answered.in_step
      (answered.unaccepted due.newest due.earlier (suc due.place) due.is (omega (arith, behind)) (want_later due.place (suc due.place) due.newest.reset (requests t).asking.requests (omega arith) due.want) (accept ∙ ap Some next) perform empty
      due.unknown))
    where
      next : next_number begun.number ≡ request_numbered (requests t).first (suc due.place)
      next = ap next_number due.at ∙ next_place (requests t).first due.place

      count : length (requests t).asking.requests ≡ suc (length due.earlier)
      count = ap (λ (l : List BegunReset). length l) due.is

      here : WasJoined later t (requests t).my → WerePerformed (requests t) later
      here was number there =
          elim (performed_split (requests t).my number happened their_past there) [
            | inl new ↦ record { place = due.place; below = omega (arith, count, behind); is = (only (requests t).my number new).1 ∙ due.at; newest = λ mixed last. absurd (omega (arith, last, count, behind)) }
            | inr old ↦ a.performed t (before t (requests t).my was) number old
          ]

  -- It is known then that the newest was performed.
  pub performs_it : (earlier : List BegunReset) → (requests t).asking.requests ≡ begun ∷ earlier → WasPerformed link.peer begun.number happened → number_to_accept later ≡ Some (next_number begun.number) → number_to_perform later ≡ None → waits' ≡ None
      → AnswersRequests (table_with t (record (requests t) { asking = record (requests t).asking { is_performed = true } }) requests) mine past (Some link) later waits'
  performs_it earlier top does accept perform empty =
      record {
        asked = set_all (λ n r. n ≢ 0 → (r.asking ≡ nothing_asked) ⊎ AreAsked r later) t changed requests (λ some. inr (here_asked (a.asked t some)))
            (λ n ne some. asked_later (requests n) happened their_past (a.asked n some));
        asked_held = set_all (λ n r. n ≢ 0 → (r.asking ≡ nothing_asked) ⊎ SenderHadPeer past n r.my) t changed requests (λ some. inr (here_held (a.asked_held t some))) (λ n ne. a.asked_held n);
        performed = set_all (λ n r. WasJoined later n r.my → WerePerformed r later) t changed requests here performed_other;
        apart = λ one two ne.
            subst (λ (m : Pair). WasJoined later one m → WasJoined later two (all two).my → m ≢ (all two).my) (sym (my_same one))
            (subst (λ (m : Pair). WasJoined later one (requests one).my → WasJoined later two m → (requests one).my ≢ m) (sym (my_same two)) (apart_still one two ne));
        mine_apart = λ there is tag ne. subst (λ (m : Pair). WasJoined later tag m → there.my ≢ m) (sym (my_same tag)) (mine_still there is tag ne);
        joined = λ my number there. (
            let j = joined_still my number there in (j.0, subst (WasJoined later j.0) (sym (my_same j.0)) j.1, my_same j.0 ∙ j.2)
            );
        mine_held = λ there is. (let held = a.mine_held there is in (held.0, my_same there.my.tag ∙ held.1));
        mine_first = λ there is. first_same there.my.tag ∙ a.mine_first there is;
        theirs_held = λ there is. (let held = held_still there is in (held.0, my_same there.peer.tag ∙ held.1));
        stands = λ there is. (
            let same : link ≡ there = cc in
            subst (λ (l : AssociationIdentity). StandsSo (all l.peer.tag) later waits') same
            (subst (λ (r : Requests). StandsSo r later waits') (sym (set_same t changed requests))
            (answered.in_step
            (answered.all_performed (accept ∙ ap Some (number_behind (requests t).first begun earlier (requests t).asking.requests top numbers)) perform empty (inr refl))))
            );
      }
    where
      number_is : begun.number ≡ request_numbered (requests t).first (length earlier)
      number_is = newest_number (requests t).first begun earlier (requests t).asking.requests top numbers

      count : length (requests t).asking.requests ≡ suc (length earlier)
      count = ap (λ (l : List BegunReset). length l) top

      my_same : (tag : ℕ) → (all tag).my ≡ (requests tag).my
      my_same tag = set_all (λ n r. r.my ≡ (requests n).my) t changed requests refl (λ n ne. refl) tag

      first_same : (tag : ℕ) → (all tag).first ≡ (requests tag).first
      first_same tag = set_all (λ n r. r.first ≡ (requests n).first) t changed requests refl (λ n ne. refl) tag

      at_newest : (place : ℕ) → suc place ≡ length (requests t).asking.requests → begun.number ≡ request_numbered (requests t).first place
      at_newest place last = let same : length earlier ≡ place = omega (arith, last, count) in number_is ∙ ap (request_numbered (requests t).first) same

      here_held : ((requests t).asking ≡ nothing_asked) ⊎ SenderHadPeer past t (requests t).my → SenderHadPeer past t (requests t).my
      here_held (inl none) = absurd (subst (λ (s : Asking). places.HasEntry begun s.requests) none has)
      here_held (inr held) = held

      here_asked : ((requests t).asking ≡ nothing_asked) ⊎ AreAsked (requests t) their_past → AreAsked changed later
      here_asked (inl none) = absurd (subst (λ (s : Asking). places.HasEntry begun s.requests) none has)
      here_asked (inr asked) =
          record {
            numbers = asked.numbers;
            out = asked.out;
            ended = λ kind none place last. performed_later _ _ happened their_past (asked.ended kind none place last);
            performed_is = λ kind is place last.
                subst (λ (n : ℕ). WasPerformed (requests t).my n later) (at_newest place last)
                (subst (λ (m : Pair). WasPerformed m begun.number later) (sym (a.theirs_held link refl).1) (performed_new link.peer begun.number happened their_past does));
            some_performed = λ kind newest rest same. inl (begun.number, subst (λ (m : Pair). WasPerformed m begun.number later) (sym (a.theirs_held link refl).1) (performed_new link.peer begun.number happened their_past does));
          }

      here : WasJoined later t (requests t).my → WerePerformed changed later
      here was number there =
          elim (performed_split (requests t).my number happened their_past there) [
            | inl new ↦ record { place = length earlier; below = omega (arith, count); is = (only (requests t).my number new).1 ∙ number_is; newest = λ mixed last. refl }
            | inr old ↦ (let p = a.performed t (before t (requests t).my was) number old in record { place = p.place; below = p.below; is = p.is; newest = λ mixed last. refl })
          ]
