-- What becomes of all requests where an association of the sender begins or ends.
use Rattle.std.proofs.Common.{◌≡◌, ◌≢◌, ℕ, Bool, ◌<◌, ◌-◌, ◌^◌, Option, None, Some, List, [], length, refl, sym, ◌∙◌, ap, subst, inl, inr, arith}
use Rattle.std.specs.Prelude.{◌⊎◌}
use Rattle.dcsctp_spec_lemmas.specs.types.declared.association.Pair.{Pair}
use Rattle.dcsctp_spec_runs.specs.Past.{WasPerformed, HasEffect}
use Rattle.dcsctp_spec_lemmas.specs.spec.association.Effect.{AssociationIdentity, Effect, holds}
use Rattle.dcsctp_spec_lemmas.specs.spec.queues.Reassembly.{DeferralModel}
use Rattle.dcsctp_delivery_directions.specs.sending.Places.{table_with}
use Rattle.dcsctp_delivery_directions.proofs.sending.Places.{decide, set_same, set_other}
use Rattle.dcsctp_delivery_directions.specs.directions.Directions.{Asking, nothing_asked}
use Rattle.dcsctp_delivery_sockets.specs.associations.Answered.{Requests, request_numbered, SenderHadPeer, WasJoined, AreAsked, WerePerformed, all_performed, unaccepted, in_progress, StandsSo, in_step, plain, AnswersRequests}
use Rattle.dcsctp_delivery_sockets.proofs.associations.AskedOn.{as_it_was, MayBegin, asked_on, stands_on}
use Rattle.dcsctp_delivery_sockets.proofs.associations.SenderAsks.{set_requests}

still_held : (past later : List Effect) → ((effect : Effect) → HasEffect effect past → HasEffect effect later) → (r : Requests) (tag : ℕ) → (r.asking ≡ nothing_asked) ⊎ SenderHadPeer past tag r.my → (r.asking ≡ nothing_asked) ⊎ SenderHadPeer later tag r.my
still_held past later grows r tag (inl none) = inl none
still_held past later grows r tag (inr held) = inr (record { link = held.link; held = grows (holds held.link) held.held; tag_is = held.tag_is; my_is = held.my_is; some = held.some })

-- ---- an association begins

-- those of an association that begins
abbrev pub fresh_requests : AssociationIdentity → Bool → Asking → Requests
fresh_requests new in_turn asking = record { my = new.my; first = new.my.first_tsn; asking = asking; in_turn = in_turn }

module _ (requests : ℕ → Requests) (mine : Option AssociationIdentity) (past : List Effect) (theirs : Option AssociationIdentity) (their_past : List Effect) (waits : Option DeferralModel) (h : AnswersRequests requests mine past theirs their_past waits) (new : AssociationIdentity)
    (some : new.my.tag ≢ 0) (nothing : (requests new.my.tag).asking ≡ nothing_asked)
    (match : (other : AssociationIdentity) → HasEffect (holds other) their_past → other.peer.tag ≡ new.my.tag → other.peer ≡ new.my) where
  -- None of its requests was performed yet.
  joined_here : (tag : ℕ) → WasJoined their_past tag (requests tag).my → (requests tag).my ≡ new.my → tag ≡ new.my.tag
  joined_here tag joined same =
      sym joined.tag_is ∙ ap (λ (p : Pair). p.tag) (joined.my_is ∙ same)

  is_mine : WasJoined their_past new.my.tag (requests new.my.tag).my → (requests new.my.tag).my ≡ new.my
  is_mine joined = sym joined.my_is ∙ match joined.link joined.held joined.tag_is

  none_performed : (number : ℕ) → WasPerformed new.my number their_past → ⊥
  none_performed number has =
      let found = h.joined new.my number has in
      let at : found.0 ≡ new.my.tag = joined_here found.0 found.1 found.2 in
      let joined : WasJoined their_past new.my.tag (requests new.my.tag).my = subst (λ (t : ℕ). WasJoined their_past t (requests t).my) at found.1 in
      let placed = h.performed new.my.tag joined number (subst (λ (p : Pair). WasPerformed p number their_past) (sym (is_mine joined)) has) in
      let below = placed.below in
      let empty : length (requests new.my.tag).asking.requests ≡ 0 = ap (λ (a : Asking). length a.requests) nothing in
      absurd (omega (arith, below, empty))

  module _ (is_interleaved : Bool) (asking : Asking) (begins : MayBegin new.my.first_tsn nothing_asked asking)
      (first_same : (other : AssociationIdentity) → theirs ≡ Some other → other.peer.tag ≡ new.my.tag → (requests new.my.tag).first ≡ new.my.first_tsn) (later : List Effect) (grows : (effect : Effect) → HasEffect effect past → HasEffect effect later) (held : HasEffect (holds new) later) where
    abbrev before : Requests
    before = fresh_requests new is_interleaved nothing_asked

    abbrev pub opened : ℕ → Requests
    opened = table_with new.my.tag (fresh_requests new is_interleaved asking) requests

    few : length before.asking.requests < 2 ^ 32 - 1
    few = omega arith

    asked_opened : (tag : ℕ) → tag ≢ 0 → ((opened tag).asking ≡ nothing_asked) ⊎ AreAsked (opened tag) their_past
    asked_opened =
        set_requests (λ t n. t ≢ 0 → (n.asking ≡ nothing_asked) ⊎ AreAsked n their_past) new.my.tag (fresh_requests new is_interleaved asking) requests
        (λ z. inr (asked_on before their_past (inl refl) few nothing_asked asking as_it_was begins)) (λ t ne z. h.asked t z)

    held_opened : (tag : ℕ) → tag ≢ 0 → ((opened tag).asking ≡ nothing_asked) ⊎ SenderHadPeer later tag (opened tag).my
    held_opened =
        set_requests (λ t n. t ≢ 0 → (n.asking ≡ nothing_asked) ⊎ SenderHadPeer later t n.my) new.my.tag (fresh_requests new is_interleaved asking) requests
        (λ z. inr (record { link = new; held = held; tag_is = refl; my_is = refl; some = some })) (λ t ne z. still_held past later grows (requests t) t (h.asked_held t z))

    performed_opened : (tag : ℕ) → WasJoined their_past tag (opened tag).my → WerePerformed (opened tag) their_past
    performed_opened =
        set_requests (λ t n. WasJoined their_past t n.my → WerePerformed n their_past) new.my.tag (fresh_requests new is_interleaved asking) requests
        (λ joined number has. absurd (none_performed number has)) (λ t ne. h.performed t)

    here_is : (opened new.my.tag).my ≡ new.my
    here_is = ap (λ (n : Requests). n.my) (set_same new.my.tag (fresh_requests new is_interleaved asking) requests)

    there_is : (tag : ℕ) → tag ≢ new.my.tag → (opened tag).my ≡ (requests tag).my
    there_is tag ne = ap (λ (n : Requests). n.my) (set_other new.my.tag tag (fresh_requests new is_interleaved asking) requests ne)

    joined_there : (tag : ℕ) → tag ≢ new.my.tag → WasJoined their_past tag (opened tag).my → WasJoined their_past tag (requests tag).my
    joined_there tag ne joined = subst (WasJoined their_past tag) (there_is tag ne) joined

    mine_only : (tag : ℕ) → tag ≢ new.my.tag → WasJoined their_past tag (opened tag).my → new.my ≢ (opened tag).my
    mine_only tag ne joined same = ne (joined_here tag (joined_there tag ne joined) (sym (there_is tag ne) ∙ sym same))

    apart_opened : (one two : ℕ) → one ≢ two → WasJoined their_past one (opened one).my → WasJoined their_past two (opened two).my → (opened one).my ≢ (opened two).my
    apart_opened one two ne first second same =
        elim (decide one new.my.tag) [
          | inl e ↦ mine_only two (λ is. ne (e ∙ sym is)) second (sym (ap (λ (t : ℕ). (opened t).my) e ∙ here_is) ∙ same)
          | inr other ↦ elim (decide two new.my.tag) [
            | inl e ↦ mine_only one other first (sym (ap (λ (t : ℕ). (opened t).my) e ∙ here_is) ∙ sym same)
            | inr also ↦ h.apart one two ne (joined_there one other first) (joined_there two also second) (sym (there_is one other) ∙ same ∙ there_is two also)
          ]
        ]

    joined_opened : (my : Pair) (number : ℕ) → WasPerformed my number their_past → (tag : ℕ) × WasJoined their_past tag (opened tag).my × ((opened tag).my ≡ my)
    joined_opened my number has =
        let found = h.joined my number has in
        elim (decide found.0 new.my.tag) [
          | inl e ↦ absurd (none_performed number (subst (λ (p : Pair). WasPerformed p number their_past) (sym found.2 ∙ here e found.1) has))
          | inr ne ↦ (found.0, subst (WasJoined their_past found.0) (sym (there_is found.0 ne)) found.1, there_is found.0 ne ∙ found.2)
        ]
      where
        here : {tag : ℕ} → tag ≡ new.my.tag → WasJoined their_past tag (requests tag).my → (requests tag).my ≡ new.my
        here e joined = sym joined.my_is ∙ match joined.link joined.held (joined.tag_is ∙ e)

    theirs_opened : (other : AssociationIdentity) → theirs ≡ Some other → WasJoined their_past other.peer.tag other.peer × ((opened other.peer.tag).my ≡ other.peer)
    theirs_opened other is =
        let found = h.theirs_held other is in (
          found.0,
          elim (decide other.peer.tag new.my.tag) [
            | inl e ↦ ap (λ (t : ℕ). (opened t).my) e ∙ here_is ∙ sym (match found.0.link found.0.held (found.0.tag_is ∙ e)) ∙ found.0.my_is
            | inr ne ↦ there_is other.peer.tag ne ∙ found.1
          ],
        )

    -- nothing was asked
    stands_before : (n : Requests) → n.asking ≡ nothing_asked → n.first ≡ new.my.first_tsn → StandsSo n their_past waits → StandsSo before their_past waits
    stands_before n none first (plain not some') = absurd (some' (ap (λ (a : Asking). a.requests) none))
    stands_before n none first (in_step (all_performed accept perform wait which)) =
        in_step (all_performed (accept ∙ ap (λ (x : ℕ). Some (request_numbered x (length n.asking.requests))) first ∙ ap (λ (a : Asking). Some (request_numbered new.my.first_tsn (length a.requests))) none) perform wait (inl refl))
    stands_before n none first (in_step (unaccepted newest earlier place is below want accept perform wait un)) = (let empty : n.asking.requests ≡ [] = ap (λ (a : Asking). a.requests) none in absurd (cc))
    stands_before n none first (in_step (in_progress newest earlier place is below want accept perform own un)) = (let empty : n.asking.requests ≡ [] = ap (λ (a : Asking). a.requests) none in absurd (cc))

    stands_opened : (other : AssociationIdentity) → theirs ≡ Some other → StandsSo (opened other.peer.tag) their_past waits
    stands_opened other is =
        elim (decide other.peer.tag new.my.tag) [
          | inl e ↦
              subst (λ (t : ℕ). StandsSo (opened t) their_past waits) (sym e)
              (subst (λ (n : Requests). StandsSo n their_past waits) (sym (set_same new.my.tag (fresh_requests new is_interleaved asking) requests))
              (stands_on before their_past (inl refl) few waits nothing_asked asking as_it_was begins (λ interleaved newest earlier none. absurd (cc))
              (stands_before (requests new.my.tag) nothing (first_same other is e) (subst (λ (t : ℕ). StandsSo (requests t) their_past waits) e (h.stands other is)))))
          | inr ne ↦ subst (λ (n : Requests). StandsSo n their_past waits) (sym (set_other new.my.tag other.peer.tag (fresh_requests new is_interleaved asking) requests ne)) (h.stands other is)
        ]

    mine_apart_opened : (link : AssociationIdentity) → Some new ≡ Some link → (tag : ℕ) → link.my.tag ≢ tag → WasJoined their_past tag (opened tag).my → link.my ≢ (opened tag).my
    mine_apart_opened link is tag ne joined same =
        let one : new ≡ link = cc in
        mine_only tag (λ e. ne (sym (ap (λ (l : AssociationIdentity). l.my.tag) one) ∙ sym e)) joined (ap (λ (l : AssociationIdentity). l.my) one ∙ same)

    pub opens_on : AnswersRequests opened (Some new) later theirs their_past waits
    opens_on =
        record {
          asked = asked_opened;
          asked_held = held_opened;
          performed = performed_opened;
          apart = apart_opened;
          mine_apart = mine_apart_opened;
          joined = joined_opened;
          mine_held = λ link is. subst (λ (l : AssociationIdentity). SenderHadPeer later l.my.tag l.my × ((opened l.my.tag).my ≡ l.my)) (some_link is) (record { link = new; held = held; tag_is = refl; my_is = refl; some = some }, here_is);
          mine_first = λ link is. subst (λ (l : AssociationIdentity). (opened l.my.tag).first ≡ l.my.first_tsn) (some_link is) (ap (λ (n : Requests). n.first) (set_same new.my.tag (fresh_requests new is_interleaved asking) requests));
          theirs_held = theirs_opened;
          stands = stands_opened;
        }
      where
        some_link : {link : AssociationIdentity} → Some new ≡ Some link → new ≡ link
        some_link is = cc

-- ---- it ends, or there is none

-- The tag 0 is none of the receiver's.
module _ (requests : ℕ → Requests) (mine : Option AssociationIdentity) (past : List Effect) (theirs : Option AssociationIdentity) (their_past : List Effect) (waits : Option DeferralModel) (h : AnswersRequests requests mine past theirs their_past waits) (zero : Requests) (later : List Effect)
    (grows : (effect : Effect) → HasEffect effect past → HasEffect effect later) where
  abbrev pub closed : ℕ → Requests
  closed = table_with 0 zero requests

  there_is' : (tag : ℕ) → tag ≢ 0 → closed tag ≡ requests tag
  there_is' tag ne = set_other 0 tag zero requests ne

  joined_then : (tag : ℕ) → WasJoined their_past tag (closed tag).my → WasJoined their_past tag (requests tag).my
  joined_then tag joined = subst (λ (n : Requests). WasJoined their_past tag n.my) (there_is' tag joined.some) joined

  joined_now : (tag : ℕ) → WasJoined their_past tag (requests tag).my → WasJoined their_past tag (closed tag).my
  joined_now tag joined = subst (λ (n : Requests). WasJoined their_past tag n.my) (sym (there_is' tag joined.some)) joined

  same_pairs : (one two : ℕ) → one ≢ 0 → two ≢ 0 → (closed one).my ≡ (closed two).my → (requests one).my ≡ (requests two).my
  same_pairs one two some some' same = sym (ap (λ (n : Requests). n.my) (there_is' one some)) ∙ same ∙ ap (λ (n : Requests). n.my) (there_is' two some')

  pub closes_on : AnswersRequests closed None later theirs their_past waits
  closes_on =
      record {
        asked = λ tag some. subst (λ (n : Requests). (n.asking ≡ nothing_asked) ⊎ AreAsked n their_past) (sym (there_is' tag some)) (h.asked tag some);
        asked_held = λ tag some. subst (λ (n : Requests). (n.asking ≡ nothing_asked) ⊎ SenderHadPeer later tag n.my) (sym (there_is' tag some)) (still_held past later grows (requests tag) tag (h.asked_held tag some));
        performed = λ tag joined. subst (λ (n : Requests). WerePerformed n their_past) (sym (there_is' tag joined.some)) (h.performed tag (joined_then tag joined));
        apart = λ one two ne first second same. h.apart one two ne (joined_then one first) (joined_then two second) (same_pairs one two first.some second.some same);
        mine_apart = λ link is. absurd (cc);
        joined = λ my number has. (
            let found = h.joined my number has in
            (found.0, joined_now found.0 found.1, ap (λ (n : Requests). n.my) (there_is' found.0 found.1.some) ∙ found.2)
            );
        mine_held = λ link is. absurd (cc);
        mine_first = λ link is. absurd (cc);
        theirs_held = λ other is. ((h.theirs_held other is).0, ap (λ (n : Requests). n.my) (there_is' other.peer.tag (h.theirs_held other is).0.some) ∙ (h.theirs_held other is).1);
        stands = λ other is. subst (λ (n : Requests). StandsSo n their_past waits) (sym (there_is' other.peer.tag (h.theirs_held other is).0.some)) (h.stands other is);
      }
