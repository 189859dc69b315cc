-- What becomes of all requests by a turn of the sender.
use Rattle.std.proofs.Common.{◌≡◌, ◌≢◌, ℕ, true, ◌<◌, ◌-◌, ◌^◌, Option, Some, List, ◌∷◌, length, refl, sym, ◌∙◌, subst, inl, inr}
use Rattle.std.specs.Prelude.{◌⊎◌}
use Rattle.dcsctp_spec_lemmas.specs.types.declared.association.Pair.{Pair}
use Rattle.dcsctp_spec_runs.specs.Past.{WasPerformed}
use Rattle.dcsctp_spec_runs.specs.World.{after_effects}
use Rattle.dcsctp_spec_lemmas.specs.spec.association.Effect.{AssociationIdentity, Effect}
use Rattle.dcsctp_spec_lemmas.specs.spec.queues.Reassembly.{DeferralModel}
use Rattle.dcsctp_spec_lemmas.specs.spec.endpoint.BegunResets.{BegunReset}
use Rattle.dcsctp_delivery_directions.specs.sending.Places.{table_with}
use Rattle.dcsctp_delivery_directions.proofs.sending.Places.{decide, set_same, set_other}
use Rattle.dcsctp_delivery_directions.specs.directions.Directions.{Asking, nothing_asked}
use Rattle.dcsctp_delivery_sockets.specs.associations.Answered.{Requests, request_numbered, SenderHadPeer, WasJoined, AreAsked, IsRequestNumber, WerePerformed, StandsSo, AnswersRequests}
use Rattle.dcsctp_delivery_sockets.proofs.associations.AskedOn.{held_later, MayBegin}
use Rattle.dcsctp_delivery_sockets.proofs.associations.Renewed.{MayGo, known_newest, asked_then, placed_then, stands_then}

-- what holds of the requests of a tag, and of all others
pub set_requests : (P : ℕ → Requests → Type 0) (key : ℕ) (new : Requests) (old : ℕ → Requests) → P key new → ((tag : ℕ) → tag ≢ key → P tag (old tag)) → (tag : ℕ) → P tag (table_with key new old tag)
set_requests P key new old here others tag =
    elim (decide tag key) [
      | inl e ↦ subst (λ (n : ℕ). P n (table_with key new old n)) (sym e) (subst (P key) (sym (set_same key new old)) here)
      | inr ne ↦ subst (P tag) (sym (set_other key tag new old ne)) (others tag ne)
    ]

module _ (requests : ℕ → Requests) (link : AssociationIdentity) (past : List Effect) (theirs : Option AssociationIdentity) (their_past : List Effect) (waits : Option DeferralModel) (h : AnswersRequests requests (Some link) past theirs their_past waits) where
  abbrev pub r : Requests
  r = requests link.my.tag

  mine : r.my ≡ link.my
  mine = (h.mine_held link refl).1

  -- A request of the association that was performed is one of its tag.
  is_joined : (number : ℕ) → WasPerformed link.my number their_past → WasJoined their_past link.my.tag (requests link.my.tag).my
  is_joined number has =
      let found = h.joined link.my number has in
      elim (decide found.0 link.my.tag) [
        | inl e ↦ subst (λ (t : ℕ). WasJoined their_past t (requests t).my) e found.1
        | inr ne ↦ absurd (h.mine_apart link refl found.0 (λ is. ne (sym is)) found.1 (sym found.2))
      ]

  pub is_placed : (number : ℕ) → WasPerformed link.my number their_past → IsRequestNumber (requests link.my.tag) number
  is_placed number has = h.performed link.my.tag (is_joined number has) number (subst (λ (p : Pair). WasPerformed p number their_past) (sym mine) has)

  -- If the newest was performed, that is known.
  pub newest_known : length r.asking.requests < 2 ^ 32 - 1 → r.in_turn ≡ true → (newest : BegunReset) (earlier : List BegunReset) → r.asking.requests ≡ newest ∷ earlier
      → WasPerformed link.my (request_numbered r.first (length earlier)) their_past → r.asking.is_performed ≡ true
  newest_known few interleaved newest earlier is has = known_newest (requests link.my.tag) few newest earlier is interleaved (is_placed (request_numbered r.first (length earlier)) has)

  module _ (few : length (requests link.my.tag).asking.requests < 2 ^ 32 - 1) (some : link.my.tag ≢ 0) (between asking : Asking) (goes : MayGo (requests link.my.tag) their_past between)
      (begins : MayBegin (requests link.my.tag).first between asking) (effects : List Effect) where
    later : Requests
    later = record (requests link.my.tag) { asking = asking }

    abbrev all_later : ℕ → Requests
    all_later = table_with link.my.tag (record (requests link.my.tag) { asking = asking }) requests

    same_pair : (tag : ℕ) → (all_later tag).my ≡ (requests tag).my
    same_pair = set_requests (λ tag n. n.my ≡ (requests tag).my) link.my.tag (record (requests link.my.tag) { asking = asking }) requests refl (λ tag ne. refl)

    same_first : (tag : ℕ) → (all_later tag).first ≡ (requests tag).first
    same_first = set_requests (λ tag n. n.first ≡ (requests tag).first) link.my.tag (record (requests link.my.tag) { asking = asking }) requests refl (λ tag ne. refl)

    before_joined : (tag : ℕ) → WasJoined their_past tag (all_later tag).my → WasJoined their_past tag (requests tag).my
    before_joined tag = subst (WasJoined their_past tag) (same_pair tag)

    abbrev Past : List Effect
    Past = after_effects effects past

    asked_later : (tag : ℕ) → tag ≢ 0 → ((all_later tag).asking ≡ nothing_asked) ⊎ AreAsked (all_later tag) their_past
    asked_later tag zero =
        set_requests (λ t n. t ≢ 0 → (n.asking ≡ nothing_asked) ⊎ AreAsked n their_past) link.my.tag (record (requests link.my.tag) { asking = asking }) requests
        (λ z. inr (asked_then (requests link.my.tag) their_past (h.asked link.my.tag some) few between asking goes begins)) (λ t ne z. h.asked t z) tag zero

    held_still : (tag : ℕ) → tag ≢ 0 → ((all_later tag).asking ≡ nothing_asked) ⊎ SenderHadPeer Past tag (all_later tag).my
    held_still =
        set_requests (λ t n. t ≢ 0 → (n.asking ≡ nothing_asked) ⊎ SenderHadPeer Past t n.my) link.my.tag (record (requests link.my.tag) { asking = asking }) requests
        (λ z. inr (subst (SenderHadPeer Past link.my.tag) (sym mine) (held_later effects past link.my.tag link.my (h.mine_held link refl).0)))
        (λ t ne z. elim (h.asked_held t z) [ inl none ↦ inl none | inr held ↦ inr (held_later effects past t (requests t).my held) ])

    performed_later : (tag : ℕ) → WasJoined their_past tag (all_later tag).my → WerePerformed (all_later tag) their_past
    performed_later =
        set_requests (λ t n. WasJoined their_past t n.my → WerePerformed n their_past) link.my.tag (record (requests link.my.tag) { asking = asking }) requests
        (λ joined number has. placed_then (requests link.my.tag) their_past (h.asked link.my.tag some) few between asking goes begins number (h.performed link.my.tag joined number has)) (λ t ne. h.performed t)

    placed_there : (number : ℕ) → WasPerformed (requests link.my.tag).my number their_past → IsRequestNumber (requests link.my.tag) number
    placed_there number has = is_placed number (subst (λ (p : Pair). WasPerformed p number their_past) mine has)

    stands_later : (tag : ℕ) → StandsSo (requests tag) their_past waits → StandsSo (all_later tag) their_past waits
    stands_later =
        set_requests (λ t n. StandsSo (requests t) their_past waits → StandsSo n their_past waits) link.my.tag (record (requests link.my.tag) { asking = asking }) requests
        (stands_then (requests link.my.tag) their_past (h.asked link.my.tag some) few waits between asking goes begins placed_there) (λ t ne stands. stands)

    pub asks_on : AnswersRequests all_later (Some link) Past theirs their_past waits
    asks_on =
        record {
          asked = asked_later;
          asked_held = held_still;
          performed = performed_later;
          apart = λ one two ne joined other same. h.apart one two ne (before_joined one joined) (before_joined two other) (sym (same_pair one) ∙ same ∙ same_pair two);
          mine_apart = λ other is tag ne joined same. h.mine_apart other is tag ne (before_joined tag joined) (same ∙ same_pair tag);
          joined = λ my number has. (
              let found = h.joined my number has in
              (found.0, subst (WasJoined their_past found.0) (sym (same_pair found.0)) found.1, same_pair found.0 ∙ found.2)
              );
          mine_held = λ other is. (held_later effects past other.my.tag other.my (h.mine_held other is).0, same_pair other.my.tag ∙ (h.mine_held other is).1);
          mine_first = λ other is. same_first other.my.tag ∙ h.mine_first other is;
          theirs_held = λ other is. ((h.theirs_held other is).0, same_pair other.peer.tag ∙ (h.theirs_held other is).1);
          stands = λ other is. stands_later other.peer.tag (h.stands other is);
        }
