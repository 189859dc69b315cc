-- The request that the receiver accepts or performs wants what the newest wants.
use Rattle.std.proofs.Common.{◌≡◌, ◌≢◌, ℕ, ◌<◌, ◌≤◌, ◌-◌, ◌^◌, suc, false, Option, Some, List, ◌∷◌, length, refl, sym, ◌∙◌, ap, subst, arith, inl, inr}
use Rattle.std.specs.Prelude.{◌⊎◌}
use Rattle.dcsctp_spec_runs.specs.Past.{number_to_accept, number_to_perform}
use Rattle.dcsctp_spec_lemmas.specs.spec.association.Effect.{AssociationIdentity, Effect}
use Rattle.dcsctp_spec_lemmas.specs.spec.queues.Reassembly.{DeferralModel}
use Rattle.dcsctp_spec_lemmas.specs.spec.endpoint.BegunResets.{BegunReset}
use Rattle.dcsctp_delivery_directions.specs.receiving.Clear.{IsOwn}
use Rattle.dcsctp_delivery_directions.specs.sending.Places as places
use Rattle.dcsctp_delivery_directions.specs.directions.Directions.{Asking, nothing_asked}
use Rattle.dcsctp_delivery_sockets.specs.turns.Asking.{AreNumbered}
use Rattle.dcsctp_delivery_sockets.specs.associations.Answered as answered
use Rattle.dcsctp_delivery_sockets.specs.associations.Answered.{Requests, request_numbered, WantsSame, WantFrom, AreAsked, IsInStep, AnswersRequests}
use Rattle.dcsctp_delivery_sockets.proofs.associations.RequestNumbers.{same_place, newest_number, number_among, is_newest, want_later, wanted_at}

-- It is the one at this place, from which on all want the same; none was known to be performed; and what waits, waits for it.
pub record IsDueAt (requests : Requests) (waits : Option DeferralModel) (begun : BegunReset) : Type 0 where
  pub newest : BegunReset
  pub earlier : List BegunReset
  pub is : requests.asking.requests ≡ newest ∷ earlier
  pub place : ℕ
  pub below : place ≤ length earlier
  pub at : begun.number ≡ request_numbered requests.first place
  pub want : WantFrom place newest.reset requests.asking.requests
  pub wants : WantsSame begun.reset newest.reset
  pub own : IsOwn newest.reset waits
  pub unknown : requests.asking.is_performed ≡ false

pub numbers_of : (requests : Requests) (their_past : List Effect) → (requests.asking ≡ nothing_asked) ⊎ AreAsked requests their_past → AreNumbered requests.first requests.asking.requests
numbers_of requests their_past (inl none) = subst (λ (a : Asking). AreNumbered requests.first a.requests) (sym none) tt
numbers_of requests their_past (inr asked) = asked.numbers

module _ (requests : Requests) (their_past : List Effect) (waits : Option DeferralModel) (begun : BegunReset) (numbers : AreNumbered requests.first requests.asking.requests)
    (has : places.HasEntry begun requests.asking.requests) (few : length requests.asking.requests < 2 ^ 32 - 1) where
  abbrev all : List BegunReset
  all = requests.asking.requests

  -- The number of a request is that of a place of one.
  under : (place : ℕ) → begun.number ≡ request_numbered requests.first place → place ≤ length all → place < length all
  under place at le =
      let r = number_among requests.first all begun numbers has in
      let here : r.0 ≡ place = same_place requests.first r.0 place (sym r.2 ∙ at) (omega (arith, r.1, few)) (omega (arith, le, few)) in
      omega (arith, here, r.1)

  due_at : (newest : BegunReset) (earlier : List BegunReset) (first place : ℕ) → all ≡ newest ∷ earlier → first ≤ place → place ≤ length all → begun.number ≡ request_numbered requests.first place → WantFrom first newest.reset all
      → IsOwn newest.reset waits → requests.asking.is_performed ≡ false → IsDueAt requests waits begun
  due_at newest earlier first place is le above at want own un =
      let long : length all ≡ suc (length earlier) = ap (λ (l : List BegunReset). length l) is in
      let below : place < length all = under place at above in
      let from : WantFrom place newest.reset all = want_later first place newest.reset all le want in
      record {
        newest = newest;
        earlier = earlier;
        is = is;
        place = place;
        below = omega (arith, long, below);
        at = at;
        want = from;
        wants = wanted_at requests.first place newest.reset all begun numbers (omega (arith, few)) has (omega (arith, below, few)) at from;
        own = own;
        unknown = un;
      }

  -- No request has the number after the newest.
  none_behind : number_to_accept their_past ≡ Some (request_numbered requests.first (length all)) → number_to_accept their_past ≡ Some begun.number → ⊥
  none_behind is expected = (let same : begun.number ≡ request_numbered requests.first (length all) = cc in let below = under (length all) same (omega arith) in omega (arith, below))

  pub due_in_step : IsInStep requests their_past waits → (number_to_accept their_past ≡ Some begun.number) ⊎ (number_to_perform their_past ≡ Some begun.number) → IsDueAt requests waits begun
  due_in_step (answered.all_performed number none empty is) (inl expected) = absurd (none_behind number expected)
  due_in_step (answered.all_performed number none empty is) (inr expected) = absurd (cc)
  due_in_step (answered.unaccepted newest earlier place is below want number none empty un) (inl expected) =
      let long : length all ≡ suc (length earlier) = ap (λ (l : List BegunReset). length l) is in
      due_at newest earlier place place is (omega arith) (omega (arith, long, below)) (cc) want (subst (IsOwn newest.reset) (sym empty) tt) un
  due_in_step (answered.unaccepted newest earlier place is below want number none empty un) (inr expected) = absurd (cc)
  due_in_step (answered.in_progress newest earlier place is below want number out own un) (inl expected) =
      let long : length all ≡ suc (length earlier) = ap (λ (l : List BegunReset). length l) is in
      due_at newest earlier place (suc place) is (omega arith) (omega (arith, long, below)) (cc) want own un
  due_in_step (answered.in_progress newest earlier place is below want number out own un) (inr expected) =
      let long : length all ≡ suc (length earlier) = ap (λ (l : List BegunReset). length l) is in
      due_at newest earlier place place is (omega arith) (omega (arith, long, below)) (cc) want own un

  -- Is it the newest?
  pub newest_where : (due : IsDueAt requests waits begun) → begun.number ≡ due.newest.number → begun ≡ due.newest
  newest_where due same = is_newest requests.first due.newest due.earlier all begun due.is numbers (omega (arith, few)) has same

  pub behind_where : (due : IsDueAt requests waits begun) → (begun.number ≡ due.newest.number → ⊥) → due.place < length due.earlier
  behind_where due ne = (let le = due.below in let other = ne_place in omega (arith, le, other))
    where
      ne_place : due.place ≢ length due.earlier
      ne_place here = ne (due.at ∙ ap (request_numbered requests.first) here ∙ sym (newest_number requests.first due.newest due.earlier all due.is numbers))

pub due_there : (requests : ℕ → Requests) (mine : Option AssociationIdentity) (past : List Effect) (link : AssociationIdentity) (their_past : List Effect) (waits : Option DeferralModel) (begun : BegunReset)
    → AnswersRequests requests mine past (Some link) their_past waits → IsInStep (requests link.peer.tag) their_past waits → places.HasEntry begun (requests link.peer.tag).asking.requests
    → length (requests link.peer.tag).asking.requests < 2 ^ 32 - 1 → (number_to_accept their_past ≡ Some begun.number) ⊎ (number_to_perform their_past ≡ Some begun.number)
    → IsDueAt (requests link.peer.tag) waits begun
due_there requests mine past link their_past waits begun a step has few expected =
    due_in_step (requests link.peer.tag) their_past waits begun (numbers_of (requests link.peer.tag) their_past (a.asked link.peer.tag (a.theirs_held link refl).0.some)) has few step expected
