-- Turns of the receiver in which a request is deferred (RFC 6525, section 5.2.2).
use Rattle.std.proofs.Common.{◌≡◌, ℕ, ◌<◌, ◌-◌, ◌^◌, suc, false, Option, Some, List, length, sym, ◌∙◌, ap, subst, inl, inr}
use Rattle.std.specs.Prelude.{◌⊎◌}
use Rattle.dcsctp_spec_lemmas.specs.types.declared.association.Pair.{Pair}
use Rattle.dcsctp_spec_runs.specs.Past.{WasPerformed, HasEffect, number_to_accept, number_to_perform}
use Rattle.dcsctp_spec_runs.specs.World.{after_effects}
use Rattle.dcsctp_spec_lemmas.specs.spec.Reconfiguration.{RequestedReset}
use Rattle.dcsctp_spec_lemmas.specs.spec.association.Effect.{AssociationIdentity, Effect, holds}
use Rattle.dcsctp_spec_lemmas.specs.spec.association.FlushChanges.{next_number}
use Rattle.dcsctp_spec_lemmas.specs.spec.queues.Reassembly.{DeferralModel}
use Rattle.dcsctp_spec_lemmas.specs.spec.endpoint.BegunResets.{BegunReset}
use Rattle.dcsctp_delivery_directions.specs.receiving.Clear.{IsOwn}
use Rattle.dcsctp_delivery_directions.specs.sending.Places as places
use Rattle.dcsctp_delivery_sockets.specs.turns.PeerRequests.{WaitsFor}
use Rattle.dcsctp_delivery_sockets.specs.associations.Answered as answered
use Rattle.dcsctp_delivery_sockets.specs.associations.Answered.{Requests, request_numbered, IsInStep, StandsSo, AnswersRequests}
use Rattle.dcsctp_delivery_sockets.proofs.associations.RequestNumbers.{next_place}
use Rattle.dcsctp_delivery_sockets.proofs.associations.AnsweringNewest.{due_there}
use Rattle.dcsctp_delivery_sockets.proofs.associations.AnsweringRests.{stays_standing}

own_left : (reset : RequestedReset) (waits : Option DeferralModel) (left : DeferralModel) → IsOwn reset waits → WaitsFor reset waits left → left.last_tsn ≡ reset.last_tsn
own_left reset waits left own (inl same) = same
own_left reset waits left own (inr was) = was.2 ∙ subst (IsOwn reset) was.1 own

module _ (requests : ℕ → Requests) (mine : Option AssociationIdentity) (past : List Effect) (link : AssociationIdentity) (happened their_past : List Effect) (waits waits' : Option DeferralModel)
    (a : AnswersRequests requests mine past (Some link) their_past waits) (no_holds : (new : AssociationIdentity) → HasEffect (holds new) happened → ⊥) (no_performs : (my : Pair) (number : ℕ) → WasPerformed my number happened → ⊥) where
  stands_at_link : StandsSo (requests link.peer.tag) (after_effects happened their_past) waits' → AnswersRequests requests mine past (Some link) (after_effects happened their_past) waits'
  stands_at_link stands =
      stays_standing requests mine past (Some link) happened their_past waits waits' a no_holds no_performs
      (λ there is. let same : link ≡ there = cc in subst (λ (l : AssociationIdentity). StandsSo (requests l.peer.tag) (after_effects happened their_past) waits') same stands)

  -- It is in progress then.
  pub defers_it : (begun : BegunReset) (left : DeferralModel) → IsInStep (requests link.peer.tag) their_past waits → places.HasEntry begun (requests link.peer.tag).asking.requests
      → length (requests link.peer.tag).asking.requests < 2 ^ 32 - 1 → (number_to_accept their_past ≡ Some begun.number) ⊎ (number_to_perform their_past ≡ Some begun.number)
      → number_to_accept (after_effects happened their_past) ≡ Some (next_number begun.number) → number_to_perform (after_effects happened their_past) ≡ Some begun.number → waits' ≡ Some left
      → WaitsFor begun.reset waits left
      → AnswersRequests requests mine past (Some link) (after_effects happened their_past) waits'
  defers_it begun left step has few expected accept perform is last =
      let due = due_there requests mine past link their_past waits begun a step has few expected in
      let next : next_number begun.number ≡ request_numbered (requests link.peer.tag).first (suc due.place) = ap next_number due.at ∙ next_place (requests link.peer.tag).first due.place in
      stands_at_link
      (answered.in_step
      (answered.in_progress due.newest due.earlier due.place due.is due.below due.want (accept ∙ ap Some next) (perform ∙ ap Some due.at)
      (subst (IsOwn due.newest.reset) (sym is) (own_left due.newest.reset waits left due.own (subst (λ (r : RequestedReset). WaitsFor r waits left) due.wants last))) due.unknown))

  -- Messages don't interleave.
  pub defers_plain : (begun : BegunReset) → (requests link.peer.tag).in_turn ≡ false → places.HasEntry begun (requests link.peer.tag).asking.requests
      → AnswersRequests requests mine past (Some link) (after_effects happened their_past) waits'
  defers_plain begun kind has = stands_at_link (answered.plain kind (λ none. subst (places.HasEntry begun) none has))
