-- A request of the peer, or its answer to one of ours, keeps what is true.
use Rattle.std.proofs.Common.{◌≡◌, ◌==◌, ℕ, Bool, true, false, None, List, [], ◌∷◌, inl, inr, refl, sym, subst, ap, ◌∙◌, arith, cond}
use Rattle.std.proofs.lemmas.Bool.Decides.{nat_tests}
use Rattle.dcsctp_spec_lemmas.specs.wire.declared.reconfiguration.ReconfigurationResponseResult.{ReconfigurationResponseResult}
use Rattle.dcsctp_spec_lemmas.specs.wire.declared.reconfiguration.ReconfigurationResponseResult.TheVariants.{SuccessNothingToDo, SuccessPerformed, Denied, ErrorWrongSSN, ErrorRequestAlreadyInProgress, ErrorBadSequenceNumber, InProgress}
use Rattle.dcsctp_spec_lemmas.specs.types.declared.association.Pair.{Pair}
use Rattle.dcsctp_spec_lemmas.specs.types.declared.association.Held.{Held}
use Rattle.dcsctp_spec_lemmas.specs.types.Offer.{Offer}
use Rattle.dcsctp_spec_lemmas.specs.spec.Reconfiguration.{RequestState, early, due, renewed}
use Rattle.dcsctp_spec_lemmas.specs.spec.association.Effect.{Effect, draws, completes, fails, accepts, performs, renews}
use Rattle.dcsctp_spec_lemmas.specs.spec.association.FlushChanges.{next_number}
use Rattle.dcsctp_spec_lemmas.specs.spec.association.ResetChanges.{RequestPlace, again, next, astray, request_place, RequestOutcome, performed_request, repeated_request_outcome, next_request, is_due, outgoing_by_place, result_of_answer, result_if_outstanding}
use Rattle.dcsctp_spec_runs.specs.Past.{HasEffect, WasPerformed}
use Rattle.dcsctp_spec_runs.specs.World.{after_effects}
use Rattle.dcsctp_theorem_association.proofs.Facts.{number_before, TruePerformed, TrueNothing, TrueResult, TrueEffects, PeerFacts}
use Rattle.dcsctp_theorem_association.proofs.Growth.{same, one_more, performed_grows, peer_grows}
use Rattle.dcsctp_theorem_association.proofs.Echoes.{AllEchoFree}
use Rattle.dcsctp_theorem_association.proofs.Turns.{SameTag, tags_after}

-- what a parameter, or several, leave
pub record Working (my_offer their_offer : Offer) (mine theirs : List Effect) (my : Pair) (held : Held) (after : Held) (effects : List Effect) : Type 0 where
  pub true_effects : TrueEffects my_offer their_offer mine theirs effects
  pub free : AllEchoFree effects
  pub facts : PeerFacts my_offer their_offer (after_effects effects mine) theirs my after
  pub pair : after.peer ≡ held.peer
  pub tags : SameTag mine → SameTag (after_effects effects mine)

-- ---- a request of the peer

-- and how it is answered
pub record Answering (my_offer their_offer : Offer) (mine theirs : List Effect) (my : Pair) (held : Held) (number : ℕ) (answered : RequestOutcome) : Type 0 where
  pub working : Working my_offer their_offer mine theirs my held answered.held answered.effects
  pub result : TrueResult (after_effects answered.effects mine) theirs held.peer.tag number answered.result

-- the association is as before, and so is the answer
kept_answer : (my_offer their_offer : Offer) (mine theirs : List Effect) (my : Pair) (held : Held) (number : ℕ) (result : ReconfigurationResponseResult)
    → PeerFacts my_offer their_offer mine theirs my held → TrueResult mine theirs held.peer.tag number result
    → Answering my_offer their_offer mine theirs my held number (record { held = held; result = result; effects = [] })
kept_answer my_offer their_offer mine theirs my held number result h answer =
    record { working = record { true_effects = tt; free = tt; facts = h; pair = refl; tags = λ t. t }; result = answer }

worked_answer : (my_offer their_offer : Offer) (mine theirs : List Effect) (my : Pair) (held : Held) (number : ℕ) (is_reached : Bool)
    → PeerFacts my_offer their_offer mine theirs my held → Answering my_offer their_offer mine theirs my held number (performed_request held number is_reached)
worked_answer my_offer their_offer mine theirs my held number true h =
    record {
      working = record {
        true_effects = (tt, tt);
        free = (tt, tt);
        facts = record { my_drawn = inr h.my_drawn; peer_drawn = h.peer_drawn; capabilities = h.capabilities; shown = inr h.shown; nothing = λ is. absurd (cc); performed = λ is. inl (inl refl) };
        pair = refl;
        tags = tags_after (performs held.peer number) mine (λ pair e. cc);
      };
      result = record { pair = held.peer; under = refl; drawn = h.peer_drawn; performed = inl (inl refl) };
    }
worked_answer my_offer their_offer mine theirs my held number false h =
    record {
      working = record {
        true_effects = tt;
        free = tt;
        facts = record { my_drawn = h.my_drawn; peer_drawn = h.peer_drawn; capabilities = h.capabilities; shown = h.shown; nothing = λ is. absurd (cc); performed = λ is. absurd (cc) };
        pair = refl;
        tags = λ t. t;
      };
      result = tt;
    }

repeated_answer : (my_offer their_offer : Offer) (mine theirs : List Effect) (my : Pair) (held : Held) (number : ℕ) (is_reached : Bool) (result : ReconfigurationResponseResult)
    → PeerFacts my_offer their_offer mine theirs my held → held.peer_result ≡ result → number ≡ held.peer_last
    → Answering my_offer their_offer mine theirs my held number (repeated_request_outcome held result is_reached)
repeated_answer my_offer their_offer mine theirs my held number is_reached SuccessNothingToDo h is last =
    kept_answer my_offer their_offer mine theirs my held number SuccessNothingToDo h (record { pair = held.peer; under = refl; drawn = h.peer_drawn; before = last ∙ h.nothing is })
repeated_answer my_offer their_offer mine theirs my held number is_reached SuccessPerformed h is last =
    kept_answer my_offer their_offer mine theirs my held number SuccessPerformed h
    (record { pair = held.peer; under = refl; drawn = h.peer_drawn; performed = subst (λ (n : ℕ). WasPerformed held.peer n mine) (sym last) (h.performed is) })
repeated_answer my_offer their_offer mine theirs my held number is_reached Denied h is last = kept_answer my_offer their_offer mine theirs my held number Denied h tt
repeated_answer my_offer their_offer mine theirs my held number is_reached ErrorWrongSSN h is last = kept_answer my_offer their_offer mine theirs my held number ErrorWrongSSN h tt
repeated_answer my_offer their_offer mine theirs my held number is_reached ErrorRequestAlreadyInProgress h is last = kept_answer my_offer their_offer mine theirs my held number ErrorRequestAlreadyInProgress h tt
repeated_answer my_offer their_offer mine theirs my held number is_reached ErrorBadSequenceNumber h is last = kept_answer my_offer their_offer mine theirs my held number ErrorBadSequenceNumber h tt
repeated_answer my_offer their_offer mine theirs my held number is_reached InProgress h is last =
    subst (λ (n : ℕ). Answering my_offer their_offer mine theirs my held n (performed_request held held.peer_last is_reached)) (sym last)
    (worked_answer my_offer their_offer mine theirs my held held.peer_last is_reached h)

-- The next one, by what it finds.
next_answer : (my_offer their_offer : Offer) (mine theirs : List Effect) (my : Pair) (held : Held) (number : ℕ) (state : RequestState)
    → PeerFacts my_offer their_offer mine theirs my held → Answering my_offer their_offer mine theirs my held number (next_request held number state)
next_answer my_offer their_offer mine theirs my held number early h = worked_answer my_offer their_offer mine theirs my held number false h
next_answer my_offer their_offer mine theirs my held number due h = worked_answer my_offer their_offer mine theirs my held number true h
next_answer my_offer their_offer mine theirs my held number renewed h =
    record {
      working = record {
        true_effects = (tt, tt);
        free = (tt, tt);
        facts = record { my_drawn = inr h.my_drawn; peer_drawn = h.peer_drawn; capabilities = h.capabilities; shown = inr h.shown; nothing = λ is. absurd (cc); performed = λ is. inr (inl refl) };
        pair = refl;
        tags = tags_after (renews held.peer number) mine (λ pair e. cc);
      };
      result = record { pair = held.peer; under = refl; drawn = h.peer_drawn; performed = inr (inl refl) };
    }

-- a request that is the last again has its number
again_where : (is_last is_next : Bool) (last number : ℕ) → (number == last) ≡ is_last → cond is_last again (cond is_next next astray) ≡ again → number ≡ last
again_where true is_next last number test is = grind (arith, nat_tests)
again_where false true last number test is = absurd (cc)
again_where false false last number test is = absurd (cc)

pub again_is_last : (last number : ℕ) → request_place last number ≡ again → number ≡ last
again_is_last last number is = again_where (number == last) (number == next_number last) last number refl is

pub outgoing_answer : (my_offer their_offer : Offer) (mine theirs : List Effect) (my : Pair) (held : Held) (number : ℕ) (state : RequestState) (place : RequestPlace)
    → PeerFacts my_offer their_offer mine theirs my held → (place ≡ again → number ≡ held.peer_last)
    → Answering my_offer their_offer mine theirs my held number (outgoing_by_place held number state place)
outgoing_answer my_offer their_offer mine theirs my held number state again h last =
    repeated_answer my_offer their_offer mine theirs my held number (is_due state) held.peer_result h refl (last refl)
outgoing_answer my_offer their_offer mine theirs my held number state next h last =
    let grown : PeerFacts my_offer their_offer (accepts number ∷ mine) theirs my held = peer_grows my_offer their_offer mine theirs (accepts number ∷ mine) theirs my held (one_more (accepts number) mine) (same theirs) h in
    let answer : Answering my_offer their_offer (accepts number ∷ mine) theirs my held number (next_request held number state) =
    next_answer my_offer their_offer (accepts number ∷ mine) theirs my held number state grown in
    record {
      working = record { true_effects = (tt, answer.working.true_effects); free = (tt, answer.working.free); facts = answer.working.facts; pair = answer.working.pair; tags = λ t. answer.working.tags (tags_after (accepts number) mine (λ pair e. cc) t) };
      result = answer.result;
    }
outgoing_answer my_offer their_offer mine theirs my held number state astray h last = kept_answer my_offer their_offer mine theirs my held number ErrorBadSequenceNumber h tt

-- ---- an answer of the peer

-- our request of this number is done, or could never have been sent
done : (mine theirs : List Effect) (my : Pair) (number : ℕ) → SameTag mine → HasEffect (draws my) mine → TruePerformed theirs mine my.tag number → WasPerformed my number theirs
done mine theirs my number tags drawn answer =
    subst (λ (p : Pair). WasPerformed p number theirs) (tags answer.pair my answer.drawn drawn (sym answer.under)) answer.performed

nothing_done : (mine theirs : List Effect) (my : Pair) (number : ℕ) → SameTag mine → HasEffect (draws my) mine → TrueNothing mine my.tag number → number ≡ number_before my
nothing_done mine theirs my number tags drawn answer = answer.before ∙ ap number_before (tags answer.pair my answer.drawn drawn (sym answer.under))

-- a request of ours that ended
ended_request : (my_offer their_offer : Offer) (mine theirs : List Effect) (my : Pair) (held : Held) (effect : Effect)
    → PeerFacts my_offer their_offer mine theirs my held → TrueEffects my_offer their_offer mine theirs (effect ∷ []) → AllEchoFree (effect ∷ []) → ((pair : Pair) → draws pair ≡ effect → ⊥)
    → Working my_offer their_offer mine theirs my held (record held { own_outstanding = None }) (effect ∷ [])
ended_request my_offer their_offer mine theirs my held effect h is_true free never =
    record {
      true_effects = is_true;
      free = free;
      facts = record { my_drawn = inr h.my_drawn; peer_drawn = h.peer_drawn; capabilities = h.capabilities; shown = inr h.shown; nothing = h.nothing; performed = λ is. performed_grows mine (effect ∷ mine) held.peer held.peer_last (one_more effect mine) (h.performed is) };
      pair = refl;
      tags = tags_after effect mine never;
    }

informed_working : (my_offer their_offer : Offer) (mine theirs : List Effect) (my : Pair) (held : Held) (number : ℕ) (result : ReconfigurationResponseResult)
    → SameTag mine → PeerFacts my_offer their_offer mine theirs my held → TrueResult theirs mine my.tag number result
    → Working my_offer their_offer mine theirs my held (result_of_answer my held number result).held (result_of_answer my held number result).effects
informed_working my_offer their_offer mine theirs my held number SuccessNothingToDo tags h answer =
    ended_request my_offer their_offer mine theirs my held (completes my number) h (inr (nothing_done mine theirs my number tags h.my_drawn answer), tt) (tt, tt) (λ pair e. cc)
informed_working my_offer their_offer mine theirs my held number SuccessPerformed tags h answer =
    ended_request my_offer their_offer mine theirs my held (completes my number) h (inl (done mine theirs my number tags h.my_drawn answer), tt) (tt, tt) (λ pair e. cc)
informed_working my_offer their_offer mine theirs my held number Denied tags h answer = ended_request my_offer their_offer mine theirs my held (fails number) h (tt, tt) (tt, tt) (λ pair e. cc)
informed_working my_offer their_offer mine theirs my held number ErrorWrongSSN tags h answer = ended_request my_offer their_offer mine theirs my held (fails number) h (tt, tt) (tt, tt) (λ pair e. cc)
informed_working my_offer their_offer mine theirs my held number ErrorRequestAlreadyInProgress tags h answer = ended_request my_offer their_offer mine theirs my held (fails number) h (tt, tt) (tt, tt) (λ pair e. cc)
informed_working my_offer their_offer mine theirs my held number ErrorBadSequenceNumber tags h answer = ended_request my_offer their_offer mine theirs my held (fails number) h (tt, tt) (tt, tt) (λ pair e. cc)
informed_working my_offer their_offer mine theirs my held number InProgress tags h answer = record { true_effects = tt; free = tt; facts = h; pair = refl; tags = λ t. t }

pub informed_where_working : (my_offer their_offer : Offer) (mine theirs : List Effect) (my : Pair) (held : Held) (number : ℕ) (result : ReconfigurationResponseResult) (is_own : Bool)
    → SameTag mine → PeerFacts my_offer their_offer mine theirs my held → TrueResult theirs mine my.tag number result
    → Working my_offer their_offer mine theirs my held (result_if_outstanding my held number result is_own).held (result_if_outstanding my held number result is_own).effects
informed_where_working my_offer their_offer mine theirs my held number result true tags h answer = informed_working my_offer their_offer mine theirs my held number result tags h answer
informed_where_working my_offer their_offer mine theirs my held number result false tags h answer = record { true_effects = tt; free = tt; facts = h; pair = refl; tags = λ t. t }
