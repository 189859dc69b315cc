-- A request of the peer to reset streams: it is performed, is in progress, or was answered before
-- (RFC 6525, section 5.2.2).
use Rattle.dcsctp_spec_lemmas.specs.spec.association.Effect as effects
use Rattle.std.proofs.Common.{◌≡◌, ◌==◌, ℕ, Bool, true, false, cond, Option, None, Some, List, [], ◌∷◌, ◌++◌, inl, inr, refl, sym, ◌∙◌, subst, ap}
use Rattle.std.proofs.lemmas.Bool.Decides.{Decides-eqb}
use Rattle.dcsctp_spec_lemmas.specs.wire.declared.reconfiguration.ReconfigurationResponseResult.{ReconfigurationResponseResult}
use Rattle.dcsctp_spec_lemmas.specs.wire.declared.reconfiguration.ReconfigurationResponseResult.TheVariants.{SuccessNothingToDo, SuccessPerformed, Denied, ErrorWrongSSN, ErrorRequestAlreadyInProgress, ErrorBadSequenceNumber, InProgress}
use Rattle.dcsctp_spec_lemmas.specs.types.declared.association.Held.{Held}
use Rattle.dcsctp_spec_lemmas.specs.types.declared.association.Pair.{Pair}
use Rattle.dcsctp_spec_lemmas.specs.spec.endpoint.Endpoint.{Endpoint}
use Rattle.dcsctp_spec_lemmas.specs.spec.endpoint.Outcome.{Outcome}
use Rattle.dcsctp_spec_runs.specs.Past.{WasPerformed, number_to_accept, number_to_perform}
use Rattle.dcsctp_spec_lemmas.specs.spec.Reconfiguration.{RequestState, early, due, renewed, RequestedReset, outgoing_reset_request, reconfiguration_response, number_answered}
use Rattle.dcsctp_spec_lemmas.specs.spec.endpoint.Turn.{Input}
use Rattle.dcsctp_spec_runs.specs.World.{after_effects}
use Rattle.dcsctp_spec_lemmas.specs.spec.association.Effect.{Effect, identity_of}
use Rattle.dcsctp_spec_lemmas.specs.spec.association.FlushChanges.{next_number, reset_request}
use Rattle.dcsctp_spec_lemmas.specs.spec.association.ResetChanges.{RequestPlace, again, next, astray, request_place, RequestOutcome, performed_request, repeated_request_outcome, is_due, outgoing_by_place, HandledParameters}
use Rattle.dcsctp_spec_lemmas.specs.spec.queues.Reassembly.{DeferralModel, begun_deferral}
use Rattle.dcsctp_spec_lemmas.specs.spec.queues.Transfer.{Transfer}
use Rattle.dcsctp_spec_lemmas.specs.spec.endpoint.BegunResets.{BegunReset, begun_effects}
use Rattle.dcsctp_spec_lemmas.specs.spec.endpoint.ResetOutcomes.{request_state, has_reset, answers_in_progress, ResetsInQueues, defers_reset, HandlesResets}
use Rattle.dcsctp_delivery_sockets.specs.turns.Actions.{content_of_input}
use Rattle.dcsctp_delivery_sockets.specs.turns.PeerRequests.{NoneAsked, SameWaits, WaitsFor, KnowsPeer, IsDue, PeerTurns, asks_nothing, performs_it, defers_it}
use Rattle.dcsctp_delivery_sockets.proofs.turns.PeerRequests.{works_of}
use Rattle.dcsctp_delivery_sockets.proofs.turns.Waiting.{begun_unasked, StillWaits}

-- ---- which number

abbrev Placed : RequestPlace → ℕ → ℕ → Type 0
Placed again last number = number ≡ last
Placed next last number = number ≡ next_number last
Placed astray last number = Unit {0}

placed_by : (last number : ℕ) (is_last is_next : Bool) → (number == last) ≡ is_last → (number == next_number last) ≡ is_next → Placed (cond is_last again (cond is_next next astray)) last number
placed_by last number true is_next a b = (Decides-eqb number last).0 a
placed_by last number false true a b = (Decides-eqb number (next_number last)).0 b
placed_by last number false false a b = tt

placed : (last number : ℕ) → Placed (request_place last number) last number
placed last number = placed_by last number (number == last) (number == next_number last) refl refl

-- ---- the past after it

-- These effects perform the request of this number, and no other.
pub record PerformsOne (past : List Effect) (peer : Pair) (number : ℕ) (happened : List Effect) : Type 0 where
  pub alone : (other : Pair) (its : ℕ) → WasPerformed other its happened → (other ≡ peer) × (its ≡ number)
  pub has : WasPerformed peer number happened
  pub accepts : number_to_accept (after_effects happened past) ≡ Some (next_number number)
  pub performs : number_to_perform (after_effects happened past) ≡ None

-- They leave it in progress.
pub record DefersOne (past : List Effect) (number : ℕ) (happened : List Effect) : Type 0 where
  pub none : (other : Pair) (its : ℕ) → WasPerformed other its happened → ⊥
  pub accepts : number_to_accept (after_effects happened past) ≡ Some (next_number number)
  pub performs : number_to_perform (after_effects happened past) ≡ Some number

none_begun : (begun : Option BegunReset) (other : Pair) (its : ℕ) → WasPerformed other its (begun_effects begun) → ⊥
none_begun None other its (inl has) = has
none_begun None other its (inr has) = has
none_begun (Some begun) other its (inl (inl is)) = absurd (cc)
none_begun (Some begun) other its (inl (inr has)) = has
none_begun (Some begun) other its (inr (inl is)) = absurd (cc)
none_begun (Some begun) other its (inr (inr has)) = has

begun_accepts : (begun : Option BegunReset) (past : List Effect) → number_to_accept (after_effects (begun_effects begun) past) ≡ number_to_accept past
begun_accepts None past = refl
begun_accepts (Some begun) past = refl

begun_performs : (begun : Option BegunReset) (past : List Effect) → number_to_perform (after_effects (begun_effects begun) past) ≡ number_to_perform past
begun_performs None past = refl
begun_performs (Some begun) past = refl

-- no other is, with another effect in front
none_behind : (effect : Effect) (rest : List Effect) (other : Pair) (its : ℕ) → (effects.performs other its ≡ effect → ⊥) → (effects.renews other its ≡ effect → ⊥) → WasPerformed other its (effect ∷ rest) → WasPerformed other its rest
none_behind effect rest other its one two (inl (inl is)) = absurd (one is)
none_behind effect rest other its one two (inl (inr has)) = inl has
none_behind effect rest other its one two (inr (inl is)) = absurd (two is)
none_behind effect rest other its one two (inr (inr has)) = inr has

performs_alone : (begun : Option BegunReset) (peer other : Pair) (number its : ℕ) → WasPerformed other its (effects.performs peer number ∷ begun_effects begun) → (other ≡ peer) × (its ≡ number)
performs_alone begun peer other number its (inl (inl is)) = (cc, cc)
performs_alone begun peer other number its (inl (inr has)) = absurd (none_begun begun other its (inl has))
performs_alone begun peer other number its (inr (inl is)) = absurd (cc)
performs_alone begun peer other number its (inr (inr has)) = absurd (none_begun begun other its (inr has))

renews_alone : (begun : Option BegunReset) (peer other : Pair) (number its : ℕ) → WasPerformed other its (effects.renews peer number ∷ begun_effects begun) → (other ≡ peer) × (its ≡ number)
renews_alone begun peer other number its (inl (inl is)) = absurd (cc)
renews_alone begun peer other number its (inl (inr has)) = absurd (none_begun begun other its (inl has))
renews_alone begun peer other number its (inr (inl is)) = (cc, cc)
renews_alone begun peer other number its (inr (inr has)) = absurd (none_begun begun other its (inr has))

again_performs : (past : List Effect) (begun : Option BegunReset) (peer : Pair) (number : ℕ) → number_to_accept past ≡ Some (next_number number) → PerformsOne past peer number (effects.performs peer number ∷ begun_effects begun)
again_performs past begun peer number accepts =
    record {
      alone = λ other its has. performs_alone begun peer other number its has;
      has = inl (inl refl);
      accepts = begun_accepts begun (effects.performs peer number ∷ past) ∙ accepts;
      performs = begun_performs begun (effects.performs peer number ∷ past);
    }

next_performs : (past : List Effect) (begun : Option BegunReset) (peer : Pair) (number : ℕ) → PerformsOne past peer number (effects.accepts number ∷ effects.performs peer number ∷ begun_effects begun)
next_performs past begun peer number =
    record {
      alone = λ other its has. performs_alone begun peer other number its
          (none_behind (effects.accepts number) (effects.performs peer number ∷ begun_effects begun) other its (λ is. absurd (cc)) (λ is. absurd (cc)) has);
      has = inl (inr (inl refl));
      accepts = begun_accepts begun (effects.performs peer number ∷ effects.accepts number ∷ past);
      performs = begun_performs begun (effects.performs peer number ∷ effects.accepts number ∷ past);
    }

next_renews : (past : List Effect) (begun : Option BegunReset) (peer : Pair) (number : ℕ) → PerformsOne past peer number (effects.accepts number ∷ effects.renews peer number ∷ begun_effects begun)
next_renews past begun peer number =
    record {
      alone = λ other its has. renews_alone begun peer other number its
          (none_behind (effects.accepts number) (effects.renews peer number ∷ begun_effects begun) other its (λ is. absurd (cc)) (λ is. absurd (cc)) has);
      has = inr (inr (inl refl));
      accepts = begun_accepts begun (effects.renews peer number ∷ effects.accepts number ∷ past);
      performs = begun_performs begun (effects.renews peer number ∷ effects.accepts number ∷ past);
    }

again_defers : (past : List Effect) (begun : Option BegunReset) (number : ℕ) → number_to_accept past ≡ Some (next_number number) → number_to_perform past ≡ Some number → DefersOne past number (begun_effects begun)
again_defers past begun number accepts performs =
    record { none = λ other its has. none_begun begun other its has; accepts = begun_accepts begun past ∙ accepts; performs = begun_performs begun past ∙ performs }

next_defers : (past : List Effect) (begun : Option BegunReset) (number : ℕ) → DefersOne past number (effects.accepts number ∷ begun_effects begun)
next_defers past begun number =
    record {
      none = λ other its has. none_begun begun other its (none_behind (effects.accepts number) (begun_effects begun) other its (λ is. absurd (cc)) (λ is. absurd (cc)) has);
      accepts = begun_accepts begun (effects.accepts number ∷ past);
      performs = begun_performs begun (effects.accepts number ∷ past);
    }

-- ---- what waits after it

entered_waits : (reset : RequestedReset) (old new : Option DeferralModel) → SameWaits (begun_deferral reset.last_tsn reset.streams old) new → (left : DeferralModel) × (new ≡ Some left) × WaitsFor reset old left
entered_waits reset None new waits = (waits.0, waits.1, inl waits.2)
entered_waits reset (Some before) new waits = (waits.0, waits.1, inr (before, refl, waits.2))

-- ---- the request

-- what the one parameter makes of the numbers
abbrev worked_one : ℕ → RequestOutcome → HandledParameters
worked_one number first = record { held = first.held; effects = first.effects ++ []; answers = reconfiguration_response number first.result ∷ []; is_refused = false }

module _ (past : List Effect) (my : Pair) (held : Held) (knows : KnowsPeer past held) (number : ℕ) (reset : RequestedReset) (transfer : Transfer) (e : Endpoint) (input : Input) (came : content_of_input input ≡ Some (reset_request number reset)) (o : Outcome) where
  -- whatever is left
  abbrev Turns : Type 0
  Turns = (left : Transfer) → o.after.queues.transfer ≡ Some left → PeerTurns (identity_of my held) past e input o transfer.reassembly.deferral left.reassembly.deferral

  -- It was answered before, or isn't the next one.
  quiet : (left : Option Transfer) (begun : Option BegunReset) → left ≡ Some transfer → o.effects ≡ begun_effects begun → StillWaits left o.after.queues.transfer → Turns
  quiet left begun same is waits =
      λ after at. asks_nothing (subst NoneAsked (sym is) (begun_unasked begun)) (subst (λ (l : Option Transfer). StillWaits l o.after.queues.transfer) same waits after at)

  -- It is performed.
  performed : (happened : List Effect) (left : Option Transfer) → IsDue past number → PerformsOne past held.peer number happened → o.effects ≡ happened
      → ResetsInQueues true false (Some reset) (Some transfer) left → StillWaits left o.after.queues.transfer → Turns
  performed happened left at_turn performs is below waits = λ after at.
      let all : PerformsOne past held.peer number o.effects = subst (PerformsOne past held.peer number) (sym is) performs in
      let kept : SameWaits below.0.reassembly.deferral after.reassembly.deferral = subst (λ (l : Option Transfer). StillWaits l o.after.queues.transfer) below.1 waits after at in
      performs_it number reset came at_turn all.alone all.has all.accepts all.performs
      (subst (λ (d : Option DeferralModel). SameWaits d after.reassembly.deferral) below.2.reassembly.deferral kept)

  -- It is in progress.
  deferred : (happened : List Effect) (left : Option Transfer) → IsDue past number → DefersOne past number happened → o.effects ≡ happened
      → left ≡ Some (defers_reset reset transfer) → StillWaits left o.after.queues.transfer → Turns
  deferred happened left at_turn defers is below waits = λ after at.
      let all : DefersOne past number o.effects = subst (DefersOne past number) (sym is) defers in
      let found = entered_waits reset transfer.reassembly.deferral after.reassembly.deferral (subst (λ (l : Option Transfer). StillWaits l o.after.queues.transfer) below waits after at) in
      defers_it number reset came at_turn all.none all.accepts all.performs found.0 found.1 found.2

  -- by what is made of its number
  abbrev Made : RequestOutcome → Type 0
  Made first = (left : Option Transfer) (begun : Option BegunReset) → ResetsInQueues (has_reset (worked_one number first).effects) (answers_in_progress (worked_one number first).answers) (Some reset) (Some transfer) left
      → o.effects ≡ (worked_one number first).effects ++ begun_effects begun → StillWaits left o.after.queues.transfer → Turns

  same_number : held.peer_last ≡ number → number_to_accept past ≡ Some (next_number number)
  same_number same = subst (λ (n : ℕ). number_to_accept past ≡ Some (next_number n)) same knows.accepts

  again_works : (reached : Bool) → number ≡ held.peer_last → held.peer_result ≡ InProgress → Made (performed_request held held.peer_last reached)
  again_works true same result left begun below is waits =
      performed (effects.performs held.peer held.peer_last ∷ begun_effects begun) left (inr (knows.performs result ∙ ap (λ (n : ℕ). Some n) (sym same)))
      (subst (λ (n : ℕ). PerformsOne past held.peer n (effects.performs held.peer held.peer_last ∷ begun_effects begun)) (sym same) (again_performs past begun held.peer held.peer_last knows.accepts)) is below waits
  again_works false same result left begun below is waits =
      let performs : number_to_perform past ≡ Some number = knows.performs result ∙ ap (λ (n : ℕ). Some n) (sym same) in
      deferred (begun_effects begun) left (inr performs) (again_defers past begun number (same_number (sym same)) performs) is below waits

  repeated_works : (result : ReconfigurationResponseResult) (reached : Bool) → number ≡ held.peer_last → held.peer_result ≡ result → Made (repeated_request_outcome held result reached)
  repeated_works InProgress reached same was left begun below is waits = again_works reached same was left begun below is waits
  repeated_works SuccessNothingToDo reached same was left begun below is waits = quiet left begun below is waits
  repeated_works SuccessPerformed reached same was left begun below is waits = quiet left begun below is waits
  repeated_works Denied reached same was left begun below is waits = quiet left begun below is waits
  repeated_works ErrorWrongSSN reached same was left begun below is waits = quiet left begun below is waits
  repeated_works ErrorRequestAlreadyInProgress reached same was left begun below is waits = quiet left begun below is waits
  repeated_works ErrorBadSequenceNumber reached same was left begun below is waits = quiet left begun below is waits

  next_due : number ≡ next_number held.peer_last → IsDue past number
  next_due same = inl (knows.accepts ∙ ap (λ (n : ℕ). Some n) (sym same))

  outgoing_works : (place : RequestPlace) (state : RequestState) → Placed place held.peer_last number → Made (outgoing_by_place held number state place)
  outgoing_works again state same left begun below is waits = repeated_works held.peer_result (is_due state) same refl left begun below is waits
  outgoing_works next due same left begun below is waits =
      performed (effects.accepts number ∷ effects.performs held.peer number ∷ begun_effects begun) left (next_due same) (next_performs past begun held.peer number) is below waits
  outgoing_works next renewed same left begun below is waits =
      performed (effects.accepts number ∷ effects.renews held.peer number ∷ begun_effects begun) left (next_due same) (next_renews past begun held.peer number) is below waits
  outgoing_works next early same left begun below is waits = deferred (effects.accepts number ∷ begun_effects begun) left (next_due same) (next_defers past begun number) is below waits
  outgoing_works astray state same left begun below is waits = quiet left begun below is waits

  pub request_turns : e.queues.transfer ≡ Some transfer → HandlesResets e my held (outgoing_reset_request number (number_answered number reset.is_new) reset ∷ []) o → Turns
  request_turns known turn =
      let works = works_of e my held (outgoing_reset_request number (number_answered number reset.is_new) reset ∷ []) o turn in
      let state : RequestState = request_state e held (outgoing_reset_request number (number_answered number reset.is_new) reset ∷ []) in
      let place : RequestPlace = request_place held.peer_last number in
      let w : HandledParameters = worked_one number (outgoing_by_place held number state place) in
      outgoing_works place state (placed held.peer_last number) works.left works.begun
      (subst (λ (t : Option Transfer). ResetsInQueues (has_reset w.effects) (answers_in_progress w.answers) (Some reset) t works.left) known works.below) works.is works.waits
