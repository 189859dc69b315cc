-- The turn of a RE-CONFIG, as what it does with the peer's requests to reset streams (RFC 6525,
-- section 5.2.2).
use Rattle.dcsctp_spec_lemmas.specs.spec.association.Effect as effects
use Rattle.std.proofs.Common.{◌≡◌, inl, ℕ, Bool, true, false, cond, Option, None, Some, List, [], ◌∷◌, ◌++◌, refl, sym, ◌∙◌, subst, ap}
use Rattle.dcsctp_spec_lemmas.specs.wire.declared.reconfiguration.ReconfigurationResponseResult.{ReconfigurationResponseResult}
use Rattle.dcsctp_spec_lemmas.specs.wire.declared.reconfiguration.ReconfigurationResponseResult.TheVariants.{SuccessNothingToDo, SuccessPerformed, Denied, ErrorWrongSSN, ErrorRequestAlreadyInProgress, ErrorBadSequenceNumber, InProgress}
use Rattle.dcsctp_spec_lemmas.specs.types.declared.association.Held.{Held}
use Rattle.dcsctp_spec_lemmas.specs.types.declared.association.Pair.{Pair}
use Rattle.dcsctp_spec_lemmas.specs.spec.endpoint.Endpoint.{Endpoint}
use Rattle.dcsctp_spec_lemmas.specs.spec.endpoint.Event.{Event}
use Rattle.dcsctp_spec_lemmas.specs.spec.endpoint.Outcome.{Outcome, quiet, sends, fits, answers_with, to_peer}
use Rattle.dcsctp_spec_lemmas.specs.spec.Packet.{Emission, re_config}
use Rattle.dcsctp_spec_lemmas.specs.spec.Reconfiguration.{RequestState, RequestedReset, ResetParameter, outgoing_reset_request, incoming_reset_request, reconfiguration_response, other_reset_parameter}
use Rattle.dcsctp_spec_lemmas.specs.spec.association.Effect.{Effect}
use Rattle.dcsctp_spec_lemmas.specs.spec.association.ResetChanges.{result_if_outstanding, is_outstanding, HandledParameters, parameters_outcome, reset_chunk_outcome}
use Rattle.dcsctp_spec_lemmas.specs.spec.queues.Transfer.{Transfer}
use Rattle.dcsctp_spec_lemmas.specs.spec.endpoint.BegunResets.{BegunReset, begun_effects}
use Rattle.dcsctp_spec_lemmas.specs.spec.endpoint.FlushOutcomes.{Answer, draft_to, flush_of, first_ask, packets_allowed}
use Rattle.dcsctp_spec_lemmas.specs.spec.endpoint.ResetOutcomes.{first_reset_request, request_state, renewable_after, renewable_left, handled_parameters_of, has_reset, answers_in_progress, ResetsInQueues, defers_reset, answer_to_own, resets_handled, reset_events_of, responses_outcome, responses_unless_refused, ResponseAnswers, HandlesResets}
use Rattle.dcsctp_spec_lemmas.proofs.FlushKeeps.{begun_by, flush_keeps}
use Rattle.dcsctp_spec_lemmas.proofs.OneAnswerLemmas.{answered_by}
use Rattle.dcsctp_delivery_directions.specs.sending.Flushes.{NoRequests}
use Rattle.dcsctp_delivery_sockets.specs.turns.PeerRequests.{NoneAsked}
use Rattle.dcsctp_delivery_sockets.proofs.turns.Received.{Left, alike, flush_left}
use Rattle.dcsctp_delivery_sockets.proofs.turns.Waiting.{flush_renewable, unasked_append, begun_unasked, StillWaits, all_wait, wait_then, AsksNothing, emitted, flushed}

-- ---- what comes after its effects

-- A flush may begin a request of ours.
sent_behind : (refused : Bool) (e : Endpoint) (told : List (Event Emission)) (held : Held) (parameters responses : List ResetParameter) (answers : List Answer) → ResponseAnswers refused e held responses answers
    → (begun : Option BegunReset) × ((responses_unless_refused refused e told held parameters responses answers).effects ≡ begun_effects begun)
sent_behind true e told held parameters responses answers allowed = (None, refl)
sent_behind false e told held parameters responses answers allowed =
    let base : Endpoint = (responses_outcome e held responses).after in
    (begun_by answers, (flush_keeps first_ask (packets_allowed base.options.max_burst base.core) base (draft_to held) answers allowed).effects)

answered_waits : (e : Endpoint) (held : Held) (responses : List ResetParameter) → StillWaits e.queues.transfer (responses_outcome e held responses).after.queues.transfer
answered_waits e held [] = all_wait e.queues.transfer
answered_waits e held (response ∷ responses) =
    let emission : Emission = to_peer held (re_config (response ∷ responses)) in
    answered_by (λ (o : Outcome). StillWaits e.queues.transfer o.after.queues.transfer) e emission (all_wait e.queues.transfer) (emitted e [] emission).waits

sent_waits : (refused : Bool) (e : Endpoint) (told : List (Event Emission)) (held : Held) (parameters responses : List ResetParameter) (answers : List Answer) → ResponseAnswers refused e held responses answers
    → StillWaits e.queues.transfer (responses_unless_refused refused e told held parameters responses answers).after.queues.transfer
sent_waits true e told held parameters responses answers allowed = all_wait e.queues.transfer
sent_waits false e told held parameters responses answers allowed =
    let base : Endpoint = (responses_outcome e held responses).after in
    wait_then e.queues.transfer base.queues.transfer (flush_of base (draft_to held) answers).after.queues.transfer (answered_waits e held responses) (flushed base (draft_to held) answers allowed).waits

-- Nothing of it changes what is renewable.
sent_renewable : (refused : Bool) (e : Endpoint) (told : List (Event Emission)) (held : Held) (parameters responses : List ResetParameter) (answers : List Answer) → ResponseAnswers refused e held responses answers
    → (responses_unless_refused refused e told held parameters responses answers).after.renewable ≡ e.renewable
sent_renewable true e told held parameters responses answers allowed = refl
sent_renewable false e told held parameters responses answers allowed =
    let base : Endpoint = (responses_outcome e held responses).after in
    flush_renewable first_ask (packets_allowed base.options.max_burst base.core) base (draft_to held) answers allowed ∙ answered_renewable e held responses
  where
    packet_renewable : (b : Bool) (x : Endpoint) (emission : Emission) → (cond b (sends x [] [] emission) (quiet x [] [])).after.renewable ≡ x.renewable
    packet_renewable true x emission = refl
    packet_renewable false x emission = refl

    answered_renewable : (x : Endpoint) (held : Held) (responses : List ResetParameter) → (responses_outcome x held responses).after.renewable ≡ x.renewable
    answered_renewable x held [] = refl
    answered_renewable x held (response ∷ responses) =
        let emission : Emission = to_peer held (re_config (response ∷ responses)) in
        answered_by (λ (o : Outcome). o.after.renewable ≡ x.renewable) x emission refl (packet_renewable (fits x emission) x emission)

pub works_renewable : (e : Endpoint) (my : Pair) (held : Held) (parameters : List ResetParameter) (o : Outcome) → HandlesResets e my held parameters o
    → o.after.renewable ≡ renewable_left e held (handled_parameters_of e my held parameters) parameters
works_renewable e my held parameters o turn =
    let w : HandledParameters = handled_parameters_of e my held parameters in
    let base : Endpoint = resets_handled e (answer_to_own held w parameters) w.held turn.left (renewable_left e held w parameters) in
    ap (λ (x : Outcome). x.after.renewable) turn.is ∙ sent_renewable w.is_refused base (reset_events_of e parameters w.effects) w.held parameters w.answers turn.answers turn.allowed

-- What it leaves: effects with these in front, and what waits from here on.
pub record Works (e : Endpoint) (w : HandledParameters) (reset : Option RequestedReset) (o : Outcome) : Type 0 where
  pub left : Option Transfer
  pub below : ResetsInQueues (has_reset w.effects) (answers_in_progress w.answers) reset e.queues.transfer left
  pub begun : Option BegunReset
  pub is : o.effects ≡ w.effects ++ begun_effects begun
  pub waits : StillWaits left o.after.queues.transfer

pub works_of : (e : Endpoint) (my : Pair) (held : Held) (parameters : List ResetParameter) (o : Outcome) → HandlesResets e my held parameters o → Works e (handled_parameters_of e my held parameters) (first_reset_request parameters) o
works_of e my held parameters o turn =
    let w : HandledParameters = handled_parameters_of e my held parameters in
    let base : Endpoint = resets_handled e (answer_to_own held w parameters) w.held turn.left (renewable_left e held w parameters) in
    let told : List (Event Emission) = reset_events_of e parameters w.effects in
    let behind = sent_behind w.is_refused base told w.held parameters w.answers turn.answers turn.allowed in
    subst (Works e w (first_reset_request parameters)) (sym turn.is)
    (record {
      left = turn.left;
      below = turn.below;
      begun = behind.0;
      is = ap (λ (es : List Effect). w.effects ++ es) behind.1;
      waits = sent_waits w.is_refused base told w.held parameters w.answers turn.answers turn.allowed;
    })

-- ---- without a request

informed_unasked : (my : Pair) (held : Held) (number : ℕ) (result : ReconfigurationResponseResult) (b : Bool) → NoneAsked (result_if_outstanding my held number result b).effects
informed_unasked my held number result false = tt
informed_unasked my held number SuccessNothingToDo true = tt
informed_unasked my held number SuccessPerformed true = tt
informed_unasked my held number Denied true = tt
informed_unasked my held number ErrorWrongSSN true = tt
informed_unasked my held number ErrorRequestAlreadyInProgress true = tt
informed_unasked my held number ErrorBadSequenceNumber true = tt
informed_unasked my held number InProgress true = tt

parameters_unasked : (my : Pair) (state : RequestState) (has_worked : Bool) (held : Held) (parameters : List ResetParameter) → NoRequests parameters → NoneAsked (parameters_outcome my state has_worked held parameters).effects
parameters_unasked my state has_worked held [] none = tt
parameters_unasked my state has_worked held (outgoing_reset_request number answered reset ∷ parameters) none = absurd none
parameters_unasked my state has_worked held (incoming_reset_request number streams ∷ parameters) none = absurd none
parameters_unasked my state has_worked held (reconfiguration_response number result ∷ parameters) none =
    let first = result_if_outstanding my held number result (is_outstanding number held.own_outstanding) in
    unasked_append first.effects (parameters_outcome my state has_worked first.held parameters).effects (informed_unasked my held number result (is_outstanding number held.own_outstanding))
    (parameters_unasked my state has_worked first.held parameters none)
parameters_unasked my state has_worked held (other_reset_parameter parameter ∷ parameters) none = parameters_unasked my state has_worked held parameters none

chunk_unasked : (my : Pair) (state : RequestState) (held : Held) (parameters : List ResetParameter) → NoRequests parameters → NoneAsked (reset_chunk_outcome my state held parameters).effects
chunk_unasked my state held [] none = tt
chunk_unasked my state held (parameter ∷ parameters) none = parameters_unasked my state false held (parameter ∷ parameters) none

pub none_requested : (parameters : List ResetParameter) → NoRequests parameters → first_reset_request parameters ≡ None
none_requested [] none = refl
none_requested (outgoing_reset_request number answered reset ∷ parameters) none = absurd none
none_requested (incoming_reset_request number streams ∷ parameters) none = absurd none
none_requested (reconfiguration_response number result ∷ parameters) none = none_requested parameters none
none_requested (other_reset_parameter parameter ∷ parameters) none = none_requested parameters none

none_below : (performed in_progress : Bool) (old new : Option Transfer) → ResetsInQueues performed in_progress None old new → new ≡ old
none_below true in_progress old new below = below
none_below false true old new below = below
none_below false false old new below = below

-- Without a request none is performed.
unasked_reset : (happened : List Effect) → NoneAsked happened → has_reset happened ≡ false
unasked_reset [] none = refl
unasked_reset (effects.performs peer number ∷ happened) none = absurd none
unasked_reset (effects.renews peer number ∷ happened) none = absurd none
unasked_reset (effects.accepts number ∷ happened) none = absurd none
unasked_reset (effects.resumes link own last ∷ happened) none = absurd none
unasked_reset (effect ∷ happened) none = unasked_reset happened none

pub answers_ask : (e : Endpoint) (my : Pair) (held : Held) (parameters : List ResetParameter) (o : Outcome) → NoRequests parameters → HandlesResets e my held parameters o → AsksNothing e.queues.transfer e.renewable o
answers_ask e my held parameters o none turn =
    let w : HandledParameters = handled_parameters_of e my held parameters in
    let works = works_of e my held parameters o turn in
    let same : works.left ≡ e.queues.transfer =
    none_below (has_reset w.effects) (answers_in_progress w.answers) e.queues.transfer works.left
    (subst (λ (r : Option RequestedReset). ResetsInQueues (has_reset w.effects) (answers_in_progress w.answers) r e.queues.transfer works.left) (none_requested parameters none) works.below) in
    let unasked : NoneAsked w.effects = chunk_unasked my (request_state e held parameters) held parameters none in
    record {
      none = subst NoneAsked (sym works.is) (unasked_append w.effects (begun_effects works.begun) unasked (begun_unasked works.begun));
      waits = subst (λ (l : Option Transfer). StillWaits l o.after.queues.transfer) same works.waits;
      renews = inl (works_renewable e my held parameters o turn ∙ ap (renewable_after e held.peer_last parameters) (unasked_reset w.effects unasked));
    }

-- ---- where an association ends

-- Whatever is asked, there is still something below.
below_some : (performed in_progress : Bool) (reset : Option RequestedReset) (old : Transfer) (new : Option Transfer) → ResetsInQueues performed in_progress reset (Some old) new → (left : Transfer) × (new ≡ Some left)
below_some true in_progress (Some reset) old new below = (below.0, below.1)
below_some true in_progress None old new below = (old, below)
below_some false true (Some reset) old new below = (defers_reset reset old, below)
below_some false true None old new below = (old, below)
below_some false false (Some reset) old new below = (old, below)
below_some false false None old new below = (old, below)

-- What is sent leaves it.
sent_left : (refused : Bool) (e : Endpoint) (told : List (Event Emission)) (held : Held) (parameters responses : List ResetParameter) (answers : List Answer) (transfer : Transfer) → e.queues.transfer ≡ Some transfer
    → ResponseAnswers refused e held responses answers → Left transfer (responses_unless_refused refused e told held parameters responses answers).after.queues.transfer
sent_left true e told held parameters responses answers transfer known allowed = record { left = transfer; is = known; same = alike transfer }
sent_left false e told held parameters [] answers transfer known allowed = flush_left first_ask (packets_allowed e.options.max_burst e.core) e (draft_to held) answers transfer known allowed
sent_left false e told held parameters (response ∷ responses) answers transfer known allowed =
    let base : Endpoint = (responses_outcome e held (response ∷ responses)).after in
    flush_left first_ask (packets_allowed base.options.max_burst base.core) base (draft_to held) answers transfer (answer_transfer ∙ known) allowed
  where
    emission : Emission
    emission = to_peer held (re_config (response ∷ responses))

    emits_transfer : (b : Bool) (x : Endpoint) (said : Emission) → (cond b (sends x [] [] said) (quiet x [] [])).after.queues.transfer ≡ x.queues.transfer
    emits_transfer true x said = refl
    emits_transfer false x said = refl

    answer_transfer : (answers_with e emission).after.queues.transfer ≡ e.queues.transfer
    answer_transfer =
        answered_by (λ (o : Outcome). o.after.queues.transfer ≡ e.queues.transfer) e emission refl (emits_transfer (fits e emission) e emission)

-- So no association ends by a RE-CONFIG.
pub none_ends : (e : Endpoint) (my : Pair) (held : Held) (parameters : List ResetParameter) (o : Outcome) (transfer : Transfer) → e.queues.transfer ≡ Some transfer → HandlesResets e my held parameters o
    → o.after.queues.transfer ≡ None → ⊥
none_ends e my held parameters o transfer known turn none =
    let w : HandledParameters = handled_parameters_of e my held parameters in
    let base : Endpoint = resets_handled e (answer_to_own held w parameters) w.held turn.left (renewable_left e held w parameters) in
    let found = below_some (has_reset w.effects) (answers_in_progress w.answers) (first_reset_request parameters) transfer turn.left
    (subst (λ (t : Option Transfer). ResetsInQueues (has_reset w.effects) (answers_in_progress w.answers) (first_reset_request parameters) t turn.left) known turn.below) in
    let kept = sent_left w.is_refused base (reset_events_of e parameters w.effects) w.held parameters w.answers turn.answers found.0 found.1 turn.allowed in
    let is : o.after.queues.transfer ≡ Some kept.left = ap (λ (x : Outcome). x.after.queues.transfer) turn.is ∙ kept.is in
    absurd (cc)
