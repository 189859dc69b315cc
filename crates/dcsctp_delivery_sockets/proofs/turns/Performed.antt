-- What the effects of a RE-CONFIG say, and how it is answered (RFC 6525, section 5.2).
use Rattle.dcsctp_spec_lemmas.specs.spec.association.Effect as effects
use Rattle.std.proofs.Common.{◌≡◌, ◌⊎◌, inl, inr, ℕ, Bool, true, false, Option, None, Some, List, [], ◌∷◌, ◌++◌, refl, sym, ◌∙◌}
use Rattle.dcsctp_spec_lemmas.specs.wire.declared.reconfiguration.ReconfigurationResponseResult.{ReconfigurationResponseResult}
use Rattle.dcsctp_spec_lemmas.specs.wire.declared.reconfiguration.ReconfigurationResponseResult.TheVariants.{SuccessNothingToDo, SuccessPerformed, Denied, ErrorWrongSSN, ErrorRequestAlreadyInProgress, ErrorBadSequenceNumber, InProgress}
use Rattle.dcsctp_spec_lemmas.specs.types.declared.association.Pair.{Pair}
use Rattle.dcsctp_spec_lemmas.specs.types.declared.association.Held.{Held}
use Rattle.dcsctp_spec_lemmas.specs.spec.Reconfiguration.{RequestState, early, due, renewed, RequestedReset, ResetParameter, outgoing_reset_request, incoming_reset_request, reconfiguration_response, other_reset_parameter}
use Rattle.dcsctp_spec_lemmas.specs.spec.association.Effect.{Effect}
use Rattle.dcsctp_spec_lemmas.specs.spec.association.ResetChanges.{RequestPlace, again, next, astray, request_place, performed_request, repeated_request_outcome, next_request, is_due, outgoing_by_place, incoming_by_place, result_if_outstanding, is_outstanding, parameters_outcome, reset_chunk_outcome}
use Rattle.dcsctp_spec_lemmas.specs.spec.endpoint.BegunResets.{BegunReset, begun_effects}
use Rattle.dcsctp_spec_lemmas.specs.spec.endpoint.ResetOutcomes.{first_reset_request, OwnAnswer, unanswered, retried, was_performed, has_failed, own_answer, has_completed, has_reset}
use Rattle.dcsctp_delivery_directions.specs.sending.Flushes.{NoRequests}
use Rattle.dcsctp_delivery_sockets.specs.turns.Actions.{has_refused}

-- ---- effects one after another

-- a reset of ours that is performed is one of the turn's effects
pub completed_among : (happened later : List Effect) → has_completed happened ≡ true → has_completed (happened ++ later) ≡ true
completed_among [] later is = absurd (cc)
completed_among (effects.completes my number ∷ happened) later is = refl
completed_among (effect ∷ happened) later is = completed_among happened later is

pub refused_among : (happened later : List Effect) → has_refused happened ≡ true → has_refused (happened ++ later) ≡ true
refused_among [] later is = absurd (cc)
refused_among (effects.fails number ∷ happened) later is = refl
refused_among (effect ∷ happened) later is = refused_among happened later is

completed_behind : (happened later : List Effect) → has_completed later ≡ true → has_completed (happened ++ later) ≡ true
completed_behind [] later is = is
completed_behind (effects.completes my number ∷ happened) later is = refl
completed_behind (effect ∷ happened) later is = completed_behind happened later is

refused_behind : (happened later : List Effect) → has_refused later ≡ true → has_refused (happened ++ later) ≡ true
refused_behind [] later is = is
refused_behind (effects.fails number ∷ happened) later is = refl
refused_behind (effect ∷ happened) later is = refused_behind happened later is

-- Where no streams are reset in the second part, they are in the whole if they are in the first.
pub reset_in_front : (happened later : List Effect) → has_reset later ≡ false → has_reset (happened ++ later) ≡ has_reset happened
reset_in_front [] later none = none
reset_in_front (effects.performs peer number ∷ happened) later none = refl
reset_in_front (effects.renews peer number ∷ happened) later none = refl
reset_in_front (effect ∷ happened) later none = reset_in_front happened later none

-- and the other way around
reset_behind : (happened later : List Effect) → has_reset happened ≡ false → has_reset (happened ++ later) ≡ has_reset later
reset_behind [] later none = refl
reset_behind (effects.performs peer number ∷ happened) later none = absurd (cc)
reset_behind (effects.renews peer number ∷ happened) later none = absurd (cc)
reset_behind (effect ∷ happened) later none = reset_behind happened later none

reset_in : (happened later : List Effect) → has_reset (happened ++ later) ≡ true → (has_reset happened ≡ true) ⊎ (has_reset later ≡ true)
reset_in [] later is = inr is
reset_in (effects.performs peer number ∷ happened) later is = inl refl
reset_in (effects.renews peer number ∷ happened) later is = inl refl
reset_in (effect ∷ happened) later is = reset_in happened later is

-- A flush resets none of the peer's.
pub begun_none : (begun : Option BegunReset) → has_reset (begun_effects begun) ≡ false
begun_none None = refl
begun_none (Some begun) = refl

-- ---- what is performed

worked_none : (held : Held) (number : ℕ) (reached : Bool) → has_reset (performed_request held number reached).effects ≡ true → reached ≡ true
worked_none held number true is = refl
worked_none held number false is = absurd (cc)

repeated_reached : (held : Held) (result : ReconfigurationResponseResult) (reached : Bool) → has_reset (repeated_request_outcome held result reached).effects ≡ true → reached ≡ true
repeated_reached held InProgress reached is = worked_none held held.peer_last reached is
repeated_reached held SuccessNothingToDo reached is = absurd (cc)
repeated_reached held SuccessPerformed reached is = absurd (cc)
repeated_reached held Denied reached is = absurd (cc)
repeated_reached held ErrorWrongSSN reached is = absurd (cc)
repeated_reached held ErrorRequestAlreadyInProgress reached is = absurd (cc)
repeated_reached held ErrorBadSequenceNumber reached is = absurd (cc)

next_reached : (held : Held) (number : ℕ) (state : RequestState) → has_reset (next_request held number state).effects ≡ true → is_due state ≡ true
next_reached held number early is = absurd (cc)
next_reached held number due is = refl
next_reached held number renewed is = refl

outgoing_reached : (held : Held) (number : ℕ) (state : RequestState) (place : RequestPlace) → has_reset (outgoing_by_place held number state place).effects ≡ true → is_due state ≡ true
outgoing_reached held number state again is = repeated_reached held held.peer_result (is_due state) is
outgoing_reached held number state next is = next_reached held number state is
outgoing_reached held number state astray is = absurd (cc)

incoming_none : (held : Held) (number : ℕ) (place : RequestPlace) → has_reset (incoming_by_place held number place).effects ≡ false
incoming_none held number again = refl
incoming_none held number next = refl
incoming_none held number astray = refl

informed_none : (my : Pair) (held : Held) (number : ℕ) (result : ReconfigurationResponseResult) (b : Bool) → has_reset (result_if_outstanding my held number result b).effects ≡ false
informed_none my held number result false = refl
informed_none my held number SuccessNothingToDo true = refl
informed_none my held number SuccessPerformed true = refl
informed_none my held number Denied true = refl
informed_none my held number ErrorWrongSSN true = refl
informed_none my held number ErrorRequestAlreadyInProgress true = refl
informed_none my held number ErrorBadSequenceNumber true = refl
informed_none my held number InProgress true = refl

-- The one request that is handled was state.
pub record Performs (state : RequestState) (has_worked : Bool) (parameters : List ResetParameter) : Type 0 where
  first : has_worked ≡ false
  pub all : is_due state ≡ true
  pub reset : RequestedReset
  pub asked : first_reset_request parameters ≡ Some reset

parameters_perform : (my : Pair) (state : RequestState) (has_worked : Bool) (held : Held) (parameters : List ResetParameter) → has_reset (parameters_outcome my state has_worked held parameters).effects ≡ true
    → Performs state has_worked parameters
parameters_perform my state has_worked held [] is = absurd (cc)
parameters_perform my state true held (outgoing_reset_request number answered reset ∷ parameters) is = absurd (cc)
parameters_perform my state false held (outgoing_reset_request number answered reset ∷ parameters) is =
    let first = outgoing_by_place held number state (request_place held.peer_last number) in
    elim (reset_in first.effects (parameters_outcome my state true first.held parameters).effects is) [
      | inl at ↦ record { first = refl; all = outgoing_reached held number state (request_place held.peer_last number) at; reset = reset; asked = refl }
      | inr later ↦ (let none : true ≡ false = (parameters_perform my state true first.held parameters later).first in absurd (cc))
    ]
parameters_perform my state has_worked held (incoming_reset_request number streams ∷ parameters) is =
    let first = incoming_by_place held number (request_place held.peer_last number) in
    let rest = parameters_outcome my state has_worked first.held parameters in
    let later : Performs state has_worked parameters =
    parameters_perform my state has_worked first.held parameters (sym (reset_behind first.effects rest.effects (incoming_none held number (request_place held.peer_last number))) ∙ is) in
    record { first = later.first; all = later.all; reset = later.reset; asked = later.asked }
parameters_perform my state has_worked held (reconfiguration_response number result ∷ parameters) is =
    let first = result_if_outstanding my held number result (is_outstanding number held.own_outstanding) in
    let rest = parameters_outcome my state has_worked first.held parameters in
    let later : Performs state has_worked parameters =
    parameters_perform my state has_worked first.held parameters
    (sym (reset_behind first.effects rest.effects (informed_none my held number result (is_outstanding number held.own_outstanding))) ∙ is) in
    record { first = later.first; all = later.all; reset = later.reset; asked = later.asked }
parameters_perform my state has_worked held (other_reset_parameter parameter ∷ parameters) is =
    let later : Performs state has_worked parameters = parameters_perform my state has_worked held parameters is in
    record { first = later.first; all = later.all; reset = later.reset; asked = later.asked }

pub chunk_performs : (my : Pair) (state : RequestState) (held : Held) (parameters : List ResetParameter) → has_reset (reset_chunk_outcome my state held parameters).effects ≡ true → Performs state false parameters
chunk_performs my state held [] is = absurd (cc)
chunk_performs my state held (parameter ∷ parameters) is = parameters_perform my state false held (parameter ∷ parameters) is

-- ---- how it is answered

parameters_answer : (my : Pair) (state : RequestState) (has_worked : Bool) (held : Held) (parameters : List ResetParameter) → NoRequests (parameters_outcome my state has_worked held parameters).answers
parameters_answer my state has_worked held [] = tt
parameters_answer my state true held (outgoing_reset_request number answered reset ∷ parameters) = tt
parameters_answer my state false held (outgoing_reset_request number answered reset ∷ parameters) =
    parameters_answer my state true (outgoing_by_place held number state (request_place held.peer_last number)).held parameters
parameters_answer my state has_worked held (incoming_reset_request number streams ∷ parameters) =
    parameters_answer my state has_worked (incoming_by_place held number (request_place held.peer_last number)).held parameters
parameters_answer my state has_worked held (reconfiguration_response number result ∷ parameters) =
    parameters_answer my state has_worked (result_if_outstanding my held number result (is_outstanding number held.own_outstanding)).held parameters
parameters_answer my state has_worked held (other_reset_parameter parameter ∷ parameters) = parameters_answer my state has_worked held parameters

pub chunk_answers : (my : Pair) (state : RequestState) (held : Held) (parameters : List ResetParameter) → NoRequests (reset_chunk_outcome my state held parameters).answers
chunk_answers my state held [] = tt
chunk_answers my state held (parameter ∷ parameters) = parameters_answer my state false held (parameter ∷ parameters)

-- ---- what becomes of our request

-- its number before and after effects: it stays, or one of them is its end
abbrev pub Said : Option ℕ → Option ℕ → List Effect → Type 0
Said before after happened = (after ≡ before) ⊎ ((has_completed happened ≡ true) ⊎ (has_refused happened ≡ true))

said_then : (before between after : Option ℕ) (first rest : List Effect) → Said before between first → Said between after rest → Said before after (first ++ rest)
said_then before between after first rest (inr (inl completed)) later = inr (inl (completed_among first rest completed))
said_then before between after first rest (inr (inr refused)) later = inr (inr (refused_among first rest refused))
said_then before between after first rest (inl same) (inl alike) = inl (alike ∙ same)
said_then before between after first rest (inl same) (inr (inl completed)) = inr (inl (completed_behind first rest completed))
said_then before between after first rest (inl same) (inr (inr refused)) = inr (inr (refused_behind first rest refused))

worked_out : (held : Held) (number : ℕ) (reached : Bool) → (performed_request held number reached).held.own_outstanding ≡ held.own_outstanding
worked_out held number true = refl
worked_out held number false = refl

repeated_out : (held : Held) (result : ReconfigurationResponseResult) (reached : Bool) → (repeated_request_outcome held result reached).held.own_outstanding ≡ held.own_outstanding
repeated_out held SuccessNothingToDo reached = refl
repeated_out held SuccessPerformed reached = refl
repeated_out held Denied reached = refl
repeated_out held ErrorWrongSSN reached = refl
repeated_out held ErrorRequestAlreadyInProgress reached = refl
repeated_out held ErrorBadSequenceNumber reached = refl
repeated_out held InProgress reached = worked_out held held.peer_last reached

pub outgoing_out : (held : Held) (number : ℕ) (state : RequestState) (place : RequestPlace) → (outgoing_by_place held number state place).held.own_outstanding ≡ held.own_outstanding
outgoing_out held number state again = repeated_out held held.peer_result (is_due state)
outgoing_out held number early next = refl
outgoing_out held number due next = refl
outgoing_out held number renewed next = refl
outgoing_out held number state astray = refl

pub incoming_out : (held : Held) (number : ℕ) (place : RequestPlace) → (incoming_by_place held number place).held.own_outstanding ≡ held.own_outstanding
incoming_out held number again = refl
incoming_out held number next = refl
incoming_out held number astray = refl

informed_said : (my : Pair) (held : Held) (number : ℕ) (result : ReconfigurationResponseResult) (b : Bool)
    → Said held.own_outstanding (result_if_outstanding my held number result b).held.own_outstanding (result_if_outstanding my held number result b).effects
informed_said my held number result false = inl refl
informed_said my held number SuccessNothingToDo true = inr (inl refl)
informed_said my held number SuccessPerformed true = inr (inl refl)
informed_said my held number Denied true = inr (inr refl)
informed_said my held number ErrorWrongSSN true = inr (inr refl)
informed_said my held number ErrorRequestAlreadyInProgress true = inr (inr refl)
informed_said my held number ErrorBadSequenceNumber true = inr (inr refl)
informed_said my held number InProgress true = inl refl

parameters_say : (my : Pair) (state : RequestState) (has_worked : Bool) (held : Held) (parameters : List ResetParameter)
    → Said held.own_outstanding (parameters_outcome my state has_worked held parameters).held.own_outstanding (parameters_outcome my state has_worked held parameters).effects
parameters_say my state has_worked held [] = inl refl
parameters_say my state true held (outgoing_reset_request number answered reset ∷ parameters) = inl refl
parameters_say my state false held (outgoing_reset_request number answered reset ∷ parameters) =
    let first = outgoing_by_place held number state (request_place held.peer_last number) in
    said_then held.own_outstanding first.held.own_outstanding _ first.effects _ (inl (outgoing_out held number state (request_place held.peer_last number)))
    (parameters_say my state true first.held parameters)
parameters_say my state has_worked held (incoming_reset_request number streams ∷ parameters) =
    let first = incoming_by_place held number (request_place held.peer_last number) in
    said_then held.own_outstanding first.held.own_outstanding _ first.effects _ (inl (incoming_out held number (request_place held.peer_last number)))
    (parameters_say my state has_worked first.held parameters)
parameters_say my state has_worked held (reconfiguration_response number result ∷ parameters) =
    let first = result_if_outstanding my held number result (is_outstanding number held.own_outstanding) in
    said_then held.own_outstanding first.held.own_outstanding _ first.effects _ (informed_said my held number result (is_outstanding number held.own_outstanding))
    (parameters_say my state has_worked first.held parameters)
parameters_say my state has_worked held (other_reset_parameter parameter ∷ parameters) = parameters_say my state has_worked held parameters

pub chunk_says : (my : Pair) (state : RequestState) (held : Held) (parameters : List ResetParameter)
    → Said held.own_outstanding (reset_chunk_outcome my state held parameters).held.own_outstanding (reset_chunk_outcome my state held parameters).effects
chunk_says my state held [] = inl refl
chunk_says my state held (parameter ∷ parameters) = parameters_say my state false held (parameter ∷ parameters)

-- by its number before and after, and whether it was performed or refused
abbrev pub Stays : OwnAnswer → Option ℕ → Option ℕ → Bool → Bool → Type 0
Stays unanswered before after performed refused = after ≡ before
Stays retried before after performed refused = after ≡ before
Stays was_performed before after performed refused = (after ≡ None) × (performed ≡ true)
Stays has_failed before after performed refused = (after ≡ None) × (refused ≡ true)

pub own_stays : (before after : Option ℕ) (in_progress : Bool) (happened : List Effect) → (after ≡ before) ⊎ (after ≡ None) → Said before after happened
    → Stays (own_answer before after in_progress (has_completed happened)) before after (has_completed happened) (has_refused happened)
own_stays before after in_progress happened same said = go before after in_progress (has_completed happened) (has_refused happened) same said
  where
    go : (before after : Option ℕ) (in_progress performed refused : Bool) → (after ≡ before) ⊎ (after ≡ None) → (after ≡ before) ⊎ ((performed ≡ true) ⊎ (refused ≡ true))
        → Stays (own_answer before after in_progress performed) before after performed refused
    go None after in_progress performed refused (inl same) said = same
    go None after in_progress performed refused (inr none) said = none
    go (Some number) None in_progress true refused same said = (refl, refl)
    go (Some number) None in_progress false refused same (inl alike) = absurd (cc)
    go (Some number) None in_progress false refused same (inr (inl completed)) = absurd (cc)
    go (Some number) None in_progress false refused same (inr (inr is)) = (refl, is)
    go (Some number) (Some other) true performed refused (inl same) said = same
    go (Some number) (Some other) true performed refused (inr none) said = absurd (cc)
    go (Some number) (Some other) false performed refused (inl same) said = same
    go (Some number) (Some other) false performed refused (inr none) said = absurd (cc)
