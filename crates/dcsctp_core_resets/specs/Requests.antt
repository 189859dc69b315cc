-- What the code makes of the peer's requests, as the machine says it (RFC 6525, section 5.2).
use Rattle.std.specs.Prelude.{◌≡◌, ℕ, Bool, true, false, not, ◌||◌, Option, None, Some, List, [], ◌∷◌, ◌++◌, map}
use Rattle.dcsctp_core.specs.wire.declared.parameter.Parameter.{Parameter}
use Rattle.dcsctp_core.specs.wire.declared.reconfiguration.ReconfigurationResponseResult.{ReconfigurationResponseResult}
use Rattle.dcsctp_core.specs.wire.declared.reconfiguration.ReconfigurationResponseResult.TheVariants.{SuccessNothingToDo, SuccessPerformed, Denied, ErrorWrongSSN, ErrorRequestAlreadyInProgress, ErrorBadSequenceNumber, InProgress}
use Rattle.dcsctp_core.specs.wire.Content.{parameter_content}
use Rattle.dcsctp_core.specs.types.declared.association.Pair.{Pair}
use Rattle.dcsctp_core.specs.types.declared.association.Held.{Held}
use Rattle.dcsctp_core.specs.spec.endpoint.Event.{Event, incoming_stream_reset, streams_reset_failed, streams_reset_performed}
use Rattle.dcsctp_core.specs.spec.Packet.{Emission}
use Rattle.dcsctp_core.specs.spec.Reconfiguration.{RequestState, early, due, renewed, ResetParameter, outgoing_reset_request, reconfiguration_response, reset_parameter_content, reset_parameter_of}
use Rattle.dcsctp_core.specs.spec.association.Effect.{Effect, drawn_pairs}
use Rattle.dcsctp_core.specs.spec.association.ResetChanges.{RequestOutcome, with_last, result_of_answer, HandledParameters, parameters_outcome, reset_chunk_outcome}
use Rattle.dcsctp_core.specs.spec.association.ResetChanges as changes
use Rattle.dcsctp_core.specs.spec.endpoint.ResetOutcomes.{has_reset, answers_in_progress, handled_part, own_answer, in_progress_among, reset_events}
use Rattle.dcsctp_core.specs.spec.endpoint.ResetOutcomes as outcomes
use Rattle.dcsctp_core_resets.specs.declared.requests.Place.{Place}
use Rattle.dcsctp_core_resets.specs.declared.requests.Place.TheVariants.{Again, Next, Astray}
use Rattle.dcsctp_core_resets.specs.declared.requests.Treatment.{Treatment}
use Rattle.dcsctp_core_resets.specs.declared.requests.Treatment.TheVariants.{Nothing, Deferred, Performed, Renewed}
use Rattle.dcsctp_core_resets.specs.declared.requests.RequestState as code
use Rattle.dcsctp_core_resets.specs.declared.requests.RequestState.TheVariants as code_states
use Rattle.dcsctp_core_resets.specs.declared.requests.OwnAnswer.{OwnAnswer}
use Rattle.dcsctp_core_resets.specs.declared.requests.OwnAnswer.TheVariants as own
use Rattle.dcsctp_core_resets.specs.declared.requests.LastRequest.{LastRequest}
use Rattle.dcsctp_core_resets.specs.declared.requests.AnsweredRequest.{AnsweredRequest}
use Rattle.dcsctp_core_resets.specs.declared.requests.HandledRequests.{HandledRequests}

-- ---- parameters

abbrev pub parameter_said : Parameter → ResetParameter
parameter_said parameter = reset_parameter_of (parameter_content parameter)

abbrev pub reset_parameters : List Parameter → List ResetParameter
reset_parameters parameters = map reset_parameter_of (map parameter_content parameters)

abbrev pub is_outgoing : ResetParameter → Bool
is_outgoing (outgoing_reset_request number answered reset) = true
is_outgoing parameter = false

-- ---- one request

abbrev pub in_place : Place → changes.RequestPlace
in_place Again = changes.again
in_place Next = changes.next
in_place Astray = changes.astray

abbrev pub in_state : code.RequestState → RequestState
in_state code_states.Early = early
in_state code_states.Due = due
in_state code_states.Renewed = renewed

-- the association with this last request of the peer
abbrev pub held_with : Held → LastRequest → Held
held_with held last = with_last held last.number last.result

-- and with this request of our own
abbrev pub held_out : Option ℕ → Held → Held
held_out outstanding held = record held { own_outstanding = outstanding }

abbrev pub is_performed : Treatment → Bool
is_performed Performed = true
is_performed Renewed = true
is_performed Deferred = false
is_performed Nothing = false

abbrev pub is_treatment_deferred : Treatment → Bool
is_treatment_deferred Performed = false
is_treatment_deferred Renewed = false
is_treatment_deferred Deferred = true
is_treatment_deferred Nothing = false

-- the events for the user, if the peer wants these streams reset
abbrev pub treated_events : Treatment → List ℕ → List (Event Emission)
treated_events Performed theirs = incoming_stream_reset theirs ∷ []
treated_events Renewed theirs = []
treated_events Deferred theirs = []
treated_events Nothing theirs = []

-- That is what these effects and answers come to.
pub record IsTreatment (treatment : Treatment) (effects : List Effect) (answers : List ResetParameter) : Type 0 where
  pub has : has_reset effects ≡ is_performed treatment
  pub waits : answers_in_progress answers ≡ is_treatment_deferred treatment
  pub told : (theirs own : List ℕ) → reset_events theirs own effects ≡ treated_events treatment theirs
  pub drawn : drawn_pairs effects ≡ []

-- An answer of the code is that of the machine, whatever the request's number.
pub record AnswersAs (base : Held) (a : AnsweredRequest) (b : RequestOutcome) : Type 0 where
  pub held : b.held ≡ held_with base a.last
  pub result : b.result ≡ a.result
  pub treats : (number : ℕ) → IsTreatment a.treatment b.effects (reconfiguration_response number a.result ∷ [])

-- ---- our own request

-- the events for the user, if it resets these streams
abbrev pub own_events : OwnAnswer → List ℕ → List (Event Emission)
own_events own.Unanswered streams = []
own_events own.InProgress streams = []
own_events own.Performed streams = streams_reset_performed streams ∷ []
own_events own.Failed streams = streams_reset_failed streams ∷ []

-- the number of the request that is still outstanding
abbrev pub left_out : outcomes.OwnAnswer → Option ℕ → Option ℕ
left_out outcomes.unanswered outstanding = outstanding
left_out outcomes.retried outstanding = outstanding
left_out outcomes.was_performed outstanding = None
left_out outcomes.has_failed outstanding = None

-- what the machine says of it
abbrev pub own_kind : OwnAnswer → outcomes.OwnAnswer
own_kind own.Unanswered = outcomes.unanswered
own_kind own.InProgress = outcomes.retried
own_kind own.Performed = outcomes.was_performed
own_kind own.Failed = outcomes.has_failed

-- were its streams reset?
abbrev pub is_completed : OwnAnswer → Bool
is_completed own.Unanswered = false
is_completed own.InProgress = false
is_completed own.Performed = true
is_completed own.Failed = false

-- What was made of parameters, once our request has ended so. Its event comes first if no outgoing request was handled so far.
abbrev pub own_answer_ended : OwnAnswer → HandledRequests → HandledRequests
own_answer_ended answer worked = record worked { outstanding = None; own = answer; is_own_first = not worked.has_worked }

abbrev pub with_result : ReconfigurationResponseResult → HandledRequests → HandledRequests
with_result SuccessNothingToDo worked = own_answer_ended own.Performed worked
with_result SuccessPerformed worked = own_answer_ended own.Performed worked
with_result Denied worked = own_answer_ended own.Failed worked
with_result ErrorWrongSSN worked = own_answer_ended own.Failed worked
with_result ErrorRequestAlreadyInProgress worked = own_answer_ended own.Failed worked
with_result ErrorBadSequenceNumber worked = own_answer_ended own.Failed worked
with_result InProgress worked = record worked { own = own.InProgress }

-- An answer to another request changes nothing.
abbrev pub with_response : Bool → ReconfigurationResponseResult → HandledRequests → HandledRequests
with_response true result worked = with_result result worked
with_response false result worked = worked

-- It is as it was.
pub record SameOwn (old new : HandledRequests) : Type 0 where
  pub outstanding : new.outstanding ≡ old.outstanding
  pub own : new.own ≡ old.own
  pub first : new.is_own_first ≡ old.is_own_first

-- ---- the parameters of a chunk

-- One more is answered.
pub record Responds (number : ℕ) (answer : ReconfigurationResponseResult) (old new : HandledRequests) : Type 0 where
  pub response : Parameter
  pub says : parameter_content response ≡ reset_parameter_content (reconfiguration_response number answer)
  pub added : new.responses.items ≡ old.responses.items ++ response ∷ []
  pub last : new.last ≡ old.last
  pub treatment : new.treatment ≡ old.treatment
  pub has_worked : new.has_worked ≡ old.has_worked
  pub own : SameOwn old new
  pub is_refused : new.is_refused ≡ old.is_refused

-- these effects and answers, and then what the rest brings
abbrev pub behind_these : List Effect → List ResetParameter → HandledParameters → HandledParameters
behind_these effects answers rest = record rest { effects = effects ++ rest.effects; answers = answers ++ rest.answers }

-- each is written as it is read
abbrev pub AreResponses : List Parameter → Type 0
AreResponses responses = map reset_parameter_content (reset_parameters responses) ≡ map parameter_content responses

-- what is kept of the association
abbrev pub held_now : Held → HandledRequests → Held
held_now base worked = held_out worked.outstanding (held_with base worked.last)

-- the events about both, in their order
abbrev pub both_answer_events : Bool → OwnAnswer → Treatment → List ℕ → List ℕ → List (Event Emission)
both_answer_events true answer treatment theirs streams = own_events answer streams ++ treated_events treatment theirs
both_answer_events false answer treatment theirs streams = treated_events treatment theirs ++ own_events answer streams

-- That is what the effects and answers of a chunk come to.
pub record TreatsBoth (worked : HandledRequests) (effects : List Effect) (answers : List ResetParameter) : Type 0 where
  pub has : has_reset effects ≡ is_performed worked.treatment
  pub waits : answers_in_progress answers ≡ is_treatment_deferred worked.treatment
  pub told : (theirs streams : List ℕ) → reset_events theirs streams effects ≡ both_answer_events worked.is_own_first worked.own worked.treatment theirs streams
  pub drawn : drawn_pairs effects ≡ []

-- What a parameter brings: nothing, what becomes of a request of the peer, or what becomes of our own.
pub data Brings (parameter : ResetParameter) (old new : HandledRequests) (effects : Pair → Held → List Effect) (answers : List ResetParameter) : Type 0 where
  brings_nothing : new.treatment ≡ old.treatment → new.has_worked ≡ old.has_worked → SameOwn old new → ((my : Pair) (base : Held) → IsTreatment Nothing (effects my base) answers)
      → in_progress_among old.outstanding (parameter ∷ []) ≡ false → Brings parameter old new effects answers
  brings_request : old.has_worked ≡ false → new.has_worked ≡ true → SameOwn old new → ((my : Pair) (base : Held) → IsTreatment new.treatment (effects my base) answers)
      → in_progress_among old.outstanding (parameter ∷ []) ≡ false → Brings parameter old new effects answers
  brings_answer : (number : ℕ) (result : ReconfigurationResponseResult) → parameter ≡ reconfiguration_response number result → old.outstanding ≡ Some number → new ≡ with_result result old
      → ((my : Pair) (base : Held) → effects my base ≡ (result_of_answer my (held_now base old) number result).effects) → answers ≡ [] → Brings parameter old new effects answers

-- A parameter was handled: whatever comes after it, the machine continues from what the code keeps.
pub record HandlesParameter (state : RequestState) (parameter : ResetParameter) (old new : HandledRequests) : Type 0 where
  pub effects : Pair → Held → List Effect
  pub responses : List Parameter
  pub are : AreResponses responses
  pub added : new.responses.items ≡ old.responses.items ++ responses
  pub refused : new.is_refused ≡ old.is_refused
  pub has : new.has_worked ≡ (old.has_worked || is_outgoing parameter)
  pub brings : Brings parameter old new effects (reset_parameters responses)
  pub whole : (my : Pair) (base : Held) (rest : List ResetParameter)
      → parameters_outcome my state old.has_worked (held_now base old) (parameter ∷ rest)
      ≡ behind_these (effects my base) (reset_parameters responses) (parameters_outcome my state new.has_worked (held_now base new) rest)

-- All were handled.
pub record HandlesParameters (state : RequestState) (last : LastRequest) (outstanding : Option ℕ) (parameters : List ResetParameter) (worked : HandledRequests) : Type 0 where
  pub effects : Pair → Held → List Effect
  pub are : AreResponses worked.responses.items
  pub treats : (my : Pair) (base : Held) → TreatsBoth worked (effects my base) (reset_parameters worked.responses.items)
  pub own : own_kind worked.own ≡ own_answer outstanding worked.outstanding (in_progress_among outstanding (handled_part false parameters)) (is_completed worked.own)
  pub left : worked.outstanding ≡ left_out (own_kind worked.own) outstanding
  pub whole : (my : Pair) (base : Held)
      → reset_chunk_outcome my state (held_out outstanding (held_with base last)) parameters
      ≡ record { held = held_now base worked; effects = effects my base; answers = reset_parameters worked.responses.items; is_refused = worked.is_refused }
