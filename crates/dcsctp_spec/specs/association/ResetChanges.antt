-- What RE-CONFIG does to the association (RFC 6525, section 5.2).
use Rattle.std.specs.Prelude.{◌==◌, ℕ, Bool, true, false, Option, None, Some, List, [], ◌∷◌, ◌++◌, if◌then◌else◌}
use Rattle.dcsctp_types.specs.declared.association.Pair.{Pair}
use Rattle.dcsctp_types.specs.declared.association.Held.{Held}
use Rattle.dcsctp_types.specs.wire.declared.reconfiguration.ReconfigurationResponseResult.{ReconfigurationResponseResult}
use Rattle.dcsctp_types.specs.wire.declared.reconfiguration.ReconfigurationResponseResult.TheVariants.{SuccessNothingToDo, SuccessPerformed, Denied, ErrorWrongSSN, ErrorRequestAlreadyInProgress, ErrorBadSequenceNumber, InProgress}
use Rattle.dcsctp_spec.specs.Reconfiguration.{RequestState, early, due, renewed, ResetParameter, outgoing_reset_request, incoming_reset_request, reconfiguration_response, other_reset_parameter}
use Rattle.dcsctp_spec.specs.Packet.{re_config}
use Rattle.dcsctp_spec.specs.endpoint.Endpoint.{Core, cookie_echoed, open_in}
use Rattle.dcsctp_spec.specs.endpoint.Following.{next_chunk}
use Rattle.dcsctp_spec.specs.association.Effect.{Effect, completes, fails, accepts, performs, renews, Change, no_change, emitted_alone}
use Rattle.dcsctp_spec.specs.association.Choices.{Choices}
use Rattle.dcsctp_spec.specs.association.FlushChanges.{FlushResult, flush, next_number}

-- ---- which number

-- how a request's number relates to the last one
pub data RequestPlace : Type 0 where
  -- It is the last one again.
  again : RequestPlace
  -- It is the next one.
  next : RequestPlace
  -- It is neither.
  astray : RequestPlace

abbrev pub request_place : ℕ → ℕ → RequestPlace
request_place last number = if number == last then again else (if number == next_number last then next else astray)

-- ---- a request of the peer

-- what is known of the association after a request, how the request is answered, and its effects
pub record RequestOutcome : Type 0 where
  pub held : Held
  pub result : ReconfigurationResponseResult
  pub effects : List Effect

-- the last number of the peer, and how it was answered
abbrev pub with_last : Held → ℕ → ReconfigurationResponseResult → Held
with_last held number result = record held { peer_last = number; peer_result = result }

-- An Outgoing SSN Reset Request is performed once all data sent before it is received, and is in progress until then.
abbrev pub performed_request : Held → ℕ → Bool → RequestOutcome
performed_request held number true = record { held = with_last held number SuccessPerformed; result = SuccessPerformed; effects = performs held.peer number ∷ [] }
performed_request held number false = record { held = with_last held number InProgress; result = InProgress; effects = [] }

-- The last request again is answered as before; one in progress is handled again.
abbrev pub repeated_request_outcome : Held → ReconfigurationResponseResult → Bool → RequestOutcome
repeated_request_outcome held SuccessNothingToDo is_reached = record { held = held; result = SuccessNothingToDo; effects = [] }
repeated_request_outcome held SuccessPerformed is_reached = record { held = held; result = SuccessPerformed; effects = [] }
repeated_request_outcome held Denied is_reached = record { held = held; result = Denied; effects = [] }
repeated_request_outcome held ErrorWrongSSN is_reached = record { held = held; result = ErrorWrongSSN; effects = [] }
repeated_request_outcome held ErrorRequestAlreadyInProgress is_reached = record { held = held; result = ErrorRequestAlreadyInProgress; effects = [] }
repeated_request_outcome held ErrorBadSequenceNumber is_reached = record { held = held; result = ErrorBadSequenceNumber; effects = [] }
repeated_request_outcome held InProgress is_reached = performed_request held held.peer_last is_reached

-- a request whose number is neither the last nor the next
abbrev pub refused_outcome : Held → RequestOutcome
refused_outcome held = record { held = held; result = ErrorBadSequenceNumber; effects = [] }

-- the effects of an acceptance before those of the request
abbrev pub accepted_request : ℕ → RequestOutcome → RequestOutcome
accepted_request number after = record after { effects = accepts number ∷ after.effects }

-- What was performed under the number before is performed again, since nothing came on its streams meanwhile; but no event reports it.
abbrev pub renewed_request : Held → ℕ → RequestOutcome
renewed_request held number = record { held = with_last held number SuccessPerformed; result = SuccessPerformed; effects = renews held.peer number ∷ [] }

abbrev pub next_request : Held → ℕ → RequestState → RequestOutcome
next_request held number early = performed_request held number false
next_request held number due = performed_request held number true
next_request held number renewed = renewed_request held number

-- has all come that was sent before it?
abbrev pub is_due : RequestState → Bool
is_due early = false
is_due due = true
is_due renewed = true

abbrev pub outgoing_by_place : Held → ℕ → RequestState → RequestPlace → RequestOutcome
outgoing_by_place held number state again = repeated_request_outcome held held.peer_result (is_due state)
outgoing_by_place held number state next = accepted_request number (next_request held number state)
outgoing_by_place held number state astray = refused_outcome held

-- No stream is reset for an Incoming SSN Reset Request: it is answered by this, even if the answer before was in progress.
abbrev pub nothing_to_do : Held → ℕ → RequestOutcome
nothing_to_do held number = record { held = with_last held number SuccessNothingToDo; result = SuccessNothingToDo; effects = [] }

abbrev pub incoming_by_place : Held → ℕ → RequestPlace → RequestOutcome
incoming_by_place held number again = nothing_to_do held number
incoming_by_place held number next = accepted_request number (nothing_to_do held number)
incoming_by_place held number astray = refused_outcome held

-- ---- an answer of the peer

-- what is known of the association after an answer, and its effects
pub record AnswerResult : Type 0 where
  pub held : Held
  pub effects : List Effect

-- its own request has ended
abbrev pub without_outstanding : Held → Held
without_outstanding held = record held { own_outstanding = None }

abbrev pub completed_request : Pair → Held → ℕ → AnswerResult
completed_request my held number = record { held = without_outstanding held; effects = completes my number ∷ [] }

abbrev pub failed_request : Held → ℕ → AnswerResult
failed_request held number = record { held = without_outstanding held; effects = fails number ∷ [] }

-- One in progress stays outstanding, and is sent again.
abbrev pub result_of_answer : Pair → Held → ℕ → ReconfigurationResponseResult → AnswerResult
result_of_answer my held number SuccessNothingToDo = completed_request my held number
result_of_answer my held number SuccessPerformed = completed_request my held number
result_of_answer my held number Denied = failed_request held number
result_of_answer my held number ErrorWrongSSN = failed_request held number
result_of_answer my held number ErrorRequestAlreadyInProgress = failed_request held number
result_of_answer my held number ErrorBadSequenceNumber = failed_request held number
result_of_answer my held number InProgress = record { held = held; effects = [] }

-- is it the number of the outstanding request?
abbrev pub is_outstanding : ℕ → Option ℕ → Bool
is_outstanding number None = false
is_outstanding number (Some outstanding) = number == outstanding

abbrev pub result_if_outstanding : Pair → Held → ℕ → ReconfigurationResponseResult → Bool → AnswerResult
result_if_outstanding my held number result true = result_of_answer my held number result
result_if_outstanding my held number result false = record { held = held; effects = [] }

-- ---- the parameters after one another

-- What is left of them. A second Outgoing SSN Reset Request is an error, and nothing is sent.
pub record HandledParameters : Type 0 where
  pub held : Held
  pub effects : List Effect
  pub answers : List ResetParameter
  pub is_refused : Bool

abbrev pub after_request : ℕ → RequestOutcome → HandledParameters → HandledParameters
after_request number first rest =
    record rest { effects = first.effects ++ rest.effects; answers = reconfiguration_response number first.result ∷ rest.answers }

abbrev pub after_answer : AnswerResult → HandledParameters → HandledParameters
after_answer first rest = record rest { effects = first.effects ++ rest.effects }

-- its own pair, what an outgoing request finds, and whether one was handled so far
abbrev pub parameters_outcome : Pair → RequestState → Bool → Held → List ResetParameter → HandledParameters
parameters_outcome my state has_worked held [] = record { held = held; effects = []; answers = []; is_refused = false }
parameters_outcome my state true held (outgoing_reset_request number answered reset ∷ parameters) =
    record { held = held; effects = []; answers = []; is_refused = true }
parameters_outcome my state false held (outgoing_reset_request number answered reset ∷ parameters) =
    let first : RequestOutcome = outgoing_by_place held number state (request_place held.peer_last number) in
    after_request number first (parameters_outcome my state true first.held parameters)
parameters_outcome my state has_worked held (incoming_reset_request number streams ∷ parameters) =
    let first : RequestOutcome = incoming_by_place held number (request_place held.peer_last number) in
    after_request number first (parameters_outcome my state has_worked first.held parameters)
parameters_outcome my state has_worked held (reconfiguration_response number result ∷ parameters) =
    let first : AnswerResult = result_if_outstanding my held number result (is_outstanding number held.own_outstanding) in
    after_answer first (parameters_outcome my state has_worked first.held parameters)
parameters_outcome my state has_worked held (other_reset_parameter parameter ∷ parameters) = parameters_outcome my state has_worked held parameters

-- ---- the chunk

-- A chunk without parameters is an error too.
abbrev pub reset_chunk_outcome : Pair → RequestState → Held → List ResetParameter → HandledParameters
reset_chunk_outcome my state held [] = record { held = held; effects = []; answers = []; is_refused = true }
reset_chunk_outcome my state held (parameter ∷ parameters) = parameters_outcome my state false held (parameter ∷ parameters)

-- If there are answers, they are sent in a packet of one RE-CONFIG.
abbrev pub answers_emitted : Bool → ℕ → List ResetParameter → List Effect
answers_emitted fits tag [] = []
answers_emitted fits tag (answer ∷ answers) = emitted_alone fits tag (re_config (answer ∷ answers))

-- After them comes a flush: a request that has ended may let the next one begin.
abbrev pub reset_sent : Bool → Held → List ResetParameter → Choices → FlushResult
reset_sent true held answers choices = record { held = held; effects = [] }
reset_sent false held answers choices =
    let after : FlushResult = flush held.peer.tag held [] choices.filling in
    record { held = after.held; effects = answers_emitted choices.fits held.peer.tag answers ++ after.effects }

-- the peer part and effects after the chunk
abbrev pub peer_part_handled : Pair → Held → List ResetParameter → Choices → AnswerResult
peer_part_handled my held parameters choices =
    let performed_request : HandledParameters = reset_chunk_outcome my choices.state held parameters in
    let sent : FlushResult = reset_sent performed_request.is_refused performed_request.held performed_request.answers choices in
    record { held = sent.held; effects = performed_request.effects ++ sent.effects }

-- By the RFC one that comes before the COOKIE ACK is dropped.
abbrev pub echoed_re_config_change : Bool → Pair → Held → List ℕ → List ResetParameter → Choices → Change
echoed_re_config_change true my held cookie parameters choices = no_change (cookie_echoed my held cookie)
echoed_re_config_change false my held cookie parameters choices =
    let after : AnswerResult = peer_part_handled my held parameters choices in
    record { core = cookie_echoed my after.held cookie; effects = after.effects; following = next_chunk }

abbrev pub re_config_change : Bool → Core → List ResetParameter → Choices → Change
re_config_change follows_rfc (cookie_echoed my held cookie) parameters choices = echoed_re_config_change follows_rfc my held cookie parameters choices
re_config_change follows_rfc (open_in phase my held) parameters choices =
    let after : AnswerResult = peer_part_handled my held parameters choices in
    record { core = open_in phase my after.held; effects = after.effects; following = next_chunk }
re_config_change follows_rfc core parameters choices = no_change core
