-- Which effects end our requests: packets and flushes none, and RE-CONFIG those that its responses
-- answer.
use Rattle.std.proofs.Common.{ℕ, Bool, true, false, Option, None, Some, List, [], ◌∷◌, ◌++◌, inl, inr, refl, sym, subst}
use Rattle.dcsctp_spec_lemmas.specs.types.declared.association.Pair.{Pair}
use Rattle.dcsctp_spec_lemmas.specs.types.declared.association.Held.{Held}
use Rattle.dcsctp_spec_lemmas.specs.wire.declared.reconfiguration.ReconfigurationResponseResult.{ReconfigurationResponseResult}
use Rattle.dcsctp_spec_lemmas.specs.wire.declared.reconfiguration.ReconfigurationResponseResult.TheVariants.{SuccessNothingToDo, SuccessPerformed, Denied, ErrorWrongSSN, ErrorRequestAlreadyInProgress, ErrorBadSequenceNumber, InProgress}
use Rattle.dcsctp_spec_lemmas.specs.spec.Reconfiguration.{RequestState, early, due, renewed, RequestedReset, ResetParameter, outgoing_reset_request, incoming_reset_request, reconfiguration_response, other_reset_parameter}
use Rattle.dcsctp_spec_lemmas.specs.spec.Packet.{Plain, Content, re_config}
use Rattle.dcsctp_spec_lemmas.specs.spec.association.Effect.{Effect, ends, completes, fails, emission_effects, emitted_alone}
use Rattle.dcsctp_spec_lemmas.specs.spec.association.Choices.{plain_contents, Filling, Choices}
use Rattle.dcsctp_spec_lemmas.specs.spec.association.FlushChanges.{reset_to_begin, further_packets, chunks_behind, flush_packets, flushed_with, flush_if_allowed, flush}
use Rattle.dcsctp_spec_lemmas.specs.spec.association.ResetChanges.{RequestPlace, again, next, astray, request_place, RequestOutcome, performed_request, repeated_request_outcome, next_request, is_due, outgoing_by_place, incoming_by_place, AnswerResult, result_if_outstanding, is_outstanding, HandledParameters, parameters_outcome, reset_chunk_outcome, answers_emitted, reset_sent, peer_part_handled}
use Rattle.dcsctp_spec_runs.specs.Past.{HasEffect}
use Rattle.dcsctp_theorem_association.specs.OneSide.{IsSuccess, IsRefusal, HasResponse}

-- ---- one effect and several

-- an end of a request of ours has its response among these parameters
abbrev pub Answers : List ResetParameter → Effect → Type 0
Answers parameters (completes my number) = HasResponse IsSuccess number parameters
Answers parameters (fails number) = HasResponse IsRefusal number parameters
Answers parameters effect = Unit {0}

abbrev pub AllAnswer : List ResetParameter → List Effect → Type 0
AllAnswer parameters [] = Unit {0}
AllAnswer parameters (effect ∷ effects) = Answers parameters effect × AllAnswer parameters effects

pub answer_of : (parameters : List ResetParameter) (effect : Effect) (effects : List Effect) → AllAnswer parameters effects → HasEffect effect effects → Answers parameters effect
answer_of parameters effect [] all h = absurd h
answer_of parameters effect (newest ∷ effects) all (inl e) = subst (Answers parameters) (sym e) all.0
answer_of parameters effect (newest ∷ effects) all (inr h) = answer_of parameters effect effects all.1 h

pub all_answer-append : (parameters : List ResetParameter) (xs ys : List Effect) → AllAnswer parameters xs → AllAnswer parameters ys → AllAnswer parameters (xs ++ ys)
all_answer-append parameters [] ys a b = b
all_answer-append parameters (x ∷ xs) ys a b = (a.0, all_answer-append parameters xs ys a.1 b)

-- ---- one more parameter

has_response-more : (Kind : ReconfigurationResponseResult → Type 0) (number : ℕ) (parameter : ResetParameter) (parameters : List ResetParameter)
    → HasResponse Kind number parameters → HasResponse Kind number (parameter ∷ parameters)
has_response-more Kind number (reconfiguration_response answered result) parameters h = inr h
has_response-more Kind number parameter parameters h = h

answers-more : (parameter : ResetParameter) (parameters : List ResetParameter) (effect : Effect) → Answers parameters effect → Answers (parameter ∷ parameters) effect
answers-more parameter parameters (completes my number) h = has_response-more IsSuccess number parameter parameters h
answers-more parameter parameters (fails number) h = has_response-more IsRefusal number parameter parameters h
answers-more parameter parameters effect h = tt

all_answer-more : (parameter : ResetParameter) (parameters : List ResetParameter) (effects : List Effect) → AllAnswer parameters effects → AllAnswer (parameter ∷ parameters) effects
all_answer-more parameter parameters [] all = tt
all_answer-more parameter parameters (effect ∷ effects) all = (answers-more parameter parameters effect all.0, all_answer-more parameter parameters effects all.1)

-- ---- packets and flushes

module _ (parameters : List ResetParameter) where
  emitted_answers : (tag : ℕ) (contents : List Content) → AllAnswer parameters (emission_effects tag contents)
  emitted_answers tag [] = tt
  emitted_answers tag (content ∷ contents) = (tt, tt)

  pub alone_answers : (fits : Bool) (tag : ℕ) (content : Content) → AllAnswer parameters (emitted_alone fits tag content)
  alone_answers true tag content = (tt, tt)
  alone_answers false tag content = tt

  -- one packet or none, and then the end
  pub end_answers-alone : (fits : Bool) (tag : ℕ) (content : Content) → AllAnswer parameters (emitted_alone fits tag content ++ ends ∷ [])
  end_answers-alone true tag content = (tt, (tt, tt))
  end_answers-alone false tag content = (tt, tt)

  pub further_answer : (tag : ℕ) (packets : List (List Plain)) → AllAnswer parameters (further_packets tag packets)
  further_answer tag [] = tt
  further_answer tag (chunks ∷ packets) =
      all_answer-append parameters (emission_effects tag (plain_contents chunks)) (further_packets tag packets) (emitted_answers tag (plain_contents chunks)) (further_answer tag packets)

  packets_answer : (tag number : ℕ) (front : List Content) (filling : Filling) (reset : Option RequestedReset)
      → AllAnswer parameters (flush_packets tag number front filling reset)
  packets_answer tag number front filling reset =
      let contents : List Content = front ++ chunks_behind number filling reset in
      all_answer-append parameters (emission_effects tag contents) (further_packets tag filling.further) (emitted_answers tag contents) (further_answer tag filling.further)

  flushed_answers : (tag : ℕ) (held : Held) (front : List Content) (filling : Filling) (reset : Option RequestedReset)
      → AllAnswer parameters (flushed_with tag held front filling reset).effects
  flushed_answers tag held front filling None = packets_answer tag held.own_next front filling None
  flushed_answers tag held front filling (Some reset) = (tt, packets_answer tag held.own_next front filling (Some reset))

  flush_where_answers : (is_allowed : Bool) (tag : ℕ) (held : Held) (front : List Content) (filling : Filling)
      → AllAnswer parameters (flush_if_allowed is_allowed tag held front filling).effects
  flush_where_answers false tag held front filling = tt
  flush_where_answers true tag held front filling = flushed_answers tag held front filling (reset_to_begin held.own_outstanding filling.reset)

  pub flush_answers : (tag : ℕ) (held : Held) (front : List Content) (filling : Filling) → AllAnswer parameters (flush tag held front filling).effects
  flush_answers tag held front filling = flush_where_answers filling.is_allowed tag held front filling

  -- ---- requests of the peer

  worked_answers : (held : Held) (number : ℕ) (is_reached : Bool) → AllAnswer parameters (performed_request held number is_reached).effects
  worked_answers held number true = (tt, tt)
  worked_answers held number false = tt

  repeated_answers : (held : Held) (result : ReconfigurationResponseResult) (is_reached : Bool) → AllAnswer parameters (repeated_request_outcome held result is_reached).effects
  repeated_answers held InProgress is_reached = worked_answers held held.peer_last is_reached
  repeated_answers held result is_reached = tt

  next_answers : (held : Held) (number : ℕ) (state : RequestState) → AllAnswer parameters (next_request held number state).effects
  next_answers held number early = tt
  next_answers held number due = (tt, tt)
  next_answers held number renewed = (tt, tt)

  outgoing_answers : (held : Held) (number : ℕ) (state : RequestState) (place : RequestPlace) → AllAnswer parameters (outgoing_by_place held number state place).effects
  outgoing_answers held number state again = repeated_answers held held.peer_result (is_due state)
  outgoing_answers held number state next = (tt, next_answers held number state)
  outgoing_answers held number state astray = tt

  incoming_answers : (held : Held) (number : ℕ) (place : RequestPlace) → AllAnswer parameters (incoming_by_place held number place).effects
  incoming_answers held number again = tt
  incoming_answers held number next = (tt, tt)
  incoming_answers held number astray = tt

  -- ---- what is sent

  answers_answer : (fits : Bool) (tag : ℕ) (answers : List ResetParameter) → AllAnswer parameters (answers_emitted fits tag answers)
  answers_answer fits tag [] = tt
  answers_answer fits tag (answer ∷ answers) = alone_answers fits tag (re_config (answer ∷ answers))

  sent_answers : (is_refused : Bool) (held : Held) (answers : List ResetParameter) (choices : Choices) → AllAnswer parameters (reset_sent is_refused held answers choices).effects
  sent_answers true held answers choices = tt
  sent_answers false held answers choices =
      all_answer-append parameters (answers_emitted choices.fits held.peer.tag answers) (flush held.peer.tag held [] choices.filling).effects
      (answers_answer choices.fits held.peer.tag answers) (flush_answers held.peer.tag held [] choices.filling)

-- ---- RE-CONFIG

module _ (my : Pair) where
  -- A response ends the request that it answers, or none.
  informed_answers : (held : Held) (number : ℕ) (result : ReconfigurationResponseResult) (is_it : Bool) (parameters : List ResetParameter)
      → AllAnswer (reconfiguration_response number result ∷ parameters) (result_if_outstanding my held number result is_it).effects
  informed_answers held number result false parameters = tt
  informed_answers held number SuccessNothingToDo true parameters = (inl (refl, tt), tt)
  informed_answers held number SuccessPerformed true parameters = (inl (refl, tt), tt)
  informed_answers held number Denied true parameters = (inl (refl, tt), tt)
  informed_answers held number ErrorWrongSSN true parameters = (inl (refl, tt), tt)
  informed_answers held number ErrorRequestAlreadyInProgress true parameters = (inl (refl, tt), tt)
  informed_answers held number ErrorBadSequenceNumber true parameters = (inl (refl, tt), tt)
  informed_answers held number InProgress true parameters = tt

  parameters_answer : (state : RequestState) (has_worked : Bool) (held : Held) (parameters : List ResetParameter)
      → AllAnswer parameters (parameters_outcome my state has_worked held parameters).effects
  parameters_answer state has_worked held [] = tt
  parameters_answer state true held (outgoing_reset_request number answered reset ∷ parameters) = tt
  parameters_answer state false held (outgoing_reset_request number answered reset ∷ parameters) =
      let all : List ResetParameter = outgoing_reset_request number answered reset ∷ parameters in
      let first : RequestOutcome = outgoing_by_place held number state (request_place held.peer_last number) in
      let rest : List Effect = (parameters_outcome my state true first.held parameters).effects in
      all_answer-append all first.effects rest (outgoing_answers all held number state (request_place held.peer_last number))
      (all_answer-more (outgoing_reset_request number answered reset) parameters rest (parameters_answer state true first.held parameters))
  parameters_answer state has_worked held (incoming_reset_request number streams ∷ parameters) =
      let all : List ResetParameter = incoming_reset_request number streams ∷ parameters in
      let first : RequestOutcome = incoming_by_place held number (request_place held.peer_last number) in
      let rest : List Effect = (parameters_outcome my state has_worked first.held parameters).effects in
      all_answer-append all first.effects rest (incoming_answers all held number (request_place held.peer_last number))
      (all_answer-more (incoming_reset_request number streams) parameters rest (parameters_answer state has_worked first.held parameters))
  parameters_answer state has_worked held (reconfiguration_response number result ∷ parameters) =
      let all : List ResetParameter = reconfiguration_response number result ∷ parameters in
      let first : AnswerResult = result_if_outstanding my held number result (is_outstanding number held.own_outstanding) in
      let rest : List Effect = (parameters_outcome my state has_worked first.held parameters).effects in
      all_answer-append all first.effects rest (informed_answers held number result (is_outstanding number held.own_outstanding) parameters)
      (all_answer-more (reconfiguration_response number result) parameters rest (parameters_answer state has_worked first.held parameters))
  parameters_answer state has_worked held (other_reset_parameter parameter ∷ parameters) =
      all_answer-more (other_reset_parameter parameter) parameters (parameters_outcome my state has_worked held parameters).effects
      (parameters_answer state has_worked held parameters)

  chunk_answers : (state : RequestState) (held : Held) (parameters : List ResetParameter) → AllAnswer parameters (reset_chunk_outcome my state held parameters).effects
  chunk_answers state held [] = tt
  chunk_answers state held (parameter ∷ parameters) = parameters_answer state false held (parameter ∷ parameters)

  pub reset_answers : (held : Held) (parameters : List ResetParameter) (choices : Choices) → AllAnswer parameters (peer_part_handled my held parameters choices).effects
  reset_answers held parameters choices =
      let first : HandledParameters = reset_chunk_outcome my choices.state held parameters in
      all_answer-append parameters first.effects (reset_sent first.is_refused first.held first.answers choices).effects
      (chunk_answers choices.state held parameters) (sent_answers parameters first.is_refused first.held first.answers choices)
