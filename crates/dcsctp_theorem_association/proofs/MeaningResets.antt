-- The effects of a RE-CONFIG say truly what is held and outstanding after it.
use Rattle.std.proofs.Common.{◌≡◌, ℕ, Bool, true, false, Some, List, [], ◌∷◌, refl, sym, ap, ◌∙◌}
use Rattle.dcsctp_spec_lemmas.specs.types.declared.association.Pair.{Pair}
use Rattle.dcsctp_spec_lemmas.specs.types.declared.association.Held.{Held}
use Rattle.dcsctp_spec_lemmas.specs.wire.declared.reconfiguration.ReconfigurationResponseResult.{ReconfigurationResponseResult}
use Rattle.dcsctp_spec_lemmas.specs.wire.declared.reconfiguration.ReconfigurationResponseResult.TheVariants.{SuccessNothingToDo, SuccessPerformed, InProgress}
use Rattle.dcsctp_spec_lemmas.specs.spec.Reconfiguration.{RequestState, early, due, renewed, ResetParameter, outgoing_reset_request, incoming_reset_request, reconfiguration_response, other_reset_parameter}
use Rattle.dcsctp_spec_lemmas.specs.spec.Packet.{re_config}
use Rattle.dcsctp_spec_lemmas.specs.spec.endpoint.Endpoint.{Core}
use Rattle.dcsctp_spec_lemmas.specs.spec.association.Effect.{AssociationIdentity, identity_of, identity_of_core}
use Rattle.dcsctp_spec_lemmas.specs.spec.association.Choices.{Choices}
use Rattle.dcsctp_spec_lemmas.specs.spec.association.FlushChanges.{flush}
use Rattle.dcsctp_spec_lemmas.specs.spec.association.ResetChanges.{RequestPlace, again, next, astray, request_place, RequestOutcome, performed_request, repeated_request_outcome, next_request, is_due, outgoing_by_place, incoming_by_place, AnswerResult, result_if_outstanding, is_outstanding, HandledParameters, parameters_outcome, reset_chunk_outcome, answers_emitted, reset_sent, peer_part_handled}
use Rattle.dcsctp_theorem_association.specs.OneSide.{outstanding_of_core}
use Rattle.dcsctp_theorem_association.proofs.Meaning.{AllSay, all_say-append, alone_says, flush_link, flush_says}

-- ---- the association is the same

module _ (my : Pair) where
  worked_link : (held : Held) (number : ℕ) (is_reached : Bool) → identity_of my (performed_request held number is_reached).held ≡ identity_of my held
  worked_link held number true = refl
  worked_link held number false = refl

  repeated_link : (held : Held) (result : ReconfigurationResponseResult) (is_reached : Bool) → identity_of my (repeated_request_outcome held result is_reached).held ≡ identity_of my held
  repeated_link held InProgress is_reached = worked_link held held.peer_last is_reached
  repeated_link held result is_reached = refl

  next_link : (held : Held) (number : ℕ) (state : RequestState) → identity_of my (next_request held number state).held ≡ identity_of my held
  next_link held number early = refl
  next_link held number due = refl
  next_link held number renewed = refl

  outgoing_link : (held : Held) (number : ℕ) (state : RequestState) (place : RequestPlace) → identity_of my (outgoing_by_place held number state place).held ≡ identity_of my held
  outgoing_link held number state again = repeated_link held held.peer_result (is_due state)
  outgoing_link held number state next = next_link held number state
  outgoing_link held number state astray = refl

  incoming_link : (held : Held) (number : ℕ) (place : RequestPlace) → identity_of my (incoming_by_place held number place).held ≡ identity_of my held
  incoming_link held number again = refl
  incoming_link held number place = refl

  informed_link : (held : Held) (number : ℕ) (result : ReconfigurationResponseResult) (is_it : Bool) → identity_of my (result_if_outstanding my held number result is_it).held ≡ identity_of my held
  informed_link held number result false = refl
  informed_link held number InProgress true = refl
  informed_link held number result true = refl

  parameters_link : (state : RequestState) (has_worked : Bool) (held : Held) (parameters : List ResetParameter)
      → identity_of my (parameters_outcome my state has_worked held parameters).held ≡ identity_of my held
  parameters_link state has_worked held [] = refl
  parameters_link state true held (outgoing_reset_request number answered reset ∷ parameters) = refl
  parameters_link state false held (outgoing_reset_request number answered reset ∷ parameters) =
      let first : RequestOutcome = outgoing_by_place held number state (request_place held.peer_last number) in
      parameters_link state true first.held parameters ∙ outgoing_link held number state (request_place held.peer_last number)
  parameters_link state has_worked held (incoming_reset_request number streams ∷ parameters) =
      let first : RequestOutcome = incoming_by_place held number (request_place held.peer_last number) in
      parameters_link state has_worked first.held parameters ∙ incoming_link held number (request_place held.peer_last number)
  parameters_link state has_worked held (reconfiguration_response number result ∷ parameters) =
      let first : AnswerResult = result_if_outstanding my held number result (is_outstanding number held.own_outstanding) in
      parameters_link state has_worked first.held parameters ∙ informed_link held number result (is_outstanding number held.own_outstanding)
  parameters_link state has_worked held (other_reset_parameter parameter ∷ parameters) = parameters_link state has_worked held parameters

  chunk_link : (state : RequestState) (held : Held) (parameters : List ResetParameter) → identity_of my (reset_chunk_outcome my state held parameters).held ≡ identity_of my held
  chunk_link state held [] = refl
  chunk_link state held (parameter ∷ parameters) = parameters_link state false held (parameter ∷ parameters)

  sent_link : (is_refused : Bool) (held : Held) (answers : List ResetParameter) (choices : Choices) → identity_of my (reset_sent is_refused held answers choices).held ≡ identity_of my held
  sent_link true held answers choices = refl
  sent_link false held answers choices = flush_link my held.peer.tag held [] choices.filling

  pub reset_link : (held : Held) (parameters : List ResetParameter) (choices : Choices) → identity_of my (peer_part_handled my held parameters choices).held ≡ identity_of my held
  reset_link held parameters choices =
      let first : HandledParameters = reset_chunk_outcome my choices.state held parameters in
      sent_link first.is_refused first.held first.answers choices ∙ chunk_link choices.state held parameters

-- ---- the effects

module _ (core : Core) (my : Pair) where
  -- This one is held.
  abbrev HoldsNow : Held → Type 0
  HoldsNow held = identity_of_core core ≡ Some (identity_of my held)

  -- and one that is the same
  holds_same : (held after : Held) → HoldsNow held → identity_of my after ≡ identity_of my held → HoldsNow after
  holds_same held after h same = h ∙ ap (λ (l : AssociationIdentity). Some l) (sym same)

  worked_says : (held : Held) (number : ℕ) (is_reached : Bool) → HoldsNow held → AllSay core (performed_request held number is_reached).effects
  worked_says held number true h = ((identity_of my held, h, refl), tt)
  worked_says held number false h = tt

  repeated_says : (held : Held) (result : ReconfigurationResponseResult) (is_reached : Bool) → HoldsNow held → AllSay core (repeated_request_outcome held result is_reached).effects
  repeated_says held InProgress is_reached h = worked_says held held.peer_last is_reached h
  repeated_says held result is_reached h = tt

  next_says : (held : Held) (number : ℕ) (state : RequestState) → HoldsNow held → AllSay core (next_request held number state).effects
  next_says held number early h = tt
  next_says held number due h = ((identity_of my held, h, refl), tt)
  next_says held number renewed h = ((identity_of my held, h, refl), tt)

  outgoing_says : (held : Held) (number : ℕ) (state : RequestState) (place : RequestPlace) → HoldsNow held → AllSay core (outgoing_by_place held number state place).effects
  outgoing_says held number state again h = repeated_says held held.peer_result (is_due state) h
  outgoing_says held number state next h = (tt, next_says held number state h)
  outgoing_says held number state astray h = tt

  incoming_says : (held : Held) (number : ℕ) (place : RequestPlace) → AllSay core (incoming_by_place held number place).effects
  incoming_says held number again = tt
  incoming_says held number next = (tt, tt)
  incoming_says held number astray = tt

  informed_says : (held : Held) (number : ℕ) (result : ReconfigurationResponseResult) (is_it : Bool) → HoldsNow held → AllSay core (result_if_outstanding my held number result is_it).effects
  informed_says held number result false h = tt
  informed_says held number SuccessNothingToDo true h = ((identity_of my held, h, refl), tt)
  informed_says held number SuccessPerformed true h = ((identity_of my held, h, refl), tt)
  informed_says held number InProgress true h = tt
  informed_says held number result true h = (tt, tt)

  parameters_say : (state : RequestState) (has_worked : Bool) (held : Held) (parameters : List ResetParameter) → HoldsNow held
      → AllSay core (parameters_outcome my state has_worked held parameters).effects
  parameters_say state has_worked held [] h = tt
  parameters_say state true held (outgoing_reset_request number answered reset ∷ parameters) h = tt
  parameters_say state false held (outgoing_reset_request number answered reset ∷ parameters) h =
      let first : RequestOutcome = outgoing_by_place held number state (request_place held.peer_last number) in
      all_say-append core first.effects (parameters_outcome my state true first.held parameters).effects
      (outgoing_says held number state (request_place held.peer_last number) h)
      (parameters_say state true first.held parameters (holds_same held first.held h (outgoing_link my held number state (request_place held.peer_last number))))
  parameters_say state has_worked held (incoming_reset_request number streams ∷ parameters) h =
      let first : RequestOutcome = incoming_by_place held number (request_place held.peer_last number) in
      all_say-append core first.effects (parameters_outcome my state has_worked first.held parameters).effects
      (incoming_says held number (request_place held.peer_last number))
      (parameters_say state has_worked first.held parameters (holds_same held first.held h (incoming_link my held number (request_place held.peer_last number))))
  parameters_say state has_worked held (reconfiguration_response number result ∷ parameters) h =
      let first : AnswerResult = result_if_outstanding my held number result (is_outstanding number held.own_outstanding) in
      all_say-append core first.effects (parameters_outcome my state has_worked first.held parameters).effects
      (informed_says held number result (is_outstanding number held.own_outstanding) h)
      (parameters_say state has_worked first.held parameters (holds_same held first.held h (informed_link my held number result (is_outstanding number held.own_outstanding))))
  parameters_say state has_worked held (other_reset_parameter parameter ∷ parameters) h = parameters_say state has_worked held parameters h

  chunk_says : (state : RequestState) (held : Held) (parameters : List ResetParameter) → HoldsNow held → AllSay core (reset_chunk_outcome my state held parameters).effects
  chunk_says state held [] h = tt
  chunk_says state held (parameter ∷ parameters) h = parameters_say state false held (parameter ∷ parameters) h

  answers_say : (fits : Bool) (tag : ℕ) (answers : List ResetParameter) → AllSay core (answers_emitted fits tag answers)
  answers_say fits tag [] = tt
  answers_say fits tag (answer ∷ answers) = alone_says core fits tag (re_config (answer ∷ answers))

  sent_says : (is_refused : Bool) (held : Held) (answers : List ResetParameter) (choices : Choices)
      → outstanding_of_core core ≡ (reset_sent is_refused held answers choices).held.own_outstanding → AllSay core (reset_sent is_refused held answers choices).effects
  sent_says true held answers choices e = tt
  sent_says false held answers choices e =
      all_say-append core (answers_emitted choices.fits held.peer.tag answers) (flush held.peer.tag held [] choices.filling).effects
      (answers_say choices.fits held.peer.tag answers) (flush_says core held.peer.tag held [] choices.filling e)

  pub reset_says : (held : Held) (parameters : List ResetParameter) (choices : Choices) → HoldsNow (peer_part_handled my held parameters choices).held
      → outstanding_of_core core ≡ (peer_part_handled my held parameters choices).held.own_outstanding
      → AllSay core (peer_part_handled my held parameters choices).effects
  reset_says held parameters choices h e =
      let first : HandledParameters = reset_chunk_outcome my choices.state held parameters in
      all_say-append core first.effects (reset_sent first.is_refused first.held first.answers choices).effects
      (chunk_says choices.state held parameters
      (holds_same (peer_part_handled my held parameters choices).held held h (sym (reset_link my held parameters choices))))
      (sent_says first.is_refused first.held first.answers choices e)
