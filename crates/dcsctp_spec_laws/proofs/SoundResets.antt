-- RE-CONFIG keeps tags and the method.
use Rattle.std.proofs.Common.{ℕ, Bool, true, false, List, [], ◌∷◌}
use Rattle.dcsctp_spec_lemmas.specs.wire.declared.reconfiguration.ReconfigurationResponseResult.{ReconfigurationResponseResult}
use Rattle.dcsctp_spec_lemmas.specs.wire.declared.reconfiguration.ReconfigurationResponseResult.TheVariants.{SuccessNothingToDo, SuccessPerformed, Denied, ErrorWrongSSN, ErrorRequestAlreadyInProgress, ErrorBadSequenceNumber, InProgress}
use Rattle.dcsctp_spec_lemmas.specs.types.declared.association.Pair.{Pair}
use Rattle.dcsctp_spec_lemmas.specs.types.declared.association.Held.{Held}
use Rattle.dcsctp_spec_lemmas.specs.types.declared.options.Options.{Options}
use Rattle.dcsctp_spec_lemmas.specs.spec.endpoint.Endpoint.{Core, closed, cookie_wait, cookie_echoed, open_in}
use Rattle.dcsctp_spec_lemmas.specs.spec.Reconfiguration.{RequestState, early, due, renewed, ResetParameter, outgoing_reset_request, incoming_reset_request, reconfiguration_response, other_reset_parameter}
use Rattle.dcsctp_spec_lemmas.specs.spec.Soundness.{IsSoundHeld, IsSoundCore}
use Rattle.dcsctp_spec_lemmas.specs.spec.association.Choices.{Choices}
use Rattle.dcsctp_spec_lemmas.specs.spec.association.ResetChanges.{RequestPlace, again, next, astray, request_place, performed_request, repeated_request_outcome, next_request, is_due, outgoing_by_place, incoming_by_place, result_of_answer, result_if_outstanding, is_outstanding, HandledParameters, parameters_outcome, reset_chunk_outcome, reset_sent, re_config_change}
use Rattle.dcsctp_spec_laws.proofs.SoundHandshakes.{flush_sound}

module _ (p : Options) where
  worked_sound : (held : Held) (number : ℕ) (is_reached : Bool) → IsSoundHeld p held → IsSoundHeld p (performed_request held number is_reached).held
  worked_sound held number true h = record { tag_is_not_zero = h.tag_is_not_zero; method = h.method }
  worked_sound held number false h = record { tag_is_not_zero = h.tag_is_not_zero; method = h.method }

  repeated_sound : (held : Held) (result : ReconfigurationResponseResult) (is_reached : Bool) → IsSoundHeld p held → IsSoundHeld p (repeated_request_outcome held result is_reached).held
  repeated_sound held SuccessNothingToDo is_reached h = h
  repeated_sound held SuccessPerformed is_reached h = h
  repeated_sound held Denied is_reached h = h
  repeated_sound held ErrorWrongSSN is_reached h = h
  repeated_sound held ErrorRequestAlreadyInProgress is_reached h = h
  repeated_sound held ErrorBadSequenceNumber is_reached h = h
  repeated_sound held InProgress is_reached h = worked_sound held held.peer_last is_reached h

  next_sound : (held : Held) (number : ℕ) (state : RequestState) → IsSoundHeld p held → IsSoundHeld p (next_request held number state).held
  next_sound held number early h = worked_sound held number false h
  next_sound held number due h = worked_sound held number true h
  next_sound held number renewed h = record { tag_is_not_zero = h.tag_is_not_zero; method = h.method }

  outgoing_sound : (held : Held) (number : ℕ) (state : RequestState) (place : RequestPlace) → IsSoundHeld p held → IsSoundHeld p (outgoing_by_place held number state place).held
  outgoing_sound held number state again h = repeated_sound held held.peer_result (is_due state) h
  outgoing_sound held number state next h = next_sound held number state h
  outgoing_sound held number state astray h = h

  incoming_sound : (held : Held) (number : ℕ) (place : RequestPlace) → IsSoundHeld p held → IsSoundHeld p (incoming_by_place held number place).held
  incoming_sound held number again h = record { tag_is_not_zero = h.tag_is_not_zero; method = h.method }
  incoming_sound held number next h = record { tag_is_not_zero = h.tag_is_not_zero; method = h.method }
  incoming_sound held number astray h = h

  informed_by_sound : (my : Pair) (held : Held) (number : ℕ) (result : ReconfigurationResponseResult) → IsSoundHeld p held → IsSoundHeld p (result_of_answer my held number result).held
  informed_by_sound my held number SuccessNothingToDo h = record { tag_is_not_zero = h.tag_is_not_zero; method = h.method }
  informed_by_sound my held number SuccessPerformed h = record { tag_is_not_zero = h.tag_is_not_zero; method = h.method }
  informed_by_sound my held number Denied h = record { tag_is_not_zero = h.tag_is_not_zero; method = h.method }
  informed_by_sound my held number ErrorWrongSSN h = record { tag_is_not_zero = h.tag_is_not_zero; method = h.method }
  informed_by_sound my held number ErrorRequestAlreadyInProgress h = record { tag_is_not_zero = h.tag_is_not_zero; method = h.method }
  informed_by_sound my held number ErrorBadSequenceNumber h = record { tag_is_not_zero = h.tag_is_not_zero; method = h.method }
  informed_by_sound my held number InProgress h = h

  informed_sound : (is_own : Bool) (my : Pair) (held : Held) (number : ℕ) (result : ReconfigurationResponseResult) → IsSoundHeld p held
      → IsSoundHeld p (result_if_outstanding my held number result is_own).held
  informed_sound true my held number result h = informed_by_sound my held number result h
  informed_sound false my held number result h = h

  parameters_sound : (my : Pair) (state : RequestState) (has_worked : Bool) (held : Held) (parameters : List ResetParameter) → IsSoundHeld p held
      → IsSoundHeld p (parameters_outcome my state has_worked held parameters).held
  parameters_sound my state has_worked held [] h = h
  parameters_sound my state true held (outgoing_reset_request number answered reset ∷ parameters) h = h
  parameters_sound my state false held (outgoing_reset_request number answered reset ∷ parameters) h =
      parameters_sound my state true _ parameters (outgoing_sound held number state (request_place held.peer_last number) h)
  parameters_sound my state has_worked held (incoming_reset_request number streams ∷ parameters) h =
      parameters_sound my state has_worked _ parameters (incoming_sound held number (request_place held.peer_last number) h)
  parameters_sound my state has_worked held (reconfiguration_response number result ∷ parameters) h =
      parameters_sound my state has_worked _ parameters (informed_sound (is_outstanding number held.own_outstanding) my held number result h)
  parameters_sound my state has_worked held (other_reset_parameter parameter ∷ parameters) h = parameters_sound my state has_worked held parameters h

  chunk_worked_sound : (my : Pair) (state : RequestState) (held : Held) (parameters : List ResetParameter) → IsSoundHeld p held → IsSoundHeld p (reset_chunk_outcome my state held parameters).held
  chunk_worked_sound my state held [] h = h
  chunk_worked_sound my state held (parameter ∷ parameters) h = parameters_sound my state false held (parameter ∷ parameters) h

  reset_sent_sound : (is_refused : Bool) (held : Held) (answers : List ResetParameter) (choices : Choices) → IsSoundHeld p held → IsSoundHeld p (reset_sent is_refused held answers choices).held
  reset_sent_sound true held answers choices h = h
  reset_sent_sound false held answers choices h = flush_sound p held.peer.tag held [] choices.filling h

  reset_worked_sound : (my : Pair) (held : Held) (parameters : List ResetParameter) (choices : Choices) → IsSoundHeld p held
      → IsSoundHeld p (reset_sent (reset_chunk_outcome my choices.state held parameters).is_refused (reset_chunk_outcome my choices.state held parameters).held (reset_chunk_outcome my choices.state held parameters).answers choices).held
  reset_worked_sound my held parameters choices h =
      let after : HandledParameters = reset_chunk_outcome my choices.state held parameters in
      reset_sent_sound after.is_refused after.held after.answers choices (chunk_worked_sound my choices.state held parameters h)

  pub re_config_sound : (follows : Bool) (core : Core) (parameters : List ResetParameter) (choices : Choices) → IsSoundCore p core → IsSoundCore p (re_config_change follows core parameters choices).core
  re_config_sound follows closed parameters choices h = h
  re_config_sound follows (cookie_wait my) parameters choices h = h
  re_config_sound true (cookie_echoed my held cookie) parameters choices h = h
  re_config_sound false (cookie_echoed my held cookie) parameters choices h = (h.0, reset_worked_sound my held parameters choices h.1)
  re_config_sound follows (open_in phase my held) parameters choices h = (h.0, reset_worked_sound my held parameters choices h.1)
