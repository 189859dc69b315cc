-- A RE-CONFIG, its answers and a request of ours keep rules on cookies: none of their packets has a
-- cookie.
use Rattle.std.proofs.Common.{ℕ, Bool, true, false, Option, None, Some, List, [], ◌∷◌}
use Rattle.dcsctp_spec_lemmas.specs.wire.declared.reconfiguration.ReconfigurationResponseResult.{ReconfigurationResponseResult}
use Rattle.dcsctp_spec_lemmas.specs.wire.declared.reconfiguration.ReconfigurationResponseResult.TheVariants.{InProgress}
use Rattle.dcsctp_spec_lemmas.specs.types.declared.association.Pair.{Pair}
use Rattle.dcsctp_spec_lemmas.specs.types.declared.association.Held.{Held}
use Rattle.dcsctp_spec_lemmas.specs.spec.Reconfiguration.{RequestState, early, due, renewed, ResetParameter, RequestedReset, outgoing_reset_request, incoming_reset_request, reconfiguration_response, other_reset_parameter, renewed_reset}
use Rattle.dcsctp_spec_lemmas.specs.spec.Packet.{re_config}
use Rattle.dcsctp_spec_lemmas.specs.spec.endpoint.Endpoint.{Core, cookie_echoed, open_in}
use Rattle.dcsctp_spec_lemmas.specs.spec.association.Choices.{Choices}
use Rattle.dcsctp_spec_lemmas.specs.spec.association.FlushChanges.{reset_request, flush}
use Rattle.dcsctp_spec_lemmas.specs.spec.association.ResetChanges.{RequestPlace, again, next, astray, request_place, RequestOutcome, performed_request, repeated_request_outcome, next_request, is_due, outgoing_by_place, incoming_by_place, AnswerResult, result_if_outstanding, is_outstanding, HandledParameters, parameters_outcome, reset_chunk_outcome, answers_emitted, reset_sent, peer_part_handled, re_config_change}
use Rattle.dcsctp_spec_lemmas.specs.spec.association.Acts.{request_sent, request_again_change, renewed_if_fitting, request_renewed_change}
use Rattle.dcsctp_theorem_sockets.proofs.CookieRules.{Rules, EffectsKeep, CoreKeeps, ChangeKeeps, unchanged_keeps, effects_append, alone_keeps, flush_keeps}

module _ (rules : Rules) where
  -- ---- what a request and an answer bring

  worked_keeps : (held : Held) (number : ℕ) (is_reached : Bool) → EffectsKeep rules (performed_request held number is_reached).effects
  worked_keeps held number true = (tt, tt)
  worked_keeps held number false = tt

  repeated_keeps : (held : Held) (result : ReconfigurationResponseResult) (is_reached : Bool) → EffectsKeep rules (repeated_request_outcome held result is_reached).effects
  repeated_keeps held InProgress is_reached = worked_keeps held held.peer_last is_reached
  repeated_keeps held result is_reached = tt

  next_keeps : (held : Held) (number : ℕ) (state : RequestState) → EffectsKeep rules (next_request held number state).effects
  next_keeps held number early = tt
  next_keeps held number due = (tt, tt)
  next_keeps held number renewed = (tt, tt)

  outgoing_keeps : (held : Held) (number : ℕ) (state : RequestState) (place : RequestPlace) → EffectsKeep rules (outgoing_by_place held number state place).effects
  outgoing_keeps held number state again = repeated_keeps held held.peer_result (is_due state)
  outgoing_keeps held number state next = (tt, next_keeps held number state)
  outgoing_keeps held number state astray = tt

  incoming_keeps : (held : Held) (number : ℕ) (place : RequestPlace) → EffectsKeep rules (incoming_by_place held number place).effects
  incoming_keeps held number next = (tt, tt)
  incoming_keeps held number place = tt

  informed_keeps : (my : Pair) (held : Held) (number : ℕ) (result : ReconfigurationResponseResult) (is_it : Bool) → EffectsKeep rules (result_if_outstanding my held number result is_it).effects
  informed_keeps my held number result false = tt
  informed_keeps my held number InProgress true = tt
  informed_keeps my held number result true = (tt, tt)

  parameters_keep : (my : Pair) (state : RequestState) (has_worked : Bool) (held : Held) (parameters : List ResetParameter)
      → EffectsKeep rules (parameters_outcome my state has_worked held parameters).effects
  parameters_keep my state has_worked held [] = tt
  parameters_keep my state true held (outgoing_reset_request number answered reset ∷ parameters) = tt
  parameters_keep my state false held (outgoing_reset_request number answered reset ∷ parameters) =
      let first : RequestOutcome = outgoing_by_place held number state (request_place held.peer_last number) in
      effects_append rules first.effects (parameters_outcome my state true first.held parameters).effects
      (outgoing_keeps held number state (request_place held.peer_last number)) (parameters_keep my state true first.held parameters)
  parameters_keep my state has_worked held (incoming_reset_request number streams ∷ parameters) =
      let first : RequestOutcome = incoming_by_place held number (request_place held.peer_last number) in
      effects_append rules first.effects (parameters_outcome my state has_worked first.held parameters).effects
      (incoming_keeps held number (request_place held.peer_last number)) (parameters_keep my state has_worked first.held parameters)
  parameters_keep my state has_worked held (reconfiguration_response number result ∷ parameters) =
      let first : AnswerResult = result_if_outstanding my held number result (is_outstanding number held.own_outstanding) in
      effects_append rules first.effects (parameters_outcome my state has_worked first.held parameters).effects
      (informed_keeps my held number result (is_outstanding number held.own_outstanding)) (parameters_keep my state has_worked first.held parameters)
  parameters_keep my state has_worked held (other_reset_parameter parameter ∷ parameters) = parameters_keep my state has_worked held parameters

  chunk_keeps_in : (my : Pair) (state : RequestState) (held : Held) (parameters : List ResetParameter) → EffectsKeep rules (reset_chunk_outcome my state held parameters).effects
  chunk_keeps_in my state held [] = tt
  chunk_keeps_in my state held (parameter ∷ parameters) = parameters_keep my state false held (parameter ∷ parameters)

  answers_keep : (fits : Bool) (tag : ℕ) (answers : List ResetParameter) → EffectsKeep rules (answers_emitted fits tag answers)
  answers_keep fits tag [] = tt
  answers_keep fits tag (answer ∷ answers) = alone_keeps rules fits tag (re_config (answer ∷ answers)) tt

  reset_sent_keeps : (is_refused : Bool) (held : Held) (answers : List ResetParameter) (choices : Choices) → EffectsKeep rules (reset_sent is_refused held answers choices).effects
  reset_sent_keeps true held answers choices = tt
  reset_sent_keeps false held answers choices =
      effects_append rules (answers_emitted choices.fits held.peer.tag answers) (flush held.peer.tag held [] choices.filling).effects
      (answers_keep choices.fits held.peer.tag answers) (flush_keeps rules held.peer.tag held [] choices.filling tt)

  reset_keeps : (my : Pair) (held : Held) (parameters : List ResetParameter) (choices : Choices) → EffectsKeep rules (peer_part_handled my held parameters choices).effects
  reset_keeps my held parameters choices =
      let first : HandledParameters = reset_chunk_outcome my choices.state held parameters in
      effects_append rules first.effects (reset_sent first.is_refused first.held first.answers choices).effects
      (chunk_keeps_in my choices.state held parameters) (reset_sent_keeps first.is_refused first.held first.answers choices)

  pub re_config_keeps : (follows : Bool) (core : Core) (parameters : List ResetParameter) (choices : Choices) → CoreKeeps rules core → ChangeKeeps rules (re_config_change follows core parameters choices)
  re_config_keeps true (cookie_echoed my held bytes) parameters choices h = unchanged_keeps rules (cookie_echoed my held bytes) h
  re_config_keeps false (cookie_echoed my held bytes) parameters choices h = record { effects = reset_keeps my held parameters choices; core = h }
  re_config_keeps follows (open_in phase my held) parameters choices h = record { effects = reset_keeps my held parameters choices; core = h }
  re_config_keeps follows core parameters choices h = unchanged_keeps rules core h

  request_keeps : (held : Held) (number : Option ℕ) (reset : RequestedReset) (fits : Bool) → EffectsKeep rules (request_sent held number reset fits)
  request_keeps held None reset fits = tt
  request_keeps held (Some number) reset fits = alone_keeps rules fits held.peer.tag (reset_request number reset) tt

  pub request_again_keeps : (core : Core) (reset : RequestedReset) (fits : Bool) → CoreKeeps rules core → ChangeKeeps rules (request_again_change core reset fits)
  request_again_keeps (cookie_echoed my held bytes) reset fits h = record { effects = request_keeps held held.own_outstanding reset fits; core = h }
  request_again_keeps (open_in phase my held) reset fits h = record { effects = request_keeps held held.own_outstanding reset fits; core = h }
  request_again_keeps core reset fits h = unchanged_keeps rules core h

  renewed_keeps : (held : Held) (number : Option ℕ) (reset : RequestedReset) (fits : Bool) → EffectsKeep rules (renewed_if_fitting held number reset fits).effects
  renewed_keeps held None reset fits = tt
  renewed_keeps held (Some number) reset false = tt
  renewed_keeps held (Some number) reset true = (tt, (tt, alone_keeps rules true held.peer.tag (reset_request held.own_next (renewed_reset reset)) tt))

  pub request_renewed_keeps : (core : Core) (reset : RequestedReset) (fits : Bool) → CoreKeeps rules core → ChangeKeeps rules (request_renewed_change core reset fits)
  request_renewed_keeps (cookie_echoed my held bytes) reset fits h = record { effects = renewed_keeps held held.own_outstanding reset fits; core = h }
  request_renewed_keeps (open_in phase my held) reset fits h = record { effects = renewed_keeps held held.own_outstanding reset fits; core = h }
  request_renewed_keeps core reset fits h = unchanged_keeps rules core h
