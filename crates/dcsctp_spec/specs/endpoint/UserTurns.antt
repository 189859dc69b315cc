-- The outcome of each call of a user.
use Rattle.std.specs.Prelude.{List, [], ◌∷◌, map}
use Rattle.dcsctp_types.specs.declared.ends.AbortReason.TheVariants.{CloseCalled}
use Rattle.dcsctp_types.specs.Schedule.{CallContent, connect_call, close_call, shutdown_call, advance_call, set_call, send_call, send_many_call, reset_call, take_call, hand_over_call}
use Rattle.dcsctp_spec.specs.endpoint.Endpoint.{Endpoint}
use Rattle.dcsctp_spec.specs.Handover.{readiness_of}
use Rattle.dcsctp_spec.specs.endpoint.Turn.{act_input, user_sets, user_sends, user_resets, user_takes}
use Rattle.dcsctp_spec.specs.endpoint.MessageOutcomes.{sending_of}
use Rattle.dcsctp_spec.specs.association.Acts.{connect, shut_down, abort_with}
use Rattle.dcsctp_spec.specs.endpoint.TimeTurns.{AdvanceTurns}
use Rattle.dcsctp_spec.specs.endpoint.CallTurns.{Transition, Turns}
use Rattle.dcsctp_spec.specs.HandoverInputs.{inputs_of_handover}

-- the outcome of a user's call
abbrev pub UserTurns : Endpoint → CallContent → List Transition → Type 0
UserTurns e connect_call turns = Turns e (act_input connect ∷ []) turns
UserTurns e close_call turns = Turns e (act_input (abort_with CloseCalled) ∷ []) turns
UserTurns e shutdown_call turns = Turns e (act_input shut_down ∷ []) turns
UserTurns e (advance_call moment) turns = AdvanceTurns e moment turns
UserTurns e (set_call setting) turns = Turns e (user_sets setting ∷ []) turns
UserTurns e (send_call message options) turns = Turns e (user_sends (sending_of options message ∷ []) ∷ []) turns
UserTurns e (send_many_call messages options) turns = Turns e (user_sends (map (sending_of options) messages) ∷ []) turns
UserTurns e (reset_call ids) turns = Turns e (user_resets ids ∷ []) turns
UserTurns e take_call turns = Turns e (user_takes ∷ []) turns
UserTurns e hand_over_call turns = Turns e (inputs_of_handover (readiness_of e)) turns
