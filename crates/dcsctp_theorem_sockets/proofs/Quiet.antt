-- Time before the next deadline moves the clock alone, in every run.
use Rattle.std.proofs.Common.{◌≡◌, ◌<◌, ℕ, Bool, true, false, List, [], ◌∷◌, refl, arith}
use Rattle.std.specs.Prelude.{nat_le}
use Rattle.std.proofs.lemmas.Bool.Decides.{nat_tests}
use Rattle.dcsctp_spec_lemmas.specs.spec.endpoint.CallTurns.{Transition}
use Rattle.dcsctp_spec_lemmas.specs.spec.endpoint.Endpoint.{Endpoint}
use Rattle.dcsctp_spec_lemmas.specs.types.Schedule.{connect_call, close_call, shutdown_call, advance_call, set_call, send_call, send_many_call, reset_call, take_call, hand_over_call, call_step, delivery_step, ActContent, step_act, outside_act}
use Rattle.dcsctp_spec_runs.specs.Sockets.{TurnsOfAct, of_other, of_side, side_of_act, turns_after, endpoint_after, packets_shown}
use Rattle.dcsctp_spec_lemmas.specs.spec.endpoint.TimeTurns.{TimeTurns, TimePassesQuietly}
use Rattle.dcsctp_theorem_sockets.specs.OneSocket.{IsQuiet, SocketsWaitQuietly}

none_earlier : (is_later : Bool) (e : Endpoint) (moment : ℕ) (turns : List Transition) → nat_le e.moment moment ≡ is_later → TimeTurns is_later e moment turns → moment < e.moment → turns ≡ []
none_earlier true e moment turns is turned earlier = absurd (grind (arith, nat_tests))
none_earlier false e moment turns is turned earlier = turned

act_is_quiet : TimePassesQuietly → (e : Endpoint) (packets : List (List ℕ)) (act : ActContent) (turns : List Transition) → TurnsOfAct e packets act turns → IsQuiet e act turns
act_is_quiet law e packets (step_act (call_step side connect_call)) turns are = tt
act_is_quiet law e packets (step_act (call_step side close_call)) turns are = tt
act_is_quiet law e packets (step_act (call_step side shutdown_call)) turns are = tt
act_is_quiet law e packets (step_act (call_step side (advance_call moment))) turns are =
    (λ waits. law e moment turns are waits, λ earlier. none_earlier (nat_le e.moment moment) e moment turns refl are earlier)
act_is_quiet law e packets (step_act (call_step side (set_call setting))) turns are = tt
act_is_quiet law e packets (step_act (call_step side (send_call message options))) turns are = tt
act_is_quiet law e packets (step_act (call_step side (send_many_call messages options))) turns are = tt
act_is_quiet law e packets (step_act (call_step side (reset_call ids))) turns are = tt
act_is_quiet law e packets (step_act (call_step side take_call)) turns are = tt
act_is_quiet law e packets (step_act (call_step side hand_over_call)) turns are = tt
act_is_quiet law e packets (step_act (delivery_step side number)) turns are = tt
act_is_quiet law e packets (outside_act outside) turns are = tt

pub sockets_wait_quietly : TimePassesQuietly → SocketsWaitQuietly
sockets_wait_quietly law options [] runs = tt
sockets_wait_quietly law options (worked ∷ earlier) runs = (
  act_is_quiet law (endpoint_after (of_side (side_of_act worked.act) options) (of_side (side_of_act worked.act) (turns_after earlier)))
      (packets_shown (of_other (side_of_act worked.act) options) (of_other (side_of_act worked.act) (turns_after earlier))) worked.act worked.turns runs.0,
  sockets_wait_quietly law options earlier runs.1,
)
