-- The answer to a HEARTBEAT, as the view shows it.
use Rattle.std.proofs.Common.{◌≡◌, ℕ, Option, None, refl, ap, ◌∙◌}
use Rattle.std.specs.Option.{option_map}
use Rattle.dcsctp_transfer.specs.spec.endpoint.Timers.{RunningTimer, TimerModel}
use Rattle.dcsctp_transfer.specs.spec.endpoint.Endpoint.{Endpoint}
use Rattle.dcsctp_transfer.specs.spec.endpoint.HeartbeatOutcomes.{endpoint_answered, heartbeat_round_trip}
use Rattle.dcsctp_transfer.specs.spec.endpoint.TransferMoves.{timed_transfer}
use Rattle.dcsctp_core.specs.Errors.{ErrorCount}
use Rattle.dcsctp_core.specs.Phases.{with_round_trip}
use Rattle.dcsctp_core.specs.declared.context.Context.{Context}
use Rattle.dcsctp_core.specs.declared.state.State.{State}
use Rattle.dcsctp_core.specs.declared.state.State.TheVariants.{Closed, CookieWait, CookieEchoed, Open}
use Rattle.dcsctp_core.specs.View.{View, endpoint_of, view_of}

-- `endpoint_answered`, with this round trip
abbrev answered_after : Option ℕ → Endpoint → Endpoint
answered_after round_trip e =
    record e {
      error_count = 0;
      heartbeat_sent = None;
      timers = record e.timers { heartbeat_timeout = None };
      queues = record e.queues { transfer = option_map (timed_transfer round_trip) e.queues.transfer };
    }

-- no answer is awaited any longer; the timer and the count of errors are these
abbrev none_awaited : {R : Type 0} → View R → Option RunningTimer → ℕ → View R
none_awaited view running count =
    record view { endpoint = record view.endpoint { error_count = count; heartbeat_sent = None; timers = record view.endpoint.timers { heartbeat_timeout = running } } }

pub answered_view : {R : Type 0} (old : Context R) (round_trip : Option ℕ) (timer : TimerModel) (counter : ErrorCount) (state : State)
    → round_trip ≡ heartbeat_round_trip (endpoint_of old)
    → timer ≡ record old.heartbeat_timeout { running = None }
    → counter ≡ record old.tx_error_counter { count = 0 }
    → state ≡ with_round_trip round_trip old.state
    → none_awaited (view_of (record old { state = state })) timer.running counter.count ≡ record (view_of old) { endpoint = endpoint_answered (endpoint_of old) }
answered_view {R = R} old round_trip timer counter state measured stopped reset moved =
    ap (λ (t : TimerModel). none_awaited (view_of (record old { state = state })) t.running counter.count) stopped
    ∙ ap (λ (c : ErrorCount). none_awaited (view_of (record old { state = state })) None c.count) reset
    ∙ ap (λ (s : State). none_awaited (view_of (record old { state = s })) None 0) moved
    ∙ go old.state
    ∙ ap (λ (r : Option ℕ). record (view_of old) { endpoint = answered_after r (endpoint_of old) }) measured
  where
    go : (s : State) → none_awaited (view_of (record old { state = with_round_trip round_trip s })) None 0 ≡ record (view_of (record old { state = s })) { endpoint = answered_after round_trip (endpoint_of (record old { state = s })) }
    go Closed = refl
    go (CookieWait wait) = refl
    go (CookieEchoed echoed) = refl
    go (Open opened) = refl
