-- The phases of an open association, as the code moves them (RFC 9260, section 9.2).
use Rattle.std.specs.Prelude.{ℕ, Option}
use Rattle.dcsctp_transfer.specs.spec.endpoint.TransferMoves.{timed_transfer}
use Rattle.dcsctp_core.specs.declared.state.State.{State}
use Rattle.dcsctp_core.specs.declared.state.State.TheVariants.{CookieEchoed, Open}
use Rattle.dcsctp_core.specs.declared.state.OpenPhase.{OpenPhase}
use Rattle.dcsctp_core.specs.declared.state.OpenPhase.TheVariants.{ShutdownPending, ShutdownSent, ShutdownAckSent}
use Rattle.dcsctp_core.specs.Reconfiguring.{tcb_changed}
use Rattle.dcsctp_core.specs.Timing.{timer_after}

-- the open association in this phase
abbrev pub phase_set : OpenPhase → State → State
phase_set phase (Open opened) = Open (record opened { phase = phase })
phase_set phase state = state

-- the association once its user shuts it down
abbrev pub pending_from : State → State
pending_from (CookieEchoed echoed) = Open (record { phase = ShutdownPending; tcb = echoed.tcb })
pending_from (Open opened) = Open (record opened { phase = ShutdownPending })
pending_from state = state

-- the phase once T2 has come to this moment
abbrev pub phase_with_t2_told : ℕ → OpenPhase → OpenPhase
phase_with_t2_told moment (ShutdownSent sent) = ShutdownSent (record sent { t2_shutdown = timer_after moment sent.t2_shutdown })
phase_with_t2_told moment (ShutdownAckSent sent) = ShutdownAckSent (record sent { t2_shutdown = timer_after moment sent.t2_shutdown })
phase_with_t2_told moment phase = phase

abbrev pub state_after_t2 : ℕ → State → State
state_after_t2 moment (Open opened) = Open (record opened { phase = phase_with_t2_told moment opened.phase })
state_after_t2 moment state = state

-- the association once a round trip was taken into account
abbrev pub with_round_trip : Option ℕ → State → State
with_round_trip round_trip state = tcb_changed (λ tcb. record tcb { transfer = timed_transfer round_trip tcb.transfer }) state
