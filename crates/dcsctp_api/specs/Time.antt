-- What `advance_time` does to a socket.
use Rattle.std.specs.Prelude.{◌≡◌, ℕ, Result, IsOk, []}
use Rattle.dcsctp_spec_lemmas.specs.spec.endpoint.Turn.{with_clock}
use Rattle.dcsctp_spec_lemmas.specs.types.Schedule.{advance_call}
use Rattle.dcsctp_api.specs.declared.errors.SocketFault.{SocketFault}
use Rattle.dcsctp_api.specs.Calls.{UserView, NoAnswer, UserCalls}

-- The clock is moved, and what is due is handled; an earlier moment changes nothing.
abbrev pub AdvancesClock : UserView → ℕ → Result (Unit {0}) SocketFault → UserView → Type 0
AdvancesClock old moment result new = UserCalls (advance_call moment) NoAnswer old result new

-- The call succeeds, and only moves the clock.
pub record OnlyMovesClock (old : UserView) (moment : ℕ) (result : Result (Unit {0}) SocketFault) (new : UserView) : Type 0 where
  pub succeeds : IsOk result
  pub only : new ≡ record old { endpoint = with_clock moment old.endpoint; words = []; pairs = [] }
