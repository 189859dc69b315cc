-- What the call that resets streams does.
use Rattle.std.specs.Prelude.{◌≡◌, ℕ, Option, Some, None, Result, Ok, Err, List}
use Rattle.dcsctp_spec_lemmas.specs.types.Schedule.{reset_call}
use Rattle.dcsctp_spec_lemmas.specs.spec.endpoint.Endpoint.{Endpoint}
use Rattle.dcsctp_spec_lemmas.specs.spec.endpoint.PreparedResets.{ResetRefusal, not_connected, not_supported, reset_refusal}
use Rattle.dcsctp_api.specs.declared.errors.ResetStreamsError.{ResetStreamsError}
use Rattle.dcsctp_api.specs.declared.errors.ResetStreamsError.TheVariants.{NotConnected, NotSupported}
use Rattle.dcsctp_api.specs.declared.errors.SocketFault.{SocketFault}
use Rattle.dcsctp_api.specs.Calls.{UserView, UserCalls}

-- the reason that an error gives
abbrev pub reset_refusal_of : ResetStreamsError → ResetRefusal
reset_refusal_of NotConnected = not_connected
reset_refusal_of NotSupported = not_supported

-- why the streams weren't reset, by the result
abbrev pub reset_refusal_of_answer : Result (Unit {0}) ResetStreamsError → Option ResetRefusal
reset_refusal_of_answer (Ok done) = None
reset_refusal_of_answer (Err error) = Some (reset_refusal_of error)

-- What is returned: whether the call is refused, and why.
abbrev pub IsResetAnswer : Endpoint → Result (Unit {0}) ResetStreamsError → Type 0
IsResetAnswer e answer = reset_refusal_of_answer answer ≡ reset_refusal e

abbrev pub ResetsOwn : List ℕ → UserView → Result (Result (Unit {0}) ResetStreamsError) SocketFault → UserView → Type 0
ResetsOwn ids old result new = UserCalls (reset_call ids) (IsResetAnswer old.endpoint) old result new
