-- What calls return, and by which numbers.
use Rattle.std.specs.Prelude.{ℤ, pos, negsuc, Option, Some, None, Result, Ok, Err}
use Rattle.dcsctp_core.specs.types.declared.snapshot.SocketHandoverState.{SocketHandoverState}
use Rattle.dcsctp_core.specs.api.declared.errors.SocketFault.{SocketFault}
use Rattle.dcsctp_core.specs.api.declared.errors.SocketFault.TheVariants as faults
use Rattle.dcsctp_core.specs.api.declared.errors.SendError.{SendError}
use Rattle.dcsctp_core.specs.api.declared.errors.SendError.TheVariants as sends
use Rattle.dcsctp_core.specs.api.declared.errors.ResetStreamsError.{ResetStreamsError}
use Rattle.dcsctp_core.specs.api.declared.errors.ResetStreamsError.TheVariants as resets
use Rattle.dcsctp_core.specs.api.declared.errors.HandoverError.{HandoverError}
use Rattle.dcsctp_core.specs.api.declared.errors.HandoverError.TheVariants as handovers
use Rattle.dcsctp_core.specs.api.declared.errors.RestoreError.{RestoreError}
use Rattle.dcsctp_core.specs.api.declared.errors.RestoreError.TheVariants as restores
use Rattle.dcsctp_snapshot_bytes.specs.declared.sealing.SealError.{SealError}
use Rattle.dcsctp_snapshot_bytes.specs.declared.sealing.SealError.TheVariants as seals
use Rattle.dcsctp_core.specs.api.declared.state.SocketState.{SocketState}
use Rattle.dcsctp_core.specs.api.declared.state.SocketState.TheVariants as states
use Rattle.dcsctp_session.specs.declared.status.Status.{Status}
use Rattle.dcsctp_session.specs.declared.status.Status.TheVariants as statuses

-- ---- the numbers

abbrev pub status_number : Status → ℤ
status_number statuses.Done = pos 0
status_number statuses.Taken = pos 1
-- minus 1, and so on
status_number statuses.OutOfMemory = negsuc 0
status_number statuses.Failed = negsuc 1
status_number statuses.NoSocket = negsuc 2
status_number statuses.AlreadyCreated = negsuc 3
status_number statuses.InvalidOptions = negsuc 4
status_number statuses.BufferTooSmall = negsuc 5
status_number statuses.NothingToCopy = negsuc 6
status_number statuses.EmptyPayload = negsuc 7
status_number statuses.MessageTooLarge = negsuc 8
status_number statuses.ResourceExhaustion = negsuc 9
status_number statuses.ShuttingDown = negsuc 10
status_number statuses.NotConnected = negsuc 11
status_number statuses.NotSupported = negsuc 12
status_number statuses.NotReady = negsuc 13
status_number statuses.InvalidSnapshot = negsuc 14
status_number statuses.NotClosed = negsuc 15
status_number statuses.InvalidSendOptions = negsuc 16
status_number statuses.WrongSize = negsuc 17
status_number statuses.OtherOptions = negsuc 18
status_number statuses.HasChannels = negsuc 19
status_number statuses.NoChannel = negsuc 20
status_number statuses.StreamInUse = negsuc 21
status_number statuses.Ended = negsuc 22

abbrev pub state_number : SocketState → ℤ
state_number states.Closed = pos 0
state_number states.Connecting = pos 1
state_number states.Connected = pos 2
state_number states.ShuttingDown = pos 3

-- ---- what each call returns

abbrev pub fault_status : SocketFault → Status
fault_status faults.OutOfMemory = statuses.OutOfMemory
fault_status faults.Failed = statuses.Failed

-- by what the socket returned, and by why it refused
abbrev pub answer_status : {A E : Type 0} → (E → Status) → Result (Result A E) SocketFault → Status
answer_status refused (Ok (Ok answer)) = statuses.Done
answer_status refused (Ok (Err error)) = refused error
answer_status refused (Err fault) = fault_status fault

abbrev pub done_status : {A : Type 0} → Result A SocketFault → Status
done_status (Ok done) = statuses.Done
done_status (Err fault) = fault_status fault

abbrev pub send_error_status : SendError → Status
send_error_status sends.EmptyPayload = statuses.EmptyPayload
send_error_status (sends.MessageTooLarge len limit) = statuses.MessageTooLarge
send_error_status sends.ResourceExhaustion = statuses.ResourceExhaustion
send_error_status sends.ShuttingDown = statuses.ShuttingDown

abbrev pub send_status : Result (Result (Unit {0}) SendError) SocketFault → Status
send_status = answer_status send_error_status

abbrev pub reset_error_status : ResetStreamsError → Status
reset_error_status resets.NotConnected = statuses.NotConnected
reset_error_status resets.NotSupported = statuses.NotSupported

abbrev pub reset_status : Result (Result (Unit {0}) ResetStreamsError) SocketFault → Status
reset_status = answer_status reset_error_status

abbrev pub handover_error_status : HandoverError → Status
handover_error_status (handovers.NotReady reasons) = statuses.NotReady

abbrev pub handover_status : Result (Result SocketHandoverState HandoverError) SocketFault → Status
handover_status = answer_status handover_error_status

abbrev pub seal_error_status : SealError → Status
seal_error_status seals.Broken = statuses.InvalidSnapshot
seal_error_status seals.OtherOptions = statuses.OtherOptions

abbrev pub restore_error_status : RestoreError → Status
restore_error_status restores.SocketNotClosed = statuses.NotClosed

abbrev pub restore_status : Result (Result (Unit {0}) RestoreError) SocketFault → Status
restore_status = answer_status restore_error_status

-- by whether there was something to take
abbrev pub taken_status : {T : Type 0} → Option T → Status
taken_status None = statuses.Done
taken_status (Some x) = statuses.Taken
