-- What the calls of a session do that hand its socket over and restore it.
use Rattle.std.specs.Prelude.{◌≡◌, ◌≢◌, ◌⊎◌, ℕ, List, [], IsOk, Bool, true, false, Option, Some, None, Result, Ok, Err}
use Rattle.dcsctp_core.specs.spec.Handover.{readiness_of}
use Rattle.dcsctp_core.specs.spec.HandoverInputs.{inputs_of_restore}
use Rattle.dcsctp_core.specs.types.Snapshot.{Snapshot, snapshot, is_valid_snapshot}
use Rattle.dcsctp_core.specs.types.declared.snapshot.SocketHandoverState.{SocketHandoverState}
use Rattle.dcsctp_snapshot_bytes.specs.Spelling.{snapshot_bytes}
use Rattle.dcsctp_snapshot_bytes.specs.Reading.{read_snapshot}
use Rattle.dcsctp_snapshot_bytes.specs.Seal.{sealed_snapshot, IsBroken, IsOfOthers}
use Rattle.dcsctp_core.specs.types.declared.options.Options.{Options}
use Rattle.dcsctp_core.specs.api.declared.errors.SocketFault.{SocketFault}
use Rattle.dcsctp_core.specs.api.declared.errors.HandoverError.{HandoverError}
use Rattle.dcsctp_core.specs.api.declared.errors.RestoreError.{RestoreError}
use Rattle.dcsctp_core.specs.api.Calls.{UserView}
use Rattle.dcsctp_core.specs.api.Handover.{HandsOver, RestoresSocket}
use Rattle.dcsctp_session.specs.declared.session.Session.{Session}
use Rattle.dcsctp_session.specs.declared.session.Taken.{Taken}
use Rattle.dcsctp_session.specs.declared.status.Status.{Status}
use Rattle.dcsctp_session.specs.declared.status.Status.TheVariants as statuses
use Rattle.dcsctp_session.specs.Calls.{CallsSocket, FailsToCopy}
use Rattle.dcsctp_session.specs.Copying.{Copies}
use Rattle.dcsctp_session.specs.Status.{handover_status, restore_status}
use Rattle.dcsctp_session.specs.Views.{view}

-- The snapshot that was answered is kept in the place of an earlier one.
abbrev pub taken_after : Result (Result SocketHandoverState HandoverError) SocketFault → Taken → Taken
taken_after (Ok (Ok state)) taken = record taken { snapshot = Some state }
taken_after (Ok (Err error)) taken = taken
taken_after (Err fault) taken = taken

-- The clauses of the call: one that isn't ready is refused, and that needs no memory.
abbrev pub HandoverCall : UserView → Result (Result SocketHandoverState HandoverError) SocketFault → UserView → Type 0
HandoverCall old outcome new = HandsOver old outcome new × (old.failed ≡ false → readiness_of old.endpoint ≢ 0 → IsOk outcome)

-- Those of a restore: one that changes nothing succeeds.
abbrev pub RestoreCall : Snapshot → UserView → Result (Result (Unit {0}) RestoreError) SocketFault → UserView → Type 0
RestoreCall state old outcome new = RestoresSocket state old outcome new × (old.failed ≡ false → inputs_of_restore old.endpoint.core state ≡ [] → IsOk outcome)

-- The socket is handed over, and the status says the outcome.
pub record HandsOverSession (old : Session) (status : Status) (new : Session) : Type 0 where
  pub outcome : Result (Result SocketHandoverState HandoverError) SocketFault
  pub call : HandoverCall (view old) outcome (view new)
  pub told : status ≡ handover_status outcome
  pub taken : new.taken ≡ taken_after outcome old.taken
  pub offload : new.checksum_offload ≡ old.checksum_offload

-- The bytes of the snapshot are read as that snapshot.
abbrev pub IsReadBack : SocketHandoverState → Type 0
IsReadBack state = read_snapshot (snapshot_bytes (snapshot state)) ≡ Some (snapshot state)

-- the bytes of the snapshot with their seal, by the options of its socket
abbrev pub snapshot_sealed : Options → SocketHandoverState → List ℕ
snapshot_sealed options state = sealed_snapshot options (snapshot_bytes (snapshot state))

-- The bytes of the snapshot that was taken are copied, from which it can be restored; or an allocation failed, and nothing has
-- changed.
abbrev pub CopiesSnapshot : Options → Option SocketHandoverState → List ℕ → ℕ → Status → List ℕ → ℕ → Type 0
CopiesSnapshot options None old before status new told = (status ≡ statuses.NothingToCopy) × (told ≡ 0) × (new ≡ old)
CopiesSnapshot options (Some state) old before status new told =
    Copies (snapshot_sealed options state) old status new told × IsReadBack state
    ⊎ (status ≡ statuses.OutOfMemory) × (told ≡ before) × (new ≡ old)

-- The bytes are refused for this reason, and nothing has changed.
pub record RefusesSnapshot (why : Status) (old : Session) (status : Status) (new : Session) : Type 0 where
  pub told : status ≡ why
  pub same : new ≡ old

-- What is done by what the bytes say, and by whether that is valid.
abbrev pub RestoresIfValid : Snapshot → Bool → Session → Status → Session → Type 0
RestoresIfValid state false old status new = RefusesSnapshot statuses.InvalidSnapshot old status new
RestoresIfValid state true old status new = CallsSocket restore_status (RestoreCall state) old status new

abbrev pub RestoresIfReadable : Option Snapshot → Session → Status → Session → Type 0
RestoresIfReadable None old status new = RefusesSnapshot statuses.InvalidSnapshot old status new
RestoresIfReadable (Some state) old status new = RestoresIfValid state (is_valid_snapshot (view old).endpoint.options state) old status new

-- The socket is restored from what the bytes of a snapshot say, without their seal; or there was no memory to read them.
abbrev pub RestoresBody : List ℕ → Session → Status → Session → Type 0
RestoresBody body old status new = FailsToCopy old status new ⊎ RestoresIfReadable (read_snapshot body) old status new

-- The bytes have a seal by the options of this socket.
pub record SealFits (bytes : List ℕ) (old : Session) (status : Status) (new : Session) : Type 0 where
  pub body : List ℕ
  pub whole : bytes ≡ sealed_snapshot (view old).endpoint.options body
  pub restored : RestoresBody body old status new

-- They have none, or one byte of them is another.
pub record SealBroken (bytes : List ℕ) (old : Session) (status : Status) (new : Session) : Type 0 where
  pub broken : IsBroken bytes
  pub refused : RefusesSnapshot statuses.InvalidSnapshot old status new

-- They have one by other options.
pub record SealOfOthers (bytes : List ℕ) (old : Session) (status : Status) (new : Session) : Type 0 where
  pub others : IsOfOthers (view old).endpoint.options bytes
  pub refused : RefusesSnapshot statuses.OtherOptions old status new

-- The socket is restored from the bytes, by their seal.
abbrev pub RestoresSession : List ℕ → Session → Status → Session → Type 0
RestoresSession bytes old status new = SealFits bytes old status new ⊎ SealBroken bytes old status new ⊎ SealOfOthers bytes old status new
