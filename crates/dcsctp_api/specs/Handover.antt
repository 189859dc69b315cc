-- What the calls that hand a socket over and restore it do.
use Rattle.std.specs.Prelude.{◌≡◌, ◌≢◌, ◌⊎◌, true, false, Result, Ok, Err, List, []}
use Rattle.dcsctp_spec_lemmas.specs.spec.endpoint.Endpoint.{Endpoint, Core}
use Rattle.dcsctp_spec_lemmas.specs.spec.Handover.{readiness_of}
use Rattle.dcsctp_spec_lemmas.specs.types.Snapshot.{Snapshot, snapshot, is_valid_snapshot}
use Rattle.dcsctp_spec_lemmas.specs.spec.SocketSnapshot.{snapshot_of}
use Rattle.dcsctp_spec_lemmas.specs.spec.HandoverInputs.{inputs_of_restore}
use Rattle.dcsctp_spec_lemmas.specs.types.Schedule.{hand_over_call}
use Rattle.dcsctp_spec_lemmas.specs.spec.endpoint.CallTurns.{Transition, Turns}
use Rattle.dcsctp_spec_lemmas.specs.types.declared.snapshot.SocketHandoverState.{SocketHandoverState}
use Rattle.dcsctp_api.specs.declared.errors.HandoverError.{HandoverError}
use Rattle.dcsctp_api.specs.declared.errors.HandoverError.TheVariants.{NotReady}
use Rattle.dcsctp_api.specs.declared.errors.RestoreError.{RestoreError}
use Rattle.dcsctp_api.specs.declared.errors.RestoreError.TheVariants.{SocketNotClosed}
use Rattle.dcsctp_api.specs.declared.errors.SocketFault.{SocketFault}
use Rattle.dcsctp_api.specs.Calls.{UserView, Calls, UserCallsWhole, RanOutOfMemory, is_closed}

-- What is answered: the snapshot of a socket that is ready, which is valid for its options, or why it isn't ready.
abbrev pub IsHandoverAnswer : Endpoint → Result SocketHandoverState HandoverError → Type 0
IsHandoverAnswer e (Ok state) =
    (readiness_of e ≡ 0) × (snapshot state ≡ snapshot_of e) × (is_valid_snapshot e.options (snapshot state) ≡ true)
IsHandoverAnswer e (Err (NotReady readiness)) = (readiness_of e ≢ 0) × (readiness.0 ≡ readiness_of e)

abbrev pub HandsOver : UserView → Result (Result SocketHandoverState HandoverError) SocketFault → UserView → Type 0
HandsOver old result new = UserCallsWhole hand_over_call (IsHandoverAnswer old.endpoint) old result new

-- What is answered: only a closed socket is restored.
abbrev pub IsRestoreAnswer : Core → Result (Unit {0}) RestoreError → Type 0
IsRestoreAnswer core (Ok done) = is_closed core ≡ true
IsRestoreAnswer core (Err SocketNotClosed) = is_closed core ≡ false

-- the turns of a restore
abbrev pub RestoreTurns : Endpoint → Snapshot → List Transition → Type 0
RestoreTurns e state turns = Turns e (inputs_of_restore e.core state) turns

-- If an allocation fails, the first of the call's events may have been added.
abbrev pub RestoresSocket : Snapshot → UserView → Result (Result (Unit {0}) RestoreError) SocketFault → UserView → Type 0
RestoresSocket state old result new =
    Calls (IsRestoreAnswer old.endpoint.core) (RestoreTurns old.endpoint state) (RanOutOfMemory (λ turns. (turns ≡ []) ⊎ RestoreTurns old.endpoint state turns)) old result new
