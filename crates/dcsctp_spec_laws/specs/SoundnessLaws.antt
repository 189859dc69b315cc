-- Each endpoint stays sound, and so each of its snapshots is valid.
use Rattle.std.specs.Prelude.{◌≡◌, ℕ, true, List}
use Rattle.dcsctp_spec_lemmas.specs.types.Schedule.{CallContent}
use Rattle.dcsctp_spec_lemmas.specs.spec.endpoint.Endpoint.{Endpoint}
use Rattle.dcsctp_spec_lemmas.specs.spec.Handover.{readiness_of}
use Rattle.dcsctp_spec_lemmas.specs.types.Snapshot.{Snapshot, is_valid_snapshot}
use Rattle.dcsctp_spec_lemmas.specs.spec.SocketSnapshot.{snapshot_of}
use Rattle.dcsctp_spec_lemmas.specs.spec.endpoint.UserTurns.{UserTurns}
use Rattle.dcsctp_spec_lemmas.specs.spec.HandoverInputs.{inputs_of_restore}
use Rattle.dcsctp_spec_lemmas.specs.spec.endpoint.CallTurns.{Transition, Turns, HandleInput, after_all}
use Rattle.dcsctp_spec_lemmas.specs.spec.Soundness.{IsSound, AreQueuesSound}

-- Each call keeps that: whatever bytes are handed in, whatever the user does, and a restore from any valid snapshot.
pub record CallsKeepSoundness : Type 0 where
  pub input : (e : Endpoint) (bytes : List ℕ) (turns : List Transition) → HandleInput e bytes turns → IsSound e → IsSound (after_all e turns)
  pub calls : (e : Endpoint) (call : CallContent) (turns : List Transition) → UserTurns e call turns → IsSound e → IsSound (after_all e turns)
  pub restores : (e : Endpoint) (state : Snapshot) (turns : List Transition) → is_valid_snapshot e.options state ≡ true
      → Turns e (inputs_of_restore e.core state) turns → IsSound e → IsSound (after_all e turns)

-- If it is ready to be handed over, its snapshot is valid for its options.
abbrev pub SnapshotsAreValid : Type 0
SnapshotsAreValid = (e : Endpoint) → IsSound e → AreQueuesSound e → readiness_of e ≡ 0 → is_valid_snapshot e.options (snapshot_of e) ≡ true
