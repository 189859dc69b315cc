-- A socket that is handed over to another process, by its parts.
use Rattle.std.specs.Prelude.{◌≡◌, ℕ, None, Some, Result}
use Rattle.rand_core.specs.Stream.{Stream}
use Rattle.dcsctp_core.specs.types.ByResult.{ByResult}
use Rattle.dcsctp_core.specs.types.declared.options.Options.{Options}
use Rattle.dcsctp_core.specs.spec.endpoint.Endpoint.{Endpoint}
use Rattle.dcsctp_core.specs.spec.endpoint.Outcome.{Outcome}
use Rattle.dcsctp_core.specs.types.Snapshot.{Snapshot}
use Rattle.dcsctp_core.specs.spec.SocketSnapshot.{connected_snapshot}
use Rattle.dcsctp_core.specs.spec.endpoint.HandoverOutcomes.{hand_over_outcome}
use Rattle.dcsctp_core.specs.spec.endpoint.RestoreOutcomes.{own_pair, held_restored, was_reset, restored_transfer_begun, RestoresTransfer, RestoreTurn}
use Rattle.dcsctp_core.specs.Handling.{TakesPossibleTurn}
use Rattle.dcsctp_core.specs.View.{View, view_of, held_of, request_of, timer_of}
use Rattle.dcsctp_core.specs.declared.context.Context.{Context}
use Rattle.dcsctp_core.specs.declared.transmission_control_block.TransmissionControlBlock.{TransmissionControlBlock}

-- the turn by which an association leaves
abbrev pub hand_over_turn : {R : Type 0} → View R → Outcome
hand_over_turn view = hand_over_outcome view.endpoint view.endpoint.core

-- ---- a handover

-- the snapshot of a socket with this association
abbrev pub snapshot_with : Endpoint → TransmissionControlBlock → Snapshot
snapshot_with e tcb = connected_snapshot (record e { tie = tcb.tie_tag; queues = record e.queues { transfer = Some tcb.transfer } }) tcb.my (held_of tcb)

-- ---- a restore

-- the association of this snapshot, restored at this moment
pub record IsRestoredAssociation (options : Options) (now : ℕ) (state : Snapshot) (tcb : TransmissionControlBlock) : Type 0 where
  pub my : tcb.my ≡ own_pair state
  pub held : held_of tcb ≡ held_restored options state
  pub outstanding : request_of tcb.reset_request ≡ None
  pub reconfiguration : timer_of tcb.reset_request ≡ None
  pub tie_tag : tcb.tie_tag ≡ state.tie_tag
  pub transfer : RestoresTransfer now (was_reset state) state.tx state.rx (restored_transfer_begun options state) tcb.transfer

abbrev pub restore_turn : {R : Type 0} → Snapshot → View R → Outcome → Type 0
restore_turn state view outcome = RestoreTurn view.endpoint view.endpoint.core state outcome

-- The turn took place; or an allocation failed, and no event was added.
abbrev pub RestoresAssociation : {R E : Type 0} → (R → Stream) → Snapshot → Context R → Result (Unit {0}) E → Context R → Type 0
RestoresAssociation stream state old result new =
    ByResult (λ done. TakesPossibleTurn stream (restore_turn state) (view_of old) (view_of new)) ((view_of new).events ≡ (view_of old).events) result
