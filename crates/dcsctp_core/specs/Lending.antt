-- The association is lent to be changed in place.
use Rattle.std.specs.Prelude.{Option}
use Rattle.std.specs.Borrow.{LendsIf, MutBor, Fml}
use Rattle.dcsctp_core.specs.declared.state.State.{State}
use Rattle.dcsctp_core.specs.declared.transmission_control_block.TransmissionControlBlock.{TransmissionControlBlock}
use Rattle.dcsctp_core.specs.contracts.state.State as states
use Rattle.dcsctp_core.specs.contracts.transmission_control_block.TransmissionControlBlock as associations
use Rattle.dcsctp_core.specs.Reconfiguring.{tcb_changed}

-- The state ends with the association as the borrower leaves it. Without one it is unchanged.
abbrev pub LendsTcb : MutBor State → Option (MutBor TransmissionControlBlock) → Fml
LendsTcb state result = LendsIf states.the_row associations.the_row state result (λ left. tcb_changed (λ _. left) state.now) state.now
