use Rattle.std.proofs.Common.{subst, Option}
use Rattle.std.specs.List.Sorted.{IsStrictlySortedBy}
use Rattle.dcsctp_transfer.specs.spec.queues.Incoming.{AreInOrder}
use Rattle.dcsctp_transfer.specs.api.Messages.{transfer_streams}
use Rattle.dcsctp_core.specs.declared.transmission_control_block.TransmissionControlBlock.{TransmissionControlBlock}
use Rattle.dcsctp_core.specs.View.{transfer_of_tcb}
use Rattle.dcsctp_core.proofs.context.Context.readiness_of_parts.Goals as goal

pub returns-in-None-clause-streams : goal.returns-in-None-clause-streams
unfolding IsStrictlySortedBy
returns-in-None-clause-streams g c =
    let P : Option TransmissionControlBlock → Type 0 = λ tcb. AreInOrder (transfer_streams (transfer_of_tcb tcb)) in
    subst P c.in-None.ensures tt
