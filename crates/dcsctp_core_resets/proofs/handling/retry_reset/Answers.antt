use Rattle.std.proofs.Common.{Option, refl, subst}
use Rattle.dcsctp_core.specs.declared.transmission_control_block.TransmissionControlBlock.{TransmissionControlBlock}
use Rattle.dcsctp_core.specs.Reconfiguring.{tcb_changed}
use Rattle.dcsctp_core_resets.specs.Resets.{RetriesIfConnected}
use Rattle.dcsctp_core_resets.proofs.handling.retry_reset.Goals as goal

pub returns-in-None : goal.returns-in-None
returns-in-None c = subst (λ (held : Option TransmissionControlBlock). RetriesIfConnected c.args.now held c.args.state.now c.args.state.now) c.in-None.ensures.tcb refl

pub returns-in-Some : goal.returns-in-Some
returns-in-Some c =
    let old = c.args.state.now in
    let after = c.retry_reset.new.self in
    subst (λ (held : Option TransmissionControlBlock). RetriesIfConnected c.args.now held old (tcb_changed (λ _. after) old)) c.in-Some.ensures.tcb (after, c.retry_reset.ensures, refl)
