use Rattle.dcsctp_receive_reassembly.proofs.WaitingLemmas.{due_first}
use Rattle.dcsctp_receive_reassembly.proofs.stream.first_is_due.Goals as goal

pub returns-in-Some : goal.returns-in-Some
returns-in-Some c =
    due_first c.args.next c.in-Some.number.now c.in-Some.field-0-1.now c.args.waiting.now.entries c.in-Some.ensures.first
