use Rattle.std.proofs.Common.{subst}
use Rattle.dcsctp_api.specs.spec.queues.NextItem.{NoneMarkedBefore}
use Rattle.dcsctp_api.specs.spec.queues.Outstanding.{OutstandingState}
use Rattle.dcsctp_send_retransmission.proofs.ItemsLemmas.{none_marked_around}
use Rattle.dcsctp_send_retransmission.proofs.outstanding.Outstanding.next_marked.Goals as goal

pub returns-in-None-clause-none : goal.returns-in-None-clause-none
returns-in-None-clause-none c =
    let P : OutstandingState → Type 0 = λ m. NoneMarkedBefore c.self.inside.cursor m.items in
    none_marked_around c.self.inside.cursor c.args.self.now.items (subst P c.self.view_is c.self.invariant.scanned) c.in-None.ensures.none
