use Rattle.dcsctp_api.specs.spec.queues.Filling.{none}
use Rattle.dcsctp_send_retransmission.proofs.GivingUpLemmas.{none_due_without}
use Rattle.dcsctp_send_retransmission.proofs.retransmission_queue.RetransmissionQueue.should_send_forward_tsn.Goals as goal

pub returns-then-not-self-clause-gives_up : goal.returns-then-not-self-clause-gives_up
returns-then-not-self-clause-gives_up c = (none, rw (← c.self.view_is) (none_due_without c.args.now _ c.if-not-self.true))
