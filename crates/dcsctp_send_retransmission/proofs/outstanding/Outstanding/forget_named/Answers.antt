use Rattle.dcsctp_send_retransmission.proofs.SettledLemmas.{kept_with_named}
use Rattle.dcsctp_send_retransmission.proofs.outstanding.Outstanding.forget_named.Goals as goal

pub invariant_of-self : goal.invariant_of-self
invariant_of-self c = kept_with_named _ _ _ _ _ _ c.self.invariant (λ k named. absurd (c.free.ensures k named))

pub invariant_of-self-else-gives_back : goal.invariant_of-self-else-gives_back
invariant_of-self-else-gives_back c = kept_with_named _ _ _ _ _ _ c.self.invariant (λ k named. absurd (c.clear.ensures k named))
