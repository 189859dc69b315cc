use Rattle.std.proofs.Common.{arith, refl}
use Rattle.dcsctp_send_retransmission.proofs.outstanding.Outstanding.empty.Goals as goal

pub invariant_of-self : goal.invariant_of-self
invariant_of-self c =
    rw (c.new.ensures.items, c.none-self-inside.ensures)
    (record {
      few = omega arith;
      sums = record { in_flight = refl; bytes = refl; count = refl; never = refl; marked = refl };
      scanned = λ k item below at. absurd (omega arith);
      settled = λ k named. absurd (c.clear.ensures k named);
      bytes = tt;
    })
