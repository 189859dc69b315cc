use Rattle.std.proofs.Common.{arith, refl}
use Rattle.dcsctp_send_retransmission.proofs.outstanding.Outstanding.new.Goals as goal

pub invariant_of-result : goal.invariant_of-result
invariant_of-result c =
    rw (c.new.ensures.items, c.none.ensures)
    (record {
      few = omega arith;
      sums = record { in_flight = refl; bytes = refl; count = refl; never = refl; marked = refl };
      scanned = λ k item below at. absurd (omega arith);
      settled = λ k named. absurd (c.new-2.ensures k named);
      bytes = tt;
    })
