use Rattle.std.proofs.Common.{arith}
use Rattle.dcsctp_transfer.proofs.AddingLemmas.{all_bytes}
use Rattle.dcsctp_transfer.proofs.sending.in_bytes.Goals as goal

pub returns-clause-fit : goal.returns-clause-fit
returns-clause-fit c =
    let small = c.type_inv.bytes in
    all_bytes c.args.bytes.now (λ k. omega (arith, small k))
