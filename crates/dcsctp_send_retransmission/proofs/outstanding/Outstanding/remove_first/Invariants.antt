use Rattle.std.proofs.Common.{◌≡◌, ◌+◌, ◌%◌, ◌^◌, ◌≤◌, drop}
use Rattle.dcsctp_send_retransmission.proofs.outstanding.Outstanding.remove_first.Given as goal

abbrev pub invariant-loop : goal.invariant-loop
invariant-loop l =
    (l.self ≡ record { first_tsn = (l.initial.self.first_tsn + l.counter) % 2 ^ 32; is_interleaved = l.initial.self.is_interleaved; items = drop l.counter l.initial.self.items }) × (l.counter ≤ l.count)
