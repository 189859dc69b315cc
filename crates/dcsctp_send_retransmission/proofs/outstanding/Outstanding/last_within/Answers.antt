use Rattle.std.proofs.Common.{arith}
use Rattle.dcsctp_send_retransmission.proofs.ReportLemmas.{last_of_row, none_of_row}
use Rattle.dcsctp_send_retransmission.proofs.outstanding.Outstanding.last_within.Goals as goal

pub returns-then-start-limit : goal.returns-then-start-limit
returns-then-start-limit c = last_of_row c.args.self.now.items c.args.start c.args.end c.min-limit.result (omega (arith, c.min-limit.ensures, c.len.ensures.value)) c.if-start-limit.true

pub returns-else-start-limit : goal.returns-else-start-limit
returns-else-start-limit c = none_of_row c.args.self.now.items c.args.start c.args.end c.min-limit.result (omega (arith, c.min-limit.ensures, c.len.ensures.value)) c.if-start-limit.false
