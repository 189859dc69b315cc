use Rattle.std.proofs.Common.{◌≡◌, ◌∙◌, true, false, sym}
use Rattle.dcsctp_api.specs.spec.queues.Acknowledging.{is_recovering}
use Rattle.dcsctp_send_retransmission.proofs.ReportLemmas.{misses_until}
use Rattle.dcsctp_send_retransmission.proofs.retransmission_queue.RetransmissionQueue.miss_limit.Goals as goal

pub returns-then-is_recovering : goal.returns-then-is_recovering
returns-then-is_recovering c =
    let is : is_recovering c.args.count c.args.self.now ≡ true = sym c.is_recovering.ensures ∙ c.if-is_recovering.true in
    rw (is, c.unwrap_or.ensures) (misses_until true c.args.count c.args.blocks.now c.args.self.now.outstanding.items c.last_named.result (rw (← c.self.view_is) c.last_named.ensures))

pub returns-else-is_recovering : goal.returns-else-is_recovering
returns-else-is_recovering c =
    let is : is_recovering c.args.count c.args.self.now ≡ false = sym c.is_recovering.ensures ∙ c.if-is_recovering.false in
    rw (is, c.unwrap_or-else-is_recovering.ensures) (misses_until false c.args.count c.args.blocks.now c.args.self.now.outstanding.items c.args.newest c.requires.newest)
