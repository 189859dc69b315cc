use Rattle.std.proofs.Common.{◌≡◌, ◌-◌, ◌+◌, arith}
use Rattle.dcsctp_send_retransmission.proofs.MessageLemmas.{bear_both, borne, not_borne, starts_message, AllBear}
use Rattle.dcsctp_send_retransmission.proofs.outstanding.Outstanding.message_start.Goals as goal

pub returns-then-not-bears : goal.returns-then-not-bears
returns-then-not-bears c =
    starts_message c.item-2.inside.0.0.message_id c.args.place c.loop-start.start c.args.self.now.items c.loop-start.invariant.0 c.loop-start.invariant.1
    (λ k item before at is. not_borne c.bears.result c.item-2.inside.0.0.message_id (c.loop-start.start - 1) c.args.self.now.items c.if-not-bears.true c.bears.ensures k item (omega arith) at is)

pub loop-start-preserved : goal.loop-start-preserved
loop-start-preserved c =
    let meets : (c.loop-start.start - 1) + 1 ≡ c.loop-start.start = let some = c.loop-start-test.true in omega arith in
    let one : AllBear c.item-2.inside.0.0.message_id (c.loop-start.start - 1) c.loop-start.start c.args.self.now.items =
    (λ k item from to at. borne c.bears.result c.item-2.inside.0.0.message_id (c.loop-start.start - 1) c.args.self.now.items c.if-not-bears.false c.bears.ensures k item from (omega arith) at) in
    (let from = c.loop-start.invariant.0 in omega arith, bear_both c.item-2.inside.0.0.message_id (c.loop-start.start - 1) c.loop-start.start (c.args.place + 1) c.args.self.now.items one c.loop-start.invariant.1)
